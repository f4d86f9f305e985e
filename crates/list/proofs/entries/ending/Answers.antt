-- A SID's length is at most 68. Assumes nothing.
use native.Mathlib.Omega.{arith}
use mathlib.Core.Path.{refl, sym, ◌∙◌}
use lib.ListN.{drop}
use Rattle.octets.proofs.Absent.{some-unless_zero}
use Rattle.list.specs.Identity.{length_of_sid}
use Rattle.list.proofs.Sids.{sid-most}
use Rattle.list.proofs.entries.ending.Goals as goal

pub overflow_add-sid : goal.overflow_add-sid
overflow_add-sid c =
    let d = drop c.args.sid c.args.t.now in
    let e = some-unless_zero (length_of_sid d) _ (sym c.sid_at.ensures ∙ c.in_ok-sid_len.was) in
    omega (arith, sid-most d, c.requires)

pub returns-then-sid-sid_len : goal.returns-then-sid-sid_len
returns-then-sid-sid_len c =
    let d = drop c.args.sid c.args.t.now in
    let e = some-unless_zero (length_of_sid d) _ (sym c.sid_at.ensures ∙ c.in_ok-sid_len.was) in
    (refl, omega arith, omega arith)
