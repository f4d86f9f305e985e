-- Where none begins none lies whole, nor one that is cut. Assumes nothing.
use native.Mathlib.Omega.{arith}
use mathlib.Core.Path.{sym, ◌∙◌}
use lib.ListN.{drop, length-drop}
use Rattle.octets.proofs.Absent.{unless_zero-none, unless_zero-some, some-unless_zero, none-unless_zero}
use Rattle.list.specs.Identity.{length_of_sid}
use Rattle.list.proofs.Sids.{sid-some, whole-cut, whole-there}
use Rattle.list.proofs.identities.sid_in.Goals as goal

pub returns-in_err-len : goal.returns-in_err-len
returns-in_err-len c =
    let d = drop c.args.at c.args.s.now in
    let z = none-unless_zero (length_of_sid d) (sym c.sid_at.ensures ∙ c.in_err-len.was) in
    c.from_residual.ensures ∙ sym (unless_zero-none _ (whole-there d (omega arith) ∙ z))

pub returns-then-saturating_sub-len : goal.returns-then-saturating_sub-len
returns-then-saturating_sub-len c =
    let d = drop c.args.at c.args.s.now in
    let e = some-unless_zero (length_of_sid d) _ (sym c.sid_at.ensures ∙ c.in_ok-len.was) in
    sym (unless_zero-none _ (whole-cut d (omega (arith, c.saturating_sub.ensures, length-drop c.args.at c.args.s.now))))

pub returns : goal.returns
returns c =
    let d = drop c.args.at c.args.s.now in
    let e = some-unless_zero (length_of_sid d) _ (sym c.sid_at.ensures ∙ c.in_ok-len.was) in
    let h = sid-some d (omega arith) in
    sym (rw (whole-there d (omega (arith, c.saturating_sub.ensures, length-drop c.args.at c.args.s.now)), e.0) (unless_zero-some _ e.1))
