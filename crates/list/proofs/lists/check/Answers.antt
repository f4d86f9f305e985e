-- A bad header, or the walk over the entries. Assumes nothing.
use native.Mathlib.Omega.{arith}
use mathlib.Core.Path.{sym, ap, ◌∙◌}
use Prim.Native.Nat.{ℕ, ◌+◌}
use lib.ListN.{length, drop}
use lib.Seq.{get_or-drop}
use Rattle.list.specs.Entry.{access}
use Rattle.list.specs.List.{rev_of, walk_of, finish}
use Rattle.list.specs.Answer.{reading_values}
use Rattle.octets.proofs.Little.{le-lt}
use Rattle.list.proofs.Walks.{header}
use Rattle.list.proofs.Told.{check-header, check-walk}
use Rattle.list.proofs.lists.check.Goals as goal

pub returns-then-not-header_ok : goal.returns-then-not-header_ok
returns-then-not-header_ok c = rw c.from.ensures (ap reading_values (sym (check-header access _ (sym c.header_ok.ensures ∙ c.if-not-header_ok.true))))

pub bounds-list-0 : goal.bounds-list-0
bounds-list-0 c = omega (arith, header _ (sym c.header_ok.ensures ∙ c.if-not-header_ok.false))

pub walk-requires : goal.walk-requires
walk-requires c =
    let s = c.args.list.now in
    omega (arith, header s (sym c.header_ok.ensures ∙ c.if-not-header_ok.false), le-lt 2 (drop 2 s) (λ i. rw get_or-drop (c.type_inv.list (2 + i)).fits))

pub returns : goal.returns
returns c =
    let s = c.args.list.now in
    ap reading_values
    (c.walk.ensures
    ∙ ap (λ (n : ℕ). walk_of access (rev_of s) n 8 (drop 8 s) (finish (length s) n)) c.half_in.ensures
    ∙ sym (check-walk access s (sym c.header_ok.ensures ∙ c.if-not-header_ok.false)))
