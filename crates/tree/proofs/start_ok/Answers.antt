-- No room is needed where a limit is out of range, and the formula's elsewhere. Assumes nothing.
use mathlib.Core.Path.{ap}
use Prim.Native.Nat.{ℕ}
use lib.Dec.{leb}
use Rattle.tree.specs.Calls.{start_ok}
use Rattle.tree.proofs.Tested.{refused, passed}
use Rattle.tree.proofs.Answered.{room-none, room-some}
use Rattle.tree.proofs.start_ok.Goals as goal

pub returns-then-rule_ok : goal.returns-then-rule_ok
unfolding start_ok
returns-then-rule_ok c =
    let s = room-some _ _ _ c.in-Some.ensures in
    simp (s.0, passed c.rule_ok.ensures c.if-rule_ok.true) (ap (λ (n : ℕ). leb n c.args.long) s.1)

pub returns-else-rule_ok : goal.returns-else-rule_ok
unfolding start_ok
returns-else-rule_ok c =
    let s = room-some _ _ _ c.in-Some.ensures in
    simp (s.0, refused c.rule_ok.ensures c.if-rule_ok.false) c.if-rule_ok.false

pub returns-in-None : goal.returns-in-None
unfolding start_ok
returns-in-None c = simp (room-none _ _ c.in-None.ensures)
