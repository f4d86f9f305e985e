-- The copy takes the area's place where the change could be made: the laws of finish in Changing. Assumes nothing.
use native.Mathlib.Omega.{arith}
use mathlib.Core.Path.{sym, ◌∙◌}
use Rattle.tree.proofs.Answered.{exits_by}
use Rattle.tree.proofs.Changing.{finish-some, finish-none}
use Rattle.tree.proofs.changes.change_in.Goals as goal

pub returns-in_err-change_copy : goal.returns-in_err-change_copy
returns-in_err-change_copy c =
    finish-none _ _ _ _ _ (sym c.change_copy.ensures.0 ∙ c.in_err-change_copy.was) (exits_by c.from_residual.ensures.1)

pub returns : goal.returns
returns c =
    finish-some _ _ _ _ _ _ _ (omega arith)
    (c.change_copy.ensures.1 c.in_ok-change_copy.was)
    c.put.ensures c.slot.ensures c.told.ensures
