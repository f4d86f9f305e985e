-- The copy takes the area's place where the lists could be worked out: the laws of undo in Changing. Assumes nothing.
use native.Mathlib.Omega.{arith}
use mathlib.Core.Path.{sym, ◌∙◌}
use Rattle.tree.proofs.Answered.{exits_by}
use Rattle.tree.proofs.Changing.{undo-some, undo-none}
use Rattle.tree.proofs.changes.undo_in.Goals as goal

pub returns-in_err-undo_copy : goal.returns-in_err-undo_copy
returns-in_err-undo_copy c =
    undo-none _ _ _ _ (sym c.undo_copy.ensures.0 ∙ c.in_err-undo_copy.was) (exits_by c.from_residual.ensures.1)

pub returns : goal.returns
returns c = undo-some _ _ _ _ (omega arith) (c.undo_copy.ensures.1 c.in_ok-undo_copy.was) c.put.ensures
