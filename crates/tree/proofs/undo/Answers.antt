-- Refused by the room or where no step is kept, else the latest change taken back: the laws of Changing. Assumes nothing.
use Rattle.tree.proofs.Tested.{refused, passed}
use Rattle.tree.proofs.Changing.{undo-13, undo-11, undo-asks, undo-done}
use mathlib.Core.Path.{ap}
use Rattle.std.specs.Prelude.{Err}
use Rattle.tree.proofs.undo.Goals as goal

pub returns-then-not-formed : goal.returns-then-not-formed
returns-then-not-formed c = undo-13 _ _ (refused c.formed.ensures c.if-not-formed.true) (ap Err c.into.ensures)

pub returns-then-number_in-eq0 : goal.returns-then-number_in-eq0
returns-then-number_in-eq0 c =
    undo-11 _ _ (passed c.formed.ensures c.if-not-formed.false) c.number_in.ensures.0 _
    c.if-number_in-eq0.true (ap Err c.into-then-number_in-eq0.ensures)

pub take_back-requires : goal.take_back-requires
take_back-requires c =
    undo-asks _ _ (passed c.formed.ensures c.if-not-formed.false) c.number_in.ensures.0 c.if-number_in-eq0.false

pub returns : goal.returns
returns c =
    undo-done _ _ (passed c.formed.ensures c.if-not-formed.false) c.number_in.ensures.0
    c.if-number_in-eq0.false _ _ c.take_back.ensures
