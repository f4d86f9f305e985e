-- The latest step taken off, then what it holds settled on what that left, by the laws of Changing. Assumes nothing.
use native.Mathlib.Omega.{arith}
use Rattle.tree.proofs.Changing.{undo-fits, undone-is}
use Rattle.tree.proofs.changes.undo_copy.Goals as goal

pub settle-requires : goal.settle-requires
settle-requires c =
    let f = undo-fits c.args.r.now c.requires.head.0 _ _ _ _ _ _ c.number_in.ensures.0
    c.step-u.ensures c.number_in-2.ensures.0
    c.part_of.ensures c.number_in-3.ensures.0 c.standing.ensures c.requires.r_nonzero.1 in
    let l = c.pop.auto.w in
    (omega (arith, f.0), (omega (arith, f.0, l), omega (arith, f.1.0, f.1.1, l)))

pub returns : goal.returns
returns c =
    rw (← undone-is c.args.r.now c.requires.head.0 _ _ _ _ _ _ c.number_in.ensures.0
    c.step-u.ensures c.number_in-2.ensures.0
    c.part_of.ensures c.number_in-3.ensures.0 c.standing.ensures _ c.requires.r_nonzero.0 c.pop.ensures)
    c.settle.ensures
