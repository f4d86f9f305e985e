-- The area, then the steps but the latest one place back, then their number, by the law of Kept. Assumes nothing.
use native.Mathlib.Omega.{arith}
use Rattle.tree.proofs.Kept.{most, gone-is}
use Rattle.tree.proofs.steps.pop.Goals as goal

pub lay-requires : goal.lay-requires
lay-requires c = omega (arith, most _ _ _ _ c.part_of.ensures)

pub lay-requires-2 : goal.lay-requires-2
lay-requires-2 c = omega (arith, most _ _ _ _ c.part_of-2.ensures)

pub returns : goal.returns
returns c =
    let a = c.args in
    gone-is a.r.now _ _ c.number_in-n.ensures.0 c.number_in-s.ensures.0 a.w.now (omega arith) (omega arith)
    _ _ _ _ _ (omega arith) c.number_in-k.ensures.0
    c.part_of.ensures c.lay.ensures c.part_of-2.ensures c.lay-2.ensures
