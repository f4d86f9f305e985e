-- The area, then the step, then the others but the oldest behind it, then their number, by the law of Kept. Assumes nothing.
use native.Mathlib.Omega.{arith}
use Rattle.tree.proofs.Kept.{most, own-most, kept-is}
use Rattle.tree.proofs.steps.push_some.Goals as goal

pub lay-requires : goal.lay-requires
lay-requires c = omega (arith, most _ _ _ _ c.part_of.ensures)

pub lay_step-requires : goal.lay_step-requires
lay_step-requires c = omega (arith, own-most _ _ _ c.own.ensures)

pub lay-requires-2 : goal.lay-requires-2
lay-requires-2 c = omega (arith, most _ _ _ _ c.part_of-2.ensures)

pub returns : goal.returns
returns c =
    let a = c.args in
    let p = c.requires in
    let n = c.number_in-n.ensures.0 in
    let d = c.number_in-s.ensures.0 in
    kept-is a.r.now _ _ n d a.w.now (omega arith) (omega arith)
    _ _ a.tag a.i _ _ _ _ _ _ (omega arith) (omega arith) c.number_in-k.ensures.0 c.min.ensures
    c.part_of.ensures c.lay.ensures c.own.ensures c.lay_step.ensures c.part_of-2.ensures c.lay-2.ensures
