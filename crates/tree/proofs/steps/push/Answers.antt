-- The area alone where no step may be kept; else a step in front of the others. Assumes nothing.
use native.Mathlib.Omega.{arith}
use Rattle.tree.proofs.Kept.{most, none_kept}
use Rattle.tree.proofs.steps.push.Goals as goal

pub lay-requires : goal.lay-requires
lay-requires c = omega (arith, most _ _ _ _ c.part_of.ensures)

pub returns-then-number_in-eq0 : goal.returns-then-number_in-eq0
returns-then-number_in-eq0 c =
    let a = c.args in
    let e = c.number_in.ensures.0 in
    let z = c.if-number_in-eq0.true in
    none_kept a.r.now _ _ c.number_in-n.ensures.0 e a.w.now (omega arith) (omega arith) _ _ _ z (omega arith)
    c.part_of.ensures c.lay.ensures
