-- Behind the head stand the bytes of `i` of the name, each with a 0. Assumes nothing.
use native.Mathlib.Omega.{arith}
use mathlib.Core.Path.{refl, ◌∙◌}
use lib.ListN.{length-set}
use Rattle.wording.proofs.Laid.{wide-none, wide-more, name-all}
use Rattle.wording.proofs.tokens.lay_name.Goals as goal

pub loop-i-init : goal.loop-i-init
loop-i-init c = (omega (arith, c.put.auto.to), wide-none c.args.name.now _)

pub loop-i-preserved : goal.loop-i-preserved
loop-i-preserved c =
    let l = c.loop-i in
    (simp length-set l.invariant.0, rw l.invariant.1 (wide-more c.args.name.now _ l.i c.loop-i-test.true (omega (arith, c.put.auto.to))))

pub returns : goal.returns
returns c =
    let l = c.loop-i in
    let a = c.args in
    l.invariant.1 ∙ name-all a.name.now a.to.now _ _ l.i _ (omega arith) refl (omega arith) c.to_le_bytes.ensures c.put.ensures
