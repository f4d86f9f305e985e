-- The loop copies: `i` bytes of `from` stand before what was there. Assumes nothing.
use native.Mathlib.Omega.{arith}
use mathlib.Core.Path.{◌∙◌}
use lib.ListN.{length-set}
use Rattle.octets.proofs.Writes.{copy_more, put_both}
use Rattle.octets.proofs.numbers.put.Goals as goal

pub loop-i-preserved : goal.loop-i-preserved
loop-i-preserved c =
    let l = c.loop-i in
    let a = c.args in
    (omega arith, l.invariant.1, simp length-set (omega arith), rw l.invariant.3 (copy_more a.from.now a.to.now l.i (omega arith) (omega arith)))

pub returns : goal.returns
returns c =
    let l = c.loop-i in
    let a = c.args in
    l.invariant.3 ∙ put_both a.from.now a.to.now l.i (omega arith)
