-- The number's halves, the high one with its highest bit turned over. Assumes nothing.
use native.Mathlib.Omega.{arith}
use Rattle.octets.proofs.Little.{le-add}
use Rattle.condition.proofs.tables.key_in.Goals as goal

pub returns : goal.returns
returns c =
    let h = le-add 4 4 c.args.s.now in
    let a = c.word_in.ensures in
    let b = c.word_in-2.ensures in
    let d = c.from.ensures in
    let e = c.from-2.ensures in
    omega (arith, h, a, b, d, e)
