-- The mask as it came, the printed text's, or the mended one. Assumes nothing.
use mathlib.Core.Path.{sym, ap, ◌∙◌}
use Prim.Native.Nat.{ℕ}
use lib.Bits.{bit_and}
use Rattle.inherit.specs.Last.{joined, mends, mended, last_mask}
use Rattle.inherit.specs.Inner.Rules.{number_by}
use Rattle.inherit.proofs.Masks.{last-same}
use Rattle.inherit.proofs.last.last_mask.Goals as goal

-- no generic bit came
pub returns-then-mask-lt268435456 : goal.returns-then-mask-lt268435456
returns-then-mask-lt268435456 c = let a = c.args in sym (last-same a.mapping a.mask c.if-mask-lt268435456.true (number_by a.rule))

-- the rule mends
pub returns-in-Mended : goal.returns-in-Mended
unfolding last_mask mends mended
returns-in-Mended c =
    let a = c.args in
    rw c.in-Mended.is
    (ap (λ (m : ℕ). bit_and m 0x0FFFFFFF)
    (c.joined-four.ensures ∙ ap (λ (m : ℕ). joined 0x10000000 a.mask m a.mapping.all) c.mapped-three.ensures))

-- it doesn't
pub returns-in-Printed : goal.returns-in-Printed
unfolding last_mask mends
returns-in-Printed c = rw c.in-Printed.is c.mapped-three.ensures
