-- The bit is there, or not. Assumes nothing.
use borrow.Author.Tests.{eq-eqb, ne_eqb}
use Rattle.inherit.proofs.last.joined.Goals as goal

pub returns-then-came-bit-ne0 : goal.returns-then-came-bit-ne0
returns-then-came-bit-ne0 c = simp (ne_eqb _ _ c.if-came-bit-ne0.true)

pub returns-else-came-bit-ne0 : goal.returns-else-came-bit-ne0
returns-else-came-bit-ne0 c = simp (eq-eqb _ _ c.if-came-bit-ne0.false)
