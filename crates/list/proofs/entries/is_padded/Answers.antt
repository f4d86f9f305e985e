-- A multiple of four is the next one from the tokens on exactly where it is less than four past them. Assumes nothing.
use mathlib.Core.Path.{sym}
use borrow.Author.Tests.{ne_eqb}
use Rattle.list.proofs.Padding.{not-four, next-four}
use Rattle.list.proofs.entries.is_padded.Goals as goal

pub returns-then-long-eq0 : goal.returns-then-long-eq0
returns-then-long-eq0 c = sym (next-four _ _ c.requires c.if-long-eq0.true)

pub returns-else-long-eq0 : goal.returns-else-long-eq0
returns-else-long-eq0 c = rw (ne_eqb _ 0 c.if-long-eq0.false) (sym (not-four _ _ c.if-long-eq0.false))
