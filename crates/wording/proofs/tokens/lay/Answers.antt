-- The bytes on the front of what is lent from there on, or no room. Assumes nothing.
use mathlib.Core.Path.{sym, ◌∙◌}
use borrow.Author.Tests.{leb-true, leb-false}
use Rattle.wording.proofs.Laid.{no_room, fits}
use Rattle.wording.proofs.tokens.lay.Goals as goal

pub returns-then-fits : goal.returns-then-fits
returns-then-fits c =
    let a = c.args in
    fits a.bytes.now a.w a.out.now _ (leb-true _ _ (sym c.fits.ensures ∙ c.if-fits.true)) c.put.ensures

pub returns-else-fits : goal.returns-else-fits
returns-else-fits c =
    let a = c.args in
    no_room a.bytes.now a.w a.out.now (leb-false _ _ (sym c.fits.ensures ∙ c.if-fits.false))
