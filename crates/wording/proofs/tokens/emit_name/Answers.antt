-- The token on the front of what is lent from there on, or no room. Assumes nothing.
use native.Mathlib.Omega.{arith}
use mathlib.Core.Path.{sym, ◌∙◌}
use borrow.Author.Tests.{leb-true, leb-false}
use Rattle.condition.specs.Token.{name as named, push}
use Rattle.wording.specs.Stored.{wide, token_bytes}
use Rattle.wording.proofs.Longs.{name-long}
use Rattle.wording.proofs.Laid.{no_room, fits, counted-name}
use Rattle.wording.proofs.tokens.emit_name.Goals as goal
use Rattle.wording.proofs.tokens.emit_name.Goals.{then-fits, else-fits}

pub returns : goal.returns
returns c =
    let a = c.args in
    let t = token_bytes (push (named (wide a.name.now))) in
    let n = name-long a.name.now in
    record {
      tally = counted-name a.name.now _ _ c.note.ensures;
      bytes = elim c.if-fits.branch [
        | then-fits w ↦ let h = leb-true _ _ (sym c.fits.ensures ∙ w.if-fits.true) in w.out-is ∙ fits t a.w a.out.now _ (omega arith) w.lay_name.ensures
        | else-fits w ↦ let h = leb-false _ _ (sym c.fits.ensures ∙ w.if-fits.false) in w.out-is ∙ no_room t a.w a.out.now (omega arith)
      ];
    }
