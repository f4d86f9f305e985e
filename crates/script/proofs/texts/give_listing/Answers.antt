-- No room by the measured length, else the listing on the front. Assumes nothing.
use native.Mathlib.Omega.{arith}
use mathlib.Core.Path.{sym, ap, ◌∙◌}
use Rattle.std.specs.Prelude.{Err}
use Rattle.script.proofs.Listings.{lists_length, listed-no, listed-all}
use Rattle.script.proofs.texts.give_listing.Goals as goal

pub returns-then-out-long : goal.returns-then-out-long
returns-then-out-long c = listed-no _ _ c.lay_listing-long.ensures.0 (omega arith) (ap Err c.into.ensures)

pub returns : goal.returns
returns c =
    listed-all _ _ c.lay_listing-long.ensures.0 (omega arith) (c.requires.1 ∙ sym (lists_length _)) c.lay_listing.ensures.1.1
