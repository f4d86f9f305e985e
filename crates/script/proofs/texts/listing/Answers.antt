-- The tree's counts say whether the room is well formed: the laws of Listings. Assumes nothing.
use mathlib.Core.Path.{sym, ◌∙◌}
use Rattle.tree.proofs.Numbers.{said-is}
use Rattle.tree.proofs.Answered.{exits_by}
use Rattle.script.proofs.Listings.{counts-done, listing-done, listing-refused}
use Rattle.script.proofs.texts.listing.Goals as goal

pub give_listing-requires : goal.give_listing-requires
give_listing-requires c = counts-done _ (sym (said-is _ _ c.counts.ensures) ∙ c.in_ok-counts.was)

pub returns : goal.returns
returns c =
    let f = counts-done _ (sym (said-is _ _ c.counts.ensures) ∙ c.in_ok-counts.was) in
    listing-done _ _ f.0 c.give_listing.ensures

pub returns-in_err-counts : goal.returns-in_err-counts
returns-in_err-counts c = listing-refused _ _ (sym (said-is _ _ c.counts.ensures) ∙ c.in_err-counts.was) (exits_by c.from_residual.ensures.1)
