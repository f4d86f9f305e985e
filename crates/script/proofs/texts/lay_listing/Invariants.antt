-- The heading, and then the loop's lines: the first i of them stand behind it. Assumes nothing.
use Rattle.script.proofs.Listings.{Lined}
use Rattle.tree.specs.Shown.{lists_in}
use Rattle.script.proofs.texts.lay_listing.Given as goal

abbrev pub invariant-loop-i : goal.invariant-loop-i
invariant-loop-i l = Lined (lists_in l.room) l.initial.at l.initial.out l.i l.at l.out
