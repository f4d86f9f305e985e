-- There are writes after which what is left is left. Assumes nothing.
use lib.ListN.{length}
use Rattle.axs.proofs.Writes.{Taken}
use Rattle.axs.proofs.write_all.Given as goal

abbrev pub invariant-loop-left : goal.invariant-loop-left
invariant-loop-left l = Taken (length l.text) (length l.left)

abbrev pub decreases-loop-left : goal.decreases-loop-left
decreases-loop-left l = length l.left
