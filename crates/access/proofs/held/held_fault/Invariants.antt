-- The loop has counted the SIDs that are gone past. Assumes nothing.
use lib.ListN.{length}
use Rattle.access.proofs.Holds.{Counted}
use Rattle.access.proofs.held.held_fault.Given as goal

abbrev pub invariant-loop-rest : goal.invariant-loop-rest
invariant-loop-rest l = Counted l.held l.rest l.count

abbrev pub decreases-loop-rest : goal.decreases-loop-rest
decreases-loop-rest l = length l.rest
