-- As many offsets as turns stand in the row, and the next entry lies at `at` (`Filled`). Assumes nothing.
use Rattle.list.specs.Entry.{access}
use Rattle.list.proofs.Rows.{Filled}
use Rattle.list.proofs.lists.fill.Given as goal

abbrev pub invariant-loop-slot : goal.invariant-loop-slot
invariant-loop-slot l = Filled access l.list l.count l.initial.slot-items l.slot-items l.at l.slot-index
