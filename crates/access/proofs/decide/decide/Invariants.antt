-- What is decided from an entry on is what is decided from the first on (`Deciding`). Assumes nothing.
use lib.ListN.{drop}
use Rattle.list.specs.List.{rev_of}
use Rattle.access.specs.Held.{held_of}
use Rattle.access.proofs.Turns.{Deciding}
use Rattle.access.proofs.decide.decide.Given as goal

abbrev pub invariant-entries : goal.invariant-entries
invariant-entries l = Deciding l.asker.guid l.asker.table.now (held_of l.asker.held.bytes.now) (rev_of l.list) (drop 8 l.list) l.n l.wanted l.left l.counter l.rest
