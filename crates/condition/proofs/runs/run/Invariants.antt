-- What is run of the rest is what is run of all (`Running`). Assumes nothing.
use Prim.Native.Nat.{◌-◌}
use Rattle.condition.specs.Table.{attributes_of}
use Rattle.condition.specs.Inner.Cells.{live}
use Rattle.condition.proofs.Loops.{Running}
use Rattle.condition.proofs.runs.run.Given as goal

abbrev pub invariant-loop : goal.invariant-loop
invariant-loop l = Running (attributes_of l.table) l.s (live l.stack.cells l.stack.top) l.rest (64 - l.counter)
