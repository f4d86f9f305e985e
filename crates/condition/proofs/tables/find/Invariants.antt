-- The name is found in the rest as in all. Assumes nothing.
use mathlib.Core.Path.{◌≡◌}
use lib.ListN.{length}
use Rattle.condition.specs.Table.{attributes_of, value_in}
use Rattle.condition.proofs.tables.find.Given as goal

abbrev pub invariant-loop-long : goal.invariant-loop-long
invariant-loop-long l = value_in (attributes_of l.table) l.name ≡ value_in (attributes_of l.rest) l.name

abbrev pub decreases-loop-long : goal.decreases-loop-long
decreases-loop-long l = length l.rest
