-- The rest is well made as all is. Assumes nothing.
use mathlib.Core.Path.{◌≡◌}
use Prim.Native.Nat.{◌-◌}
use Rattle.condition.specs.Table.{well_made}
use Rattle.condition.proofs.tables.well_made.Given as goal

abbrev pub invariant-loop : goal.invariant-loop
invariant-loop l = well_made 32 l.table ≡ well_made (32 - l.counter) l.rest
