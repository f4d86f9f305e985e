-- Both sums stay below the base.
use Rattle.std.proofs.Common.{◌<◌}
use Rattle.vectors.proofs.computing.print_sum.Given as goal

abbrev pub invariant-loop-x : goal.invariant-loop-x
invariant-loop-x l = (l.a < 65521) × (l.b < 65521)
