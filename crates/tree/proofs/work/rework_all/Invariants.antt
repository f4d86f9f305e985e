-- The invariant: the room is what working out the first i objects gives. Assumes nothing.
use Prim.Native.Nat.{◌≤◌, ◌-◌}
use mathlib.Core.Path.{◌≡◌}
use mathlib.Core.Option.{some}
use lib.ListN.{length}
use Rattle.tree.specs.Work.{reworked}
use Rattle.tree.proofs.work.rework_all.Given as goal

abbrev pub invariant-loop-i : goal.invariant-loop-i
invariant-loop-i l = (l.i ≤ l.n) × ((reworked l.i l.initial.w ≡ some l.w) × (length l.w ≡ length l.initial.w))

abbrev pub decreases-loop-i : goal.decreases-loop-i
decreases-loop-i l = l.n - l.i
