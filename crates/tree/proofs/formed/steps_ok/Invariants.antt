-- What the steps still to come say is what all of them say. Assumes nothing.
use mathlib.Core.Path.{◌≡◌}
use Prim.Native.Nat.{◌≤◌, ◌-◌}
use Rattle.tree.specs.Room.{own_data, step}
use Rattle.tree.specs.Formed.{steps_ok}
use Rattle.tree.proofs.formed.steps_ok.Given as goal

abbrev pub invariant-loop-j : goal.invariant-loop-j
invariant-loop-j l = (l.j ≤ l.m) × ((l.stand ≤ l.c) × (steps_ok (λ i. own_data i l.r) (λ i. step l.n i l.r) l.m 0 l.c ≡ steps_ok (λ i. own_data i l.r) (λ i. step l.n i l.r) (l.m - l.j) l.j l.stand))

abbrev pub decreases-loop-j : goal.decreases-loop-j
decreases-loop-j l = l.m - l.j
