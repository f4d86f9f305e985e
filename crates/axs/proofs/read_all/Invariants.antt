-- The place stays one, and there are reads after which the run stands where the code has it; each read brings it on. Assumes nothing.
use Prim.Native.Nat.{◌+◌, ◌-◌, ◌≤◌, ◌<◌}
use Rattle.axs.specs.Inner.Bounds.{bound_at}
use Rattle.axs.proofs.Turns.{Stands}
use Rattle.axs.proofs.read_all.Given as goal

abbrev pub invariant-loop-next : goal.invariant-loop-next
invariant-loop-next l =
    (l.place.1.0 < bound_at l.place.0) × (l.place.0 ≤ 9223372036854775808)
    × Stands l.fn.room l.place.0 l.place.1.0 l.buffer l.room

abbrev pub decreases-loop-next : goal.decreases-loop-next
decreases-loop-next l = 9223372036854841920 - (l.place.0 + l.place.1.0)
