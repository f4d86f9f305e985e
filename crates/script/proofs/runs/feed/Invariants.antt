-- The loop goes record by record: the run of all bytes is that of the bytes from `at` on, `at` bytes further. Assumes nothing.
use mathlib.Core.Path.{◌≡◌}
use Prim.Native.Nat.{◌≤◌, ◌-◌}
use lib.ListN.{length}
use Rattle.script.proofs.Feeds.{Fed}
use Rattle.script.proofs.runs.feed.Given as goal

abbrev pub invariant-loop-at : goal.invariant-loop-at
invariant-loop-at l = (l.at ≤ length l.s) × (length l.room ≡ length l.initial.room) × Fed l.s l.initial.room l.at l.room

abbrev pub decreases-loop-at : goal.decreases-loop-at
decreases-loop-at l = length l.s - l.at
