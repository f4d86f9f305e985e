-- Up to `at` the bytes are the same. Assumes nothing.
use mathlib.Core.Path.{◌≡◌}
use Prim.Native.Nat.{◌-◌, ◌≤◌}
use lib.ListN.{length, drop}
use Rattle.octets.specs.Bytes.{same_bytes}
use Rattle.octets.proofs.numbers.same_bytes.Given as goal

abbrev pub invariant-loop-at : goal.invariant-loop-at
invariant-loop-at l = (l.at ≤ length l.a) × (length l.a ≡ length l.b) × (same_bytes l.a l.b ≡ same_bytes (drop l.at l.a) (drop l.at l.b))

abbrev pub decreases-loop-at : goal.decreases-loop-at
decreases-loop-at l = length l.a - l.at
