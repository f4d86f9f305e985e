-- Up to `i` the bytes are the same. Assumes nothing.
use mathlib.Core.Path.{◌≡◌}
use Prim.Native.Nat.{◌-◌, ◌≤◌}
use lib.ListN.{length, drop}
use Rattle.octets.specs.Bytes.{same_bytes}
use Rattle.octets.proofs.numbers.same_rest.Given as goal

abbrev pub invariant-loop-i : goal.invariant-loop-i
invariant-loop-i l = (l.i ≤ length l.a) × (same_bytes (drop l.at l.a) (drop l.at l.b) ≡ same_bytes (drop l.i l.a) (drop l.i l.b))
