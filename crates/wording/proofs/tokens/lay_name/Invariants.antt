-- Behind the head stand the bytes of `i` of the name, each with a 0. Assumes nothing.
use mathlib.Core.Path.{◌≡◌}
use Prim.Native.Nat.{◌+◌, ◌*◌, ◌≤◌}
use lib.ListN.{length, take}
use Rattle.octets.specs.Bytes.{put_at}
use Rattle.wording.specs.Stored.{wide}
use Rattle.wording.proofs.tokens.lay_name.Given as goal

abbrev pub invariant-loop-i : goal.invariant-loop-i
invariant-loop-i l = (5 + 2 * length l.name ≤ length l.to) × (l.to ≡ put_at 5 (wide (take l.i l.name)) l.initial.to)
