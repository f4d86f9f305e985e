-- How a computation ends whose tests were passed.
use Rattle.std.specs.Prelude.{ℕ, ◌≡◌, List, length, Option, Result as Answer}
use Rattle.refusal.specs.declared.Fault.{Fault}
use Rattle.inherit.specs.declared.Computed.{Computed}
use Rattle.inherit.specs.Branch.{Result}
use Rattle.inherit.specs.Compute.{with_room, bytes_for, written, Tells}

-- the answer of a result, for which there may be room, and what the buffer holds afterwards
pub record Ends (x : Result) (out : List ℕ) (r : Answer (Option Computed) Fault) (after : List ℕ) : Type 0 where
  pub answer : Tells r (with_room (length out) x)
  pub buffer : after ≡ written (with_room (length out) x) (bytes_for x) out
