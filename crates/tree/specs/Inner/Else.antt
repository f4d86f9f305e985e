-- What is there, or something else in its place.
use Rattle.std.specs.Prelude.{ℕ, List, Result, Ok, Err}
use Rattle.std.proofs.Math.Option.{Option, none, some}
use Rattle.refusal.specs.declared.Refusal.{Refusal}
use Rattle.refusal.specs.declared.Refusal.TheVariants as Why

unfoldable pub or_else : {A : Type 0} → A → Option A → A
or_else a none = a
or_else a (some b) = b

-- whether a room is there with its lists worked out: where none is, one of them would be too long
unfoldable pub worked_out : Option (List ℕ) → Result Unit Refusal
worked_out none = Err Why.Room
worked_out (some w) = Ok tt
