-- How the code tests what a call is given: the test is passed, or it refuses. What a call answers is in Calls.
use Rattle.std.specs.Prelude.{ℕ, List, ltb, Result, Ok, Err}
use Rattle.std.proofs.Math.Option.{Option, none, some}
use Rattle.octets.specs.Order.{need}
use Rattle.list.specs.Entry.{access}
use Rattle.list.specs.List.{check_of, MaybeList}
use Rattle.list.specs.declared.readings.Read.{Read}
use Rattle.inherit.specs.Compute.{ordinary}
use Rattle.refusal.specs.Faults.{in_list}
use Rattle.refusal.specs.declared.Fault.{Fault}
use Rattle.refusal.specs.declared.Refusal.{Refusal}
use Rattle.refusal.specs.declared.Refusal.TheVariants as Why
use Rattle.tree.specs.Model.{short_if}
use Rattle.tree.specs.Room.{object_limit, objects, own_data}
use Rattle.tree.specs.Formed.{placed_in, formed}

-- the room, and an object that stands in it
unfoldable pub test_object : List ℕ → ℕ → Result Unit Refusal
test_object r i = need (formed r) (Err Why.Tree) (need (ltb i (objects r)) (Err Why.Object) (Ok tt))

-- the room, the parent of a new object, and place for it
unfoldable pub test_add : List ℕ → Option ℕ → Result Unit Refusal
test_add r p =
    need (formed r) (Err Why.Tree)
    (need (placed_in (λ j. own_data j r) (objects r) p) (Err Why.Object)
    (need (ltb (objects r) (object_limit r)) (Err Why.Full) (Ok tt)))

-- a list that is given or not, by its reading; `which` of the call's lists it is
unfoldable pub test_reading : Result Read Fault → ℕ → Result Unit Fault
test_reading (Ok read) which = Ok tt
test_reading (Err fault) which = Err (in_list which fault)

unfoldable pub test_list : MaybeList → ℕ → Result Unit Fault
test_list none which = Ok tt
test_list (some s) which = test_reading (check_of access s) which

-- an owner and a group
unfoldable pub test_owners : List ℕ → List ℕ → Result Unit Refusal
test_owners o g = need (ordinary o) (Err Why.Identity) (need (ordinary g) (Err Why.Identity) (Ok tt))

-- a list that is given has at most 1,024 bytes
unfoldable pub test_short : MaybeList → Result Unit Refusal
test_short o = need (short_if o) (Err Why.Room) (Ok tt)
