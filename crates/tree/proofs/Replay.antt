-- The tree as changes to own data, each list worked out from the root up the parents: what History is asked of; then the tree that a room shows.
use Prim.Native.Nat.{ℕ, zero, suc, ◌-◌}
use mathlib.Core.List.{List, [], ◌∷◌, ◌++◌}
use mathlib.Core.Bool.{Bool, true, false, cond, ◌&&◌}
use mathlib.Core.Option.{Option, none, some}
use lib.ListN.{length, get_or, take, set}
use lib.Dec.{eqb, ltb}
use Rattle.octets.specs.Bytes.{put_at}
use Rattle.list.specs.Entry.{access}
use Rattle.list.specs.List.{check_of, MaybeList}
use Rattle.inherit.specs.Compute.{ordinary}
use Rattle.tree.specs.Model.{short_if}
use Rattle.tree.specs.General.{bind, tab}
use Rattle.tree.specs.Held.{is_done, parent_in, block_for, parent_byte_in}
use Rattle.tree.specs.Room.{objects, kept_steps, object_limit, own_data, slot, step, step_tag, step_object, step_data}
use Rattle.tree.specs.Formed.{placed_in}
use Rattle.tree.specs.Work.{computed}
use Rattle.tree.specs.Calls.{Edit, list, mark, owners, edit_at, edit_bytes, New, nobody, object_for, ChangeGiven, add, alter}
use Rattle.tree.specs.Held.{held}
use Rattle.tree.proofs.History.{Rules, State}

-- own data of all objects, by number
abbrev pub Blocks : Type 0
Blocks = List (List ℕ)

-- a list that is given, possibly absent, reads as done
unfoldable pub reads : MaybeList → Bool
reads none = true
reads (some s) = is_done (check_of access s)

-- what a change is given is good
unfoldable pub fine : Edit → Bool
fine (list o) = reads o && short_if o
fine (mark m) = true
fine (owners o g) = ordinary o && ordinary g

abbrev pub when : {A : Type 0} → Bool → A → Option A
when true a = some a
when false a = none

-- what an add asks, with object limit N, where n objects stand whose own data f gives
abbrev pub addable : ℕ → New → ℕ → (ℕ → List ℕ) → Bool
addable N new n f =
    placed_in f n (parent_in nobody new.parent)
    && (ltb n N
    && (reads new.list
    && (ordinary new.owner
    && (ordinary new.group
    && short_if new.list))))

-- own data of all objects after a change, with object limit n
unfoldable pub change : ℕ → ChangeGiven → Blocks → Option Blocks
change n (add new) d = when (addable n new (length d) (λ j. get_or d j [])) (d ++ (block_for (object_for new) ∷ []))
change n (alter i e) d = when (ltb i (length d) && fine e) (set d i (put_at (edit_at e) (edit_bytes e) (get_or d i [])))

-- what a step puts back: an add takes the last object off, any other change puts the old own data back
pub data Undo : Type 0 where
  off : Undo
  again : ℕ → List ℕ → Undo

-- the step that a change keeps, and what undo makes of own data by it
unfoldable pub keep : ChangeGiven → Blocks → Undo
keep (add new) d = off
keep (alter i e) d = again i (get_or d i [])

unfoldable pub back : Undo → Blocks → Blocks
back off d = take (length d - 1) d
back (again i b) d = set d i b

-- object i's list worked out afresh: from its parent's list, and so on up to the root, over at most `more` objects
unfoldable pub from_root : List ℕ → Blocks → ℕ → ℕ → Option MaybeList
from_root e d zero i = none
from_root e d (suc more) i =
    bind (cond (eqb (parent_byte_in (get_or d i [])) 255) (some none) (from_root e d more (parent_byte_in (get_or d i []))))
    (λ p. computed e p (get_or d i []))

-- f 0, f 1 and so on below n, where all of them are there
unfoldable pub gather : {A : Type 0} → ℕ → (ℕ → Option A) → Option (List A)
gather zero f = some []
gather (suc n) f = bind (gather n f) (λ xs. bind (f n) (λ x. some (xs ++ (x ∷ []))))

-- every object's list worked out afresh from the root
unfoldable pub work : List ℕ → Blocks → Option (List MaybeList)
work e d = gather (length d) (from_root e d (length d))

-- the rules of a tree with object limit n and the settings e
unfoldable pub rules : ℕ → List ℕ → Rules ChangeGiven Blocks (List MaybeList) Undo
rules n e = record { empty = []; bare = []; change = change n; work = work e; keep = keep; back = back }

-- ---- the tree that a room shows

-- what a step in the room puts back
unfoldable pub undo_in : List ℕ → Undo
undo_in u = cond (eqb (step_tag u) 1) off (again (step_object u) (step_data u))

abbrev pub Tree : Type 0
Tree = State Blocks (List MaybeList) Undo

-- own data, computed lists and kept steps, read off the bytes
unfoldable pub shown : List ℕ → Tree
shown r =
    record {
      own = tab (objects r) (λ i. own_data i r);
      lists = tab (objects r) (λ i. held (slot i r));
      kept = tab (kept_steps r) (λ j. undo_in (step (object_limit r) j r));
    }
