-- When two rooms are the same to every call until an undo, and one object in two rooms (RULES 13).
use Rattle.std.specs.Prelude.{ℕ, ◌<◌, ◌≡◌, List, [], ◌∷◌}
use Rattle.tree.specs.Held.{held}
use Rattle.tree.specs.Room.{objects, kept_steps, slot}
use Rattle.tree.specs.Model.{Part, object}
use Rattle.tree.specs.Shown.{settings_in, objects_in, lists_in, Request, start, change, undo, read, counts, read_with, answer_to, played_on, answers_on}

-- no undo among calls
abbrev pub NoUndo : List Request → Type 0
NoUndo [] = Unit
NoUndo (start t ∷ qs) = NoUndo qs
NoUndo (change c ∷ qs) = NoUndo qs
NoUndo (undo ∷ qs) = ⊥
NoUndo (read x i out ∷ qs) = NoUndo qs
NoUndo (counts ∷ qs) = NoUndo qs

-- two rooms: settings, own data of every object, computed lists, number of kept steps; what an undo answers; and, until there is an undo, what any further calls
-- answer and what is then read back
pub record SameRooms (r u : List ℕ) : Type 0 where
  pub settings-are : settings_in r ≡ settings_in u
  pub own-data : objects_in r ≡ objects_in u
  pub lists : lists_in r ≡ lists_in u
  pub steps : kept_steps r ≡ kept_steps u
  pub undo-answer : answer_to undo r ≡ answer_to undo u
  pub later : (qs : List Request) → NoUndo qs → answers_on qs r ≡ answers_on qs u
  pub read_back : (qs : List Request) → NoUndo qs → (x : Part) (i : ℕ) (out : List ℕ) → (read_with x i (played_on qs r) out).bytes ≡ (read_with x i (played_on qs u) out).bytes

-- one object in two rooms: own data, computed list, and what is read back of it
pub record SameObject (r u : List ℕ) (k : ℕ) : Type 0 where
  pub own-data : object (objects_in r) k ≡ object (objects_in u) k
  pub list : k < objects r → held (slot k r) ≡ held (slot k u)
  pub read_answer : (x : Part) (out : List ℕ) → answer_to (read x k out) r ≡ answer_to (read x k out) u
  pub read_back : (x : Part) (out : List ℕ) → (read_with x k r out).bytes ≡ (read_with x k u out).bytes
