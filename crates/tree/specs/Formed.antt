-- The test that a room is a well-formed tree (13), as docs/ROOM.md has it.
use Rattle.std.specs.Prelude.{ℕ, zero, suc, ◌+◌, ◌-◌, List, Bool, true, cond, ◌&&◌, length, eqb, leb, ltb}
use Rattle.std.proofs.Math.Option.{Option, none, some}
use Rattle.inherit.specs.Compute.{rule_ok}
use Rattle.tree.specs.General.{every}
use Rattle.tree.specs.Held.{slot_ok, block_ok, alike, parent_of, kind_byte}
use Rattle.tree.specs.Room.{object_limit, step_limit, objects, kept_steps, room_for, settings, rule_of, default_slot, own_data, slot, step, step_tag, step_object, step_data}

-- limits and counts in their ranges, and room enough
unfoldable pub counts_ok : List ℕ → Bool
counts_ok r =
    leb 1048 (length r)
    && (leb 1 (object_limit r)
    && (leb (object_limit r) 64
    && (leb (step_limit r) 64
    && (leb (objects r) (object_limit r)
    && (leb (kept_steps r) (step_limit r)
    && leb (room_for (object_limit r) (step_limit r)) (length r))))))

-- rule 1 or 2, and a good default list
unfoldable pub settings_ok : List ℕ → Bool
settings_ok e = rule_ok (rule_of e) && slot_ok (default_slot e)

-- object i may have this parent, where f gives the own data of those before it: none for the first, an earlier container for each later one
unfoldable pub placed_in : (ℕ → List ℕ) → ℕ → Option ℕ → Bool
placed_in f i none = eqb i 0
placed_in f i (some p) = ltb p i && eqb (kind_byte (f p)) 1

-- object i: its own data, its place, its computed list
unfoldable pub object_ok : List ℕ → ℕ → Bool
object_ok r i = block_ok (own_data i r) && (placed_in (λ j. own_data j r) i (parent_of (own_data i r)) && slot_ok (slot i r))

-- a step of any change but add: it names an object that stands, its own data is good by itself, and agrees with that object's in what no change alters
unfoldable pub again_ok : (ℕ → List ℕ) → ℕ → List ℕ → Bool
again_ok f c u = ltb (step_object u) c && (block_ok (step_data u) && alike (step_data u) (f (step_object u)))

-- a step applies where c objects stand, whose own data f gives: that of an add names the last of them; and how many stand before it
unfoldable pub step_ok : (ℕ → List ℕ) → ℕ → List ℕ → Bool
step_ok f c u = cond (eqb (step_tag u) 1) (eqb (step_object u + 1) c) (eqb (step_tag u) 2 && again_ok f c u)

abbrev pub standing : ℕ → List ℕ → ℕ
standing c u = cond (eqb (step_tag u) 1) (c - 1) c

-- m steps from the one that g gives at j, from the latest to the oldest, each in its turn
unfoldable pub steps_ok : (ℕ → List ℕ) → (ℕ → List ℕ) → ℕ → ℕ → ℕ → Bool
steps_ok f g zero j c = true
steps_ok f g (suc m) j c = step_ok f c (g j) && steps_ok f g m (j + 1) (standing c (g j))

-- the whole test
unfoldable pub formed : List ℕ → Bool
formed r =
    counts_ok r
    && (settings_ok (settings r)
    && (every (object_ok r) (objects r)
    && steps_ok (λ i. own_data i r) (λ j. step (object_limit r) j r) (kept_steps r) 0 (objects r)))
