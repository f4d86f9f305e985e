-- The area of a room, as far as its limits reach: it shows the room's tree, and what is written over it on the front of the room is the area then.
use mathlib.Core.Path.{◌≡◌, ap, ◌∙◌}
use mathlib.Core.List.{List}
use Prim.Native.Nat.{ℕ, ◌+◌, ◌*◌, ◌≤◌, ◌<◌}
use native.Mathlib.Omega.{arith}
use lib.ListN.{length, get_or, drop, get_or-append}
use lib.Seq.{get_or-take, length-take-le, take_at}
use Rattle.octets.specs.Bytes.{part, front}
use Rattle.octets.proofs.Places.{part-of-take}
use Rattle.octets.proofs.Writes.{length_front}
use Rattle.tree.specs.General.{tab}
use Rattle.tree.specs.Room.{object_limit, step_limit, own_at, slot_at, steps_at, room_for, settings, own_data, slot, step, area}
use Rattle.tree.specs.Inner.Heads.{Head}
use Rattle.tree.proofs.Tab.{tab-ext}

-- a room that is its own area
pub record Ready (w : List ℕ) : Type 0 where
  pub head : Head w
  pub exact : length w ≡ room_for (object_limit w) (step_limit w)

pub tab-as : {A : Type 0} (n m : ℕ) (f g : ℕ → A) → n ≡ m → ((i : ℕ) → i < m → f i ≡ g i) → tab n f ≡ tab m g
tab-as n m f g e h = ap (λ (k : ℕ). tab k f) e ∙ tab-ext m f g h

module _ (r : List ℕ) where
  pub area_byte : (i : ℕ) → i < room_for (object_limit r) (step_limit r) → get_or (area r) i 0 ≡ get_or r i 0
  area_byte i k = get_or-take (room_for (object_limit r) (step_limit r)) r i 0 k

  pub area-part : (a k : ℕ) → a + k ≤ room_for (object_limit r) (step_limit r) → part a k (area r) ≡ part a k r
  area-part a k q = part-of-take a k (room_for (object_limit r) (step_limit r)) r q

  pub area-settings : settings (area r) ≡ settings r
  unfolding settings
  area-settings = area-part 4 1044 (omega arith)

  pub area-own : (i : ℕ) → i < object_limit r → own_data i (area r) ≡ own_data i r
  unfolding own_data
  area-own i k = area-part (own_at i) 1184 (omega arith)

  pub area-slot : (i : ℕ) → i < object_limit r → slot i (area r) ≡ slot i r
  unfolding slot
  area-slot i k = area-part (slot_at i) 1027 (omega arith)

  pub area-step : (j : ℕ) → j < step_limit r → step (object_limit r) j (area r) ≡ step (object_limit r) j r
  unfolding step
  area-step j k = area-part (steps_at (object_limit r) + j * 1186) 1186 (omega arith)

module _ (r : List ℕ) (h : Head r) where
  pub area-length : length (area r) ≡ room_for (object_limit r) (step_limit r)
  area-length = length-take-le (room_for (object_limit r) (step_limit r)) r h.room-enough

  pub area-ready : Ready (area r)
  area-ready =
      let e₀ = area_byte r 0 (omega arith) in
      let e₁ = area_byte r 1 (omega arith) in
      let e₂ = area_byte r 2 (omega arith) in
      let e₃ = area_byte r 3 (omega arith) in
      let l = area-length in
      record {
        head = record {
          long = omega arith;
          some-limit = rw e₀ h.some-limit;
          limit-64 = rw e₀ h.limit-64;
          steps-64 = rw e₁ h.steps-64;
          within = rw (e₀, e₂) h.within;
          kept-within = rw (e₁, e₃) h.kept-within;
          room-enough = rw (e₀, e₁) (omega arith);
        };
        exact = rw (e₀, e₁) l;
      }

  -- w written over the room's area
  module _ (w : List ℕ) (l : length w ≡ room_for (object_limit r) (step_limit r)) where
    pub front-byte : (i : ℕ) → i < room_for (object_limit r) (step_limit r) → get_or (front w r) i 0 ≡ get_or w i 0
    front-byte i k = get_or-append w (drop (length w) r) 0 i (omega arith)

    pub front_length : length (front w r) ≡ length r
    front_length = length_front w r (omega arith)

    pub area-front : object_limit w ≡ object_limit r → step_limit w ≡ step_limit r → area (front w r) ≡ w
    area-front e₀ e₁ =
        let f₀ : object_limit (front w r) ≡ object_limit r = front-byte 0 (omega arith) ∙ e₀ in
        let f₁ : step_limit (front w r) ≡ step_limit r = front-byte 1 (omega arith) ∙ e₁ in
        rw (f₀, f₁) (take_at w (drop (length w) r) (room_for (object_limit r) (step_limit r)) l)
