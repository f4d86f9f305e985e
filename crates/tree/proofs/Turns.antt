-- What a change and an undo leave: own data stays good, each object in its place, and the kept steps still apply, each in its turn.
-- Here f gives own data by object number, and g the steps, the latest at 0.
use mathlib.Core.Path.{◌≡◌, refl, sym, ap, ◌∙◌}
use mathlib.Core.Bool.{Bool, true, false, cond}
use mathlib.Core.List.{List}
use mathlib.Core.Logic.{◌⊎◌, inl, inr}
use mathlib.Core.Option.{Option, none, some}
use Prim.Native.Nat.{ℕ, suc, ◌+◌, ◌-◌, ◌≤◌, ◌<◌, min}
use native.Mathlib.Decide.{ℕ_discrete}
use native.Mathlib.Omega.{arith}
use lib.Dec.{eqb, ltb}
use borrow.Author.Tests.{eq-eqb, ne_eqb, lt-ltb, eqb-true, ltb-true}
use Rattle.octets.proofs.Tests.{both_true}
use Rattle.tree.specs.Model.{parent_byte}
use Rattle.tree.specs.Held.{block_ok, parent_byte_in, parent_in, parent_of, kind_byte}
use Rattle.tree.specs.Room.{step_tag, step_object, step_data}
use Rattle.tree.specs.Formed.{placed_in, standing, steps_ok}
use Rattle.tree.proofs.Applied.{upd, upd_same, upd_other, ahead, Alike, alike_same, alike-upd, Adds, Again, step-facts, step-add, step-again}
use Rattle.tree.proofs.Applied.{standing-add, standing-again, steps-same, steps-off, steps_on}

-- ---- a place under a parent

abbrev pub Placed : (ℕ → List ℕ) → ℕ → Option ℕ → Type 0
Placed f i none = i ≡ 0
Placed f i (some p) = (p < i) × (kind_byte (f p) ≡ 1)

module _ (f : ℕ → List ℕ) (i : ℕ) where
  pub placed-facts : (q : Option ℕ) → placed_in f i q ≡ true → Placed f i q
  unfolding placed_in
  placed-facts none h = eqb-true i 0 h
  placed-facts (some p) h =
      let b = both_true (ltb p i) (eqb (kind_byte (f p)) 1) h in
      (ltb-true p i b.0, eqb-true (kind_byte (f p)) 1 b.1)

  pub placed-from : (q : Option ℕ) → Placed f i q → placed_in f i q ≡ true
  unfolding placed_in
  placed-from none e = eq-eqb i 0 e
  placed-from (some p) x = rw (lt-ltb p i x.0) (eq-eqb (kind_byte (f p)) 1 x.1)

  -- its number as own data has it, and back
  pub placed-parent : (q : Option ℕ) → i ≤ 64 → Placed f i q → parent_in 255 (parent_byte q) ≡ q
  unfolding parent_byte
  placed-parent none few x = refl
  placed-parent (some p) few x = rw (ne_eqb p 255 (λ e. omega (arith, x.0))) refl

  -- or as a call has it, where `nobody` is no parent
  pub placed-byte : (nobody p : ℕ) → 255 ≤ nobody → i ≤ 64 → placed_in f i (parent_in nobody p) ≡ true → parent_byte (parent_in nobody p) ≡ min 255 p
  unfolding parent_byte
  placed-byte nobody p far few h = by (eqb p nobody) refl (placed-facts (parent_in nobody p) h)
    where
      by : (b : Bool) → eqb p nobody ≡ b → Placed f i (cond b none (some p)) → parent_byte (cond b none (some p)) ≡ min 255 p
      by true e x = let q = eqb-true p nobody e in omega arith
      by false e x = omega (arith, x.0)

pub placed_same : (f f' : ℕ → List ℕ) (i : ℕ) (q : Option ℕ) → ((j : ℕ) → j < i → kind_byte (f j) ≡ kind_byte (f' j)) → placed_in f i q ≡ true → placed_in f' i q ≡ true
placed_same f f' i none h e = placed-from f' i none (placed-facts f i none e)
placed_same f f' i (some p) h e =
    let x = placed-facts f i (some p) e in
    placed-from f' i (some p) (x.0, sym (h p x.0) ∙ x.1)

-- ---- own data of n objects, each good by itself and in its place

abbrev pub Owned : ℕ → (ℕ → List ℕ) → Type 0
Owned n f = (i : ℕ) → i < n → (block_ok (f i) ≡ true) × (placed_in f i (parent_of (f i)) ≡ true)

-- an edit, or own data put back
pub owned-put : (n i : ℕ) (x : List ℕ) (f : ℕ → List ℕ) → Owned n f → i < n → block_ok x ≡ true → Alike x (f i) → Owned n (upd i x f)
owned-put n i x f o h b a j k = (block, placed_same f (upd i x f) j _ (λ l m. (alike-upd i x f a l).kind) place)
  where
    block : block_ok (upd i x f j) ≡ true
    block = elim (ℕ_discrete j i) [
      | yes e ↦ rw (e, upd_same i x f) b
      | no e ↦ rw (upd_other i x f j e) (o j k).0
    ]

    place : placed_in f j (parent_of (upd i x f j)) ≡ true
    place = rw (← (alike-upd i x f a j).parent) (o j k).1

-- objects taken off
pub owned-off : (n m : ℕ) (f f' : ℕ → List ℕ) → Owned n f → m ≤ n → ((j : ℕ) → j < m → f j ≡ f' j) → Owned m f'
owned-off n m f f' o h e i k =
    let a = o i (omega arith) in
    rw (← e i k) (a.0, placed_same f f' i _ (λ j q. ap kind_byte (e j (omega arith))) a.1)

-- one more
pub owned-add : (n : ℕ) (q : Option ℕ) (x : List ℕ) (f : ℕ → List ℕ) → Owned n f → n ≤ 64 → block_ok x ≡ true → placed_in f n q ≡ true → parent_byte_in x ≡ parent_byte q
    → Owned (n + 1) (upd n x f)
owned-add n q x f o h b t e i k = elim (ℕ_discrete i n) [
  | yes m ↦ rw (m, upd_same n x f) (b, rw (e, placed-parent f n q h (placed-facts f n q t)) last)
  | no m ↦ owned-off n n f (upd n x f) o (omega arith) same i (omega arith)
]
  where
    same : (j : ℕ) → j < n → f j ≡ upd n x f j
    same j l = sym (upd_other n x f j (λ m. omega arith))

    last : placed_in (upd n x f) n q ≡ true
    last = placed_same f (upd n x f) n q (λ j l. ap kind_byte (same j l)) t

-- each has no parent or an earlier one
pub owned-ordered : (n : ℕ) (f : ℕ → List ℕ) → Owned n f → (i : ℕ) → i < n → (parent_byte_in (f i) ≡ 255) ⊎ (parent_byte_in (f i) < i)
owned-ordered n f o i h = by (eqb (parent_byte_in (f i)) 255) refl (placed-facts f i (parent_of (f i)) (o i h).1)
  where
    by : (b : Bool) → eqb (parent_byte_in (f i)) 255 ≡ b → Placed f i (cond b none (some (parent_byte_in (f i)))) → (parent_byte_in (f i) ≡ 255) ⊎ (parent_byte_in (f i) < i)
    by true e x = inl (eqb-true (parent_byte_in (f i)) 255 e)
    by false e x = inr x.0

-- ---- the kept steps after a change, and after an undo

-- an edit keeps own data as it stood
pub put-steps : (n i k m : ℕ) (x u : List ℕ) (f g : ℕ → List ℕ) → Owned n f → steps_ok f g k 0 n ≡ true → i < n → Alike x (f i)
    → step_tag u ≡ 2 → step_object u ≡ i → step_data u ≡ f i → m ≤ suc k → steps_ok (upd i x f) (ahead u g) m 0 n ≡ true
put-steps n i k m x u f g o s h a t e v l =
    let here : Again (upd i x f) n u =
    record {
      tag = t;
      number = omega arith;
      block = rw v (o i h).0;
      same = rw (v, e) (alike-upd i x f a i);
    } in
    let there : steps_ok (upd i x f) g k 0 n ≡ true = steps-same f (upd i x f) g k 0 n (λ j q. alike-upd i x f a j) s in
    steps_on (upd i x f) g k m n u (step-again (upd i x f) n u here) (rw (standing-again n u t) there) l

-- those below n stay where n is altered
below : (n : ℕ) (x : List ℕ) (f : ℕ → List ℕ) (j : ℕ) → j < n → Alike (f j) (upd n x f j)
below n x f j h = alike_same (sym (upd_other n x f j (λ e. omega arith)))

-- an add keeps the new object's number
pub add-steps : (n k m : ℕ) (x u : List ℕ) (f g : ℕ → List ℕ) → steps_ok f g k 0 n ≡ true → step_tag u ≡ 1 → step_object u ≡ n → m ≤ suc k
    → steps_ok (upd n x f) (ahead u g) m 0 (n + 1) ≡ true
add-steps n k m x u f g s t e l =
    let c : standing (n + 1) u ≡ n = standing-add (n + 1) u t ∙ omega arith in
    let there : steps_ok (upd n x f) g k 0 n ≡ true = steps-same f (upd n x f) g k 0 n (below n x f) s in
    steps_on (upd n x f) g k m (n + 1) u
    (step-add (upd n x f) (n + 1) u (record { tag = t; some = omega arith; number = omega arith }))
    (rw c there) l

module _ (n m : ℕ) (f g : ℕ → List ℕ) (s : steps_ok f g (suc m) 0 n ≡ true) where
  -- the latest step is of one kind or of the other
  pub latest : Adds n (g 0) ⊎ Again f n (g 0)
  latest = step-facts f n (g 0) (steps-off f g m n s).0

  -- own data is put back
  pub back-steps : step_tag (g 0) ≡ 2
      → Again f n (g 0) × (steps_ok (upd (step_object (g 0)) (step_data (g 0)) f) (λ j. g (suc j)) m 0 n ≡ true)
  back-steps t = by latest
    where
      by : Adds n (g 0) ⊎ Again f n (g 0) → Again f n (g 0) × (steps_ok (upd (step_object (g 0)) (step_data (g 0)) f) (λ j. g (suc j)) m 0 n ≡ true)
      by (inl a) = absurd (omega arith)
      by (inr a) =
          let r : steps_ok f (λ j. g (suc j)) m 0 n ≡ true = rw (standing-again n (g 0) t) at (steps-off f g m n s).1 in
          (a, steps-same f _ (λ j. g (suc j)) m 0 n (λ j q. alike-upd (step_object (g 0)) (step_data (g 0)) f a.same j) r)

  -- the last object is taken off
  pub off-steps : step_tag (g 0) ≡ 1 → Adds n (g 0) × ((x : List ℕ) → steps_ok (upd (n - 1) x f) (λ j. g (suc j)) m 0 (n - 1) ≡ true)
  off-steps t = by latest
    where
      by : Adds n (g 0) ⊎ Again f n (g 0) → Adds n (g 0) × ((x : List ℕ) → steps_ok (upd (n - 1) x f) (λ j. g (suc j)) m 0 (n - 1) ≡ true)
      by (inr a) = absurd (omega arith)
      by (inl a) =
          let r : steps_ok f (λ j. g (suc j)) m 0 (n - 1) ≡ true = rw (standing-add n (g 0) t) at (steps-off f g m n s).1 in
          (a, λ x. steps-same f (upd (n - 1) x f) (λ j. g (suc j)) m 0 (n - 1) (below (n - 1) x f) r)
