-- Where kept steps apply: own data that agrees in what no change alters, what a step asks of it, and steps that apply each in its turn.
-- Here f gives own data by object number, and g the steps, the latest at 0.
use mathlib.Core.Path.{◌≡◌, refl, sym, ap, ◌∙◌}
use mathlib.Core.Bool.{Bool, true, false, cond, ◌&&◌}
use mathlib.Core.List.{List}
use mathlib.Core.Logic.{◌⊎◌, inl, inr, ◌≢◌}
use Prim.Native.Nat.{ℕ, zero, suc, ◌+◌, ◌-◌, ◌≤◌, ◌<◌}
use native.Mathlib.Nat.{add-zero, zero-add, add_assoc}
use native.Mathlib.Decide.{ℕ_discrete}
use native.Mathlib.Numerals.{one-add}
use native.Mathlib.Omega.{arith}
use lib.Dec.{eqb}
use borrow.Author.Tests.{eq-eqb, ne_eqb, lt-ltb, eqb-true, ltb-true}
use Rattle.octets.proofs.Tests.{both_true}
use Rattle.octets.proofs.Same.{same_true, same-yes}
use Rattle.tree.specs.General.{every}
use Rattle.tree.specs.Held.{block_ok, alike, parent_byte_in, kind_byte, type_of}
use Rattle.tree.specs.Room.{step_tag, step_object, step_data}
use Rattle.tree.specs.Formed.{again_ok, step_ok, standing, steps_ok}
use Rattle.tree.proofs.Tested.{standing-most}

-- ---- a test of every number below n

pub every-at : (t : ℕ → Bool) (n : ℕ) → every t n ≡ true → (i : ℕ) → i < n → t i ≡ true
unfolding every
every-at t zero h i k = absurd (omega arith)
every-at t (suc n) h i k =
    let b = both_true (every t n) (t n) h in
    elim (ℕ_discrete i n) [ yes e ↦ rw e b.1 | no e ↦ every-at t n b.0 i (omega arith) ]

pub every-all : (t : ℕ → Bool) (n : ℕ) → ((i : ℕ) → i < n → t i ≡ true) → every t n ≡ true
unfolding every
every-all t zero h = refl
every-all t (suc n) h = rw (every-all t n (λ i k. h i (omega arith))) (h n (omega arith))

pub every-same : (f g : ℕ → Bool) (n : ℕ) → ((i : ℕ) → i < n → f i ≡ g i) → every f n ≡ every g n
unfolding every
every-same f g zero h = refl
every-same f g (suc n) h = rw (every-same f g n (λ i k. h i (omega arith)), h n (omega arith))

-- ---- one altered, one more in front

-- x in the place of what f gives at i
unfoldable pub upd : ℕ → List ℕ → (ℕ → List ℕ) → ℕ → List ℕ
upd i x f j = cond (eqb j i) x (f j)

pub upd_same : (i : ℕ) (x : List ℕ) (f : ℕ → List ℕ) → upd i x f i ≡ x
unfolding upd
upd_same i x f = rw (eq-eqb i i refl)

pub upd_other : (i : ℕ) (x : List ℕ) (f : ℕ → List ℕ) (j : ℕ) → (j ≢ i) → upd i x f j ≡ f j
unfolding upd
upd_other i x f j h = rw (ne_eqb j i h)

unfoldable pub ahead : List ℕ → (ℕ → List ℕ) → ℕ → List ℕ
ahead u g zero = u
ahead u g (suc j) = g j

-- ---- own data that agrees in what no change alters

pub record Alike (a b : List ℕ) : Type 0 where
  pub parent : parent_byte_in a ≡ parent_byte_in b
  pub kind : kind_byte a ≡ kind_byte b
  pub type : type_of a ≡ type_of b

pub alike-says : (a b : List ℕ) → alike a b ≡ true → Alike a b
unfolding alike
alike-says a b h =
    let p = both_true _ _ h in
    let q = both_true _ _ p.1 in
    record { parent = eqb-true _ _ p.0; kind = eqb-true _ _ q.0; type = same_true _ _ q.1 }

pub alike-said : {a b : List ℕ} → Alike a b → alike a b ≡ true
unfolding alike
alike-said {a} {b} h = rw (eq-eqb _ _ h.parent, eq-eqb _ _ h.kind) (same-yes (type_of a) (type_of b) h.type)

pub alike_refl : (a : List ℕ) → Alike a a
alike_refl a = record { parent = refl; kind = refl; type = refl }

pub alike-sym : {a b : List ℕ} → Alike a b → Alike b a
alike-sym h = record { parent = sym h.parent; kind = sym h.kind; type = sym h.type }

pub alike-trans : {a b c : List ℕ} → Alike a b → Alike b c → Alike a c
alike-trans h k = record { parent = h.parent ∙ k.parent; kind = h.kind ∙ k.kind; type = h.type ∙ k.type }

pub alike_same : {a b : List ℕ} → a ≡ b → Alike a b
alike_same {a} e = rw (← e) (alike_refl a)

-- something alike put in a place
pub alike-upd : (i : ℕ) (x : List ℕ) (f : ℕ → List ℕ) → Alike x (f i) → (j : ℕ) → Alike (f j) (upd i x f j)
alike-upd i x f a j = elim (ℕ_discrete j i) [
  | yes e ↦ rw (e, upd_same i x f) (alike-sym a)
  | no e ↦ rw (upd_other i x f j e) (alike_refl (f j))
]

-- ---- one step

-- it takes the last object off
pub record Adds (c : ℕ) (u : List ℕ) : Type 0 where
  pub tag : step_tag u ≡ 1
  pub some : 0 < c
  pub number : step_object u ≡ c - 1

-- it puts own data back
pub record Again (f : ℕ → List ℕ) (c : ℕ) (u : List ℕ) : Type 0 where
  pub tag : step_tag u ≡ 2
  pub number : step_object u < c
  pub block : block_ok (step_data u) ≡ true
  pub same : Alike (step_data u) (f (step_object u))

module _ (f : ℕ → List ℕ) (c : ℕ) (u : List ℕ) where
  pub step-facts : step_ok f c u ≡ true → Adds c u ⊎ Again f c u
  unfolding step_ok again_ok
  step-facts h = by (eqb (step_tag u) 1) refl h
    where
      by : (b : Bool) → eqb (step_tag u) 1 ≡ b → cond b (eqb (step_object u + 1) c) (eqb (step_tag u) 2 && again_ok f c u) ≡ true → Adds c u ⊎ Again f c u
      by true e k =
          let n = eqb-true (step_object u + 1) c k in
          inl (record { tag = eqb-true _ _ e; some = omega arith; number = omega arith })
      by false e k =
          let p = both_true _ _ k in
          let q = both_true _ _ p.1 in
          let r = both_true _ _ q.1 in
          inr (record { tag = eqb-true _ _ p.0; number = ltb-true _ _ q.0; block = r.0; same = alike-says _ _ r.1 })

  pub step-add : Adds c u → step_ok f c u ≡ true
  unfolding step_ok
  step-add a = rw (eq-eqb _ _ a.tag) (eq-eqb (step_object u + 1) c (omega (arith, a.some, a.number)))

  pub step-again : Again f c u → step_ok f c u ≡ true
  unfolding step_ok again_ok
  step-again a =
      let t : eqb (step_tag u) 1 ≡ false = ne_eqb (step_tag u) 1 (λ e. omega arith) in
      rw (t, eq-eqb _ _ a.tag, lt-ltb _ _ a.number, a.block) (alike-said a.same)

-- how many stand before it
pub standing-add : (c : ℕ) (u : List ℕ) → step_tag u ≡ 1 → standing c u ≡ c - 1
standing-add c u e = rw (eq-eqb _ _ e)

pub standing-again : (c : ℕ) (u : List ℕ) → step_tag u ≡ 2 → standing c u ≡ c
standing-again c u e = let t : eqb (step_tag u) 1 ≡ false = ne_eqb (step_tag u) 1 (λ k. omega arith) in rw t

-- ---- the steps, each in its turn

-- where it applies doesn't hang on what changes alter
step_same : (f f' : ℕ → List ℕ) (c : ℕ) (u : List ℕ) → ((j : ℕ) → j < c → Alike (f j) (f' j)) → step_ok f c u ≡ true → step_ok f' c u ≡ true
step_same f f' c u h e = by (step-facts f c u e)
  where
    by : Adds c u ⊎ Again f c u → step_ok f' c u ≡ true
    by (inl a) = step-add f' c u a
    by (inr a) = step-again f' c u (record { tag = a.tag; number = a.number; block = a.block; same = alike-trans a.same (h (step_object u) a.number) })

pub steps-same : (f f' g : ℕ → List ℕ) (m j c : ℕ) → ((i : ℕ) → i < c → Alike (f i) (f' i)) → steps_ok f g m j c ≡ true → steps_ok f' g m j c ≡ true
unfolding steps_ok
steps-same f f' g zero j c h e = refl
steps-same f f' g (suc m) j c h e =
    let b = both_true _ _ e in
    rw (step_same f f' c (g j) h b.0)
    (steps-same f f' g m (j + 1) (standing c (g j)) (λ i k. h i (omega (arith, standing-most c (g j)))) b.1)

-- only the steps count, not where they stand
pub steps-shift : (f g g' : ℕ → List ℕ) (m a b c : ℕ) → ((j : ℕ) → j < m → g (a + j) ≡ g' (b + j)) → steps_ok f g m a c ≡ steps_ok f g' m b c
unfolding steps_ok
steps-shift f g g' zero a b c h = refl
steps-shift f g g' (suc m) a b c h =
    let e : g a ≡ g' b = simp add-zero at (h 0 (omega arith)) in
    rw e
    (ap (λ (t : Bool). step_ok f c (g' b) && t)
    (steps-shift f g g' m (a + 1) (b + 1) (standing c (g' b)) (λ j k. simp add_assoc (h (1 + j) (omega arith)))))

pub steps-fewer : (f g : ℕ → List ℕ) (k m j c : ℕ) → k ≤ m → steps_ok f g m j c ≡ true → steps_ok f g k j c ≡ true
unfolding steps_ok
steps-fewer f g zero m j c h e = refl
steps-fewer f g (suc k) zero j c h e = absurd (omega arith)
steps-fewer f g (suc k) (suc m) j c h e =
    let b = both_true (step_ok f c (g j)) _ e in
    rw b.0 (steps-fewer f g k m (j + 1) (standing c (g j)) (omega arith) b.1)

-- the latest taken off, and one put on
pub steps-off : (f g : ℕ → List ℕ) (m c : ℕ) → steps_ok f g (suc m) 0 c ≡ true
    → (step_ok f c (g 0) ≡ true) × (steps_ok f (λ j. g (suc j)) m 0 (standing c (g 0)) ≡ true)
unfolding steps_ok
steps-off f g m c e =
    let b = both_true _ _ e in
    (b.0, sym (steps-shift f g (λ j. g (suc j)) m 1 0 (standing c (g 0)) (λ j h. rw (zero-add, one-add))) ∙ b.1)

pub steps_on : (f g : ℕ → List ℕ) (k m c : ℕ) (u : List ℕ) → step_ok f c u ≡ true → steps_ok f g k 0 (standing c u) ≡ true → m ≤ suc k
    → steps_ok f (ahead u g) m 0 c ≡ true
unfolding steps_ok ahead
steps_on f g k zero c u s e h = refl
steps_on f g k (suc m) c u s e h =
    rw s
    (steps-shift f (ahead u g) g m 1 0 (standing c u) (λ j i. rw (zero-add, one-add))
    ∙ steps-fewer f g m k 0 (standing c u) (omega arith) e)
