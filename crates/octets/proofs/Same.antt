-- Laws of equal bytes.
use mathlib.Core.Path.{◌≡◌, refl, sym, ap, ap₂, ◌∙◌}
use mathlib.Core.Bool.{Bool, true, false, ◌&&◌, and_assoc}
use mathlib.Core.List.{List, [], ◌∷◌, ◌++◌}
use Prim.Native.Nat.{ℕ, ◌+◌, ◌-◌, ◌≤◌, ◌<◌}
use native.Mathlib.Omega.{arith}
use lib.ListN.{length, get_or, take, drop, length-drop, take-append-drop}
use lib.Seq.{get_or-take, get_or-drop, drop-drop, length-take-le}
use lib.Dec.{eqb}
use lib.Pointwise.{pointwise}
use Rattle.std.specs.Prelude.{nat_eq}
use borrow.Author.Tests.{eq-eqb, eqb-true}
use Rattle.octets.specs.Bytes.{Bytes, le, same_bytes}
use Rattle.octets.proofs.Tests.{both_true, false-or}
use Rattle.octets.proofs.Little.{le-append, le_same, bytes_drop}

-- a test that says whether two lists are the same
pub same_true : (a b : List ℕ) → same_bytes a b ≡ true → a ≡ b
unfolding same_bytes
same_true [] [] h = refl
same_true [] (b ∷ bs) h = cc
same_true (a ∷ r) [] h = cc
same_true (a ∷ r) (b ∷ bs) h =
    let f = both_true (eqb a b) (same_bytes r bs) h in
    ap₂ (λ (x : ℕ) (y : List ℕ). x ∷ y) (eqb-true a b f.0) (same_true r bs f.1)

pub same_refl : (a : List ℕ) → same_bytes a a ≡ true
unfolding same_bytes
same_refl [] = refl
same_refl (a ∷ r) = rw (eq-eqb a a refl) (same_refl r)

pub same-yes : (a b : List ℕ) → a ≡ b → same_bytes a b ≡ true
same-yes a b e = rw e (same_refl b)

pub same-no : (a b : List ℕ) → (a ≡ b → ⊥) → same_bytes a b ≡ false
same-no a b f = false-or (same_bytes a b) (λ h. f (same_true a b h))

-- lists of other lengths are not the same
pub same_length : (a b : List ℕ) → (length a ≡ length b → ⊥) → same_bytes a b ≡ false
same_length a b f = same-no a b (λ e. f (ap length e))

-- nor are those with another byte at a place counted from the end
pub other_byte : (k : ℕ) (s h : List ℕ) (at end : ℕ) → 0 < k → at + k ≤ end → end ≤ length h → (get_or h (end - k) 0 ≡ get_or s (length s - k) 0 → ⊥)
    → same_bytes (take (end - at) (drop at h)) s ≡ false
other_byte k s h at end z p q f =
    let a = take (end - at) (drop at h) in
    let l : length a ≡ end - at = length-take-le (end - at) (drop at h) (omega (arith, length-drop at h)) in
    let e : at + (length a - k) ≡ end - k = omega (arith, l) in
    let m : get_or h (end - k) 0 ≡ get_or a (length a - k) 0 =
    ap (λ (n : ℕ). get_or h n 0) (sym e) ∙ sym (get_or-take (end - at) (drop at h) (length a - k) 0 (omega (arith, l)) ∙ get_or-drop at h (length a - k) 0) in
    same-no a s (λ r. f (m ∙ ap (λ (b : List ℕ). get_or b (length b - k) 0) r))

-- bytes are compared by numbers of any width
same-split : (p q r t : List ℕ) → length p ≡ length r → same_bytes (p ++ q) (r ++ t) ≡ (same_bytes p r && same_bytes q t)
unfolding same_bytes
same-split [] q [] t h = refl
same-split [] q (y ∷ r) t h = absurd (omega arith)
same-split (x ∷ p) q [] t h = absurd (omega arith)
same-split (x ∷ p) q (y ∷ r) t h = ap (λ (z : Bool). eqb x y && z) (same-split p q r t (omega arith)) ∙ sym (and_assoc (eqb x y) (same_bytes p r) (same_bytes q t))

module _ (k i : ℕ) (a b : List ℕ) (ha : i + k ≤ length a) (hb : i + k ≤ length b) where
  there : (s : List ℕ) → i + k ≤ length s → k ≤ length (drop i s)
  there s h = omega (arith, length-drop i s)

  next-split : same_bytes (drop i a) (drop i b) ≡ (same_bytes (take k (drop i a)) (take k (drop i b)) && same_bytes (drop (i + k) a) (drop (i + k) b))
  next-split =
      let x = drop i a in
      let y = drop i b in
      ap₂ same_bytes (sym (take-append-drop k x)) (sym (take-append-drop k y))
      ∙ same-split (take k x) (drop k x) (take k y) (drop k y) (length-take-le k x (there a ha) ∙ sym (length-take-le k y (there b hb)))
      ∙ ap₂ (λ (u v : List ℕ). same_bytes (take k x) (take k y) && same_bytes u v) (drop-drop k i a) (drop-drop k i b)

  number_in : (s : List ℕ) → i + k ≤ length s → le k (take k (drop i s)) ≡ le k (drop i s)
  number_in s h =
      sym (le-append k (take k (drop i s)) (drop k (drop i s)) (omega (arith, length-take-le k (drop i s) (there s h)))) ∙ ap (le k) (take-append-drop k (drop i s))

  -- the next k bytes spell other numbers
  pub next-differs : (le k (drop i a) ≡ le k (drop i b) → ⊥) → same_bytes (drop i a) (drop i b) ≡ false
  next-differs f = next-split ∙ rw (same-no (take k (drop i a)) (take k (drop i b)) (λ e. f (sym (number_in a ha) ∙ ap (le k) e ∙ number_in b hb)))

  -- they spell the same one, so those behind them are left to compare
  pub next-same : Bytes a → Bytes b → le k (drop i a) ≡ le k (drop i b) → same_bytes (drop i a) (drop i b) ≡ same_bytes (drop (i + k) a) (drop (i + k) b)
  next-same da db e =
      let s : take k (drop i a) ≡ take k (drop i b) =
      le_same k (drop i a) (drop i b) (there a ha) (there b hb) (bytes_drop i a da) (bytes_drop i b db) e in
      next-split ∙ rw (same-yes (take k (drop i a)) (take k (drop i b)) s)

-- std's test of two slices is the one by bytes
pub same-pointwise : (a b : List ℕ) → pointwise nat_eq a b ≡ same_bytes a b
unfolding same_bytes
same-pointwise [] [] = refl
same-pointwise [] (y ∷ b) = refl
same-pointwise (x ∷ a) [] = refl
same-pointwise (x ∷ a) (y ∷ b) = ap (λ t. eqb x y && t) (same-pointwise a b)
