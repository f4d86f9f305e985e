-- Numbers stand in the order of their keys.
use mathlib.Core.Path.{◌≡◌, refl, sym, ap, ap₂, ◌∙◌}
use mathlib.Core.Bool.{Bool, true, false, cond, not, ◌&&◌}
use Prim.Native.Nat.{ℕ, suc, ◌-◌, ◌≤◌}
use native.Mathlib.Omega.{arith}
use native.Mathlib.Nat.{lt_of_not-le, not-le_of_lt}
use lib.Dec.{eqb, leb, ltb}
use lib.IntN.{pos, negsuc, sub_ℕ}
use lib.Signed.{lt_z, le_z}
use borrow.Author.Tests.{ltb-true, ltb-false, leb-true, leb-false, eqb-true, eqb-false, le-leb, lt-leb, lt-ltb, le-ltb}
use Rattle.octets.proofs.Tests.{both_true, false-or}
use Rattle.condition.specs.Token.{Compare, equal, unequal, below, at_most, above, at_least, signed}
use Rattle.condition.specs.Meaning.{compare_of}
use Rattle.condition.specs.Inner.Cells.{key_of, compare_keys}

-- tests of two facts that follow from each other
leb-same : (a b c d : ℕ) → (a ≤ b → c ≤ d) → (c ≤ d → a ≤ b) → leb a b ≡ leb c d
leb-same a b c d to from = by (leb c d) refl
  where
    by : (t : Bool) → leb c d ≡ t → leb a b ≡ t
    by true e = le-leb a b (from (leb-true c d e))
    by false e = lt-leb a b (lt_of_not-le (λ h. not-le_of_lt (leb-false c d e) (to h)))

-- two numbers are equal where each is at most the other
eqb-both : (x y : ℕ) → (leb x y && leb y x) ≡ eqb x y
eqb-both x y = by (eqb x y) refl
  where
    by : (t : Bool) → eqb x y ≡ t → (leb x y && leb y x) ≡ t
    by true e = let z = eqb-true x y e in rw (le-leb x y (omega arith), le-leb y x (omega arith))
    by false e = false-or (leb x y && leb y x) (λ t. let f = both_true (leb x y) (leb y x) t in eqb-false x y e (omega (arith, leb-true x y f.0, leb-true y x f.1)))

-- a constant taken off both sides leaves the order as it was
module _ (h : ℕ) where
  sub-lt : (x y : ℕ) → lt_z (sub_ℕ x h) (sub_ℕ y h) ≡ ltb x y
  sub-lt x y = by (ltb x h) (ltb y h) refl refl
    where
      by : (a b : Bool) → ltb x h ≡ a → ltb y h ≡ b → lt_z (cond a (negsuc (h - suc x)) (pos (x - h))) (cond b (negsuc (h - suc y)) (pos (y - h))) ≡ ltb x y
      by true true p q = let u = ltb-true x h p in let v = ltb-true y h q in leb-same (suc (h - suc y)) (h - suc x) (suc x) y (omega arith) (omega arith)
      by true false p q = sym (lt-ltb x y (omega (arith, ltb-true x h p, ltb-false y h q)))
      by false true p q = sym (le-ltb x y (omega (arith, ltb-false x h p, ltb-true y h q)))
      by false false p q = let u = ltb-false x h p in let v = ltb-false y h q in leb-same (suc (x - h)) (y - h) (suc x) y (omega arith) (omega arith)

  sub-le : (x y : ℕ) → le_z (sub_ℕ x h) (sub_ℕ y h) ≡ leb x y
  sub-le x y = by (ltb x h) (ltb y h) refl refl
    where
      by : (a b : Bool) → ltb x h ≡ a → ltb y h ≡ b → le_z (cond a (negsuc (h - suc x)) (pos (x - h))) (cond b (negsuc (h - suc y)) (pos (y - h))) ≡ leb x y
      by true true p q = let u = ltb-true x h p in let v = ltb-true y h q in leb-same (h - suc y) (h - suc x) x y (omega arith) (omega arith)
      by true false p q = sym (le-leb x y (omega (arith, ltb-true x h p, ltb-false y h q)))
      by false true p q = sym (lt-leb x y (omega (arith, ltb-false x h p, ltb-true y h q)))
      by false false p q = let u = ltb-false x h p in let v = ltb-false y h q in leb-same (x - h) (y - h) x y (omega arith) (omega arith)

  sub-eq : (x y : ℕ) → (le_z (sub_ℕ x h) (sub_ℕ y h) && le_z (sub_ℕ y h) (sub_ℕ x h)) ≡ eqb x y
  sub-eq x y = ap₂ ◌&&◌ (sub-le x y) (sub-le y x) ∙ eqb-both x y

-- signed numbers compare as their keys do
pub compare-keys : (c : Compare) (a b : ℕ) → compare_of c (signed a) (signed b) ≡ compare_keys c (key_of a) (key_of b)
unfolding compare_of compare_keys signed
compare-keys equal a b = sub-eq 0x8000000000000000 (key_of a) (key_of b)
compare-keys unequal a b = ap not (sub-eq 0x8000000000000000 (key_of a) (key_of b))
compare-keys below a b = sub-lt 0x8000000000000000 (key_of a) (key_of b)
compare-keys at_most a b = sub-le 0x8000000000000000 (key_of a) (key_of b)
compare-keys above a b = sub-lt 0x8000000000000000 (key_of b) (key_of a)
compare-keys at_least a b = sub-le 0x8000000000000000 (key_of b) (key_of a)
