-- Tests of each bit.
use mathlib.Core.Path.{◌≡◌, refl, sym, ap, ap₂, ◌∙◌}
use mathlib.Core.Bool.{Bool, true, false, ◌&&◌}
use Prim.Native.Nat.{ℕ, zero, suc, ◌^◌, ◌<◌}
use native.Mathlib.Decide.{ℕ_discrete}
use native.Mathlib.Omega.{arith}
use Rattle.octets.proofs.Tests.{both_true}
use Rattle.access.specs.Open.{each_bit}

-- two tests are equal where each holds if the other does
pub both_ways : (a b : Bool) → (a ≡ true → b ≡ true) → (b ≡ true → a ≡ true) → a ≡ b
both_ways true b f g = sym (f refl)
both_ways false true f g = g refl
both_ways false false f g = refl

-- two tests that hold, at once
pub both_hold : {a b : Bool} → a ≡ true → b ≡ true → (a && b) ≡ true
both_hold p q = rw (p, q)

-- of four tests, the middle two change places
mixed : (a b c d : Bool) → ((a && b) && (c && d)) ≡ ((a && c) && (b && d))
mixed true true c d = refl
mixed true false true d = refl
mixed true false false d = refl
mixed false b c d = refl

module _ (P Q : ℕ → Bool) where
  -- tests that are the same at each bit
  pub each_same : (n : ℕ) → ((k : ℕ) → k < n → P (2 ^ k) ≡ Q (2 ^ k)) → each_bit n P ≡ each_bit n Q
  unfolding each_bit
  each_same zero h = refl
  each_same (suc n) h = ap₂ (λ (x y : Bool). x && y) (h n (omega arith)) (each_same n (λ k l. h k (omega arith)))

  -- two tests at once hold of each bit where each of them does
  pub each_and : (n : ℕ) → each_bit n (λ b. P b && Q b) ≡ (each_bit n P && each_bit n Q)
  unfolding each_bit
  each_and zero = refl
  each_and (suc n) = ap (λ (x : Bool). (P (2 ^ n) && Q (2 ^ n)) && x) (each_and n) ∙ mixed (P (2 ^ n)) (Q (2 ^ n)) (each_bit n P) (each_bit n Q)

module _ (P : ℕ → Bool) where
  -- a test that holds of every bit
  pub each-true : (n : ℕ) → ((k : ℕ) → k < n → P (2 ^ k) ≡ true) → each_bit n P ≡ true
  unfolding each_bit
  each-true zero h = refl
  each-true (suc n) h = both_hold (h n (omega arith)) (each-true n (λ k l. h k (omega arith)))

  -- a test that holds of each bit holds of any one of them
  pub each_at : (n k : ℕ) → each_bit n P ≡ true → k < n → P (2 ^ k) ≡ true
  unfolding each_bit
  each_at zero k e l = absurd (omega arith)
  each_at (suc n) k e l =
      let f = both_true (P (2 ^ n)) (each_bit n P) e in
      elim (ℕ_discrete k n) [ yes p ↦ ap (λ (j : ℕ). P (2 ^ j)) p ∙ f.0 | no q ↦ each_at n k f.1 (omega arith) ]
