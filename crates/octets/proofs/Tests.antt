-- From a test to its fact and back, and what a refusal that would contradict leaves.
use mathlib.Core.Path.{◌≡◌, refl}
use mathlib.Core.Bool.{Bool, true, false, ◌&&◌}
use Prim.Native.Nat.{ℕ, ◌≤◌, ◌<◌}
use native.Mathlib.Nat.{lt_of_not-le}
use native.Mathlib.Decide.{dec_le, ℕ_discrete}
use native.Mathlib.Omega.{arith}
use borrow.Author.Tests.{eq-eqb, ne_eqb, le-leb, lt-leb, lt-ltb, le-ltb}

-- a decided test computes
pub ruleset tests = (eq-eqb, ne_eqb, le-leb, lt-leb, lt-ltb, le-ltb)

pub both_true : (a b : Bool) → (a && b) ≡ true → (a ≡ true) × (b ≡ true)
both_true true b h = (refl, h)
both_true false b h = let z : ◌≡◌ {A = ℕ} 0 1 = cc in absurd (omega arith)

pub le-or : (a b : ℕ) → (b < a → ⊥) → a ≤ b
le-or a b f = elim (dec_le a b) [ yes p ↦ p | no q ↦ absurd (f (lt_of_not-le q)) ]

pub true-or : (b : Bool) → (b ≡ false → ⊥) → b ≡ true
true-or true f = refl
true-or false f = absurd (f refl)

pub false-or : (b : Bool) → (b ≡ true → ⊥) → b ≡ false
false-or true f = absurd (f refl)
false-or false f = refl

pub eq-or : (a b : ℕ) → ((a ≡ b → ⊥) → ⊥) → a ≡ b
eq-or a b f = elim (ℕ_discrete a b) [ yes p ↦ p | no q ↦ absurd (f q) ]

pub off : {o : Bool} → o ≡ true → o ≡ false → ⊥
off p q = let z : ◌≡◌ {A = ℕ} 0 1 = cc in omega arith
