-- Bits of a mask: one bit, 2 ^ k, is tested by `has`; of a meet, a join and what is left when bits are taken away; a mask without bits is 0; and the
-- four generic bits.
use mathlib.Core.Path.{◌≡◌, refl, sym, ap, ap₂, ◌∙◌}
use mathlib.Core.Bool.{Bool, true, false, not, ◌&&◌, ◌||◌}
use Prim.Native.Nat.{ℕ, zero, suc, ◌+◌, ◌*◌, ◌-◌, ◌/◌, ◌%◌, ◌^◌, ◌<◌}
use native.Mathlib.Nat.{mod-lt, mod-eq_of_lt, zero-mul, div-one, div-eq_of_lt}
use native.Mathlib.Omega.{arith}
use lib.Dec.{eqb}
use lib.Bits.{bit_and, bit_or, bit_xor, and_high, and_shr, or_shr, xor_shr, and_mod, or_mod, xor_mod, and_le_r, or_add_and}
use lib.Pow.{pow_pos, pow-add, mod-pow-add}
use borrow.Author.Tests.{ne_eqb, eqb-true}
use Rattle.octets.specs.Bytes.{has}
use Rattle.octets.proofs.Tests.{off}

-- the k-th bit of n as a number, 0 or 1
abbrev bit : ℕ → ℕ → ℕ
bit k n = n / 2 ^ k % 2

bit-lt : (k n : ℕ) → bit k n < 2
bit-lt k n = mod-lt (n / 2 ^ k) (omega arith)

power-is : (k : ℕ) → 2 ^ (1 + k) - 2 ^ k ≡ 2 ^ k
power-is k = omega (arith, pow-add 2 1 k)

-- one bit is tested
pub has-is : (k n : ℕ) → has (2 ^ k) n ≡ eqb (bit k n) 1
has-is k n = ap (λ (x : ℕ). not (eqb x 0)) (ap (bit_and n) (sym (power-is k)) ∙ and_high n 1 k) ∙ by (bit k n) (bit-lt k n)
  where
    by : (b : ℕ) → b < 2 → not (eqb (b * 2 ^ k) 0) ≡ eqb b 1
    by zero h = rw (zero-mul (2 ^ k))
    by (suc zero) h = rw (ne_eqb (1 * 2 ^ k) 0 (λ e. omega (arith, pow_pos k)))
    by (suc (suc b)) h = absurd (omega arith)

-- the lowest bit
pub odd : (n : ℕ) → has 1 n ≡ true → n % 2 ≡ 1
odd n h = ap (λ (x : ℕ). x % 2) (sym (div-one n)) ∙ eqb-true (bit 0 n) 1 (sym (has-is 0 n) ∙ h)

-- of two bits, each 0 or 1
both_bits : (f : ℕ → ℕ → ℕ) (g : Bool → Bool → Bool) → eqb (f 0 0) 1 ≡ g false false → eqb (f 0 1) 1 ≡ g false true → eqb (f 1 0) 1 ≡ g true false
    → eqb (f 1 1) 1 ≡ g true true → (a b : ℕ) → a < 2 → b < 2 → eqb (f a b) 1 ≡ g (eqb a 1) (eqb b 1)
both_bits f g p q r s zero zero h k = p
both_bits f g p q r s zero (suc zero) h k = q
both_bits f g p q r s (suc zero) zero h k = r
both_bits f g p q r s (suc zero) (suc zero) h k = s
both_bits f g p q r s (suc (suc a)) b h k = absurd (omega arith)
both_bits f g p q r s zero (suc (suc b)) h k = absurd (omega arith)
both_bits f g p q r s (suc zero) (suc (suc b)) h k = absurd (omega arith)

-- a bit of a meet, of a join, of what differs
pub has-and : (k a b : ℕ) → has (2 ^ k) (bit_and a b) ≡ (has (2 ^ k) a && has (2 ^ k) b)
has-and k a b =
    has-is k (bit_and a b)
    ∙ ap (λ (x : ℕ). eqb x 1) (ap (λ (x : ℕ). x % 2) (and_shr a b k) ∙ and_mod (a / 2 ^ k) (b / 2 ^ k) 1)
    ∙ both_bits bit_and (λ x y. x && y) refl refl refl refl (bit k a) (bit k b) (bit-lt k a) (bit-lt k b)
    ∙ sym (ap₂ (λ (x y : Bool). x && y) (has-is k a) (has-is k b))

pub has-or : (k a b : ℕ) → has (2 ^ k) (bit_or a b) ≡ (has (2 ^ k) a || has (2 ^ k) b)
has-or k a b =
    has-is k (bit_or a b)
    ∙ ap (λ (x : ℕ). eqb x 1) (ap (λ (x : ℕ). x % 2) (or_shr a b k) ∙ or_mod (a / 2 ^ k) (b / 2 ^ k) 1)
    ∙ both_bits bit_or (λ x y. x || y) refl refl refl refl (bit k a) (bit k b) (bit-lt k a) (bit-lt k b)
    ∙ sym (ap₂ (λ (x y : Bool). x || y) (has-is k a) (has-is k b))

-- a without the bits of b
abbrev pub without : ℕ → ℕ → ℕ
without a b = bit_xor a (bit_and a b)

pub has-without : (k a b : ℕ) → has (2 ^ k) (without a b) ≡ (has (2 ^ k) a && not (has (2 ^ k) b))
has-without k a b =
    has-is k (without a b)
    ∙ ap (λ (x : ℕ). eqb x 1)
    (ap (λ (x : ℕ). x % 2) (xor_shr a (bit_and a b) k ∙ ap (bit_xor (a / 2 ^ k)) (and_shr a b k))
    ∙ xor_mod (a / 2 ^ k) (bit_and (a / 2 ^ k) (b / 2 ^ k)) 1
    ∙ ap (bit_xor (bit k a)) (and_mod (a / 2 ^ k) (b / 2 ^ k) 1))
    ∙ both_bits (λ x y. bit_xor x (bit_and x y)) (λ x y. x && not y) refl refl refl refl (bit k a) (bit k b) (bit-lt k a) (bit-lt k b)
    ∙ sym (ap₂ (λ (x y : Bool). x && not y) (has-is k a) (has-is k b))

-- no bit below m, so nothing below 2 ^ m
low-none : (m n : ℕ) → ((k : ℕ) → k < m → has (2 ^ k) n ≡ false) → n % 2 ^ m ≡ 0
low-none zero n h = omega (arith, mod-lt n (pow_pos 0))
low-none (suc m) n h =
    let r = low-none m n (λ k l. h k (omega arith)) in
    let z : bit m n ≡ 0 = by (bit m n) (bit-lt m n) (sym (has-is m n) ∙ h m (omega arith)) in
    let s : suc m ≡ 1 + m = omega arith in
    ap (λ (j : ℕ). n % 2 ^ j) s ∙ mod-pow-add n 1 m ∙ rw (r, z) (omega (arith, zero-mul (2 ^ m)))
  where
    by : (b : ℕ) → b < 2 → eqb b 1 ≡ false → b ≡ 0
    by zero l e = refl
    by (suc zero) l e = absurd (off refl e)
    by (suc (suc b)) l e = absurd (omega arith)

-- a number below 2 ^ m without bits below m is 0
pub no_bits : (m n : ℕ) → n < 2 ^ m → ((k : ℕ) → k < m → has (2 ^ k) n ≡ false) → n ≡ 0
no_bits m n l h = sym (mod-eq_of_lt l) ∙ low-none m n h

pub has-zero : (k : ℕ) → has (2 ^ k) 0 ≡ false
has-zero k = refl

-- two numbers that have one bit have common bits
pub has-common : (k n m : ℕ) → has (2 ^ k) n ≡ true → has (2 ^ k) m ≡ true → has m n ≡ true
has-common k n m p q = by (eqb (bit_and n m) 0) refl
  where
    by : (b : Bool) → eqb (bit_and n m) 0 ≡ b → not b ≡ true
    by true e = sym (has-zero k) ∙ (rw (eqb-true (bit_and n m) 0 e) at (has-and k n m)) ∙ rw (p, q)
    by false e = refl

-- a bit above all of a number's
pub has_above : (k n : ℕ) → n < 2 ^ k → has (2 ^ k) n ≡ false
has_above k n l = has-is k n ∙ ap (λ (x : ℕ). eqb (x % 2) 1) (div-eq_of_lt l)

-- ---- the four generic bits, as a number

abbrev generic : ℕ → ℕ
generic n = n / 2 ^ 28 % 2 ^ 4

generic-is : (n : ℕ) → has 0xF0000000 n ≡ not (eqb (generic n) 0)
generic-is n = ap (λ (x : ℕ). not (eqb x 0)) (and_high n 4 28) ∙ by (generic n)
  where
    by : (x : ℕ) → not (eqb (x * 2 ^ 28) 0) ≡ not (eqb x 0)
    by zero = refl
    by (suc x) = rw (ne_eqb (suc x * 2 ^ 28) 0 (λ e. omega arith), ne_eqb (suc x) 0 (λ e. omega arith))

pub generic-or : (a b : ℕ) → has 0xF0000000 (bit_or a b) ≡ (has 0xF0000000 a || has 0xF0000000 b)
generic-or a b =
    generic-is (bit_or a b)
    ∙ ap (λ (x : ℕ). not (eqb x 0)) (ap (λ (x : ℕ). x % 2 ^ 4) (or_shr a b 28) ∙ or_mod (a / 2 ^ 28) (b / 2 ^ 28) 4)
    ∙ by (generic a) (generic b)
    ∙ sym (ap₂ (λ (x y : Bool). x || y) (generic-is a) (generic-is b))
  where
    by : (x y : ℕ) → not (eqb (bit_or x y) 0) ≡ (not (eqb x 0) || not (eqb y 0))
    by zero y = refl
    by (suc x) y = rw (ne_eqb (bit_or (suc x) y) 0 (λ e. omega (arith, or_add_and (suc x) y, and_le_r (suc x) y)), ne_eqb (suc x) 0 (λ e. omega arith))

-- a number below them has none of them
pub below-generic : (n : ℕ) → n < 2 ^ 28 → has 0xF0000000 n ≡ false
below-generic n l = generic-is n ∙ ap (λ (x : ℕ). not (eqb (x % 2 ^ 4) 0)) (div-eq_of_lt l)
