-- Masks that the last step mends: below the generic bits, with the bits of the "all" mapping where 10000000 came, and as they are when they come again.
use mathlib.Core.Path.{◌≡◌, ap, ◌∙◌}
use mathlib.Core.Bool.{Bool, true, false, cond, or-true}
use Prim.Native.Nat.{ℕ, ◌^◌, ◌<◌}
use native.Mathlib.Omega.{arith}
use lib.Bits.{bit_and, bit_or, and_le_r, and_mask}
use native.Mathlib.Nat.{mod-eq_of_lt}
use Rattle.octets.specs.Bytes.{has}
use Rattle.octets.proofs.Bits.{has-and, has-or, has_above}
use Rattle.inherit.specs.declared.Mapping.{Mapping}
use Rattle.inherit.specs.Last.{joined, mapped, mends, mended, last_mask}

-- a mended mask is below the generic bits
pub mended-low : (m : Mapping) (x : ℕ) → mended m x < 2 ^ 28
unfolding mended
mended-low m x = omega (arith, and_le_r (joined 0x10000000 x (mapped m x) m.all) 0x0FFFFFFF)

-- it is what the last step leaves under a rule that mends
pub last-mended : (rule : ℕ) (m : Mapping) (x : ℕ) → mends rule ≡ true → last_mask rule m x ≡ mended m x
unfolding last_mask
last-mended rule m x h = rw h

-- and the printed text's under another
pub last-printed : (rule : ℕ) (m : Mapping) (x : ℕ) → mends rule ≡ false → last_mask rule m x ≡ mapped m x
unfolding last_mask
last-printed rule m x h = rw h

-- where 10000000 came, a bit of the "all" mapping that isn't generic is there
pub mended-has : (m : Mapping) (x k : ℕ) → has 0x10000000 x ≡ true → has (2 ^ k) m.all ≡ true → has (2 ^ k) 0x0FFFFFFF ≡ true
    → has (2 ^ k) (mended m x) ≡ true
unfolding mended
mended-has m x k h a n =
    has-and k (joined 0x10000000 x (mapped m x) m.all) 0x0FFFFFFF ∙ rw (h, has-or k (mapped m x) m.all, a, or-true (has (2 ^ k) (mapped m x)), n)

-- a mask below the generic bits goes through unchanged, under any rule and any mapping
module _ (m : Mapping) (x : ℕ) (l : x < 2 ^ 28) where
  joins-nothing : (k y mapping : ℕ) → x < 2 ^ k → joined (2 ^ k) x y mapping ≡ y
  joins-nothing k y mapping h = ap (λ (b : Bool). cond b (bit_or y mapping) y) (has_above k x h)

  mapped-low : mapped m x ≡ x
  unfolding mapped
  mapped-low =
      joins-nothing 29 _ m.execute (omega arith) ∙ joins-nothing 30 _ m.write (omega arith) ∙ joins-nothing 31 x m.read (omega arith)

  mended-same : mended m x ≡ x
  unfolding mended
  mended-same =
      ap (λ (y : ℕ). bit_and y 0x0FFFFFFF) (joins-nothing 28 (mapped m x) m.all (omega arith) ∙ mapped-low) ∙ and_mask x 28 ∙ mod-eq_of_lt l

  pub last-same : (rule : ℕ) → last_mask rule m x ≡ x
  unfolding last_mask
  last-same rule = by (mends rule)
    where
      by : (b : Bool) → cond b (mended m x) (mapped m x) ≡ x
      by true = mended-same
      by false = mapped-low

-- so mending is done once
pub mask-again : (rule r : ℕ) (m n : Mapping) (x : ℕ) → mends rule ≡ true → last_mask r n (last_mask rule m x) ≡ last_mask rule m x
mask-again rule r m n x h = last-same n (last_mask rule m x) (rw (last-mended rule m x h) (mended-low m x)) r
