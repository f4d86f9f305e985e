-- Facts about flags: each is one test, computed at all values below 32 at once.
use mathlib.Core.Path.{◌≡◌, refl}
use mathlib.Core.Bool.{Bool, true, false, not, ◌&&◌, ◌||◌}
use Prim.Native.Nat.{ℕ, zero, suc, ◌≤◌, ◌<◌}
use native.Mathlib.Nat.{not-suc-le-zero}
use native.Mathlib.Decide.{ℕ_discrete}
use native.Mathlib.Omega.{arith}
use lib.Dec.{leb}
use lib.Bits.{bit_or}
use borrow.Author.Tests.{leb-true, not-true}
use Rattle.octets.specs.Bytes.{has}
use Rattle.octets.proofs.Tests.{both_true}
use Rattle.inherit.specs.Copies.{kept_flags}
use Rattle.inherit.specs.Inner.Emit.{flags_by}
use Rattle.inherit.specs.declared.copies.Pass.{Pass}
use Rattle.inherit.specs.declared.copies.Pass.TheVariants.{First, Second, Own, All}

-- a test holds at every number below n
pub all_below : ℕ → (ℕ → Bool) → Bool
all_below zero P = true
all_below (suc n) P = P n && all_below n P

pub below : (n : ℕ) (P : ℕ → Bool) → all_below n P ≡ true → (x : ℕ) → x < n → P x ≡ true
unfolding all_below
below zero P h x l = absurd (not-suc-le-zero l)
below (suc n) P h x l =
    let b = both_true (P n) (all_below n P) h in
    elim (ℕ_discrete x n) [ yes e ↦ rw e b.0 | no d ↦ below n P b.1 x (omega arith) ]

-- of two tests, the one that holds where the other doesn't
other : (a b : Bool) → (a || b) ≡ true → a ≡ false → b ≡ true
other a b h e = rw e at h

-- ID and IO, or IO alone, added
pub has-inherited : (x : ℕ) → x ≤ 31 → has 0x10 (bit_or x 0x18) ≡ true
unfolding all_below
has-inherited x h = below 32 (λ n. has 0x10 (bit_or n 0x18)) refl x (omega arith)

pub inherited-le : (x : ℕ) → x ≤ 31 → bit_or x 0x18 ≤ 31
unfolding all_below
inherited-le x h = leb-true (bit_or x 0x18) 31 (below 32 (λ n. leb (bit_or n 0x18) 31) refl x (omega arith))

pub only-not : (x : ℕ) → x ≤ 31 → has 0x10 x ≡ false → has 0x10 (bit_or x 0x08) ≡ false
unfolding all_below
only-not x h e =
    not-true (has 0x10 (bit_or x 0x08))
    (other (has 0x10 x) (not (has 0x10 (bit_or x 0x08))) (below 32 (λ n. has 0x10 n || not (has 0x10 (bit_or n 0x08))) refl x (omega arith)) e)

-- the first part's flags are ID alone
pub first-has : (x : ℕ) → has 0x10 (flags_by First x) ≡ true
unfolding flags_by kept_flags
first-has x = refl

-- every pass gives known flags
pub by_le : (p : Pass) (x : ℕ) → x ≤ 31 → flags_by p x ≤ 31
unfolding flags_by kept_flags
by_le First x h = omega arith
by_le Second x h = inherited-le x h
by_le Own x h = h
by_le All x h = h
