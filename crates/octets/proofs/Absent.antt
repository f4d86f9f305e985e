-- What a number that is 0 where there is none says as an option, and back.
use mathlib.Core.Path.{◌≡◌, refl}
use Rattle.std.specs.Prelude.{ℕ, zero, suc, ◌<◌, Some, None}
use native.Mathlib.Omega.{arith}
use Rattle.octets.specs.Absent.{unless_zero}

pub unless_zero-some : (n : ℕ) → 0 < n → unless_zero n ≡ Some n
unfolding unless_zero
unless_zero-some zero h = absurd (omega (arith, h))
unless_zero-some (suc n) h = refl

pub unless_zero-none : (n : ℕ) → n ≡ 0 → unless_zero n ≡ None
unfolding unless_zero
unless_zero-none n e = rw e refl

pub some-unless_zero : (n m : ℕ) → unless_zero n ≡ Some m → (n ≡ m) × (0 < m)
unfolding unless_zero
some-unless_zero zero m h = cc
some-unless_zero (suc n) m h = let e : suc n ≡ m = cc in (e, omega (arith, e))

pub none-unless_zero : (n : ℕ) → unless_zero n ≡ None → n ≡ 0
unfolding unless_zero
none-unless_zero zero h = refl
none-unless_zero (suc n) h = cc
