-- A number that is 0 where there is none, as an option.
use Rattle.std.specs.Prelude.{ℕ, zero, suc, Option, Some, None}

unfoldable pub unless_zero : ℕ → Option ℕ
unless_zero zero = None
unless_zero (suc n) = Some (suc n)
