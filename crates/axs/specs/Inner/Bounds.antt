-- How far a read goes.
use Rattle.std.specs.Prelude.{ℕ, cond, eqb}

-- where what is read next ends at most
unfoldable pub bound_at : ℕ → ℕ
bound_at at = cond (eqb at 0) 5 66112
