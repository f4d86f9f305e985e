-- The tokens end inside the expression, so that padding can't be too long. Assumes nothing.
use native.Mathlib.Omega.{arith}
use Rattle.condition.proofs.Ends.{stored-within}
use Rattle.condition.proofs.is_alone.Goals as goal

pub overflow_mul-result : goal.overflow_mul-result
overflow_mul-result c = omega (arith, c.requires, c.div_ceil.ensures, stored-within c.args.expression.now)
