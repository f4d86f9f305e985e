-- Rows of parts, in the code and in the reader.
use Rattle.std.specs.Prelude.{ℕ}
use Rattle.wording.specs.declared.conditions.Row.{Row}
use Rattle.wording.specs.declared.conditions.Row.TheVariants.{Condition, Term}
use Rattle.wording.specs.declared.operators.Operator.{Operator}
use Rattle.wording.specs.declared.operators.Operator.TheVariants.{And, Or}
use Rattle.wording.specs.Reader.{Level, condition, term, factor}

-- what it is, and what its parts are
abbrev pub row_of : Row → Level
row_of Condition = condition
row_of Term = term

abbrev pub part_of : Row → Level
part_of Condition = term
part_of Term = factor

-- the byte that stands twice between two parts, and the operator that it is
abbrev pub sign_in : Row → ℕ
sign_in Condition = 124
sign_in Term = 38

abbrev pub operator_in : Row → Operator
operator_in Condition = Or
operator_in Term = And
