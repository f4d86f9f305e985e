-- Operands and comparisons where they lie in a text.
use Rattle.std.specs.Prelude.{ℕ, ◌-◌, Bool, List, length, Result, Ok, Err}
use Rattle.condition.specs.Token.{Compare}
use Rattle.wording.specs.declared.operands.Operand.{Operand}
use Rattle.wording.specs.declared.operands.Operand.TheVariants.{Name, Number}
use Rattle.wording.specs.declared.operators.Operator.{Operator}
use Rattle.wording.specs.declared.walk.Wrong.{Wrong}
use Rattle.wording.specs.Inner.Tokens.{operator_of}
use Rattle.wording.specs.Inner.Walk.{wrong}
use Rattle.wording.specs.Grammar.{digit_of, val, Side, name, integer}
use Rattle.wording.specs.Reader.{Res, good, bad, out}

-- what is found, of a text of so many bytes, by what its reader gives
abbrev pub digits_found : ℕ → Bool → ℕ → Res (List ℕ) → Result Operand Wrong
digits_found len neg v (good n l) = Ok (Number neg (val v n) (len - length l))
digits_found len neg v (bad l) = Err (wrong (len - length l))
digits_found len neg v out = Err (wrong 0)

abbrev pub found_of : ℕ → Res Side → Result Operand Wrong
found_of len (good (name b n) l) = Ok (Name (len - length l))
found_of len (good (integer neg b n) l) = Ok (Number neg (val (digit_of b) n) (len - length l))
found_of len (bad l) = Err (wrong (len - length l))
found_of len out = Err (wrong 0)

-- a comparison, and where it ends
abbrev pub sign : Operator → ℕ → Result (Operator × ℕ) Wrong
sign op end = Ok (op, end)

abbrev pub sign_of : ℕ → Res Compare → Result (Operator × ℕ) Wrong
sign_of len (good c l) = sign (operator_of c) (len - length l)
sign_of len (bad l) = Err (wrong (len - length l))
sign_of len out = Err (wrong 0)
