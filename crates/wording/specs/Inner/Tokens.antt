-- The tokens of a tree as the code comes upon them: a row's first part, then each further part with its operator behind it.
use Rattle.std.specs.Prelude.{List, [], ◌∷◌, ◌++◌, Bool, true, false}
use Rattle.condition.specs.Token.{Compare, equal, unequal, below, at_most, above, at_least, Token, push, compares, ands, ors, nots}
use Rattle.wording.specs.Grammar.{Side, Condition, last, or, Term, only, and, Factor, not, paren, compare}
use Rattle.wording.specs.Reader.{Level, condition, term, factor, TreeOf}
use Rattle.wording.specs.Stored.{operand_of}
use Rattle.wording.specs.declared.operators.Operator.{Operator}
use Rattle.wording.specs.declared.operators.Operator.TheVariants.{Equal, Unequal, Below, AtMost, Above, AtLeast, And, Or, Not}

abbrev pub tokens_s : Side → List Token
tokens_s a = push (operand_of a) ∷ []

unfoldable mutual
  pub tokens_c : Condition → List Token
  tokens_c (last t) = tokens_t t
  tokens_c (or t c) = tokens_t t ++ tokens_or c

  -- what stands after `||`: each term, then its or
  pub tokens_or : Condition → List Token
  tokens_or (last t) = tokens_t t ++ (ors ∷ [])
  tokens_or (or t c) = tokens_t t ++ ors ∷ tokens_or c

  pub tokens_t : Term → List Token
  tokens_t (only f) = tokens_f f
  tokens_t (and f t) = tokens_f f ++ tokens_and t

  -- what stands after `&&`: each factor, then its and
  pub tokens_and : Term → List Token
  tokens_and (only f) = tokens_f f ++ (ands ∷ [])
  tokens_and (and f t) = tokens_f f ++ ands ∷ tokens_and t

  pub tokens_f : Factor → List Token
  tokens_f (not f) = tokens_f f ++ (nots ∷ [])
  tokens_f (paren c) = tokens_c c
  tokens_f (compare a r b) = push (operand_of a) ∷ push (operand_of b) ∷ compares r ∷ []

-- of a tree of each level; `joined` where it stands behind the operator of its row
abbrev pub toks : (k : Level) → Bool → TreeOf k → List Token
toks condition false t = tokens_c t
toks condition true t = tokens_or t
toks term false t = tokens_t t
toks term true t = tokens_and t
toks factor b t = tokens_f t

-- the token of each operator of the code, and the operator that a comparison is
abbrev pub token_of : Operator → Token
token_of Equal = compares equal
token_of Unequal = compares unequal
token_of Below = compares below
token_of AtMost = compares at_most
token_of Above = compares above
token_of AtLeast = compares at_least
token_of And = ands
token_of Or = ors
token_of Not = nots

abbrev pub operator_of : Compare → Operator
operator_of equal = Equal
operator_of unequal = Unequal
operator_of below = Below
operator_of at_most = AtMost
operator_of above = Above
operator_of at_least = AtLeast
