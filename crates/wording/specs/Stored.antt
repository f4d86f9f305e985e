-- The stored form of a tree (RULES 12.4): its formula, whose tokens stand in text order, and their bytes.
use Rattle.std.specs.Prelude.{ℕ, ◌+◌, ◌-◌, max, Bool, true, false, List, [], ◌∷◌, ◌++◌, ℤ, pos, negsuc, neg_ℤ, length}
use Rattle.octets.specs.Bytes.{spell}
use Rattle.condition.specs.Token.{Compare, equal, unequal, below, at_most, above, at_least, Operand, number, name as named, Token, push, compares, exists, ands, ors, nots}
use Rattle.condition.specs.Tree.{Formula, comparison, existence, conjunction, disjunction, negation, spelt}
use Rattle.wording.specs.Grammar.{digit_of, val, Side, name, integer, Condition, last, or, Term, only, and, Factor, not, paren, compare}

-- ---- operands

-- ASCII as 16-bit units, the low byte first
unfoldable pub wide : List ℕ → List ℕ
wide [] = []
wide (b ∷ n) = b ∷ 0 ∷ wide n

-- the number that an integer's text names
abbrev pub signed_of : Bool → ℕ → ℤ
signed_of true v = neg_ℤ (pos v)
signed_of false v = pos v

abbrev pub integer_of : Bool → ℕ → List ℕ → ℤ
integer_of neg b n = signed_of neg (val (digit_of b) n)

-- 64 bits, two's complement
unfoldable pub word_for : ℤ → ℕ
word_for (pos n) = n
word_for (negsuc n) = 0xFFFFFFFFFFFFFFFF - n

unfoldable pub operand_of : Side → Operand
operand_of (name b n) = named (wide (b ∷ n))
operand_of (integer neg b n) = number (word_for (integer_of neg b n))

-- ---- the formula: rows group to the left

unfoldable mutual
  pub formula_c : Condition → Formula
  formula_c (last t) = formula_t t
  formula_c (or t c) = or_all (formula_t t) c

  -- a, or each term of the row after it
  pub or_all : Formula → Condition → Formula
  or_all a (last t) = disjunction a (formula_t t)
  or_all a (or t c) = or_all (disjunction a (formula_t t)) c

  pub formula_t : Term → Formula
  formula_t (only f) = formula_f f
  formula_t (and f t) = and_all (formula_f f) t

  -- a, and each factor of the row after it
  pub and_all : Formula → Term → Formula
  and_all a (only f) = conjunction a (formula_f f)
  and_all a (and f t) = and_all (conjunction a (formula_f f)) t

  pub formula_f : Factor → Formula
  formula_f (not f) = negation (formula_f f)
  formula_f (paren c) = formula_c c
  formula_f (compare a r b) = comparison r (operand_of a) (operand_of b)

-- its tokens: operands and conditions in the order in which they stand, each operator after its operands
abbrev pub tokens_of : Condition → List Token
tokens_of c = spelt (formula_c c)

-- the most operands and conditions that stand on the stack at once
unfoldable pub deep : Formula → ℕ
deep (comparison c a b) = 2
deep (existence n) = 1
deep (conjunction a b) = max (deep a) (1 + deep b)
deep (disjunction a b) = max (deep a) (1 + deep b)
deep (negation a) = deep a

-- ---- bytes

unfoldable pub code_of : Compare → ℕ
code_of equal = 0x80
code_of unequal = 0x81
code_of below = 0x82
code_of at_most = 0x83
code_of above = 0x84
code_of at_least = 0x85

-- sign byte 3, base byte 2
unfoldable pub token_bytes : Token → List ℕ
token_bytes (push (number w)) = 0x04 ∷ (spell 8 w ++ 3 ∷ 2 ∷ [])
token_bytes (push (named n)) = 0xF8 ∷ (spell 4 (length n) ++ n)
token_bytes (compares r) = code_of r ∷ []
token_bytes exists = 0x87 ∷ []
token_bytes ands = 0xA0 ∷ []
token_bytes ors = 0xA1 ∷ []
token_bytes nots = 0xA2 ∷ []

unfoldable pub bytes_all : List Token → List ℕ
bytes_all [] = []
bytes_all (t ∷ l) = token_bytes t ++ bytes_all l

-- the four bytes at the front, then the tokens, without padding
unfoldable pub stored_of : Condition → List ℕ
stored_of c = 0x61 ∷ 0x72 ∷ 0x74 ∷ 0x78 ∷ bytes_all (tokens_of c)
