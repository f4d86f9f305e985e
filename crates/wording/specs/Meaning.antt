-- What a tree means under a table (RULES 12.5): said of the text's own names and numbers, not of what is stored.
use Rattle.std.specs.Prelude.{List, ◌∷◌, ℤ}
use Rattle.std.proofs.Math.Option.{Option, none, some, map}
use Rattle.condition.specs.declared.truths.Truth.{Truth}
use Rattle.condition.specs.declared.truths.Truth.TheVariants.{Unknown}
use Rattle.condition.specs.Token.{Compare, signed}
use Rattle.condition.specs.Table.{Attribute, value_in}
use Rattle.condition.specs.Meaning.{and_of, or_of, not_of, decided, compare_of}
use Rattle.wording.specs.Grammar.{Side, name, integer, Condition, last, or, Term, only, and, Factor, not, paren, compare}
use Rattle.wording.specs.Stored.{wide, integer_of}

-- a missing name is unknown in a comparison
unfoldable pub compared : Compare → Option ℤ → Option ℤ → Truth
compared r none y = Unknown
compared r (some a) none = Unknown
compared r (some a) (some b) = decided (compare_of r a b)

module _ (table : List Attribute) where
  -- an operand's number; none of a name that the table lacks
  unfoldable pub value_s : Side → Option ℤ
  value_s (name b n) = map signed (value_in table (wide (b ∷ n)))
  value_s (integer neg b n) = some (integer_of neg b n)

  unfoldable mutual
    pub means_c : Condition → Truth
    means_c (last t) = means_t t
    means_c (or t c) = means_or (means_t t) c

    -- v, or each term of the row after it, from the left
    pub means_or : Truth → Condition → Truth
    means_or v (last t) = or_of v (means_t t)
    means_or v (or t c) = means_or (or_of v (means_t t)) c

    pub means_t : Term → Truth
    means_t (only f) = means_f f
    means_t (and f t) = means_and (means_f f) t

    -- v, and each factor of the row after it, from the left
    pub means_and : Truth → Term → Truth
    means_and v (only f) = and_of v (means_f f)
    means_and v (and f t) = means_and (and_of v (means_f f)) t

    pub means_f : Factor → Truth
    means_f (not f) = not_of (means_f f)
    means_f (paren c) = means_c c
    means_f (compare a r b) = compared r (value_s a) (value_s b)
