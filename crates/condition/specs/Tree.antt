-- The same meaning a second time: by the tree of the expression (RULES 11.7).
use Rattle.std.specs.Prelude.{ℕ, List, [], ◌∷◌, ◌++◌, not}
use Rattle.condition.specs.declared.truths.Truth.{Truth}
use Rattle.condition.specs.Token.{Compare, Operand, name, Token, push, compares, exists, ands, ors, nots}
use Rattle.condition.specs.Table.{Attribute, value_in, missing}
use Rattle.condition.specs.Meaning.{and_of, or_of, not_of, decided, value_of, comparing}

pub data Formula : Type 0 where
  comparison : Compare → Operand → Operand → Formula
  existence : List ℕ → Formula
  conjunction : Formula → Formula → Formula
  disjunction : Formula → Formula → Formula
  negation : Formula → Formula

-- the postfix form that a tree spells: each operator behind what it is of
unfoldable pub spelt : Formula → List Token
spelt (comparison c a b) = push a ∷ push b ∷ compares c ∷ []
spelt (existence n) = push (name n) ∷ exists ∷ []
spelt (conjunction a b) = spelt a ++ (spelt b ++ (ands ∷ []))
spelt (disjunction a b) = spelt a ++ (spelt b ++ (ors ∷ []))
spelt (negation a) = spelt a ++ (nots ∷ [])

-- what a tree says under a table
unfoldable pub meaning : List Attribute → Formula → Truth
meaning table (comparison c a b) = comparing c (value_of table a) (value_of table b)
meaning table (existence n) = decided (not (missing (value_in table n)))
meaning table (conjunction a b) = and_of (meaning table a) (meaning table b)
meaning table (disjunction a b) = or_of (meaning table a) (meaning table b)
meaning table (negation a) = not_of (meaning table a)
