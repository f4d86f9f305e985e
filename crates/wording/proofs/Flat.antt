-- The tokens that the code comes upon are those of the formula.
use mathlib.Core.Path.{◌≡◌, refl, sym}
use mathlib.Core.List.{◌++◌, append_assoc}
use Rattle.condition.specs.Tree.{Formula, conjunction, disjunction, spelt}
use Rattle.wording.specs.Grammar.{Condition, last, or, Term, only, and, Factor, not, paren, compare}
use Rattle.wording.specs.Stored.{formula_c, or_all, formula_t, and_all, formula_f, tokens_of}
use Rattle.wording.specs.Inner.Tokens.{tokens_c, tokens_or, tokens_t, tokens_and, tokens_f}

mutual
  unfolding spelt formula_c tokens_c

  pub condition-flat : (c : Condition) → tokens_c c ≡ spelt (formula_c c)
  condition-flat (last t) = term-flat t
  condition-flat (or t c) = rw (term-flat t) (sym (or-flat (formula_t t) c))

  -- a row behind a: the tokens of a, then those behind `||`
  pub or-flat : (a : Formula) (c : Condition) → spelt (or_all a c) ≡ spelt a ++ tokens_or c
  or-flat a (last t) = rw (term-flat t)
  or-flat a (or t c) = rw (or-flat (disjunction a (formula_t t)) c, term-flat t) (simp append_assoc)

  pub term-flat : (t : Term) → tokens_t t ≡ spelt (formula_t t)
  term-flat (only f) = factor-flat f
  term-flat (and f t) = rw (factor-flat f) (sym (and-flat (formula_f f) t))

  -- the same behind `&&`
  pub and-flat : (a : Formula) (t : Term) → spelt (and_all a t) ≡ spelt a ++ tokens_and t
  and-flat a (only f) = rw (factor-flat f)
  and-flat a (and f t) = rw (and-flat (conjunction a (formula_f f)) t, factor-flat f) (simp append_assoc)

  pub factor-flat : (f : Factor) → tokens_f f ≡ spelt (formula_f f)
  factor-flat (not f) = rw (factor-flat f)
  factor-flat (paren c) = condition-flat c
  factor-flat (compare a r b) = refl

-- the code's tokens are the formula's
pub tokens-flat : (c : Condition) → tokens_c c ≡ tokens_of c
tokens-flat c = condition-flat c
