-- How many tokens and bytes a text can come to.
use mathlib.Core.Path.{◌≡◌, ap, ◌∙◌}
use mathlib.Core.Bool.{true, false}
use mathlib.Core.List.{List, [], ◌∷◌, ◌++◌, append_assoc}
use Prim.Native.Nat.{ℕ, ◌+◌, ◌*◌, ◌≤◌}
use native.Mathlib.Omega.{arith}
use lib.ListN.{length, length-append}
use Rattle.condition.specs.Token.{Compare, equal, unequal, below, at_most, above, at_least, Token, push, compares, ands, ors, nots}
use Rattle.wording.specs.Grammar.{Side, name, integer, Condition, last, or, Term, only, and, Factor, not, paren, compare, text_s, text_r, text_c, text_t, text_f}
use Rattle.wording.specs.Stored.{integer_of, word_for, operand_of, token_bytes, bytes_all}
use Rattle.wording.specs.Inner.Tokens.{tokens_c, tokens_or, tokens_t, tokens_and, tokens_f}
use Rattle.wording.proofs.Longs.{number-long, name-long, sign-long, and-long, or_long, not-long, bytes-append}

-- the tokens l of the text t, with so many comparisons in it; e operators besides, that join it to what stands before
pub record Small (e : ℕ) (l : List Token) (t : List ℕ) : Type 0 where
  pub comparisons : ℕ
  -- at most one token for each byte of text
  pub few : length l ≤ length t + e
  -- at least three tokens for a comparison, and one that joins it to the next
  pub many : 4 * comparisons + e ≤ length l + 1
  -- an operand has at most 9 bytes, and 2 for each of its text
  pub size : length (bytes_all l) ≤ 14 * comparisons + 2 * length t + 3 + e

operand_small : (a : Side) → (length (token_bytes (push (operand_of a))) ≤ 9 + 2 * length (text_s a)) × (1 ≤ length (text_s a))
unfolding operand_of text_s
operand_small (name b n) = (omega (arith, name-long (b ∷ n)), omega arith)
operand_small (integer true b n) = (omega (arith, number-long (word_for (integer_of true b n))), omega arith)
operand_small (integer false b n) = (omega (arith, number-long (word_for (integer_of false b n))), omega arith)

sign-some : (r : Compare) → 1 ≤ length (text_r r)
unfolding text_r
sign-some equal = omega arith
sign-some unequal = omega arith
sign-some below = omega arith
sign-some at_most = omega arith
sign-some above = omega arith
sign-some at_least = omega arith

-- bytes of two rows of tokens, and of one token more
bytes-both : (l m : List Token) → length (bytes_all (l ++ m)) ≡ length (bytes_all l) + length (bytes_all m)
bytes-both l m = ap length (bytes-append l m) ∙ length-append (bytes_all l) (bytes_all m)

bytes_one : (t : Token) → length (bytes_all (t ∷ [])) ≡ length (token_bytes t)
unfolding bytes_all
bytes_one t = omega (arith, length-append (token_bytes t) [])

small-op : (l : List Token) (t : List ℕ) (o : Token) → length (token_bytes o) ≡ 1 → Small 0 l t → Small 1 (l ++ (o ∷ [])) t
small-op l t o h a =
    let n = length-append l (o ∷ []) in
    let b = bytes-both l (o ∷ []) in
    let k = a.few in
    let m = a.many in
    let z = a.size in
    record { comparisons = a.comparisons; few = omega arith; many = omega arith; size = omega (arith, bytes_one o) }

-- a row's parts: l of the text t, then m, joined to it, of the text u behind two bytes
small_row : (e : ℕ) (l m : List Token) (t u v : List ℕ) → Small e l t → Small 1 m u → length v ≡ length t + (2 + length u) → Small e (l ++ m) v
small_row e l m t u v a b h =
    let n = length-append l m in
    let d = bytes-both l m in
    let f = a.few in
    let g = b.few in
    let i = a.many in
    let j = b.many in
    let x = a.size in
    let y = b.size in
    record { comparisons = a.comparisons + b.comparisons; few = omega arith; many = omega arith; size = omega arith }

row-length : (t : List ℕ) (x : ℕ) (u : List ℕ) → length (t ++ x ∷ x ∷ u) ≡ length t + (2 + length u)
row-length t x u = let h = length-append t (x ∷ x ∷ u) in omega arith

small-comparison : (a : Side) (r : Compare) (b : Side) → Small 0 (tokens_f (compare a r b)) (text_f (compare a r b))
unfolding tokens_c text_f bytes_all
small-comparison a r b =
    let x = operand_small a in
    let y = operand_small b in
    let z = sign-some r in
    let p = length-append (text_s a) (text_r r ++ text_s b) in
    let q = length-append (text_r r) (text_s b) in
    let u = length-append (token_bytes (push (operand_of a))) (token_bytes (push (operand_of b)) ++ (token_bytes (compares r) ++ [])) in
    let v = length-append (token_bytes (push (operand_of b))) (token_bytes (compares r) ++ []) in
    let w = length-append (token_bytes (compares r)) [] in
    let k = sign-long r in
    record { comparisons = 1; few = omega arith; many = omega arith; size = omega arith }

-- a ! before, and parentheses around
small-not : (l : List Token) (t : List ℕ) → Small 0 l t → Small 0 (l ++ (nots ∷ [])) (33 ∷ t)
small-not l t a =
    let b = small-op l t nots not-long a in
    let f = b.few in
    let m = b.many in
    let z = b.size in
    record { comparisons = b.comparisons; few = omega arith; many = omega arith; size = omega arith }

small-paren : (l : List Token) (t : List ℕ) → Small 0 l t → Small 0 l (40 ∷ (t ++ (41 ∷ [])))
small-paren l t a =
    let n = length-append t (41 ∷ []) in
    let f = a.few in
    let m = a.many in
    let z = a.size in
    record { comparisons = a.comparisons; few = omega arith; many = m; size = omega arith }

mutual
  unfolding tokens_c text_c

  pub small-C : (c : Condition) → Small 0 (tokens_c c) (text_c c)
  small-C (last t) = small-T t
  small-C (or t c) = small_row 0 (tokens_t t) (tokens_or c) (text_t t) (text_c c) (text_c (or t c)) (small-T t) (small-Or c) (row-length (text_t t) 124 (text_c c))

  small-Or : (c : Condition) → Small 1 (tokens_or c) (text_c c)
  small-Or (last t) = small-op (tokens_t t) (text_t t) ors or_long (small-T t)
  small-Or (or t c) =
      rw (← append_assoc (tokens_t t) (ors ∷ []) (tokens_or c))
      (small_row 1 (tokens_t t ++ (ors ∷ [])) (tokens_or c) (text_t t) (text_c c) (text_c (or t c)) (small-op (tokens_t t) (text_t t) ors or_long (small-T t)) (small-Or c)
      (row-length (text_t t) 124 (text_c c)))

  small-T : (t : Term) → Small 0 (tokens_t t) (text_t t)
  small-T (only f) = small-F f
  small-T (and f t) = small_row 0 (tokens_f f) (tokens_and t) (text_f f) (text_t t) (text_t (and f t)) (small-F f) (small-And t) (row-length (text_f f) 38 (text_t t))

  small-And : (t : Term) → Small 1 (tokens_and t) (text_t t)
  small-And (only f) = small-op (tokens_f f) (text_f f) ands and-long (small-F f)
  small-And (and f t) =
      rw (← append_assoc (tokens_f f) (ands ∷ []) (tokens_and t))
      (small_row 1 (tokens_f f ++ (ands ∷ [])) (tokens_and t) (text_f f) (text_t t) (text_t (and f t)) (small-op (tokens_f f) (text_f f) ands and-long (small-F f)) (small-And t)
      (row-length (text_f f) 38 (text_t t)))

  small-F : (f : Factor) → Small 0 (tokens_f f) (text_f f)
  small-F (not f) = small-not (tokens_f f) (text_f f) (small-F f)
  small-F (paren c) = small-paren (tokens_c c) (text_c c) (small-C c)
  small-F (compare a r b) = small-comparison a r b
