-- The tokens push the operands in the order of the text, and each literal has sign byte 3 and base byte 2.
use mathlib.Core.Path.{◌≡◌, refl, sym, ap, ap₂, ◌∙◌}
use mathlib.Core.List.{List, [], ◌∷◌, ◌++◌, map, map-append, append-nil}
use Prim.Native.Nat.{ℕ, ◌+◌}
use lib.ListN.{length, drop, get_or}
use lib.Seq.{drop-drop, drop-append_seam}
use Rattle.octets.specs.Bytes.{spell}
use Rattle.condition.specs.Token.{Operand, number, Token, push, compares, exists, ands, ors, nots}
use Rattle.wording.specs.Grammar.{Side, Condition, last, or, Term, only, and, Factor, not, paren, compare}
use Rattle.wording.specs.Stored.{operand_of, tokens_of, token_bytes, bytes_all, stored_of}
use Rattle.wording.specs.Inner.Tokens.{tokens_c, tokens_or, tokens_t, tokens_and, tokens_f}
use Rattle.wording.proofs.Longs.{bytes-append}
use Rattle.wording.proofs.Flat.{tokens-flat}

-- ---- the order

-- the operands of a tree from left to right, as its text has them
unfoldable mutual
  pub sides_c : Condition → List Side
  sides_c (last t) = sides_t t
  sides_c (or t c) = sides_t t ++ sides_c c

  pub sides_t : Term → List Side
  sides_t (only f) = sides_f f
  sides_t (and f t) = sides_f f ++ sides_t t

  pub sides_f : Factor → List Side
  sides_f (not f) = sides_f f
  sides_f (paren c) = sides_c c
  sides_f (compare a r b) = a ∷ b ∷ []

-- the operands that tokens push, in their order
unfoldable pub pushed : List Token → List Operand
pushed [] = []
pushed (push o ∷ l) = o ∷ pushed l
pushed (compares r ∷ l) = pushed l
pushed (exists ∷ l) = pushed l
pushed (ands ∷ l) = pushed l
pushed (ors ∷ l) = pushed l
pushed (nots ∷ l) = pushed l

pub pushed-append : (k l : List Token) → pushed (k ++ l) ≡ pushed k ++ pushed l
unfolding pushed
pushed-append [] l = refl
pushed-append (push o ∷ k) l = ap (λ (x : List Operand). o ∷ x) (pushed-append k l)
pushed-append (compares r ∷ k) l = pushed-append k l
pushed-append (exists ∷ k) l = pushed-append k l
pushed-append (ands ∷ k) l = pushed-append k l
pushed-append (ors ∷ k) l = pushed-append k l
pushed-append (nots ∷ k) l = pushed-append k l

-- two parts of a row
both-pushed : (k l : List Token) (a b : List Side) → pushed k ≡ map operand_of a → pushed l ≡ map operand_of b → pushed (k ++ l) ≡ map operand_of (a ++ b)
both-pushed k l a b p q = pushed-append k l ∙ ap₂ (λ (x y : List Operand). x ++ y) p q ∙ sym (map-append operand_of a b)

-- an operator behind a part pushes nothing
then-pushed : (k l : List Token) (a : List Side) → pushed k ≡ map operand_of a → pushed l ≡ [] → pushed (k ++ l) ≡ map operand_of a
then-pushed k l a p q = pushed-append k l ∙ rw (p, q) (append-nil (map operand_of a))

mutual
  unfolding pushed tokens_c sides_c

  order-C : (c : Condition) → pushed (tokens_c c) ≡ map operand_of (sides_c c)
  order-C (last t) = order-T t
  order-C (or t c) = both-pushed (tokens_t t) (tokens_or c) (sides_t t) (sides_c c) (order-T t) (order-Or c)

  order-Or : (c : Condition) → pushed (tokens_or c) ≡ map operand_of (sides_c c)
  order-Or (last t) = then-pushed (tokens_t t) (ors ∷ []) (sides_t t) (order-T t) refl
  order-Or (or t c) = both-pushed (tokens_t t) (ors ∷ tokens_or c) (sides_t t) (sides_c c) (order-T t) (order-Or c)

  order-T : (t : Term) → pushed (tokens_t t) ≡ map operand_of (sides_t t)
  order-T (only f) = order-F f
  order-T (and f t) = both-pushed (tokens_f f) (tokens_and t) (sides_f f) (sides_t t) (order-F f) (order-And t)

  order-And : (t : Term) → pushed (tokens_and t) ≡ map operand_of (sides_t t)
  order-And (only f) = then-pushed (tokens_f f) (ands ∷ []) (sides_f f) (order-F f) refl
  order-And (and f t) = both-pushed (tokens_f f) (ands ∷ tokens_and t) (sides_f f) (sides_t t) (order-F f) (order-And t)

  order-F : (f : Factor) → pushed (tokens_f f) ≡ map operand_of (sides_f f)
  order-F (not f) = then-pushed (tokens_f f) (nots ∷ []) (sides_f f) (order-F f) refl
  order-F (paren c) = order-C c
  order-F (compare a r b) = refl

-- the tokens push the operands in the order of the text
pub text-order : (c : Condition) → pushed (tokens_of c) ≡ map operand_of (sides_c c)
text-order c = ap pushed (sym (tokens-flat c)) ∙ order-C c

-- ---- the literals' bytes

-- what is stored behind the first tokens
pub stored-from : (c : Condition) (p q : List Token) → tokens_of c ≡ p ++ q → drop (4 + length (bytes_all p)) (stored_of c) ≡ bytes_all q
unfolding stored_of
stored-from c p q e =
    sym (drop-drop (length (bytes_all p)) 4 (stored_of c)) ∙ ap (λ (l : List ℕ). drop (length (bytes_all p)) l) (ap bytes_all e ∙ bytes-append p q) ∙ drop-append_seam (bytes_all p) (bytes_all q)

-- a literal's bytes: 04 first, then the word, then the sign byte 3 and the base byte 2
literal-bytes : (w : ℕ) (q : List Token) (s : List ℕ) → s ≡ bytes_all (push (number w) ∷ q) → (get_or s 0 0 ≡ 0x04) × (get_or s 9 0 ≡ 3) × (get_or s 10 0 ≡ 2)
unfolding bytes_all token_bytes spell
literal-bytes w q s e = (rw e, rw e, rw e)

-- wherever a literal stands among the tokens
pub signs-and-bases : (c : Condition) (p : List Token) (w : ℕ) (q : List Token) → tokens_of c ≡ p ++ (push (number w) ∷ q)
    → (get_or (drop (4 + length (bytes_all p)) (stored_of c)) 0 0 ≡ 0x04)
    × (get_or (drop (4 + length (bytes_all p)) (stored_of c)) 9 0 ≡ 3)
    × (get_or (drop (4 + length (bytes_all p)) (stored_of c)) 10 0 ≡ 2)
signs-and-bases c p w q e = literal-bytes w q (drop (4 + length (bytes_all p)) (stored_of c)) (stored-from c p (push (number w) ∷ q) e)
