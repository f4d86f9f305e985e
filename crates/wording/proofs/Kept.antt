-- The tokens of a tree in the grammar are such as their bytes hold.
use mathlib.Core.Path.{subst}
use mathlib.Core.Bool.{Bool, true, false}
use mathlib.Core.List.{List, [], ◌∷◌, ◌++◌}
use Prim.Native.Nat.{ℕ, zero, suc, ◌-◌, ◌≤◌, ◌<◌}
use native.Mathlib.Omega.{arith}
use lib.IntN.{ℤ, pos, negsuc}
use lib.ListN.{length, length-append}
use Rattle.condition.specs.Token.{Compare, Token, push, ands, ors, nots}
use Rattle.wording.specs.Grammar.{val, limit, Side, name, integer, Condition, last, or, Term, only, and, Factor, not, paren, compare}
use Rattle.wording.specs.Grammar.{text_s, text_r, text_c, text_t, text_f, ValidS, ValidC, ValidT, ValidF}
use Rattle.wording.specs.Stored.{signed_of, integer_of, word_for, operand_of, tokens_of}
use Rattle.wording.specs.Inner.Tokens.{tokens_c, tokens_or, tokens_t, tokens_and, tokens_f}
use Rattle.wording.proofs.Longs.{length-wide}
use Rattle.wording.proofs.Flat.{tokens-flat}
use Rattle.wording.proofs.Back.{Kept, AllKept}

-- ---- operands

-- a number of signed 64 bits
abbrev pub Fits : ℤ → Type 0
Fits (pos n) = n < 0x8000000000000000
Fits (negsuc n) = n < 0x8000000000000000

pub number_fits : (neg : Bool) (v : ℕ) → v ≤ limit neg → Fits (signed_of neg v)
number_fits true zero h = omega arith
number_fits true (suc n) h = omega arith
number_fits false v h = omega arith

word_small : (z : ℤ) → Fits z → word_for z < 0x10000000000000000
unfolding word_for
word_small (pos n) h = omega arith
word_small (negsuc n) h = omega arith

pub operand-kept : (a : Side) → ValidS a → length (text_s a) ≤ 512 → Kept (push (operand_of a))
unfolding ValidS operand_of text_s Kept
operand-kept (name b n) v h = let e = length-wide (b ∷ n) in (omega arith, omega arith, omega arith)
operand-kept (integer neg b n) v h = word_small (integer_of neg b n) (number_fits neg (val (b - 48) n) v.2)

-- ---- trees

all_append : (a b : List Token) → AllKept a → AllKept b → AllKept (a ++ b)
unfolding AllKept
all_append [] b k h = h
all_append (t ∷ a) b k h = (k.0, all_append a b k.1 h)

-- both sides of `||` and `&&` are short
two-parts : (a : List ℕ) (x : ℕ) (b : List ℕ) → length (a ++ x ∷ x ∷ b) ≤ 512 → (length a ≤ 512) × (length b ≤ 512)
two-parts a x b h = let e = length-append a (x ∷ x ∷ b) in (omega arith, omega arith)

compare-kept : (a : Side) (r : Compare) (b : Side) → ValidS a → ValidS b → length (text_f (compare a r b)) ≤ 512 → AllKept (tokens_f (compare a r b))
unfolding tokens_c text_c AllKept Kept
compare-kept a r b v w h =
    let x = length-append (text_s a) (text_r r ++ text_s b) in
    let y = length-append (text_r r) (text_s b) in
    (operand-kept a v (omega arith), (operand-kept b w (omega arith), (tt, tt)))

mutual
  unfolding tokens_c text_c ValidC AllKept Kept

  kept-C : (c : Condition) (d : ℕ) → ValidC c d → length (text_c c) ≤ 512 → AllKept (tokens_c c)
  kept-C (last t) d v h = kept-T t d v h
  kept-C (or t c) d v h =
      let l = two-parts (text_t t) 124 (text_c c) h in
      all_append (tokens_t t) (tokens_or c) (kept-T t d v.0 l.0) (kept-Or c d v.1 l.1)

  kept-Or : (c : Condition) (d : ℕ) → ValidC c d → length (text_c c) ≤ 512 → AllKept (tokens_or c)
  kept-Or (last t) d v h = all_append (tokens_t t) (ors ∷ []) (kept-T t d v h) (tt, tt)
  kept-Or (or t c) d v h =
      let l = two-parts (text_t t) 124 (text_c c) h in
      all_append (tokens_t t) (ors ∷ tokens_or c) (kept-T t d v.0 l.0) (tt, kept-Or c d v.1 l.1)

  kept-T : (t : Term) (d : ℕ) → ValidT t d → length (text_t t) ≤ 512 → AllKept (tokens_t t)
  kept-T (only f) d v h = kept-F f d v h
  kept-T (and f t) d v h =
      let l = two-parts (text_f f) 38 (text_t t) h in
      all_append (tokens_f f) (tokens_and t) (kept-F f d v.0 l.0) (kept-And t d v.1 l.1)

  kept-And : (t : Term) (d : ℕ) → ValidT t d → length (text_t t) ≤ 512 → AllKept (tokens_and t)
  kept-And (only f) d v h = all_append (tokens_f f) (ands ∷ []) (kept-F f d v h) (tt, tt)
  kept-And (and f t) d v h =
      let l = two-parts (text_f f) 38 (text_t t) h in
      all_append (tokens_f f) (ands ∷ tokens_and t) (kept-F f d v.0 l.0) (tt, kept-And t d v.1 l.1)

  kept-F : (f : Factor) (d : ℕ) → ValidF f d → length (text_f f) ≤ 512 → AllKept (tokens_f f)
  kept-F (not f) d v h = all_append (tokens_f f) (nots ∷ []) (kept-F f d v (omega arith)) (tt, tt)
  kept-F (paren c) d v h = let e = length-append (text_c c) (41 ∷ []) in kept-C c (d - 1) v.1 (omega arith)
  kept-F (compare a r b) d v h = compare-kept a r b v.0 v.1 h

-- all tokens of a text that is short enough
pub kept : (c : Condition) (d : ℕ) → ValidC c d → length (text_c c) ≤ 512 → AllKept (tokens_of c)
kept c d v h = subst AllKept (tokens-flat c) (kept-C c d v h)
