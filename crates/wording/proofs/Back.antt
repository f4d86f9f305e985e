-- The bytes of tokens, read back into tokens.
use mathlib.Core.Path.{◌≡◌, refl, sym, ap, ◌∙◌}
use mathlib.Core.Bool.{false}
use mathlib.Core.List.{List, [], ◌∷◌, ◌++◌, append_assoc}
use mathlib.Core.Option.{none, some, map, bind}
use Prim.Native.Nat.{ℕ, zero, suc, ◌+◌, ◌%◌, ◌≤◌, ◌<◌}
use native.Mathlib.Omega.{arith}
use lib.ListN.{length, take, drop, length-append}
use lib.Seq.{take-append_seam, drop_at}
use Rattle.octets.specs.Bytes.{le, spell}
use Rattle.octets.proofs.Little.{le-append, le-spell, length-spell}
use Rattle.octets.proofs.Tests.{tests}
use Rattle.condition.specs.Token.{equal, unequal, below, at_most, above, at_least, number, name, Token, push, compares, exists, ands, ors, nots}
use Rattle.condition.specs.Token.{name_ok, one_to_three, literal_at, name_at, comparison_of, operator_of, token_at, long, long_all, over, tokens_in}
use Rattle.wording.specs.Stored.{code_of, token_bytes, bytes_all}

-- a token that its bytes hold: a number of 64 bits; a name of even length, not 0, in 32 bits
unfoldable pub Kept : Token → Type 0
Kept (push (number w)) = w < 0x10000000000000000
Kept (push (name n)) = (0 < length n) × (length n % 2 ≡ 0) × (length n < 0x100000000)
Kept (compares r) = Unit {0}
Kept exists = Unit {0}
Kept ands = Unit {0}
Kept ors = Unit {0}
Kept nots = Unit {0}

unfoldable pub AllKept : List Token → Type 0
AllKept [] = Unit {0}
AllKept (t ∷ l) = Kept t × AllKept l

-- ---- one token

-- so many bytes spell it
pub long-is : (t : Token) → long t ≡ length (token_bytes t)
unfolding long token_bytes
long-is (push (number w)) = sym (ap suc (length-append (spell 8 w) (3 ∷ 2 ∷ []) ∙ omega (arith, length-spell 8 w)))
long-is (push (name n)) = sym (ap suc (length-append (spell 4 (length n)) n) ∙ omega (arith, length-spell 4 (length n)))
long-is (compares r) = refl
long-is exists = refl
long-is ands = refl
long-is ors = refl
long-is nots = refl

-- a literal's bytes
number-back : (w : ℕ) (r : List ℕ) → w < 0x10000000000000000 → literal_at (0x04 ∷ ((spell 8 w ++ 3 ∷ 2 ∷ []) ++ r)) ≡ some (push (number w))
unfolding literal_at spell one_to_three
number-back w r h =
    let n : 11 ≤ length (0x04 ∷ ((spell 8 w ++ 3 ∷ 2 ∷ []) ++ r)) = omega arith in
    let e : le 8 ((spell 8 w ++ 3 ∷ 2 ∷ []) ++ r) ≡ w =
    ap (le 8) (append_assoc (spell 8 w) (3 ∷ 2 ∷ []) r) ∙ le-append 8 (spell 8 w) (3 ∷ 2 ∷ r) (omega (arith, length-spell 8 w)) ∙ le-spell 8 w h in
    simp (tests, e)

-- a name of a length that fits, of which all bytes are there
name-at : (s n : List ℕ) → Kept (push (name n)) → le 4 (drop 1 s) ≡ length n → 5 + length n ≤ length s → take (length n) (drop 5 s) ≡ n → name_at s ≡ some (push (name n))
unfolding name_at Kept name_ok
name-at s n h e k t = let a = h.0 in let b = h.1 in rw e (simp (tests, t))

-- a name's bytes
name_back : (n r : List ℕ) → Kept (push (name n)) → name_at (0xF8 ∷ ((spell 4 (length n) ++ n) ++ r)) ≡ some (push (name n))
unfolding Kept
name_back n r h =
    let p = spell 4 (length n) in
    let l : length p ≡ 4 = length-spell 4 (length n) in
    let a : (p ++ n) ++ r ≡ p ++ (n ++ r) = append_assoc p n r in
    let m : length (p ++ (n ++ r)) ≡ length p + (length n + length r) = simp length-append in
    name-at (0xF8 ∷ ((p ++ n) ++ r)) n h
    (ap (le 4) a ∙ le-append 4 p (n ++ r) (omega arith) ∙ le-spell 4 (length n) h.2)
    (rw a (omega arith))
    (ap (λ (q : List ℕ). take (length n) (drop 4 q)) a ∙ ap (take (length n)) (drop_at p (n ++ r) 4 l) ∙ take-append_seam n r)

pub token_back : (t : Token) (r : List ℕ) → Kept t → token_at (token_bytes t ++ r) ≡ some t
unfolding token_at token_bytes operator_of comparison_of code_of Kept
token_back (push (number w)) r h = number-back w r h
token_back (push (name n)) r h = name_back n r h
token_back (compares equal) r h = refl
token_back (compares unequal) r h = refl
token_back (compares below) r h = refl
token_back (compares at_most) r h = refl
token_back (compares above) r h = refl
token_back (compares at_least) r h = refl
token_back exists r h = refl
token_back ands r h = refl
token_back ors r h = refl
token_back nots r h = refl

-- no token begins with a byte 0
begins : (t : Token) (r : List ℕ) → over (token_bytes t ++ r) ≡ false
unfolding over token_bytes code_of
begins (push (number w)) r = refl
begins (push (name n)) r = refl
begins (compares equal) r = refl
begins (compares unequal) r = refl
begins (compares below) r = refl
begins (compares at_most) r = refl
begins (compares above) r = refl
begins (compares at_least) r = refl
begins exists r = refl
begins ands r = refl
begins ors r = refl
begins nots r = refl

-- ---- all of them

-- the first token, then those behind it
first_back : (n : ℕ) (t : Token) (r : List ℕ) → Kept t → tokens_in (suc n) (token_bytes t ++ r) ≡ map (λ ts. t ∷ ts) (tokens_in n r)
unfolding tokens_in bind
first_back n t r k = rw (begins t r, token_back t r k, drop_at (token_bytes t) r (long t) (sym (long-is t)))

pub tokens-back : (l : List Token) (n : ℕ) → length l ≤ n → AllKept l → tokens_in n (bytes_all l) ≡ some l
unfolding bytes_all AllKept tokens_in over
tokens-back [] zero h k = refl
tokens-back [] (suc n) h k = refl
tokens-back (t ∷ l) zero h k = absurd (omega arith)
tokens-back (t ∷ l) (suc n) h k = first_back n t (bytes_all l) k.0 ∙ ap (map (λ ts. t ∷ ts)) (tokens-back l n (omega arith) k.1)

-- more tokens than are wanted
pub tokens-over : (l : List Token) (n : ℕ) → n < length l → AllKept l → tokens_in n (bytes_all l) ≡ none
unfolding bytes_all AllKept tokens_in
tokens-over [] n h k = absurd (omega arith)
tokens-over (t ∷ l) zero h k = rw (begins t (bytes_all l))
tokens-over (t ∷ l) (suc n) h k = first_back n t (bytes_all l) k.0 ∙ ap (map (λ ts. t ∷ ts)) (tokens-over l n (omega arith) k.1)

-- where they end
pub long-all : (l : List Token) → long_all l ≡ length (bytes_all l)
unfolding long_all bytes_all
long-all [] = refl
long-all (t ∷ l) = simp length-append (omega (arith, long-is t, long-all l))
