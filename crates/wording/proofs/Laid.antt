-- Bytes laid where the tally ends, and the bytes of numbers and names.
use Prim.Native.Nat.{ℕ, zero, suc, ◌+◌, ◌-◌, ◌*◌, ◌/◌, ◌%◌, ◌^◌, ◌≤◌, ◌<◌}
use mathlib.Core.Path.{◌≡◌, refl, sym, ap, ◌∙◌}
use mathlib.Core.Bool.{Bool, true, false}
use mathlib.Core.List.{List, [], ◌∷◌, ◌++◌, append_assoc}
use native.Mathlib.Nat.{zero-add}
use native.Mathlib.Numerals.{add-one}
use native.Mathlib.Omega.{arith}
use lib.ListN.{length, take, drop, get_or, set, length-append}
use lib.Seq.{take-suc, take-length, length-take-le}
use borrow.Author.Tests.{le-leb, lt-leb}
use Rattle.octets.specs.Bytes.{put_at, put_on, spell}
use Rattle.octets.proofs.Places.{put-snoc, put-append, put-nil, put-tail}
use Rattle.octets.proofs.Writes.{put_all}
use Rattle.octets.proofs.Little.{length-spell}
use Rattle.std.specs.Int.{to_le_bytes, w32, w64}
use Rattle.std.proofs.Math.Nat.{div-div-eq-div-mul}
use Rattle.condition.specs.Token.{number, name as named, push}
use Rattle.wording.specs.Grammar.{limit}
use Rattle.wording.specs.declared.tallies.Tally.{Tally}
use Rattle.wording.specs.Stored.{wide, signed_of, word_for, token_bytes}
use Rattle.wording.specs.Inner.Walk.{note_b, put_b, takes}
use Rattle.wording.proofs.Longs.{length-wide, name-long, number-long}

-- ---- where the tally ends

-- bytes on the front of what is lent from the tally's end on, as the whole is stated once that is back
pub fits : (b : List ℕ) (w : Tally) (o ys : List ℕ) → w.size + length b ≤ length o → ys ≡ put_on b (take (length o - w.size) (drop w.size o))
    → take w.size o ++ (ys ++ drop (length o - w.size) (drop w.size o)) ≡ put_b b w o
unfolding put_b
fits b w o ys h e = rw (le-leb (w.size + length b) (length o) h) (put-tail w.size b o ys h e)

pub no_room : (b : List ℕ) (w : Tally) (o : List ℕ) → length o < w.size + length b → o ≡ put_b b w o
unfolding put_b
no_room b w o h = rw (lt-leb (w.size + length b) (length o) h) refl

-- ---- a number's word and its bytes

pub word-plain : (neg : Bool) (v : ℕ) → neg ≡ false → v ≡ word_for (signed_of neg v)
unfolding word_for
word-plain neg v e = rw e refl

minus : (v r : ℕ) → v ≤ limit true → r < 2 ^ 64 → (r + v) % 2 ^ 64 ≡ 0 → r ≡ word_for (signed_of true v)
unfolding word_for
minus zero r h f e = omega arith
minus (suc v) r h f e = omega arith

pub word-minus : (neg : Bool) (v r : ℕ) → neg ≡ true → v ≤ limit neg → r < 2 ^ 64 → (r + v) % 2 ^ 64 ≡ 0 → r ≡ word_for (signed_of neg v)
word-minus true v r e h f g = minus v r h f g
word-minus false v r e h f g = cc

-- std's bytes of a number are those of `spell`
module _ (m : ℕ) where
  q2 : m / 256 / 256 ≡ m / 65536
  q2 = div-div-eq-div-mul m 256 256

  q3 : m / 256 / 256 / 256 ≡ m / 16777216
  q3 = ap (λ (n : ℕ). n / 256) q2 ∙ div-div-eq-div-mul m 65536 256

  q4 : m / 256 / 256 / 256 / 256 ≡ m / 4294967296
  q4 = ap (λ (n : ℕ). n / 256) q3 ∙ div-div-eq-div-mul m 16777216 256

  q5 : m / 256 / 256 / 256 / 256 / 256 ≡ m / 1099511627776
  q5 = ap (λ (n : ℕ). n / 256) q4 ∙ div-div-eq-div-mul m 4294967296 256

  q6 : m / 256 / 256 / 256 / 256 / 256 / 256 ≡ m / 281474976710656
  q6 = ap (λ (n : ℕ). n / 256) q5 ∙ div-div-eq-div-mul m 1099511627776 256

  q7 : m / 256 / 256 / 256 / 256 / 256 / 256 / 256 ≡ m / 72057594037927936
  q7 = ap (λ (n : ℕ). n / 256) q6 ∙ div-div-eq-div-mul m 281474976710656 256

  pub number-bytes : (r : List ℕ) → r ≡ to_le_bytes w64 m
      → 0x04 ∷ get_or r 0 0 ∷ get_or r 1 0 ∷ get_or r 2 0 ∷ get_or r 3 0 ∷ get_or r 4 0 ∷ get_or r 5 0 ∷ get_or r 6 0 ∷ get_or r 7 0 ∷ 3 ∷ 2 ∷ [] ≡ token_bytes (push (number m))
  unfolding token_bytes spell
  number-bytes r e = rw e (λ i. 0x04 ∷ m % 256 ∷ m / 256 % 256 ∷ sym q2 i % 256 ∷ sym q3 i % 256 ∷ sym q4 i % 256 ∷ sym q5 i % 256 ∷ sym q6 i % 256 ∷ sym q7 i % 256 ∷ 3 ∷ 2 ∷ [])

  four-bytes : (r : List ℕ) → r ≡ to_le_bytes w32 m → 0xF8 ∷ get_or r 0 0 ∷ get_or r 1 0 ∷ get_or r 2 0 ∷ get_or r 3 0 ∷ [] ≡ 0xF8 ∷ spell 4 m
  unfolding spell
  four-bytes r e = rw e (λ i. 0xF8 ∷ m % 256 ∷ m / 256 % 256 ∷ sym q2 i % 256 ∷ sym q3 i % 256 ∷ [])

-- ---- a name's bytes

wide-append : (s t : List ℕ) → wide (s ++ t) ≡ wide s ++ wide t
unfolding wide
wide-append [] t = refl
wide-append (b ∷ s) t = ap (λ (l : List ℕ). b ∷ 0 ∷ l) (wide-append s t)

-- then two stores for each byte
pub wide-none : (s l : List ℕ) → l ≡ put_at 5 (wide (take 0 s)) l
unfolding wide
wide-none s l = sym (put-nil 5 l)

wide-suc : (s : List ℕ) (i : ℕ) → i < length s → (wide (take i s) ++ (get_or s i 0 ∷ [])) ++ (0 ∷ []) ≡ wide (take (i + 1) s)
unfolding wide
wide-suc s i h =
    append_assoc (wide (take i s)) (get_or s i 0 ∷ []) (0 ∷ [])
    ∙ sym (rw (add-one, take-suc s i 0 h) (wide-append (take i s) (get_or s i 0 ∷ [])))

pub wide-more : (s l : List ℕ) (i : ℕ) → i < length s → 5 + 2 * length s ≤ length l
    → set (set (put_at 5 (wide (take i s)) l) (5 + 2 * i) (get_or s i 0)) (6 + 2 * i) 0 ≡ put_at 5 (wide (take (i + 1) s)) l
wide-more s l i h k =
    let x = get_or s i 0 in
    let b = wide (take i s) in
    let n : length b ≡ 2 * i = length-wide (take i s) ∙ ap (λ (y : ℕ). 2 * y) (length-take-le i s (omega arith)) in
    let m : length (b ++ (x ∷ [])) ≡ 2 * i + 1 = length-append b (x ∷ []) ∙ ap (λ (y : ℕ). y + 1) n in
    let f : 6 + 2 * i ≡ 5 + (2 * i + 1) = omega arith in
    rw (f, put-snoc 5 (2 * i) x b l n (omega arith)) (put-snoc 5 (2 * i + 1) 0 (b ++ (x ∷ [])) l m (omega arith))
    ∙ ap (λ (t : List ℕ). put_at 5 t l) (wide-suc s i h)

put_first : (b l : List ℕ) → length b ≤ length l → put_at 0 b l ≡ put_on b l
unfolding put_at
put_first b l h = rw zero-add (sym (put_all b l h))

-- both together are the token
pub name-all : (s l r p : List ℕ) (i m : ℕ) → i ≡ length s → m ≡ 2 * length s → 5 + 2 * length s ≤ length l → r ≡ to_le_bytes w32 m
    → p ≡ put_on (0xF8 ∷ get_or r 0 0 ∷ get_or r 1 0 ∷ get_or r 2 0 ∷ get_or r 3 0 ∷ []) l
    → put_at 5 (wide (take i s)) p ≡ put_on (token_bytes (push (named (wide s)))) l
unfolding token_bytes put_at
name-all s l r p i m e f k x y =
    let b : List ℕ = 0xF8 ∷ spell 4 m in
    let n : length b ≡ 5 = ap suc (length-spell 4 m) in
    let j : 0 + length b + length (wide s) ≤ length l = omega (arith, length-wide s) in
    let z : 0 + length b ≡ 5 = omega (arith, n) in
    let q : length (wide s) ≡ m = length-wide s ∙ sym f in
    let t : length (token_bytes (push (named (wide s)))) ≤ length l = omega (arith, name-long s) in
    let head : p ≡ put_at 0 b l = y ∙ ap (λ (v : List ℕ). put_on v l) (four-bytes m r x) ∙ sym (put_first b l (omega arith)) in
    rw (e, take-length s) (ap (put_at 5 (wide s)) head
    ∙ ap (λ (y : ℕ). put_at y (wide s) (put_at 0 b l)) (sym z)
    ∙ put-append 0 b (wide s) l j
    ∙ ap (λ (y : ℕ). put_at 0 ((0xF8 ∷ spell 4 y) ++ wide s) l) (sym q)
    ∙ put_first (token_bytes (push (named (wide s)))) l t)

-- each counts as its bytes, and takes nothing from the stack
pub counted-number : (m : ℕ) (w r : Tally) → r ≡ note_b 11 0 w → r ≡ note_b (length (token_bytes (push (number m)))) (takes (push (number m))) w
unfolding takes
counted-number m w r e = e ∙ ap (λ (n : ℕ). note_b n 0 w) (sym (number-long m))

pub counted-name : (s : List ℕ) (w r : Tally) → r ≡ note_b (5 + 2 * length s) 0 w → r ≡ note_b (length (token_bytes (push (named (wide s))))) (takes (push (named (wide s)))) w
unfolding takes
counted-name s w r e = e ∙ ap (λ (n : ℕ). note_b n 0 w) (sym (name-long s))
