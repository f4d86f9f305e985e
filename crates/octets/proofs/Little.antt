-- Laws of little-endian numbers, over the width: split, bound, inverse.
use mathlib.Core.Path.{◌≡◌, refl, sym, ap, ◌∙◌}
use mathlib.Core.List.{List, [], ◌∷◌, ◌++◌}
use Prim.Native.Nat.{ℕ, zero, suc, ◌+◌, ◌*◌, ◌/◌, ◌%◌, ◌^◌, ◌<◌, ◌≤◌}
use native.Mathlib.Nat.{suc-add, zero-add, add-zero, mul-zero, mul_assoc, mul_left_comm, one-mul, pow-suc, le_of_suc-le-suc, not-suc-le-zero}
use native.Mathlib.Nat.{mod-add-div, mod-eq_of_lt, div-eq_of_lt, div-lt_iff_lt-mul, add-mul-div_left, add-mul-mod_self_left}
use native.Mathlib.Omega.{arith}
use lib.ListN.{length, get_or, drop, take, length-drop, drop_of_length-le}
use lib.Seq.{get_or-drop, drop-drop, drop-nil, drop-append-le}
use Rattle.std.specs.Int.{w16, w32, from_le_bytes}
use Rattle.octets.specs.Bytes.{Bytes, le, spell}

pub le-nil : (k : ℕ) → le k [] ≡ 0
unfolding le
le-nil zero = refl
le-nil (suc k) = refl

-- past the end there is nothing
pub le-past : (k : ℕ) (s : List ℕ) (at : ℕ) → length s ≤ at → le k (drop at s) ≡ 0
le-past k s at h = rw (drop_of_length-le s h) (le-nil k)

-- one byte, and the rest
pub le-suc : (k : ℕ) (s : List ℕ) → le (suc k) s ≡ get_or s 0 0 + 256 * le k (drop 1 s)
unfolding le
le-suc k [] = simp (drop-nil, le-nil)
le-suc k (b ∷ s) = refl

pub le-at : (k : ℕ) (s : List ℕ) (at : ℕ) → le (suc k) (drop at s) ≡ get_or s at 0 + 256 * le k (drop (at + 1) s)
le-at k s at = rw (le-suc, get_or-drop, add-zero, drop-drop)

-- one byte is its own number
pub le-one : (s : List ℕ) (at : ℕ) → le 1 (drop at s) ≡ get_or s at 0
unfolding le
le-one s at = le-at 0 s at ∙ omega arith

-- split: a number of j + k bytes is its low j bytes and its high k
pub le-add : (j k : ℕ) (s : List ℕ) → le (j + k) s ≡ le j s + 256 ^ j * le k (drop j s)
unfolding le
le-add zero k s = simp (zero-add, one-mul)
le-add (suc j) k [] = simp (drop-nil, le-nil, mul-zero)
le-add (suc j) k (b ∷ s) = simp (suc-add, le-add j k s, pow-suc, mul_assoc) (rw (mul_left_comm (256 ^ j) 256) (omega arith))

pub bytes_drop : (n : ℕ) (s : List ℕ) → Bytes s → Bytes (drop n s)
bytes_drop n s h i = rw get_or-drop (h (n + i))

-- bound: k bytes spell a number below 256 ^ k
pub le-lt : (k : ℕ) (s : List ℕ) → Bytes s → le k s < 256 ^ k
unfolding le
le-lt zero s h = omega arith
le-lt (suc k) s h = omega (arith, le-suc k s, h 0, pow-suc 256 k, le-lt k (drop 1 s) (bytes_drop 1 s h))

-- what follows the k bytes doesn't count
pub le-append : (k : ℕ) (a b : List ℕ) → k ≤ length a → le k (a ++ b) ≡ le k a
unfolding le
le-append zero a b h = refl
le-append (suc k) [] b h = absurd (not-suc-le-zero h)
le-append (suc k) (x ∷ a) b h = rw (le-append k a b (le_of_suc-le-suc h))

pub le-drop-append : (k j : ℕ) (a b : List ℕ) → j + k ≤ length a → le k (drop j (a ++ b)) ≡ le k (drop j a)
le-drop-append k j a b h = ap (le k) (drop-append-le j a b (omega arith)) ∙ le-append k (drop j a) b (omega (arith, length-drop j a))

pub length-spell : (k m : ℕ) → length (spell k m) ≡ k
unfolding spell
length-spell zero m = refl
length-spell (suc k) m = ap suc (length-spell k (m / 256))

-- inverse: the bytes of a number spell it, and k bytes are those that their number is spelt by
pub le-spell : (k m : ℕ) → m < 256 ^ k → le k (spell k m) ≡ m
unfolding le spell
le-spell zero m h = omega arith
le-spell (suc k) m h =
    rw (le-spell k (m / 256) ((div-lt_iff_lt-mul {k = 256} {x = m} {y = 256 ^ k} (omega arith)).1 (omega (arith, pow-suc 256 k)))) (mod-add-div m 256)

low : (b n : ℕ) → b < 256 → (b + 256 * n) % 256 ≡ b
low b n h = add-mul-mod_self_left b 256 n ∙ mod-eq_of_lt h

high : (b n : ℕ) → b < 256 → (b + 256 * n) / 256 ≡ n
high b n h = add-mul-div_left b n {y = 256} (omega arith) ∙ rw (div-eq_of_lt h) (zero-add n)

pub spell-le : (k : ℕ) (s : List ℕ) → k ≤ length s → Bytes s → spell k (le k s) ≡ take k s
unfolding le spell
spell-le zero s h d = refl
spell-le (suc k) [] h d = absurd (not-suc-le-zero h)
spell-le (suc k) (b ∷ s) h d =
    rw (low b (le k s) (d 0), high b (le k s) (d 0), spell-le k s (le_of_suc-le-suc h) (λ i. d (suc i)))

-- so bytes that spell the same number are the same
pub le_same : (k : ℕ) (a b : List ℕ) → k ≤ length a → k ≤ length b → Bytes a → Bytes b → le k a ≡ le k b → take k a ≡ take k b
le_same k a b ha hb da db e = sym (spell-le k a ha da) ∙ ap (spell k) e ∙ spell-le k b hb db

-- so many bytes are enough for a number of so many
pub le-take : (k : ℕ) (s : List ℕ) → le k (take k s) ≡ le k s
unfolding le
le-take zero s = refl
le-take (suc k) [] = refl
le-take (suc k) (b ∷ s) = ap (λ n. b + 256 * n) (le-take k s)

-- std's numbers of two and of four bytes
pub le-half : (s : List ℕ) → from_le_bytes w16 (take 2 s) ≡ le 2 s
unfolding le
le-half [] = refl
le-half (a ∷ []) = omega arith
le-half (a ∷ b ∷ s) = omega arith

pub le-word : (s : List ℕ) → from_le_bytes w32 (take 4 s) ≡ le 4 s
unfolding le
le-word [] = refl
le-word (a ∷ []) = omega arith
le-word (a ∷ b ∷ []) = omega arith
le-word (a ∷ b ∷ c ∷ []) = omega arith
le-word (a ∷ b ∷ c ∷ d ∷ s) = omega arith
