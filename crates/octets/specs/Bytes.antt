-- Bytes: little-endian numbers, equality, and what a writer leaves. A byte list is `List ℕ`.
use Rattle.std.specs.Prelude.{ℕ, zero, suc, ◌+◌, ◌*◌, ◌/◌, ◌%◌, ◌<◌, List, [], ◌∷◌, ◌++◌, Bool, true, false, not, cond, ◌&&◌, ◌||◌, length, get_or, take, drop, replicate, eqb, leb}
use Rattle.std.specs.Int.Bits.{bit_and}

-- every element is a byte
abbrev pub Bytes : List ℕ → Type 0
Bytes s = (i : ℕ) → get_or s i 0 < 256

-- the number that the first k bytes of s spell, the lowest first (bytes that are not there count as 0)
unfoldable pub le : ℕ → List ℕ → ℕ
le zero s = 0
le (suc k) [] = 0
le (suc k) (b ∷ s) = b + 256 * le k s

-- the k bytes that spell m, the lowest first
unfoldable pub spell : ℕ → ℕ → List ℕ
spell zero m = []
spell (suc k) m = m % 256 ∷ spell k (m / 256)

-- a bit of `bit` is set in n
abbrev pub has : ℕ → ℕ → Bool
has bit n = not (eqb (bit_and n bit) 0)

-- a and b hold the same bytes
unfoldable pub same_bytes : List ℕ → List ℕ → Bool
same_bytes [] [] = true
same_bytes [] (b ∷ bs) = false
same_bytes (a ∷ r) [] = false
same_bytes (a ∷ r) (b ∷ bs) = eqb a b && same_bytes r bs

-- s is one of them: a GUID among the object types, a SID among those held
unfoldable pub among : List ℕ → List (List ℕ) → Bool
among s [] = false
among s (t ∷ ts) = same_bytes t s || among s ts

-- the n bytes at `at`, or as many of them as there are
unfoldable pub part : ℕ → ℕ → List ℕ → List ℕ
part at n s = take n (drop at s)

-- d after w was written on its front: the rest stays as it was
abbrev pub front : List ℕ → List ℕ → List ℕ
front w d = w ++ drop (length w) d

-- d after as much of s as there is room for was written on its front
unfoldable pub put_on : List ℕ → List ℕ → List ℕ
put_on s d = front (take (length d) s) d

-- d with b at `at`
unfoldable pub put_at : ℕ → List ℕ → List ℕ → List ℕ
put_at at b d = take at d ++ (b ++ drop (at + length b) d)

-- the sixteen bytes of a GUID at `at`; zeros where s does not reach so far
unfoldable pub guid_at : List ℕ → ℕ → List ℕ
guid_at s at = cond (leb (at + 16) (length s)) (take 16 (drop at s)) (replicate 16 0)
