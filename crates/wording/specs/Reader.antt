-- How a text is read (RULES 12.1 to 12.3): the tree that it is, or the offset where no continuation is left.
use Rattle.std.specs.Prelude.{ℕ, zero, suc, ◌+◌, ◌-◌, ◌*◌, Bool, true, false, List, [], ◌∷◌, eqb, leb, length}
use Prim.Native.Char.{code}
use Rattle.condition.specs.Token.{Compare, equal, unequal, below, at_most, above, at_least}
use Rattle.wording.specs.Grammar.{digit, letter, alnum, digit_of, limit, Side, name, integer, Condition, last, or, Term, only, and, Factor, not, paren, compare}

-- what a reader gives: a tree and the bytes left; the bytes left where it refuses; or that its bound on steps was too small
pub data Res (A : Type 0) : Type 0 where
  good : A → List ℕ → Res A
  bad : List ℕ → Res A
  out : Res A

-- the next byte; the end counts as a byte 0, which nothing in the grammar is
abbrev pub head0 : List ℕ → ℕ
head0 [] = 0
head0 (b ∷ l) = b

abbrev pub onward : {A B : Type 0} → Res A → (A → List ℕ → Res B) → Res B
onward (good a r) k = k a r
onward (bad r) k = bad r
onward out k = out

-- ---- what readers are made of

-- first p, then what k makes of its tree
abbrev pub and_then : {A B : Type 0} → (List ℕ → Res A) → (A → List ℕ → Res B) → List ℕ → Res B
and_then p k s = onward (p s) k

abbrev pub choose : {A : Type 0} → Bool → (List ℕ → Res A) → (List ℕ → Res A) → List ℕ → Res A
choose true p q s = p s
choose false p q s = q s

-- by the next byte
abbrev pub pick : {A : Type 0} → (ℕ → Bool) → (List ℕ → Res A) → (List ℕ → Res A) → List ℕ → Res A
pick t p q s = choose (t (head0 s)) p q s

abbrev pub stop : {A : Type 0} → List ℕ → Res A
stop s = bad s

abbrev pub give : {A : Type 0} → A → List ℕ → Res A
give a s = good a s

-- one byte of such a kind, handed on
abbrev pub one : {A : Type 0} → (ℕ → Bool) → (ℕ → List ℕ → Res A) → List ℕ → Res A
one t k [] = bad []
one t k (b ∷ r) = choose (t b) (λ l. k b r) bad (b ∷ r)

-- the byte x; then p behind it
abbrev pub is : ℕ → ℕ → Bool
is x b = eqb b x

abbrev pub expect : {A : Type 0} → ℕ → (List ℕ → Res A) → List ℕ → Res A
expect x p = one (is x) (λ b. p)

-- ---- operands and comparisons

-- letters and digits, as many as there are
unfoldable pub read_rest : List ℕ → Res (List ℕ)
read_rest [] = good [] []
read_rest (b ∷ r) = choose (alnum b) (λ l. onward (read_rest r) (λ n l. good (b ∷ n) l)) (good []) (b ∷ r)

-- digits, as many as there are; refused at the one that leaves the range
unfoldable pub read_digits : Bool → ℕ → List ℕ → Res (List ℕ)
read_digits neg v [] = good [] []
read_digits neg v (b ∷ r) =
    choose (digit b)
    (choose (leb (v * 10 + digit_of b) (limit neg)) (λ l. onward (read_digits neg (v * 10 + digit_of b) r) (λ n l. good (b ∷ n) l)) bad)
    (good []) (b ∷ r)

unfoldable pub read_number : Bool → List ℕ → Res Side
read_number neg = one digit (λ b. and_then (read_digits neg (digit_of b)) (λ n. give (integer neg b n)))

-- a name, or an integer with a minus or without
unfoldable pub read_operand : List ℕ → Res Side
read_operand =
    pick letter (one letter (λ b. and_then read_rest (λ n. give (name b n))))
    (pick (is (code "-")) (expect (code "-") (read_number true)) (read_number false))

-- == != <= < >= >
unfoldable pub read_sign : List ℕ → Res Compare
read_sign =
    pick (is (code "=")) (expect (code "=") (expect (code "=") (give equal)))
    (pick (is (code "!")) (expect (code "!") (expect (code "=") (give unequal)))
    (pick (is (code "<")) (expect (code "<") (pick (is (code "=")) (expect (code "=") (give at_most)) (give below)))
    (expect (code ">") (pick (is (code "=")) (expect (code "=") (give at_least)) (give above)))))

unfoldable pub read_comparison : List ℕ → Res Factor
read_comparison = and_then read_operand (λ a. and_then read_sign (λ r. and_then read_operand (λ b. give (compare a r b))))

-- ---- conditions, terms and factors, in a cycle

pub data Level : Type 0 where
  condition term factor : Level

abbrev pub TreeOf : Level → Type 0
TreeOf condition = Condition
TreeOf term = Term
TreeOf factor = Factor

-- d parentheses may still be opened. f bounds the steps: where it is large enough it makes no difference (`read-settled`)
unfoldable pub read : ℕ → (k : Level) → ℕ → List ℕ → Res (TreeOf k)
read zero k d s = out
read (suc f) condition d s =
    and_then (read f term d) (λ t.
    pick (is (code "|")) (expect (code "|") (expect (code "|") (and_then (read f condition d) (λ c. give (or t c))))) (give (last t))) s
read (suc f) term d s =
    and_then (read f factor d) (λ t.
    pick (is (code "&")) (expect (code "&") (expect (code "&") (and_then (read f term d) (λ c. give (and t c))))) (give (only t))) s
read (suc f) factor d s =
    pick (is (code "!")) (expect (code "!") (and_then (read f factor d) (λ x. give (not x))))
    (pick (is (code "(")) (choose (eqb d 0) stop (expect (code "(") (and_then (read f condition (d - 1)) (λ c. expect (code ")") (give (paren c))))))
    read_comparison) s

-- ---- a whole text

pub data Reading : Type 0 where
  accepted : Condition → Reading
  refused : ℕ → Reading

-- n is the text's length; nothing may be left. `out` never comes
abbrev pub end_of : ℕ → Res Condition → Reading
end_of n (good c []) = accepted c
end_of n (good c (b ∷ r)) = refused (n - length (b ∷ r))
end_of n (bad r) = refused (n - length r)
end_of n out = refused 0

-- more steps than any text of this length takes
abbrev pub bound : List ℕ → ℕ
bound s = 3 * length s + 3

-- the tree that a text is, or where it is refused
unfoldable pub reading : List ℕ → Reading
reading s = end_of (length s) (read (bound s) condition 12 s)
