-- The grammar of conditions typed as text (RULES 12.1, 12.2), as trees: what a condition is made of, the text that each tree is, and which trees are in it.
--   condition = term { "||" term }    term = factor { "&&" factor }    factor = "!" factor | "(" condition ")" | operand comparison operand
--   operand = name | integer    name = letter { letter | digit }    integer = ["-"] digit { digit }
use Rattle.std.specs.Prelude.{ℕ, suc, ◌+◌, ◌-◌, ◌*◌, ◌≤◌, ◌<◌, ◌≡◌, Bool, true, false, ◌&&◌, ◌||◌, List, [], ◌∷◌, ◌++◌, leb, length, take}
use Prim.Native.Char.{Char, code}
use Prim.Native.String.{String, [] as String·[], ◌∷◌ as ◌String·∷◌}
use Rattle.condition.specs.Token.{Compare, equal, unequal, below, at_most, above, at_least}

-- ---- bytes

-- from one character to another
abbrev pub between : Char → Char → ℕ → Bool
between a z b = leb (code a) b && leb b (code z)

unfoldable pub digit : ℕ → Bool
digit b = between "0" "9" b

unfoldable pub letter : ℕ → Bool
letter b = between "A" "Z" b || between "a" "z" b

unfoldable pub alnum : ℕ → Bool
alnum b = letter b || digit b

-- every byte is of such a kind
unfoldable pub all : (ℕ → Bool) → List ℕ → Bool
all t [] = true
all t (b ∷ l) = t b && all t l

-- ---- trees

-- an operand: a name, its first byte and the rest; or an integer: whether a minus stands before it, its first digit and the rest
pub data Side : Type 0 where
  name : ℕ → List ℕ → Side
  integer : Bool → ℕ → List ℕ → Side

-- a condition is a row of terms, a term a row of factors; `last` and `only` end the row
mutual
  pub data Condition : Type 0 where
    last : Term → Condition
    or : Term → Condition → Condition

  pub data Term : Type 0 where
    only : Factor → Term
    and : Factor → Term → Term

  pub data Factor : Type 0 where
    not : Factor → Factor
    paren : Condition → Factor
    compare : Side → Compare → Side → Factor

-- ---- the text that each one is

-- the bytes of a quoted text
abbrev pub ascii : String → List ℕ
ascii String·[] = []
ascii (c String·∷ s) = code c ∷ ascii s

unfoldable pub text_s : Side → List ℕ
text_s (name b n) = b ∷ n
text_s (integer true b n) = ascii "-" ++ (b ∷ n)
text_s (integer false b n) = b ∷ n

unfoldable pub text_r : Compare → List ℕ
text_r equal = ascii "=="
text_r unequal = ascii "!="
text_r below = ascii "<"
text_r at_most = ascii "<="
text_r above = ascii ">"
text_r at_least = ascii ">="

unfoldable mutual
  pub text_c : Condition → List ℕ
  text_c (last t) = text_t t
  text_c (or t c) = text_t t ++ (ascii "||" ++ text_c c)

  pub text_t : Term → List ℕ
  text_t (only f) = text_f f
  text_t (and f t) = text_f f ++ (ascii "&&" ++ text_t t)

  pub text_f : Factor → List ℕ
  text_f (not f) = ascii "!" ++ text_f f
  text_f (paren c) = ascii "(" ++ (text_c c ++ ascii ")")
  text_f (compare a r b) = text_s a ++ (text_r r ++ text_s b)

-- ---- which trees are in the grammar

-- the number of a digit, and the one that digits make behind v
abbrev pub digit_of : ℕ → ℕ
digit_of b = b - code "0"

unfoldable pub val : ℕ → List ℕ → ℕ
val v [] = v
val v (b ∷ l) = val (v * 10 + digit_of b) l

-- the largest one of signed 64 bits: after a minus, and without one
abbrev pub limit : Bool → ℕ
limit true = 9223372036854775808
limit false = 9223372036854775807

-- a name has a letter first, then letters and digits; an integer has digits and is in the range
unfoldable pub ValidS : Side → Type 0
ValidS (name b n) = (letter b ≡ true) × (all alnum n ≡ true)
ValidS (integer neg b n) = (digit b ≡ true) × (all digit n ≡ true) × (val (digit_of b) n ≤ limit neg)

-- at most d parentheses are open at once
unfoldable mutual
  pub ValidC : Condition → ℕ → Type 0
  ValidC (last t) d = ValidT t d
  ValidC (or t c) d = ValidT t d × ValidC c d

  pub ValidT : Term → ℕ → Type 0
  ValidT (only f) d = ValidF f d
  ValidT (and f t) d = ValidF f d × ValidT t d

  pub ValidF : Factor → ℕ → Type 0
  ValidF (not f) d = ValidF f d
  ValidF (paren c) d = (0 < d) × ValidC c (d - 1)
  ValidF (compare a r b) d = ValidS a × ValidS b

abbrev pub InGrammar : Condition → Type 0
InGrammar c = ValidC c 12

-- ---- where a text leaves the grammar (RULES 12.3)

-- bytes go on to the text of a tree
pub record Goes {A : Type 0} (spell : A → List ℕ) (Valid : A → Type 0) (pre : List ℕ) : Type 0 where
  pub rest : List ℕ
  pub tree : A
  pub valid : Valid tree
  pub spelt : pre ++ rest ≡ spell tree

-- the text s leaves the grammar at k: its first k bytes go on to a condition's text; with the byte there none begins so, and where k is the end it is none's
pub record Stops (s : List ℕ) (k : ℕ) : Type 0 where
  pub inside : k ≤ length s
  pub goes : Goes text_c InGrammar (take k s)
  pub no_more : (c : Condition) (w : List ℕ) → InGrammar c → k < length s → text_c c ≡ take (suc k) s ++ w → ⊥
  pub not-whole : (c : Condition) → InGrammar c → k ≡ length s → text_c c ≡ s → ⊥
