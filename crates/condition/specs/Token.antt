-- The tokens of an expression (RULES 11.1, 11.2), read off the bytes that spell them.
use Rattle.std.specs.Prelude.{ℕ, zero, suc, ◌+◌, ◌%◌, List, [], ◌∷◌, Bool, cond, ◌&&◌, length, get_or, take, drop, eqb, leb, ltb, ℤ}
use Rattle.std.proofs.Math.Option.{Option, none, some, map, bind}
use Rattle.std.proofs.Math.IntN.{sub_ℕ}
use Rattle.octets.specs.Bytes.{le}

-- ==, !=, <, <=, >, >=
pub data Compare : Type 0 where
  equal : Compare
  unequal : Compare
  below : Compare
  at_most : Compare
  above : Compare
  at_least : Compare

-- a literal, its 64 bits as they lie, or a local name, its bytes
pub data Operand : Type 0 where
  number : ℕ → Operand
  name : List ℕ → Operand

pub data Token : Type 0 where
  push : Operand → Token
  compares : Compare → Token
  exists : Token
  ands : Token
  ors : Token
  nots : Token

-- a name's length is even and not 0
unfoldable pub name_ok : ℕ → Bool
name_ok n = ltb 0 n && eqb (n % 2) 0

-- the sign byte and the base byte of a literal: 1 to 3, whatever its value
unfoldable pub one_to_three : ℕ → Bool
one_to_three b = leb 1 b && leb b 3

-- 04, eight bytes, the sign byte, the base byte
unfoldable pub literal_at : List ℕ → Option Token
literal_at s =
    cond (leb 11 (length s) && (one_to_three (get_or s 9 0) && one_to_three (get_or s 10 0)))
    (some (push (number (le 8 (drop 1 s)))))
    none

-- F8, a 32-bit length in bytes, the name
abbrev pub name_long : List ℕ → ℕ
name_long s = le 4 (drop 1 s)

unfoldable pub name_at : List ℕ → Option Token
name_at s = cond (name_ok (name_long s) && leb (5 + name_long s) (length s)) (some (push (name (take (name_long s) (drop 5 s))))) none

-- the six comparisons, 80 to 85
unfoldable pub comparison_of : ℕ → Compare
comparison_of b =
    cond (eqb b 0x80) equal
    (cond (eqb b 0x81) unequal
    (cond (eqb b 0x82) below
    (cond (eqb b 0x83) at_most
    (cond (eqb b 0x84) above
    at_least))))

-- the operators: one byte each
unfoldable pub operator_of : ℕ → Option Token
operator_of b =
    cond (leb 0x80 b && leb b 0x85) (some (compares (comparison_of b)))
    (cond (eqb b 0x87) (some exists)
    (cond (eqb b 0xA0) (some ands)
    (cond (eqb b 0xA1) (some ors)
    (cond (eqb b 0xA2) (some nots)
    none))))

-- the token that s begins with, or none
unfoldable pub token_at : List ℕ → Option Token
token_at s = cond (eqb (get_or s 0 0) 0x04) (literal_at s) (cond (eqb (get_or s 0 0) 0xF8) (name_at s) (operator_of (get_or s 0 0)))

-- how many bytes spell a token
unfoldable pub long : Token → ℕ
long (push (number w)) = 11
long (push (name n)) = 5 + length n
long (compares c) = 1
long exists = 1
long ands = 1
long ors = 1
long nots = 1

unfoldable pub long_all : List Token → ℕ
long_all [] = 0
long_all (t ∷ ts) = long t + long_all ts

-- the tokens end: at the first byte 00 where one should begin, or where the bytes do
unfoldable pub over : List ℕ → Bool
over s = eqb (get_or s 0 0) 0

-- all tokens up to there, at most n; none where something else stands in their place
unfoldable pub tokens_in : ℕ → List ℕ → Option (List Token)
tokens_in zero s = cond (over s) (some []) none
tokens_in (suc n) s =
    cond (over s) (some []) (bind (token_at s) (λ t. map (λ ts. t ∷ ts) (tokens_in n (drop (long t) s))))

-- the signed number of 64 bits, two's complement
unfoldable pub signed : ℕ → ℤ
signed w = sub_ℕ ((w + 0x8000000000000000) % 0x10000000000000000) 0x8000000000000000
