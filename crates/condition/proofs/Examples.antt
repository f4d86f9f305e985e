-- Small examples of each rule, worked by hand, by computation: tokens, expressions, tables, answers.
use mathlib.Core.Path.{◌≡◌, refl}
use mathlib.Core.Bool.{Bool, true, false}
use mathlib.Core.List.{List, [], ◌∷◌, ◌++◌, map, flatten}
use mathlib.Core.Option.{Option, none, some, bind}
use Prim.Native.Nat.{ℕ, zero, suc}
use lib.ListN.{take, drop, replicate}
use lib.IntN.{pos, negsuc}
use Rattle.std.specs.Prelude.{Result, Ok, Err}
use Rattle.octets.specs.Bytes.{le, same_bytes}
use Rattle.octets.specs.Order.{need}
use Rattle.condition.specs.declared.truths.Truth.{Truth}
use Rattle.condition.specs.declared.truths.Truth.TheVariants.{False, True, Unknown}
use Rattle.refusal.specs.declared.Refusal.{Refusal}
use Rattle.refusal.specs.declared.Refusal.TheVariants.{Expression, Table}
use Rattle.condition.specs.Token.{Compare, equal, unequal, below, at_most, above, at_least, number, name, Token, push, compares, exists, ands, ors, nots}
use Rattle.condition.specs.Token.{name_ok, one_to_three, literal_at, name_at, comparison_of, operator_of, token_at, long, long_all, over, tokens_in, signed}
use Rattle.condition.specs.Kind.{operand_kind, is_operand, is_named, is_condition, taking, kinds_after, kinds_from, one_left, marked, zeros, acceptable, accepted_of, end_by, stored_end, up_to_four, stored_alone}
use Rattle.condition.specs.Table.{record_long, records_in, attributes_of, value_in, missing, well_made, table_ok}
use Rattle.condition.specs.Meaning.{and_of, or_of, not_of, compare_of, value_of, comparing, on_operands, on_name, on_conditions, on_condition, after_token, run, truth_left, truth_by, evaluate_of}
use Rattle.condition.specs.Tree.{Formula, comparison, existence, conjunction, negation, spelt, meaning}

-- ---- tokens (RULES 11.1, 11.2)

-- a literal of one byte, its sign byte and its base byte
abbrev literal : ℕ → ℕ → ℕ → List ℕ
literal n sign base = 0x04 ∷ n ∷ 0 ∷ 0 ∷ 0 ∷ 0 ∷ 0 ∷ 0 ∷ 0 ∷ sign ∷ base ∷ []

-- bytes that stand behind
abbrev behind : List ℕ
behind = 0xA2 ∷ 9 ∷ []

-- what bytes begin with
pub record Front : Type 0 where
  pub bytes : List ℕ
  pub token : Option Token

is : List ℕ → Token → Front
is s t = record { bytes = s; token = some t }

isn't : List ℕ → Front
isn't s = record { bytes = s; token = none }

pub fronts : List Front
fronts =
    -- a literal, alone and with bytes behind it; the lowest byte first, eight of them; the highest bit
    is (literal 3 3 2) (push (number 3))
    ∷ is (literal 3 3 2 ++ behind) (push (number 3))
    ∷ is (0x04 ∷ 1 ∷ 2 ∷ 3 ∷ 4 ∷ 5 ∷ 6 ∷ 7 ∷ 8 ∷ 1 ∷ 1 ∷ behind) (push (number 0x0807060504030201))
    ∷ is (0x04 ∷ 0 ∷ 0 ∷ 0 ∷ 0 ∷ 0 ∷ 0 ∷ 0 ∷ 0x80 ∷ 2 ∷ 2 ∷ []) (push (number 0x8000000000000000))
    -- without its last byte; the sign byte 0, 1, 3 and 4; the base byte 0, 1, 3 and 4
    ∷ isn't (take 10 (literal 3 3 2))
    ∷ isn't (0x04 ∷ [])
    ∷ isn't (literal 3 0 2 ++ behind)
    ∷ is (literal 3 1 2 ++ behind) (push (number 3))
    ∷ is (literal 3 3 2 ++ behind) (push (number 3))
    ∷ isn't (literal 3 4 2 ++ behind)
    ∷ isn't (literal 3 2 0 ++ behind)
    ∷ is (literal 3 2 1 ++ behind) (push (number 3))
    ∷ is (literal 3 2 3 ++ behind) (push (number 3))
    ∷ isn't (literal 3 2 4 ++ behind)
    -- a name of two bytes, alone and with bytes behind it; of four; zeros and others are bytes of a name
    ∷ is (0xF8 ∷ 2 ∷ 0 ∷ 0 ∷ 0 ∷ 0x61 ∷ 0 ∷ []) (push (name (0x61 ∷ 0 ∷ [])))
    ∷ is (0xF8 ∷ 2 ∷ 0 ∷ 0 ∷ 0 ∷ 0x61 ∷ 0 ∷ behind) (push (name (0x61 ∷ 0 ∷ [])))
    ∷ is (0xF8 ∷ 4 ∷ 0 ∷ 0 ∷ 0 ∷ 0 ∷ 0xF8 ∷ 0x04 ∷ 0 ∷ behind) (push (name (0 ∷ 0xF8 ∷ 0x04 ∷ 0 ∷ [])))
    -- of 256, by the second byte of its length
    ∷ is (0xF8 ∷ 0 ∷ 1 ∷ 0 ∷ 0 ∷ (replicate 256 7 ++ behind)) (push (name (replicate 256 7)))
    -- without its last byte; its length 0 and 1, and 3; past the end by its low byte, and by its highest; cut in its length
    ∷ isn't (0xF8 ∷ 2 ∷ 0 ∷ 0 ∷ 0 ∷ 0x61 ∷ [])
    ∷ isn't (0xF8 ∷ 0 ∷ 0 ∷ 0 ∷ 0 ∷ 0x61 ∷ 0 ∷ [])
    ∷ isn't (0xF8 ∷ 1 ∷ 0 ∷ 0 ∷ 0 ∷ 0x61 ∷ 0 ∷ [])
    ∷ isn't (0xF8 ∷ 3 ∷ 0 ∷ 0 ∷ 0 ∷ 0x61 ∷ 0 ∷ 0x62 ∷ 0 ∷ [])
    ∷ isn't (0xF8 ∷ 4 ∷ 0 ∷ 0 ∷ 0 ∷ 0x61 ∷ 0 ∷ 0x62 ∷ [])
    ∷ isn't (0xF8 ∷ 2 ∷ 0 ∷ 0 ∷ 1 ∷ 0x61 ∷ 0 ∷ [])
    ∷ isn't (0xF8 ∷ 2 ∷ 0 ∷ 0 ∷ [])
    ∷ isn't (0xF8 ∷ [])
    -- the operators, one byte each
    ∷ is (0x80 ∷ behind) (compares equal)
    ∷ is (0x81 ∷ behind) (compares unequal)
    ∷ is (0x82 ∷ behind) (compares below)
    ∷ is (0x83 ∷ behind) (compares at_most)
    ∷ is (0x84 ∷ behind) (compares above)
    ∷ is (0x85 ∷ behind) (compares at_least)
    ∷ is (0x87 ∷ behind) exists
    ∷ is (0xA0 ∷ behind) ands
    ∷ is (0xA1 ∷ behind) ors
    ∷ is (0xA2 ∷ behind) nots
    ∷ is (0xA2 ∷ []) nots
    -- codes that aren't taken: between and around them, other literals and names of the document, zero; and no bytes
    ∷ map (λ b. isn't (b ∷ (literal 3 3 2)))
    (0x86 ∷ 0x88 ∷ 0x9F ∷ 0xA3 ∷ 0x05 ∷ 0x00 ∷ 0x01 ∷ 0x02 ∷ 0x03 ∷ 0x10 ∷ 0x18 ∷ 0x50 ∷ 0x51 ∷ 0x7F ∷ 0x89 ∷ 0x8D ∷ 0x8E ∷ 0xF7 ∷ 0xF9 ∷ 0xFA ∷ 0xFB ∷ 0xFF ∷ [])
    ++ (isn't [] ∷ [])

-- what reading a token opens
token-open : Unit {0}
unfolding token_at literal_at name_at operator_of comparison_of name_ok one_to_three le
token-open = tt

pub fronts-worked : map (λ x. token_at x.bytes) fronts ≡ map (λ x. x.token) fronts
unfolding fronts is isn't token-open
fronts-worked = refl

-- at most so many tokens, up to a byte 00 or the end
pub tokens-worked :
    tokens_in 0 [] ∷ tokens_in 0 (0 ∷ 0xA2 ∷ []) ∷ tokens_in 0 (0xA2 ∷ []) ∷ tokens_in 1 (0xA2 ∷ 0 ∷ 0xA2 ∷ []) ∷ tokens_in 1 (0xA2 ∷ 0xA0 ∷ []) ∷ tokens_in 2 (0xA2 ∷ 0xA0 ∷ []) ∷ tokens_in 9 (0xA2 ∷ 1 ∷ []) ∷ []
    ≡ some [] ∷ some [] ∷ none ∷ some (nots ∷ []) ∷ none ∷ some (nots ∷ ands ∷ []) ∷ none ∷ []
unfolding tokens_in over long bind token-open
tokens-worked = refl

-- ---- expressions (RULES 11.3, 11.4)

-- the four bytes, and tokens
abbrev stored : List (List ℕ) → List ℕ
stored ts = 0x61 ∷ 0x72 ∷ 0x74 ∷ 0x78 ∷ flatten ts

-- `level` in 16-bit units, a name of one such unit, 3
abbrev level : List ℕ
level = 0xF8 ∷ 0x0A ∷ 0 ∷ 0 ∷ 0 ∷ 0x6C ∷ 0 ∷ 0x65 ∷ 0 ∷ 0x76 ∷ 0 ∷ 0x65 ∷ 0 ∷ 0x6C ∷ 0 ∷ []

abbrev letter : ℕ → List ℕ
letter x = 0xF8 ∷ 2 ∷ 0 ∷ 0 ∷ 0 ∷ x ∷ 0 ∷ []

abbrev a : List ℕ
a = letter 0x61

abbrev b : List ℕ
b = letter 0x62

abbrev three : List ℕ
three = literal 3 3 2

-- the operators as bytes
abbrev eq : List ℕ
eq = 0x80 ∷ []

abbrev ge : List ℕ
ge = 0x85 ∷ []

abbrev there : List ℕ
there = 0x87 ∷ []

abbrev both : List ℕ
both = 0xA0 ∷ []

abbrev either : List ℕ
either = 0xA1 ∷ []

abbrev never : List ℕ
never = 0xA2 ∷ []

-- level >= 3: 4 bytes, 15, 11 and 1
abbrev enough : List ℕ
enough = stored (level ∷ three ∷ ge ∷ [])

-- a == b, 15 bytes and 3 tokens; Exists a, 8 bytes and 2 tokens
abbrev same : List ℕ
same = a ++ (b ++ eq)

abbrev known : List ℕ
known = a ++ there

-- n times the same bytes
abbrev times : ℕ → List ℕ → List ℕ
times n s = flatten (replicate n s)

-- what an expression opens
expression-open : Unit {0}
unfolding accepted_of marked same_bytes acceptable zeros tokens_in over long long_all one_left kinds_from kinds_after taking operand_kind is_operand is_named is_condition bind flatten token-open
expression-open = tt

-- its tokens, the name as its bytes
pub enough-worked :
    accepted_of enough ≡ some (push (name (0x6C ∷ 0 ∷ 0x65 ∷ 0 ∷ 0x76 ∷ 0 ∷ 0x65 ∷ 0 ∷ 0x6C ∷ 0 ∷ [])) ∷ push (number 3) ∷ compares at_least ∷ [])
unfolding expression-open
enough-worked = refl

-- bytes, and where their tokens end; 0 where they aren't acceptable
pub record Stored : Type 0 where
  pub bytes : List ℕ
  pub end : ℕ

ends : List ℕ → ℕ → Stored
ends s n = record { bytes = s; end = n }

bad : List ℕ → Stored
bad s = record { bytes = s; end = 0 }

pub expressions : List Stored
expressions =
    -- level >= 3, with one to four zeros behind it, with a 1 behind a zero, with a token behind a zero, with a 1, without its last byte
    ends enough 31
    ∷ ends (enough ++ (0 ∷ [])) 31
    ∷ ends (enough ++ (0 ∷ 0 ∷ [])) 31
    ∷ ends (enough ++ (0 ∷ 0 ∷ 0 ∷ [])) 31
    ∷ ends (enough ++ (0 ∷ 0 ∷ 0 ∷ 0 ∷ [])) 31
    ∷ bad (enough ++ (0 ∷ 1 ∷ []))
    ∷ bad (enough ++ (0 ∷ 0xA2 ∷ []))
    ∷ bad (enough ++ (1 ∷ []))
    ∷ bad (take 30 enough)
    -- without the four bytes, with another one there, with three of them; the four bytes alone, with zeros; nothing
    ∷ bad (drop 4 enough)
    ∷ bad (0x61 ∷ 0x72 ∷ 0x74 ∷ 0x79 ∷ drop 4 enough)
    ∷ bad (0x61 ∷ 0x72 ∷ 0x74 ∷ drop 4 enough)
    ∷ bad (stored [])
    ∷ bad (stored ((0 ∷ 0 ∷ 0 ∷ 0 ∷ []) ∷ []))
    ∷ bad (0x61 ∷ 0x72 ∷ 0x74 ∷ [])
    ∷ bad []
    -- a lone name, a lone number
    ∷ bad (stored (level ∷ []))
    ∷ bad (stored (three ∷ []))
    -- and, or and not over one condition: not alone is fine; and over none, over two, with a third condition left
    ∷ bad (stored (same ∷ both ∷ []))
    ∷ bad (stored (same ∷ either ∷ []))
    ∷ ends (stored (same ∷ never ∷ [])) 20
    ∷ bad (stored (both ∷ []))
    ∷ bad (stored (never ∷ []))
    ∷ ends (stored (same ∷ same ∷ both ∷ [])) 35
    ∷ ends (stored (same ∷ known ∷ either ∷ [])) 28
    ∷ bad (stored (same ∷ same ∷ same ∷ both ∷ []))
    ∷ bad (stored (same ∷ same ∷ []))
    -- not, and, or over names and numbers
    ∷ bad (stored (a ∷ never ∷ []))
    ∷ bad (stored (three ∷ never ∷ []))
    ∷ bad (stored (a ∷ b ∷ both ∷ []))
    ∷ bad (stored (same ∷ a ∷ both ∷ []))
    ∷ bad (stored (a ∷ same ∷ either ∷ []))
    -- Exists of a literal, of a name, of a condition, of nothing
    ∷ bad (stored (three ∷ there ∷ []))
    ∷ ends (stored (a ∷ there ∷ [])) 12
    ∷ bad (stored (same ∷ there ∷ []))
    ∷ bad (stored (there ∷ []))
    -- a comparison of a condition, on either side; of one operand; of two names, of two numbers, of a number and a name
    ∷ bad (stored (same ∷ three ∷ eq ∷ []))
    ∷ bad (stored (three ∷ same ∷ eq ∷ []))
    ∷ bad (stored (same ∷ same ∷ eq ∷ []))
    ∷ bad (stored (three ∷ eq ∷ []))
    ∷ ends (stored (a ∷ b ∷ eq ∷ [])) 19
    ∷ ends (stored (three ∷ three ∷ eq ∷ [])) 27
    ∷ ends (stored (three ∷ a ∷ ge ∷ [])) 23
    -- an operand left below a condition, or above it
    ∷ bad (stored (a ∷ same ∷ []))
    ∷ bad (stored (same ∷ a ∷ []))
    ∷ []

pub expressions-worked : map (λ x. stored_end x.bytes) expressions ≡ map (λ x. x.end) expressions
unfolding expressions ends bad end_by expression-open
expressions-worked = refl

-- depth: 14 conditions and two operands are 16, 15 and two are 17; 15 conditions and a name are 16, 16 and one are 17
pub depths-worked :
    map stored_end
    (stored (times 15 same ∷ times 14 both ∷ [])
    ∷ stored (times 16 same ∷ times 15 both ∷ [])
    ∷ stored (times 16 known ∷ times 15 either ∷ [])
    ∷ stored (times 17 known ∷ times 16 either ∷ [])
    ∷ stored (times 14 known ∷ same ∷ times 14 both ∷ [])
    ∷ stored (times 15 known ∷ same ∷ times 15 both ∷ [])
    ∷ [])
    ≡ 243 ∷ 0 ∷ 147 ∷ 0 ∷ 145 ∷ 0 ∷ []
unfolding expression-open end_by
depths-worked = refl

-- tokens: 2 and 62 are 64, also with zeros behind them; 2 and 63 are 65; 3 and 15 times 4 and one; one more
pub counts-worked :
    map stored_end
    (stored (known ∷ times 62 never ∷ [])
    ∷ stored (known ∷ times 62 never ∷ (0 ∷ 0 ∷ []) ∷ [])
    ∷ stored (known ∷ times 63 never ∷ [])
    ∷ stored (same ∷ times 15 (same ++ both) ∷ never ∷ [])
    ∷ stored (same ∷ times 15 (same ++ both) ∷ never ∷ never ∷ [])
    ∷ [])
    ≡ 74 ∷ 74 ∷ 0 ∷ 260 ∷ 0 ∷ []
unfolding expression-open end_by
counts-worked = refl

-- n up to a multiple of four
pub padded-worked : map up_to_four (0 ∷ 1 ∷ 2 ∷ 3 ∷ 4 ∷ 5 ∷ []) ≡ 0 ∷ 4 ∷ 4 ∷ 4 ∷ 4 ∷ 8 ∷ []
unfolding up_to_four
padded-worked = refl

-- ---- three-valued and, or, not (RULES 11.6)

abbrev truths : List Truth
truths = False ∷ True ∷ Unknown ∷ []

-- rows by the first, columns by the second: false, true, unknown
pub and-worked :
    map (λ x. map (and_of x) truths) truths
    ≡ (False ∷ False ∷ False ∷ [])
    ∷ (False ∷ True ∷ Unknown ∷ [])
    ∷ (False ∷ Unknown ∷ Unknown ∷ [])
    ∷ []
unfolding and_of
and-worked = refl

pub or-worked :
    map (λ x. map (or_of x) truths) truths
    ≡ (False ∷ True ∷ Unknown ∷ [])
    ∷ (True ∷ True ∷ True ∷ [])
    ∷ (Unknown ∷ True ∷ Unknown ∷ [])
    ∷ []
unfolding or_of
or-worked = refl

pub not-worked : map not_of truths ≡ True ∷ False ∷ Unknown ∷ []
unfolding not_of
not-worked = refl

-- ---- signed numbers and comparisons

-- 0, the highest number, the lowest one, -1
pub signed-worked :
    map signed (0 ∷ 0x7FFFFFFFFFFFFFFF ∷ 0x8000000000000000 ∷ 0xFFFFFFFFFFFFFFFF ∷ []) ≡ pos 0 ∷ pos 0x7FFFFFFFFFFFFFFF ∷ negsuc 0x7FFFFFFFFFFFFFFF ∷ negsuc 0 ∷ []
unfolding signed
signed-worked = refl

-- the lowest number, -1, 0, 1, the highest one: in their order, and not in that of their bits
abbrev numbers : List (Option ℕ)
numbers = some 0x8000000000000000 ∷ some 0xFFFFFFFFFFFFFFFF ∷ some 0 ∷ some 1 ∷ some 0x7FFFFFFFFFFFFFFF ∷ []

-- each of them with each
abbrev compared : Compare → List (List Truth)
compared c = map (λ x. map (comparing c x) numbers) numbers

abbrev T : Truth
T = True

abbrev F : Truth
F = False

-- what comparing opens
compare-open : Unit {0}
unfolding comparing compare_of signed
compare-open = tt

pub equal-worked :
    compared equal
    ≡ (T ∷ F ∷ F ∷ F ∷ F ∷ [])
    ∷ (F ∷ T ∷ F ∷ F ∷ F ∷ [])
    ∷ (F ∷ F ∷ T ∷ F ∷ F ∷ [])
    ∷ (F ∷ F ∷ F ∷ T ∷ F ∷ [])
    ∷ (F ∷ F ∷ F ∷ F ∷ T ∷ [])
    ∷ []
unfolding compare-open
equal-worked = refl

pub unequal-worked :
    compared unequal
    ≡ (F ∷ T ∷ T ∷ T ∷ T ∷ [])
    ∷ (T ∷ F ∷ T ∷ T ∷ T ∷ [])
    ∷ (T ∷ T ∷ F ∷ T ∷ T ∷ [])
    ∷ (T ∷ T ∷ T ∷ F ∷ T ∷ [])
    ∷ (T ∷ T ∷ T ∷ T ∷ F ∷ [])
    ∷ []
unfolding compare-open
unequal-worked = refl

pub below-worked :
    compared below
    ≡ (F ∷ T ∷ T ∷ T ∷ T ∷ [])
    ∷ (F ∷ F ∷ T ∷ T ∷ T ∷ [])
    ∷ (F ∷ F ∷ F ∷ T ∷ T ∷ [])
    ∷ (F ∷ F ∷ F ∷ F ∷ T ∷ [])
    ∷ (F ∷ F ∷ F ∷ F ∷ F ∷ [])
    ∷ []
unfolding compare-open
below-worked = refl

pub at-most-worked :
    compared at_most
    ≡ (T ∷ T ∷ T ∷ T ∷ T ∷ [])
    ∷ (F ∷ T ∷ T ∷ T ∷ T ∷ [])
    ∷ (F ∷ F ∷ T ∷ T ∷ T ∷ [])
    ∷ (F ∷ F ∷ F ∷ T ∷ T ∷ [])
    ∷ (F ∷ F ∷ F ∷ F ∷ T ∷ [])
    ∷ []
unfolding compare-open
at-most-worked = refl

pub above-worked :
    compared above
    ≡ (F ∷ F ∷ F ∷ F ∷ F ∷ [])
    ∷ (T ∷ F ∷ F ∷ F ∷ F ∷ [])
    ∷ (T ∷ T ∷ F ∷ F ∷ F ∷ [])
    ∷ (T ∷ T ∷ T ∷ F ∷ F ∷ [])
    ∷ (T ∷ T ∷ T ∷ T ∷ F ∷ [])
    ∷ []
unfolding compare-open
above-worked = refl

pub at-least-worked :
    compared at_least
    ≡ (T ∷ F ∷ F ∷ F ∷ F ∷ [])
    ∷ (T ∷ T ∷ F ∷ F ∷ F ∷ [])
    ∷ (T ∷ T ∷ T ∷ F ∷ F ∷ [])
    ∷ (T ∷ T ∷ T ∷ T ∷ F ∷ [])
    ∷ (T ∷ T ∷ T ∷ T ∷ T ∷ [])
    ∷ []
unfolding compare-open
at-least-worked = refl

-- a missing name on the left, on the right, on both sides, under every comparison
pub missing-worked :
    map (λ c. comparing c none (some 0) ∷ comparing c (some 0) none ∷ comparing c none none ∷ []) (equal ∷ unequal ∷ below ∷ at_most ∷ above ∷ at_least ∷ [])
    ≡ replicate 6 (Unknown ∷ Unknown ∷ Unknown ∷ [])
unfolding comparing
missing-worked = refl

-- ---- tables (RULES 11.5)

-- a record of a name of one unit and a number of one byte; the name in bytes
abbrev entry : ℕ → ℕ → List ℕ
entry x v = 2 ∷ 0 ∷ x ∷ 0 ∷ v ∷ 0 ∷ 0 ∷ 0 ∷ 0 ∷ 0 ∷ 0 ∷ 0 ∷ []

-- level, with a number's eight bytes behind
abbrev levels : List ℕ → List ℕ
levels v = 0x0A ∷ 0 ∷ 0x6C ∷ 0 ∷ 0x65 ∷ 0 ∷ 0x76 ∷ 0 ∷ 0x65 ∷ 0 ∷ 0x6C ∷ 0 ∷ v

-- n names of two bytes, no two the same
unfoldable many : ℕ → List ℕ
many zero = []
many (suc n) = entry n 1 ++ many n

-- what a table opens
table-open : Unit {0}
unfolding well_made attributes_of records_in record_long name_ok value_in missing same_bytes le
table-open = tt

pub record Names : Type 0 where
  pub bytes : List ℕ
  pub fine : Bool

made : List ℕ → Names
made t = record { bytes = t; fine = true }

unmade : List ℕ → Names
unmade t = record { bytes = t; fine = false }

pub tables : List Names
tables =
    -- nothing; one record; two; three, of other lengths, one name the other's beginning; names that differ in their last byte
    made []
    ∷ made (entry 0x61 5)
    ∷ made (entry 0x61 5 ++ entry 0x62 5)
    ∷ made (entry 0x6C 1 ++ (levels (replicate 8 0xFF) ++ entry 0x61 0))
    ∷ made (2 ∷ 0 ∷ 0x61 ∷ 0 ∷ 5 ∷ 0 ∷ 0 ∷ 0 ∷ 0 ∷ 0 ∷ 0 ∷ 0 ∷ 2 ∷ 0 ∷ 0x61 ∷ 1 ∷ 5 ∷ 0 ∷ 0 ∷ 0 ∷ 0 ∷ 0 ∷ 0 ∷ 0 ∷ [])
    -- a name of 256 bytes, by the second byte of its length
    ∷ made (0 ∷ 1 ∷ (replicate 256 7 ++ replicate 8 0))
    -- a name twice, with one number or two, one after the other or apart
    ∷ unmade (entry 0x61 5 ++ entry 0x61 5)
    ∷ unmade (entry 0x61 5 ++ entry 0x61 6)
    ∷ unmade (entry 0x61 5 ++ (entry 0x62 5 ++ entry 0x61 6))
    ∷ unmade (entry 0x63 5 ++ (entry 0x62 5 ++ entry 0x62 6))
    -- lengths 1, 3 and 0, first and last; 256 + 2, which is past the end
    ∷ unmade (1 ∷ 0 ∷ 0x61 ∷ replicate 8 0)
    ∷ unmade (3 ∷ 0 ∷ 0x61 ∷ 0 ∷ 0x62 ∷ replicate 8 0)
    ∷ unmade (0 ∷ 0 ∷ replicate 8 0)
    ∷ unmade (entry 0x61 5 ++ (1 ∷ 0 ∷ 0x62 ∷ replicate 8 0))
    ∷ unmade (entry 0x61 5 ++ (0 ∷ 0 ∷ replicate 8 0))
    ∷ unmade (2 ∷ 1 ∷ 0x61 ∷ 0 ∷ replicate 8 0)
    -- cut: by a byte, in the name, in the length; a byte or a zero behind
    ∷ unmade (take 11 (entry 0x61 5))
    ∷ unmade (take 3 (entry 0x61 5))
    ∷ unmade (2 ∷ [])
    ∷ unmade (entry 0x61 5 ++ take 11 (entry 0x62 5))
    ∷ unmade (entry 0x61 5 ++ (2 ∷ []))
    ∷ unmade (entry 0x61 5 ++ (0 ∷ []))
    -- 32 names, 33
    ∷ made (many 32)
    ∷ unmade (many 33)
    ∷ []

pub tables-worked : map (λ x. table_ok x.bytes) tables ≡ map (λ x. x.fine) tables
unfolding tables made unmade many table-open
tables-worked = refl

-- the records, a number as its bits; and what a name is there, whole and byte for byte
pub records-worked :
    (attributes_of (entry 0x61 5 ++ levels (1 ∷ 2 ∷ 0 ∷ 0 ∷ 0 ∷ 0 ∷ 0 ∷ 0x80 ∷ []))
    ≡ record { name = 0x61 ∷ 0 ∷ []; value = 5 } ∷ record { name = 0x6C ∷ 0 ∷ 0x65 ∷ 0 ∷ 0x76 ∷ 0 ∷ 0x65 ∷ 0 ∷ 0x6C ∷ 0 ∷ []; value = 0x8000000000000201 } ∷ [])
    × (map (value_in (attributes_of (entry 0x61 5 ++ entry 0x62 6))) ((0x61 ∷ 0 ∷ []) ∷ (0x62 ∷ 0 ∷ []) ∷ (0x41 ∷ 0 ∷ []) ∷ (0x61 ∷ []) ∷ (0x61 ∷ 0 ∷ 0x62 ∷ 0 ∷ []) ∷ [])
    ≡ some 5 ∷ some 6 ∷ none ∷ none ∷ none ∷ [])
unfolding table-open
records-worked = (refl, refl)

-- ---- the evaluator (RULES 11.6, 11.8)

-- an expression's bytes, a table's, and the answer
pub record Question : Type 0 where
  pub expression : List ℕ
  pub table : List ℕ
  pub answer : Result Truth Refusal

says : List ℕ → List ℕ → Truth → Question
says s t v = record { expression = s; table = t; answer = Ok v }

refuses : List ℕ → List ℕ → Refusal → Question
refuses s t why = record { expression = s; table = t; answer = Err why }

-- tables: level is n; a is n, b is n; a name twice
abbrev level_is : ℕ → List ℕ
level_is n = levels (n ∷ replicate 7 0)

abbrev a_is : ℕ → List ℕ
a_is n = entry 0x61 n

abbrev b_is : ℕ → List ℕ
b_is n = entry 0x62 n

abbrev twice : List ℕ
twice = a_is 1 ++ a_is 1

-- Exists level, of 20 bytes; not that, of 21; not not, of 22
abbrev has_level : List ℕ
has_level = stored (level ∷ there ∷ [])

abbrev lacks_level : List ℕ
lacks_level = stored (level ∷ there ∷ never ∷ [])

abbrev has_level_still : List ℕ
has_level_still = stored (level ∷ there ∷ never ∷ never ∷ [])

pub questions : List Question
questions =
    -- level >= 3 of 2, 3 and 4; of -1, of the highest number, of the lowest one; of none, of another name
    says enough (level_is 2) False
    ∷ says enough (level_is 3) True
    ∷ says enough (level_is 4) True
    ∷ says enough (levels (replicate 8 0xFF)) False
    ∷ says enough (levels (replicate 7 0xFF ++ (0x7F ∷ []))) True
    ∷ says enough (levels (replicate 7 0 ++ (0x80 ∷ []))) False
    ∷ says enough [] Unknown
    ∷ says enough (a_is 3 ++ entry 0x6C 3) Unknown
    ∷ says enough (a_is 9 ++ (level_is 2 ++ b_is 9)) False
    -- 3 >= a, and -1 < a
    ∷ says (stored (three ∷ a ∷ ge ∷ [])) (a_is 2) True
    ∷ says (stored (three ∷ a ∷ ge ∷ [])) (a_is 4) False
    ∷ says (stored ((0x04 ∷ (replicate 8 0xFF ++ (2 ∷ 2 ∷ []))) ∷ a ∷ (0x82 ∷ []) ∷ [])) (a_is 0) True
    -- a == b of two, of one, of none; Exists of a name, whatever its number, of none
    ∷ says (stored (same ∷ [])) (a_is 5 ++ b_is 5) True
    ∷ says (stored (same ∷ [])) (a_is 5 ++ b_is 6) False
    ∷ says (stored (same ∷ [])) (a_is 5) Unknown
    ∷ says (stored (same ∷ [])) (b_is 5) Unknown
    ∷ says (stored (same ∷ [])) [] Unknown
    ∷ says has_level (level_is 0) True
    ∷ says has_level (a_is 1) False
    ∷ says has_level [] False
    ∷ says lacks_level [] True
    -- unknown with not, and, or
    ∷ says (stored (same ∷ never ∷ [])) [] Unknown
    ∷ says (stored (same ∷ known ∷ both ∷ [])) [] False
    ∷ says (stored (known ∷ same ∷ both ∷ [])) (a_is 1) Unknown
    ∷ says (stored (same ∷ known ∷ either ∷ [])) [] Unknown
    ∷ says (stored (known ∷ same ∷ either ∷ [])) (a_is 1) True
    -- 64 tokens: not, 62 times; depth 16
    ∷ says (stored (known ∷ times 62 never ∷ [])) (a_is 1) True
    ∷ says (stored (known ∷ times 61 never ∷ [])) (a_is 1) False
    ∷ says (stored (times 15 same ∷ times 14 both ∷ [])) (a_is 1 ++ b_is 1) True
    -- zeros: 31 bytes and one, and no others; 20 and none; 21 and three; 22 and two
    ∷ says (enough ++ replicate 1 0) (level_is 3) True
    ∷ refuses (enough ++ replicate 2 0) (level_is 3) Expression
    ∷ refuses (enough ++ replicate 5 0) (level_is 3) Expression
    ∷ refuses (has_level ++ replicate 1 0) (level_is 3) Expression
    ∷ refuses (has_level ++ replicate 4 0) (level_is 3) Expression
    ∷ says lacks_level (level_is 3) False
    ∷ refuses (lacks_level ++ replicate 1 0) (level_is 3) Expression
    ∷ refuses (lacks_level ++ replicate 2 0) (level_is 3) Expression
    ∷ says (lacks_level ++ replicate 3 0) (level_is 3) False
    ∷ refuses (lacks_level ++ replicate 4 0) (level_is 3) Expression
    ∷ says has_level_still (level_is 3) True
    ∷ refuses (has_level_still ++ replicate 1 0) (level_is 3) Expression
    ∷ says (has_level_still ++ replicate 2 0) (level_is 3) True
    ∷ refuses (has_level_still ++ replicate 3 0) (level_is 3) Expression
    -- 15 of an expression that isn't acceptable, before 23; 15 of its zeros, before 23; 23; 23 where no name is asked for
    ∷ refuses [] [] Expression
    ∷ refuses [] twice Expression
    ∷ refuses (stored (level ∷ [])) (level_is 3) Expression
    ∷ refuses (stored (level ∷ [])) twice Expression
    ∷ refuses (enough ++ replicate 2 0) twice Expression
    ∷ refuses enough twice Table
    ∷ refuses (enough ++ replicate 1 0) (level_is 3 ++ (0 ∷ [])) Table
    ∷ refuses (stored (three ∷ three ∷ eq ∷ [])) (take 11 (a_is 1)) Table
    ∷ refuses (stored (three ∷ three ∷ eq ∷ [])) (many 33) Table
    ∷ says (stored (three ∷ three ∷ eq ∷ [])) (many 32) True
    ∷ []

-- what a run opens
run-open : Unit {0}
unfolding run after_token on_operands on_name on_conditions on_condition truth_left truth_by value_of and_of or_of not_of missing compare-open
run-open = tt

pub questions-worked : map (λ x. evaluate_of x.expression x.table) questions ≡ map (λ x. x.answer) questions
unfolding questions says refuses evaluate_of need stored_alone up_to_four end_by many expression-open table-open run-open
questions-worked = refl

-- ---- a tree (RULES 11.7): level >= 3 and not Exists a

abbrev level_bytes : List ℕ
level_bytes = 0x6C ∷ 0 ∷ 0x65 ∷ 0 ∷ 0x76 ∷ 0 ∷ 0x65 ∷ 0 ∷ 0x6C ∷ 0 ∷ []

abbrev a_bytes : List ℕ
a_bytes = 0x61 ∷ 0 ∷ []

abbrev tree : Formula
tree = conjunction (comparison at_least (name level_bytes) (number 3)) (negation (existence a_bytes))

-- its tokens, each operator behind what it is of; and the bytes that they are read from
pub spelt-worked :
    (spelt tree ≡ push (name level_bytes) ∷ push (number 3) ∷ compares at_least ∷ push (name a_bytes) ∷ exists ∷ nots ∷ ands ∷ [])
    × (accepted_of (stored (level ∷ three ∷ ge ∷ a ∷ there ∷ never ∷ both ∷ [])) ≡ some (spelt tree))
unfolding spelt expression-open
spelt-worked = (refl, refl)

-- what it says with level 3 and 2, with a beside 3, with a alone, with nothing
pub meaning-worked :
    map (λ t. meaning (attributes_of t) tree) (level_is 3 ∷ level_is 2 ∷ (a_is 1 ++ level_is 3) ∷ a_is 1 ∷ [] ∷ []) ≡ True ∷ False ∷ False ∷ False ∷ Unknown ∷ []
unfolding meaning table-open run-open
meaning-worked = refl
