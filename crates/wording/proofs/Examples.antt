-- Texts worked by hand, by computation: which are in the grammar and where others leave it, the tree, the stored form and the meaning of one, and the limits.
use mathlib.Core.Path.{◌≡◌, refl}
use mathlib.Core.Bool.{true, false}
use mathlib.Core.List.{List, [], ◌∷◌, ◌++◌, map}
use Prim.Native.Nat.{ℕ, zero, suc}
use Prim.Native.String.{String}
use native.Mathlib.Omega.{arith}
use Rattle.octets.specs.Bytes.{spell, same_bytes}
use Rattle.octets.specs.Order.{need}
use Rattle.condition.specs.declared.truths.Truth.{Truth}
use Rattle.condition.specs.declared.truths.Truth.TheVariants.{False, True, Unknown}
use Rattle.condition.specs.Token.{equal, unequal, below, at_most, above, at_least, signed}
use Rattle.condition.specs.Table.{Attribute, value_in}
use Rattle.condition.specs.Meaning.{and_of, or_of, not_of, compare_of}
use Rattle.condition.specs.Tree.{spelt}
use Rattle.std.specs.Prelude.{Result}
use Rattle.refusal.specs.declared.Refusal.TheVariants.{Text, Large, Room}
use Rattle.wording.specs.declared.Stored.{Stored}
use Rattle.wording.specs.declared.TextFault.{TextFault}
use Rattle.wording.specs.Grammar.{Condition, last, or, only, and, not, paren, compare, name, integer, ascii, text_s, text_r, text_c, digit, letter, alnum, all, val, ValidS, ValidC, InGrammar}
use Rattle.wording.specs.Reader.{Reading, accepted, refused, read_rest, read_digits, read_number, read_operand, read_sign, read_comparison, read, reading}
use Rattle.wording.specs.Stored.{wide, word_for, operand_of, formula_c, deep, code_of, token_bytes, bytes_all, stored_of}
use Rattle.wording.specs.Meaning.{value_s, compared, means_c}
use Rattle.wording.specs.Translation.{done_with, refused_at, storing, answer_by, translation_of, stored_by, laid_on, out_after}

-- a text many times over
times : ℕ → String → List ℕ
times zero s = []
times (suc n) s = ascii s ++ times n s

-- ---- answers

-- a text, the bytes lent, and the answer
pub record Answered : Type 0 where
  pub text : List ℕ
  pub room : ℕ
  pub answer : Result Stored TextFault

-- done, so many bytes and tokens: four bytes, 5 and 2 for each letter of a name, 11 for a number, 1 for an operator
is : String → ℕ → ℕ → Answered
is s n k = record { text = ascii s; room = 600; answer = done_with n k }

-- 16, at that offset
not_at : ℕ → String → Answered
not_at k s = record { text = ascii s; room = 600; answer = refused_at Text k }

pub answers : List Answered
answers =
    -- each rule of the grammar
    is "a==1" 23 3
    ∷ is "1==a" 23 3
    ∷ is "a<b" 19 3
    ∷ is "1>=2" 27 3
    ∷ is "Z9!=-0" 25 3
    ∷ is "a<=007" 23 3
    ∷ is "!a>1" 24 4
    ∷ is "!!a>1" 25 5
    ∷ is "(a==1)" 23 3
    ∷ is "a==1||b==2" 43 7
    ∷ is "a==1&&b==2" 43 7
    ∷ is "level>=3&&!(dept==2||dept==7)" 84 12
    -- a text that stops too early is refused at its end
    ∷ not_at 0 ""
    ∷ not_at 1 "a"
    ∷ not_at 2 "a="
    ∷ not_at 3 "a=="
    ∷ not_at 4 "a==-"
    ∷ not_at 5 "a==1&"
    ∷ not_at 6 "a==1||"
    ∷ not_at 5 "(a==1"
    ∷ not_at 1 "!"
    -- one that goes wrong, at the byte there
    ∷ not_at 2 "a=1"
    ∷ not_at 3 "a==+1"
    ∷ not_at 1 "a ==1"
    ∷ not_at 0 " a==1"
    ∷ not_at 4 "a==1 "
    ∷ not_at 5 "a==1&b==2"
    ∷ not_at 5 "a==1|b==2"
    ∷ not_at 4 "a==1)"
    ∷ not_at 1 "()"
    ∷ not_at 4 "a==1==2"
    ∷ not_at 1 "1a==2"
    ∷ not_at 4 "a==--1"
    ∷ not_at 2 "a<>1"
    ∷ not_at 2 "a=<1"
    ∷ not_at 2 "a!1"
    ∷ not_at 1 "a_b==1"
    -- both ends of 64 bits, and past them at the digit that leaves the range
    ∷ is "a==9223372036854775807" 23 3
    ∷ not_at 21 "a==9223372036854775808"
    ∷ is "a==-9223372036854775808" 23 3
    ∷ not_at 22 "a==-9223372036854775809"
    ∷ is "a==00000000000000000000000001" 23 3
    -- 12 parentheses are open, and the 13th; a ! doesn't nest
    ∷ is "((((((((((((a==1))))))))))))" 23 3
    ∷ not_at 12 "(((((((((((((a==1)))))))))))))"
    ∷ is "!((((((((((((a==1))))))))))))" 24 4
    ∷ not_at 13 "((((((((((((!(a==1)))))))))))))"
    -- 64 tokens and 65
    ∷ record { text = ascii "!" ++ (times 15 "a==1&&" ++ ascii "a==1"); room = 600; answer = done_with 324 64 }
    ∷ record { text = ascii "!!" ++ (times 15 "a==1&&" ++ ascii "a==1"); room = 600; answer = refused_at Large 0 }
    -- depth 16 and 17
    ∷ record { text = times 7 "a==1||a==1&&(" ++ (ascii "a==1" ++ times 7 ")"); room = 600; answer = done_with 303 59 }
    ∷ record { text = ascii "a==1||(" ++ (times 7 "a==1||a==1&&(" ++ (ascii "a==1" ++ times 8 ")")); room = 600; answer = refused_at Large 0 }
    -- 512 bytes that stop too early, 513, and 513 that go wrong before
    ∷ record { text = times 512 "a"; room = 600; answer = refused_at Text 512 }
    ∷ record { text = times 513 "a"; room = 600; answer = refused_at Text 512 }
    ∷ record { text = ascii "?" ++ times 512 "a"; room = 600; answer = refused_at Text 512 }
    -- the room, one byte short and exact; 17 and 16 come before 8
    ∷ record { text = ascii "a==1"; room = 22; answer = refused_at Room 0 }
    ∷ record { text = ascii "a==1"; room = 23; answer = done_with 23 3 }
    ∷ record { text = ascii "!!" ++ (times 15 "a==1&&" ++ ascii "a==1"); room = 0; answer = refused_at Large 0 }
    ∷ record { text = ascii "a==1)"; room = 0; answer = refused_at Text 4 }
    ∷ []

pub answers-hold : map (λ (e : Answered). translation_of e.text e.room) answers ≡ map (λ (e : Answered). e.answer) answers
unfolding answers is not_at times translation_of answer_by storing need reading read read_comparison read_sign read_operand read_number read_digits read_rest digit letter alnum formula_c deep spelt operand_of wide stored_of bytes_all token_bytes spell
answers-hold = refl

-- ---- the tree

-- what administrators type
pub typed : List ℕ
typed = ascii "level>=3&&!(dept==2||dept==7)"

pub typed-tree : Condition
typed-tree =
    last
    (and
    (compare (name 108 (ascii "evel")) at_least (integer false 51 []))
    (only (not (paren (or (only (compare (name 100 (ascii "ept")) equal (integer false 50 []))) (last (only (compare (name 100 (ascii "ept")) equal (integer false 55 [])))))))))

pub reads-typed : reading typed ≡ accepted typed-tree
unfolding typed typed-tree reading read read_comparison read_sign read_operand read_number read_digits read_rest digit letter alnum
reads-typed = refl

-- and back: its text, and that it is in the grammar
pub typed-text : text_c typed-tree ≡ typed
unfolding typed typed-tree text_c text_s text_r
typed-text = refl

pub typed-in : InGrammar typed-tree
unfolding typed-tree ValidC ValidS all digit letter alnum val
typed-in = (((refl, refl), (refl, refl, omega arith)), (omega arith, (((refl, refl), (refl, refl, omega arith)), ((refl, refl), (refl, refl, omega arith)))))

-- the other signs, a minus, and a row of three
pub texts-worked : map text_c (
    last (only (compare (name 97 []) unequal (integer true 49 (50 ∷ []))))
    ∷ last (only (compare (integer false 48 []) below (name 97 [])))
    ∷ last (and (compare (name 97 []) at_most (name 98 [])) (and (compare (name 97 []) above (name 98 [])) (only (compare (name 97 []) at_least (name 98 [])))))
    ∷ [])
    ≡ ascii "a!=-12" ∷ ascii "0<a" ∷ ascii "a<=b&&a>b&&a>=b" ∷ []
unfolding text_c text_s text_r
texts-worked = refl

-- the stored form of 1 and 12 compared, by the comparison's code
abbrev one_twelve : ℕ → List ℕ
one_twelve code =
    0x61 ∷ 0x72 ∷ 0x74 ∷ 0x78
    ∷ 0x04 ∷ 1 ∷ 0 ∷ 0 ∷ 0 ∷ 0 ∷ 0 ∷ 0 ∷ 0 ∷ 3 ∷ 2
    ∷ 0x04 ∷ 12 ∷ 0 ∷ 0 ∷ 0 ∷ 0 ∷ 0 ∷ 0 ∷ 0 ∷ 3 ∷ 2 ∷ code ∷ []

pub codes-worked : map (λ (s : String). stored_by (reading (ascii s))) ("1==12" ∷ "1!=12" ∷ "1<12" ∷ "1<=12" ∷ "1>12" ∷ "1>=12" ∷ []) ≡ map one_twelve (0x80 ∷ 0x81 ∷ 0x82 ∷ 0x83 ∷ 0x84 ∷ 0x85 ∷ [])
unfolding stored_by reading read read_comparison read_sign read_operand read_number read_digits read_rest digit letter alnum formula_c spelt operand_of word_for val stored_of bytes_all token_bytes code_of spell
codes-worked = refl

-- a ! is a byte more
pub not-worked : stored_by (reading (ascii "!1==12")) ≡ one_twelve 0x80 ++ (0xA2 ∷ [])
unfolding stored_by reading read read_comparison read_sign read_operand read_number read_digits read_rest digit letter alnum formula_c spelt operand_of word_for val stored_of bytes_all token_bytes code_of spell
not-worked = refl

-- the stored form of a row of three: a == b, a == c and a == d, with that operator behind the second one and behind the third
abbrev three : ℕ → List ℕ
three joins =
    0x61 ∷ 0x72 ∷ 0x74 ∷ 0x78
    ∷ 0xF8 ∷ 2 ∷ 0 ∷ 0 ∷ 0 ∷ 97 ∷ 0 ∷ 0xF8 ∷ 2 ∷ 0 ∷ 0 ∷ 0 ∷ 98 ∷ 0 ∷ 0x80
    ∷ 0xF8 ∷ 2 ∷ 0 ∷ 0 ∷ 0 ∷ 97 ∷ 0 ∷ 0xF8 ∷ 2 ∷ 0 ∷ 0 ∷ 0 ∷ 99 ∷ 0 ∷ 0x80 ∷ joins
    ∷ 0xF8 ∷ 2 ∷ 0 ∷ 0 ∷ 0 ∷ 97 ∷ 0 ∷ 0xF8 ∷ 2 ∷ 0 ∷ 0 ∷ 0 ∷ 100 ∷ 0 ∷ 0x80 ∷ joins ∷ []

-- both rows group to the left
pub groups-left : map stored_by (reading (ascii "a==b&&a==c&&a==d") ∷ reading (ascii "a==b||a==c||a==d") ∷ []) ≡ three 0xA0 ∷ three 0xA1 ∷ []
unfolding stored_by reading read read_comparison read_sign read_operand read_number read_digits read_rest digit letter alnum formula_c spelt operand_of wide stored_of bytes_all token_bytes code_of spell
groups-left = refl

-- ---- the stored form, on the front of what was lent

pub stored-typed : out_after (ascii "a<-2") (9 ∷ 9 ∷ 9 ∷ 9 ∷ 9 ∷ 9 ∷ 9 ∷ 9 ∷ 9 ∷ 9 ∷ 9 ∷ 9 ∷ 9 ∷ 9 ∷ 9 ∷ 9 ∷ 9 ∷ 9 ∷ 9 ∷ 9 ∷ 9 ∷ 9 ∷ 9 ∷ 8 ∷ 7 ∷ [])
    ≡ 0x61 ∷ 0x72 ∷ 0x74 ∷ 0x78 ∷ 0xF8 ∷ 2 ∷ 0 ∷ 0 ∷ 0 ∷ 97 ∷ 0 ∷ 0x04 ∷ 0xFE ∷ 0xFF ∷ 0xFF ∷ 0xFF ∷ 0xFF ∷ 0xFF ∷ 0xFF ∷ 0xFF ∷ 3 ∷ 2 ∷ 0x82 ∷ 8 ∷ 7 ∷ []
unfolding out_after laid_on stored_by translation_of answer_by storing need reading read read_comparison read_sign read_operand read_number read_digits read_rest digit letter alnum formula_c deep spelt operand_of wide word_for val stored_of bytes_all token_bytes code_of spell
stored-typed = refl

-- a refusal leaves it
pub refused-leaves : out_after (ascii "a<-") (9 ∷ 8 ∷ 7 ∷ []) ≡ 9 ∷ 8 ∷ 7 ∷ []
unfolding out_after laid_on translation_of answer_by need reading read read_comparison read_sign read_operand read_number read_digits read_rest digit letter alnum
refused-leaves = refl

-- ---- the meaning

-- a text, a table's names with their numbers, and what it means
pub record Meant : Type 0 where
  pub text : String
  pub table : List Attribute
  pub truth : Truth

-- a name with its number, 64 bits
has : String → ℕ → Attribute
has s w = record { name = wide (ascii s); value = w }

-- the truth of a text's tree
pub truth_in : List Attribute → Reading → Truth
truth_in table (accepted c) = means_c table c
truth_in table (refused k) = Unknown

pub meant : List Meant
meant =
    record { text = "level>=3&&!(dept==2||dept==7)"; table = has "level" 5 ∷ has "dept" 3 ∷ []; truth = True }
    ∷ record { text = "level>=3&&!(dept==2||dept==7)"; table = has "level" 2 ∷ has "dept" 3 ∷ []; truth = False }
    ∷ record { text = "level>=3&&!(dept==2||dept==7)"; table = has "level" 5 ∷ has "dept" 7 ∷ []; truth = False }
    -- a missing name is unknown, which an and with false doesn't ask for
    ∷ record { text = "level>=3&&!(dept==2||dept==7)"; table = has "level" 5 ∷ []; truth = Unknown }
    ∷ record { text = "level>=3&&!(dept==2||dept==7)"; table = has "level" 2 ∷ []; truth = False }
    ∷ record { text = "a==b"; table = []; truth = Unknown }
    -- && before ||, on either side
    ∷ record { text = "a==1||a==2&&a==2"; table = has "a" 1 ∷ []; truth = True }
    ∷ record { text = "a==2&&a==2||a==1"; table = has "a" 1 ∷ []; truth = True }
    -- a ! is of its factor alone
    ∷ record { text = "!a==1&&a==2"; table = has "a" 1 ∷ []; truth = False }
    ∷ record { text = "!(a==1&&a==2)"; table = has "a" 1 ∷ []; truth = True }
    -- numbers are signed
    ∷ record { text = "a<-2"; table = has "a" 0xFFFFFFFFFFFFFFFD ∷ []; truth = True }
    ∷ record { text = "-9223372036854775808<=a"; table = has "a" 0x8000000000000000 ∷ []; truth = True }
    ∷ record { text = "-0==0"; table = []; truth = True }
    -- names are told apart by case
    ∷ record { text = "A==1"; table = has "a" 1 ∷ []; truth = Unknown }
    ∷ []

pub meant-holds : map (λ (e : Meant). truth_in e.table (reading (ascii e.text))) meant ≡ map (λ (e : Meant). e.truth) meant
unfolding meant has truth_in reading read read_comparison read_sign read_operand read_number read_digits read_rest digit letter alnum means_c value_s compared wide val value_in same_bytes signed compare_of and_of or_of not_of
meant-holds = refl
