-- Questions worked by hand, each as small as can be, and the walk over a list, by computation.
use mathlib.Core.Path.{◌≡◌, refl}
use mathlib.Core.Bool.{true, false}
use mathlib.Core.List.{List, [], ◌∷◌, ◌++◌, map, flatten}
use mathlib.Core.Option.{none, some, bind}
use Prim.Native.Nat.{ℕ, ◌+◌}
use lib.ListN.{length, replicate}
use Rattle.octets.specs.Bytes.{le, spell, same_bytes, among, guid_at}
use Rattle.list.specs.Identity.{length_of_sid, whole_sid, placeholder_of}
use Rattle.octets.specs.Order.{need}
use Rattle.condition.specs.Token.{name_ok, one_to_three, literal_at, name_at, comparison_of, operator_of, token_at, long, long_all, over, tokens_in, signed}
use Rattle.condition.specs.Kind.{operand_kind, is_operand, taking, kinds_after, kinds_from, one_left, marked, zeros, acceptable, accepted_of, end_by, up_to_four}
use Rattle.condition.specs.Table.{record_long, records_in, attributes_of, value_in, missing, well_made}
use Rattle.condition.specs.Meaning.{compare_of, value_of, comparing, on_operands, after_token, run, truth_left, truth_by}
use Rattle.list.specs.Entry.{plain_of, object_of, object_kind, kind_ok, flags_ok, head_of, word_after, conditional_of, conditional_kind, expression_ok, tail_long, size_ok, entry_of}
use Rattle.list.specs.List.{MaybeList, rev_ok, header_ok, on_good, walk_of, finish, check_of, cut, entries_of, head_bytes, render}
use Rattle.list.specs.Answer.{Values, done, refused}
use Rattle.access.specs.declared.steps.Found.{Found}
use Rattle.std.specs.Prelude.{Some, None}
use Rattle.access.specs.Held.{sids_in, held_of, reaches_end}
use Rattle.access.specs.Open.{Question, type_counts, said_counts, condition_counts, applies, entry_counts, is_allow, granted, each_bit, opens_by, opens, on_read, read_first, may_open_of, access_values}
use Rattle.access.specs.Walk.{walk_over, walk_through, first_from, on_walk, pointed_of, pointed_values, walked_by, walked_of, found_by, past_by, walk_on, walk_from}
use Rattle.access.specs.Said.{spoken, ordinary_of}

-- S-1-5-n: a person, the crew, the freelancers; and S-1-3-0
abbrev sid : ℕ → List ℕ
sid n = 0x01 ∷ 0x01 ∷ 0 ∷ 0 ∷ 0 ∷ 0 ∷ 0 ∷ 0x05 ∷ n ∷ 0 ∷ 0 ∷ 0 ∷ []

abbrev her : List ℕ
her = sid 0x41

abbrev crew : List ℕ
crew = sid 0x42

abbrev freelancers : List ℕ
freelancers = sid 0x43

abbrev creator_owner : List ℕ
creator_owner = 0x01 ∷ 0x01 ∷ 0 ∷ 0 ∷ 0 ∷ 0 ∷ 0 ∷ 0x03 ∷ 0 ∷ 0 ∷ 0 ∷ 0 ∷ []

-- an entry of type 00 or 01: its flags and the lowest byte of its mask
abbrev plain : ℕ → ℕ → ℕ → List ℕ → List ℕ
plain kind flags mask s = kind ∷ flags ∷ 0x14 ∷ 0 ∷ mask ∷ 0 ∷ 0 ∷ 0 ∷ s

-- an object entry with no GUID, one or two, of mask 1
abbrev object : ℕ → ℕ → ℕ → List ℕ → List ℕ → List ℕ
object kind size word guids s = kind ∷ 0 ∷ size ∷ 0 ∷ 1 ∷ 0 ∷ 0 ∷ 0 ∷ word ∷ 0 ∷ 0 ∷ 0 ∷ (guids ++ s)

-- a conditional entry, type 09 or 0A: what follows the SID is its expression
abbrev conditional : ℕ → ℕ → ℕ → List ℕ → List ℕ → List ℕ
conditional kind flags mask s expression = kind ∷ flags ∷ (20 + length expression) ∷ 0 ∷ mask ∷ 0 ∷ 0 ∷ 0 ∷ (s ++ expression)

-- `level` in 16-bit units; the stored form of level, 3 and an operator, padded: 85 is level >= 3, 00 is no operator
abbrev level : List ℕ
level = 0x6C ∷ 0 ∷ 0x65 ∷ 0 ∷ 0x76 ∷ 0 ∷ 0x65 ∷ 0 ∷ 0x6C ∷ 0 ∷ []

abbrev compare_three : ℕ → List ℕ
compare_three operator =
    0x61 ∷ 0x72 ∷ 0x74 ∷ 0x78
    ∷ 0xF8 ∷ 0x0A ∷ 0 ∷ 0 ∷ 0 ∷ (level ++ (0x04 ∷ 3 ∷ 0 ∷ 0 ∷ 0 ∷ 0 ∷ 0 ∷ 0 ∷ 0 ∷ 3 ∷ 2 ∷ operator ∷ 0 ∷ []))

abbrev enough : List ℕ
enough = compare_three 0x85

-- a table with a level, its lowest byte and the other seven: 2, 3, -1; a table that is cut, and one with a name twice
abbrev level_is : ℕ → ℕ → List ℕ
level_is low others = 0x0A ∷ 0 ∷ (level ++ (low ∷ replicate 7 others))

abbrev level_two : List ℕ
level_two = level_is 2 0

abbrev level_three : List ℕ
level_three = level_is 3 0

abbrev level_minus_one : List ℕ
level_minus_one = level_is 0xFF 0xFF

abbrev cut_table : List ℕ
cut_table = 9 ∷ []

abbrev twice_table : List ℕ
twice_table = level_three ++ level_three

-- a type, another one, and a list of revision 4
abbrev array : List ℕ
array = replicate 16 0xA1

abbrev venue : List ℕ
venue = replicate 15 0xA1 ++ (0xA2 ∷ [])

list : List (List ℕ) → MaybeList
list es = some (render 4 es)

pub record Example : Type 0 where
  pub question : Question
  pub answer : Values

-- of an array, held by her as a member of the crew and of the freelancers
asks : MaybeList → ℕ → Values → Example
asks l w v = record { question = record { list = l; type = array; held = her ++ (crew ++ freelancers); wanted = w; table = [] }; answer = v }

holds : List ℕ → MaybeList → ℕ → Values → Example
holds h l w v = record { question = record { list = l; type = array; held = h; wanted = w; table = [] }; answer = v }

-- the same two with a table
lends : List ℕ → List ℕ → MaybeList → ℕ → Values → Example
lends t h l w v = record { question = record { list = l; type = array; held = h; wanted = w; table = t }; answer = v }

knows : List ℕ → MaybeList → ℕ → Values → Example
knows t l w v = lends t (her ++ (crew ++ freelancers)) l w v

abbrev yes_answer : Values
yes_answer = done 1 0 0 0

abbrev no_answer : Values
no_answer = done 0 0 0 0

pub table : List Example
table =
    -- allowed; the deny before the allow; the allow before the deny; a deny for others; a bit that is denied beside one that is allowed
    asks (list (plain 0 0 1 crew ∷ [])) 1 yes_answer
    ∷ asks (list (plain 1 0 1 freelancers ∷ plain 0 0 1 crew ∷ [])) 1 no_answer
    ∷ asks (list (plain 0 0 1 crew ∷ plain 1 0 1 freelancers ∷ [])) 1 yes_answer
    ∷ asks (list (plain 1 0 1 (sid 0x44) ∷ plain 0 0 1 crew ∷ [])) 1 yes_answer
    ∷ asks (list (plain 1 0 2 freelancers ∷ plain 0 0 3 crew ∷ [])) 1 yes_answer
    ∷ asks (list (plain 1 0 2 freelancers ∷ plain 0 0 3 crew ∷ [])) 3 no_answer
    -- two entries give one bit each; a bit that nobody speaks of; nothing wanted; an empty list; no list
    ∷ asks (list (plain 0 0 1 her ∷ plain 0 0 2 crew ∷ [])) 3 yes_answer
    ∷ asks (list (plain 0 0 1 her ∷ plain 0 0 2 crew ∷ [])) 7 no_answer
    ∷ asks (list (plain 1 0 1 her ∷ [])) 0 yes_answer
    ∷ asks (list []) 1 no_answer
    ∷ asks none 1 yes_answer
    -- IO entries don't count, allow or deny; the other four flags do nothing
    ∷ asks (list (plain 0 0x08 1 crew ∷ [])) 1 no_answer
    ∷ asks (list (plain 1 0x08 1 crew ∷ plain 0 0x17 1 crew ∷ [])) 1 yes_answer
    -- an object entry without ObjectType, with the type given, with another; with InheritedObjectType alone, the other one; a deny of either
    ∷ asks (list (object 5 0x18 0 [] crew ∷ [])) 1 yes_answer
    ∷ asks (list (object 5 0x28 1 array crew ∷ [])) 1 yes_answer
    ∷ asks (list (object 5 0x28 1 venue crew ∷ [])) 1 no_answer
    ∷ asks (list (object 5 0x28 2 venue crew ∷ [])) 1 yes_answer
    ∷ asks (list (object 5 0x38 3 (venue ++ array) crew ∷ [])) 1 no_answer
    ∷ asks (list (object 6 0x28 1 venue crew ∷ plain 0 0 1 crew ∷ [])) 1 yes_answer
    ∷ asks (list (object 6 0x28 1 array crew ∷ plain 0 0 1 crew ∷ [])) 1 no_answer
    -- nobody held; a placeholder that is held; one that isn't
    ∷ holds [] (list (plain 0 0 1 crew ∷ [])) 1 no_answer
    ∷ holds creator_owner (list (plain 0 0 1 creator_owner ∷ [])) 1 yes_answer
    ∷ asks (list (plain 0 0 1 creator_owner ∷ [])) 1 no_answer
    -- 14 before a bad list; the lowest generic bit, and the highest; the highest bit that isn't
    ∷ asks (some []) 0x10000001 (refused 14 0 0)
    ∷ holds (9 ∷ []) none 0x80000000 (refused 14 0 0)
    ∷ asks (list (plain 0 0 1 crew ∷ [])) 0x08000000 no_answer
    -- 1 and 4 of the list, before a fault of the held bytes
    ∷ holds (9 ∷ []) (some []) 1 (refused 1 0 0)
    ∷ holds (9 ∷ []) (list (plain 0 0 1 crew ∷ plain 0 0x20 1 crew ∷ [])) 1 (refused 4 0 28)
    -- 6: a cut SID, junk, junk behind 33 SIDs, with no list too; 7: 33 SIDs; 32 are fine
    ∷ holds (her ++ (0x01 ∷ 0x01 ∷ 0 ∷ 0 ∷ 0 ∷ 0 ∷ 0 ∷ 0x05 ∷ 0x42 ∷ 0 ∷ 0 ∷ [])) (list []) 1 (refused 6 0 0)
    ∷ holds (9 ∷ []) none 0 (refused 6 0 0)
    ∷ holds (flatten (replicate 33 her) ++ (9 ∷ [])) none 1 (refused 6 0 0)
    ∷ holds (flatten (replicate 33 her)) none 1 (refused 7 0 0)
    ∷ holds (flatten (replicate 32 her)) (list (plain 0 0 1 her ∷ [])) 1 yes_answer
    -- a conditional allow: true, under revision 2 too; false of 2, and of -1; unknown, and an entry behind it grants; so does one behind a false one
    ∷ knows level_three (list (conditional 9 0 1 crew enough ∷ [])) 1 yes_answer
    ∷ knows level_three (some (render 2 (conditional 9 0 1 crew enough ∷ []))) 1 yes_answer
    ∷ knows level_two (list (conditional 9 0 1 crew enough ∷ [])) 1 no_answer
    ∷ knows level_minus_one (list (conditional 9 0 1 crew enough ∷ [])) 1 no_answer
    ∷ knows [] (list (conditional 9 0 1 crew enough ∷ [])) 1 no_answer
    ∷ knows [] (list (conditional 9 0 1 crew enough ∷ plain 0 0 1 crew ∷ [])) 1 yes_answer
    ∷ knows level_two (list (conditional 9 0 1 crew enough ∷ plain 0 0 1 crew ∷ [])) 1 yes_answer
    -- a conditional deny before an allow: true, false, unknown; an unknown one behind it; an unknown one behind an unknown allow
    ∷ knows level_three (list (conditional 10 0 1 freelancers enough ∷ plain 0 0 1 crew ∷ [])) 1 no_answer
    ∷ knows level_two (list (conditional 10 0 1 freelancers enough ∷ plain 0 0 1 crew ∷ [])) 1 yes_answer
    ∷ knows [] (list (conditional 10 0 1 freelancers enough ∷ plain 0 0 1 crew ∷ [])) 1 no_answer
    ∷ knows [] (list (plain 0 0 1 crew ∷ conditional 10 0 1 freelancers enough ∷ [])) 1 yes_answer
    ∷ knows [] (list (conditional 9 0 1 crew enough ∷ conditional 10 0 1 crew enough ∷ plain 0 0 1 crew ∷ [])) 1 no_answer
    -- an unknown deny of a bit that isn't wanted, and of one that is; one for others; a true allow for others
    ∷ knows [] (list (conditional 10 0 2 freelancers enough ∷ plain 0 0 3 crew ∷ [])) 1 yes_answer
    ∷ knows [] (list (conditional 10 0 2 freelancers enough ∷ plain 0 0 3 crew ∷ [])) 3 no_answer
    ∷ knows [] (list (conditional 10 0 1 (sid 0x44) enough ∷ plain 0 0 1 crew ∷ [])) 1 yes_answer
    ∷ knows level_three (list (conditional 9 0 1 (sid 0x44) enough ∷ [])) 1 no_answer
    -- IO: a true allow, a true deny, an unknown deny
    ∷ knows level_three (list (conditional 9 0x08 1 crew enough ∷ [])) 1 no_answer
    ∷ knows level_three (list (conditional 10 0x08 1 crew enough ∷ plain 0 0 1 crew ∷ [])) 1 yes_answer
    ∷ knows [] (list (conditional 10 0x08 1 crew enough ∷ plain 0 0 1 crew ∷ [])) 1 yes_answer
    -- 15 where the entry begins, before 6 and 23: no operator, no expression; also where the entry is IO or for others
    ∷ lends cut_table (9 ∷ []) (list (plain 0 0 1 crew ∷ conditional 9 0 1 crew (compare_three 0) ∷ [])) 1 (refused 15 0 28)
    ∷ lends [] (9 ∷ []) (list (conditional 10 0 1 crew [] ∷ [])) 1 (refused 15 0 8)
    ∷ knows level_three (list (conditional 9 0x08 1 (sid 0x44) (compare_three 0) ∷ [])) 1 (refused 15 0 8)
    -- 23: with no list, with nothing wanted, with no conditional entry, with one; with 32 SIDs held, and with none
    ∷ knows cut_table none 1 (refused 23 0 0)
    ∷ knows twice_table none 0 (refused 23 0 0)
    ∷ knows cut_table (list (plain 0 0 1 crew ∷ [])) 1 (refused 23 0 0)
    ∷ knows twice_table (list (conditional 9 0 1 crew enough ∷ [])) 1 (refused 23 0 0)
    ∷ lends cut_table (flatten (replicate 32 her)) none 1 (refused 23 0 0)
    ∷ lends cut_table [] (list []) 1 (refused 23 0 0)
    -- 14, 1, 6 and 7 before it
    ∷ knows cut_table none 0x10000000 (refused 14 0 0)
    ∷ knows cut_table (some []) 1 (refused 1 0 0)
    ∷ lends cut_table (9 ∷ []) none 1 (refused 6 0 0)
    ∷ lends cut_table (flatten (replicate 33 her)) none 1 (refused 7 0 0)
    ∷ []

-- what an expression opens, what a table does, and what the one says under the other
expression-open : Unit {0}
unfolding accepted_of marked same_bytes acceptable zeros tokens_in over token_at literal_at name_at name_ok one_to_three operator_of comparison_of long long_all one_left kinds_from kinds_after taking operand_kind is_operand bind end_by up_to_four le
expression-open = tt

said-open : Unit {0}
unfolding well_made attributes_of records_in record_long name_ok value_in missing same_bytes le run after_token on_operands truth_left truth_by value_of comparing compare_of signed said_counts
said-open = tt

-- what an entry's test, and a question, open
test-open : Unit {0}
unfolding entry_of need kind_ok plain_of object_of object_kind flags_ok head_of word_after size_ok tail_long expression_ok conditional_kind conditional_of length_of_sid le render head_bytes spell flatten check_of header_ok rev_ok walk_of on_good finish
test-open = tt

pub answers-worked : map (λ x. access_values (may_open_of x.question)) table ≡ map (λ x. x.answer) table
unfolding table asks holds lends knows list may_open_of read_first on_read opens opens_by each_bit granted entry_counts applies type_counts condition_counts is_allow among same_bytes guid_at held_of sids_in whole_sid entries_of cut test-open expression-open said-open
answers-worked = refl

-- ---- held SIDs: cut by their lengths, up to a byte that begins none

pub held-worked :
    (held_of (her ++ crew) ≡ her ∷ crew ∷ [])
    × ((reaches_end (her ++ crew) ≡ true)
    × ((held_of (her ++ (9 ∷ 9 ∷ [])) ≡ her ∷ [])
    × ((reaches_end (her ++ (9 ∷ 9 ∷ [])) ≡ false) × (ordinary_of (her ∷ creator_owner ∷ crew ∷ []) ≡ her ∷ crew ∷ []))))
unfolding held_of sids_in whole_sid length_of_sid flatten ordinary_of placeholder_of same_bytes
held-worked = (refl, (refl, (refl, (refl, refl))))

-- some entry speaks of a bit: an IO entry doesn't
pub spoken-worked :
    map (λ bit. spoken array [] (her ∷ []) bit (plain 0 0x08 1 her ∷ plain 1 0 2 her ∷ plain 0 0 4 crew ∷ [])) (1 ∷ 2 ∷ 4 ∷ []) ≡ false ∷ true ∷ false ∷ []
unfolding spoken entry_counts applies type_counts condition_counts among same_bytes le test-open
spoken-worked = refl

-- ---- a walk: two entries, at 8 and at 28, with spare bytes behind them that look like another; where each is found from, and the walker's steps

pub two : List ℕ
two =
    0x04 ∷ 0 ∷ 0x58 ∷ 0 ∷ 0x02 ∷ 0 ∷ 0 ∷ 0
    ∷ (plain 1 0x0B 5 crew ++ (object 6 0x28 2 array her ++ plain 0 0 1 her))

abbrev first_found : Found
first_found = record { at = 8; entry = record { kind = 1; flags = 0x0B; size = 20; mask = 5; word = 0; sid = 8; sid_len = 12 }; next = 28 }

abbrev second_found : Found
second_found = record { at = 28; entry = record { kind = 6; flags = 0; size = 40; mask = 1; word = 2; sid = 28; sid_len = 12 }; next = 68 }

pub walk-worked :
    (walk_through two ≡ first_found ∷ second_found ∷ [])
    × ((map (λ place. first_from place (walk_through two)) (0 ∷ 8 ∷ 9 ∷ 28 ∷ 29 ∷ 68 ∷ []) ≡ Some first_found ∷ Some first_found ∷ Some second_found ∷ Some second_found ∷ None ∷ None ∷ [])
    × ((walk_from 4 (walked_of two) 8 ≡ first_found ∷ second_found ∷ [])
    × ((length (walked_of two) ≡ 68)
    × ((map pointed_values (pointed_of two 9 ∷ pointed_of two 29 ∷ pointed_of (7 ∷ two) 0 ∷ []) ≡ done 28 1 0 0 ∷ done 0 0 0 0 ∷ refused 1 0 0 ∷ [])
    × (walked_of (7 ∷ two) ≡ [])))))
unfolding two walk_over first_from on_walk walked_by found_by past_by walk_on walk_from entries_of cut test-open
walk-worked = (refl, (refl, (refl, (refl, (refl, refl)))))
