-- Who may open (RULES 10.2 to 10.5). An entry is its bytes.
use Rattle.std.specs.Prelude.{ℕ, zero, suc, ◌^◌, List, [], ◌∷◌, Bool, true, false, not, cond, ◌&&◌, ◌||◌, length, eqb, leb, Option, None, Some, Result, Ok, Err}
use Rattle.std.proofs.Math.Option.{none, some}
use Rattle.octets.specs.Order.{need}
use Rattle.octets.specs.Bytes.{has, among, same_bytes, guid_at}
use Rattle.condition.specs.Table.{table_ok}
use Rattle.condition.specs.Meaning.{said_by}
use Rattle.condition.specs.declared.truths.Truth.{Truth}
use Rattle.condition.specs.declared.truths.Truth.TheVariants.{False, True, Unknown}
use Rattle.list.specs.Entry.{access, object_kind, conditional_kind, kind_of, flags_of, mask_of, word_of, sid_of, tail_of}
use Rattle.list.specs.List.{MaybeList, lent, entries_of, check_of}
use Rattle.list.specs.Answer.{Values, done, refused}
use Rattle.list.specs.declared.readings.Read.{Read}
use Rattle.refusal.specs.Numbers.{number_of}
use Rattle.refusal.specs.Faults.{plain}
use Rattle.refusal.specs.declared.Refusal.TheVariants.{Identity, Types, Generic, Table}
use Rattle.refusal.specs.declared.Fault.{Fault}
use Rattle.access.specs.Held.{held_of, reaches_end}

-- a list or none, an object type, the SIDs that a person holds, laid end to end, a wanted mask, and a table of names
pub record Question : Type 0 where
  pub list : MaybeList
  pub type : List ℕ
  pub held : List ℕ
  pub wanted : ℕ
  pub table : List ℕ

-- the entry is IO, flag 08
abbrev pub inherit_only : List ℕ → Bool
inherit_only e = has 0x08 (flags_of e)

-- object entries count only without an ObjectType or with the given one
unfoldable pub type_counts : List ℕ → List ℕ → Bool
type_counts type e = cond (object_kind (kind_of e)) (not (has 1 (word_of e)) || same_bytes (guid_at e 12) type) true

-- the entry is an allow, type 00, 05 or 09, and no deny
unfoldable pub is_allow : ℕ → Bool
is_allow kind = eqb kind 0 || (eqb kind 5 || eqb kind 9)

-- a true condition applies, a false one passes the entry over; unknown grants nothing in an allow, and denies in a deny
unfoldable pub said_counts : Truth → Bool → Bool
said_counts False allow = false
said_counts True allow = true
said_counts Unknown allow = not allow

-- conditional entries count by what their expression says under the table
unfoldable pub condition_counts : List ℕ → List ℕ → Bool
condition_counts table e = cond (conditional_kind (kind_of e)) (said_counts (said_by (tail_of e) table) (is_allow (kind_of e))) true

-- what it is about: its type counts, and so does its condition
unfoldable pub applies : List ℕ → List ℕ → List ℕ → Bool
applies type table e = type_counts type e && condition_counts table e

-- the entry counts: it isn't IO, names one of the SIDs, and applies
unfoldable pub entry_counts : List ℕ → List ℕ → List (List ℕ) → List ℕ → Bool
entry_counts type table sids e = not (inherit_only e) && (among (sid_of e) sids && applies type table e)

-- the first entry that counts and has the bit is an allow; a bit that no entry speaks of is a no
unfoldable pub granted : List ℕ → List ℕ → List (List ℕ) → ℕ → List (List ℕ) → Bool
granted type table sids bit [] = false
granted type table sids bit (e ∷ es) = cond (entry_counts type table sids e && has bit (mask_of e)) (is_allow (kind_of e)) (granted type table sids bit es)

-- a test holds of each of the n lowest bits
unfoldable pub each_bit : ℕ → (ℕ → Bool) → Bool
each_bit zero test = true
each_bit (suc n) test = test (2 ^ n) && each_bit n test

-- each wanted bit is granted
unfoldable pub opens_by : List ℕ → List ℕ → List (List ℕ) → ℕ → List (List ℕ) → Bool
opens_by type table sids wanted es = each_bit 32 (λ bit. not (has bit wanted) || granted type table sids bit es)

-- an absent list is a yes
unfoldable pub opens : Question → MaybeList → Bool
opens q none = true
opens q (some s) = opens_by q.type q.table (held_of q.held) q.wanted (entries_of s)

-- a list that is present reads as done, or its refusal is the answer
unfoldable pub on_read : Result Read Fault → Result Bool Fault → Result Bool Fault
on_read (Ok r) rest = rest
on_read (Err fault) rest = Err fault

unfoldable pub read_first : MaybeList → Result Bool Fault → Result Bool Fault
read_first none rest = rest
read_first (some s) rest = on_read (check_of access s) rest

-- the answer: 14, a generic bit wanted; then 1 to 5 and 15; then 6 where the held bytes aren't SIDs to their end; 7 for more than 32; 23 for a table that
-- isn't well made
unfoldable pub may_open_of : Question → Result Bool Fault
may_open_of q =
    need (not (has 0xF0000000 q.wanted)) (Err (plain Generic))
    (read_first q.list
    (need (reaches_end q.held) (Err (plain Identity))
    (need (leb (length (held_of q.held)) 32) (Err (plain Types))
    (need (table_ok q.table) (Err (plain Table))
    (Ok (opens q q.list))))))

-- the numbers and values (RULES 4.2, 8.1) of each case of the answer: done, with 1 for yes and 0 for no in the place of the length
abbrev pub access_values : Result Bool Fault → Values
access_values (Ok true) = done 1 0 0 0
access_values (Ok false) = done 0 0 0 0
access_values (Err fault) = refused (number_of fault.why) fault.list fault.at

-- a list or none, as a call is lent it
abbrev pub maybe_list : Option (List ℕ) → MaybeList
maybe_list None = none
maybe_list (Some s) = some s

-- what the public call's arguments ask
abbrev pub question_of : Option (List ℕ) → List ℕ → List ℕ → ℕ → List ℕ → Question
question_of list type held wanted table = record { list = maybe_list list; type = type; held = held; wanted = wanted; table = table }

-- the same of C's, a flag and a list beside it
abbrev pub question_by : Bool → List ℕ → List ℕ → List ℕ → ℕ → List ℕ → Question
question_by given list type held wanted table = record { list = lent given list; type = type; held = held; wanted = wanted; table = table }
