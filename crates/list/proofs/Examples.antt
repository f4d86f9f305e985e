-- Lists, each as small as can be, and what the reader answers, by computation.
use mathlib.Core.Path.{◌≡◌, refl}
use mathlib.Core.Bool.{true, false}
use mathlib.Core.List.{List, [], ◌∷◌, ◌++◌, map}
use mathlib.Core.Option.{none, some, bind}
use Prim.Native.Nat.{ℕ}
use lib.ListN.{take, drop, replicate}
use Rattle.octets.specs.Bytes.{le, spell, same_bytes}
use Rattle.list.specs.Identity.{length_of_sid, whole_sid, is_sid, placeholder_of, placeholder_in, identity_of, identity_in, bytes_of, placeholder_sid, made_of}
use Rattle.list.specs.declared.identities.Placeholder.TheVariants.{Owner, Group}
use Rattle.std.specs.Prelude.{Some, None, Ok, Err}
use Rattle.refusal.specs.declared.Refusal.TheVariants.{Identity}
use Rattle.octets.specs.Order.{need}
use Rattle.condition.specs.Token.{name_ok, one_to_three, literal_at, name_at, comparison_of, operator_of, token_at, long, long_all, over, tokens_in}
use Rattle.condition.specs.Kind.{operand_kind, is_operand, is_named, is_condition, taking, kinds_after, kinds_from, one_left, marked, zeros, acceptable, accepted_of, end_by, up_to_four}
use Rattle.list.specs.Entry.{access, plain_of, object_of, object_kind, kind_ok, flags_ok, head_of, word_after, conditional_of, conditional_kind, expression_ok, tail_long, size_ok, entry_of}
use Rattle.list.specs.Look.{look_of}
use Rattle.list.specs.List.{lent, rev_ok, header_ok, on_good, walk_of, finish, check_of, with_row, read_of, offsets, row_by, cut, entries_of}
use Rattle.list.specs.Spare.{with_spare, bare_by, bare, size_sum}
use Rattle.list.specs.Answer.{Values, read_done, refused, read_values}

-- allow, flags 0, mask 0, a SID of no number
abbrev small : List ℕ
small = 0x00 ∷ 0x00 ∷ 0x10 ∷ 0 ∷ 0 ∷ 0 ∷ 0 ∷ 0 ∷ 0x01 ∷ 0x00 ∷ 0 ∷ 0 ∷ 0 ∷ 0 ∷ 0 ∷ 0 ∷ []

-- the expression Exists a, of 12 bytes, and bytes behind it; the lone name a, of 11
abbrev known : List ℕ → List ℕ
known behind = 0x61 ∷ 0x72 ∷ 0x74 ∷ 0x78 ∷ 0xF8 ∷ 2 ∷ 0 ∷ 0 ∷ 0 ∷ 0x61 ∷ 0 ∷ 0x87 ∷ behind

abbrev lone : List ℕ → List ℕ
lone behind = 0x61 ∷ 0x72 ∷ 0x74 ∷ 0x78 ∷ 0xF8 ∷ 2 ∷ 0 ∷ 0 ∷ 0 ∷ 0x61 ∷ 0 ∷ behind

-- an entry of a SID of no number, 16 bytes, and bytes behind that; such a list of one entry
abbrev tailed : ℕ → ℕ → List ℕ → List ℕ
tailed kind size tail = kind ∷ 0x00 ∷ size ∷ 0 ∷ 0 ∷ 0 ∷ 0 ∷ 0 ∷ 0x01 ∷ 0x00 ∷ 0 ∷ 0 ∷ 0 ∷ 0 ∷ 0 ∷ 0 ∷ tail

abbrev alone : ℕ → ℕ → List ℕ → List ℕ
alone rev size e = rev ∷ 0 ∷ size ∷ 0 ∷ 0x01 ∷ 0 ∷ 0 ∷ 0 ∷ e

-- a list, the row's length, and the answer
pub record Example : Type 0 where
  pub list : List ℕ
  pub row : ℕ
  pub answer : Values

eg : List ℕ → ℕ → Values → Example
eg s m v = record { list = s; row = m; answer = v }

pub table : List Example
table =
    -- the parent's list of RULES 5.1
    eg (0x02 ∷ 0 ∷ 0x1C ∷ 0 ∷ 0x01 ∷ 0 ∷ 0 ∷ 0
    ∷ 0x00 ∷ 0x03 ∷ 0x14 ∷ 0 ∷ 0 ∷ 0 ∷ 0 ∷ 0x80 ∷ 0x01 ∷ 0x01 ∷ 0 ∷ 0 ∷ 0 ∷ 0 ∷ 0 ∷ 0x03 ∷ 0 ∷ 0 ∷ 0 ∷ 0 ∷ []) 2 (read_done 28 1 28)
    -- no entries, in either revision; types 05 and 06 under revision 4, the first with both GUIDs and flags 1F, the second with none
    ∷ eg (0x02 ∷ 0 ∷ 0x08 ∷ 0 ∷ 0 ∷ 0 ∷ 0 ∷ 0 ∷ []) 0 (read_done 8 0 8)
    ∷ eg (0x04 ∷ 0 ∷ 0x08 ∷ 0 ∷ 0 ∷ 0 ∷ 0 ∷ 0 ∷ []) 0 (read_done 8 0 8)
    ∷ eg (0x04 ∷ 0 ∷ 0x50 ∷ 0 ∷ 0x02 ∷ 0 ∷ 0 ∷ 0
    ∷ 0x05 ∷ 0x1F ∷ 0x34 ∷ 0 ∷ 0 ∷ 0 ∷ 0 ∷ 0 ∷ 0x03 ∷ 0 ∷ 0 ∷ 0 ∷ (replicate 32 9 ++ (0x01 ∷ 0 ∷ 0 ∷ 0 ∷ 0 ∷ 0 ∷ 0 ∷ 0
    ∷ 0x06 ∷ 0x00 ∷ 0x14 ∷ 0 ∷ 0 ∷ 0 ∷ 0 ∷ 0 ∷ 0 ∷ 0 ∷ 0 ∷ 0 ∷ 0x01 ∷ 0 ∷ 0 ∷ 0 ∷ 0 ∷ 0 ∷ 0 ∷ 0 ∷ []))) 2 (read_done 80 2 80)
    -- spare bytes: one behind no entry; three behind one; a bad entry behind the count of 0, and one behind the count of 1
    ∷ eg (0x02 ∷ 0 ∷ 0x09 ∷ 0 ∷ 0 ∷ 0 ∷ 0 ∷ 0 ∷ 0 ∷ []) 0 (read_done 9 0 8)
    ∷ eg (0x02 ∷ 0 ∷ 0x1B ∷ 0 ∷ 0x01 ∷ 0 ∷ 0 ∷ 0 ∷ (small ++ (9 ∷ 9 ∷ 9 ∷ []))) 1 (read_done 27 1 24)
    ∷ eg (0x02 ∷ 0 ∷ 0x0C ∷ 0 ∷ 0 ∷ 0 ∷ 0 ∷ 0 ∷ 0x07 ∷ 0x20 ∷ 0x04 ∷ 0 ∷ []) 0 (read_done 12 0 8)
    ∷ eg (0x02 ∷ 0 ∷ 0x28 ∷ 0 ∷ 0x01 ∷ 0 ∷ 0 ∷ 0 ∷ (small ++ (0x00 ∷ 0x00 ∷ 0x10 ∷ 0 ∷ 0 ∷ 0 ∷ 0 ∷ 0 ∷ 0x02 ∷ 0x00 ∷ 0 ∷ 0 ∷ 0 ∷ 0 ∷ 0 ∷ 0 ∷ []))) 1 (read_done 40 1 24)
    -- 1: no eight bytes are there; revisions 1, 3 and 5; each byte that must be zero
    ∷ eg (0x02 ∷ 0 ∷ 0x07 ∷ 0 ∷ 0 ∷ 0 ∷ 0 ∷ []) 0 (refused 1 0 0)
    ∷ eg (0x01 ∷ 0 ∷ 0x08 ∷ 0 ∷ 0 ∷ 0 ∷ 0 ∷ 0 ∷ []) 0 (refused 1 0 0)
    ∷ eg (0x03 ∷ 0 ∷ 0x08 ∷ 0 ∷ 0 ∷ 0 ∷ 0 ∷ 0 ∷ []) 0 (refused 1 0 0)
    ∷ eg (0x05 ∷ 0 ∷ 0x08 ∷ 0 ∷ 0 ∷ 0 ∷ 0 ∷ 0 ∷ []) 0 (refused 1 0 0)
    ∷ eg (0x02 ∷ 1 ∷ 0x08 ∷ 0 ∷ 0 ∷ 0 ∷ 0 ∷ 0 ∷ []) 0 (refused 1 0 0)
    ∷ eg (0x02 ∷ 0 ∷ 0x08 ∷ 0 ∷ 0 ∷ 0 ∷ 1 ∷ 0 ∷ []) 0 (refused 1 0 0)
    ∷ eg (0x02 ∷ 0 ∷ 0x08 ∷ 0 ∷ 0 ∷ 0 ∷ 0 ∷ 1 ∷ []) 0 (refused 1 0 0)
    -- and the size isn't the length
    ∷ eg (0x02 ∷ 0 ∷ 0x09 ∷ 0 ∷ 0 ∷ 0 ∷ 0 ∷ 0 ∷ []) 0 (refused 1 0 0)
    -- 2: no four bytes are there; the size is past the end, by its low byte and by its high one; (d); (f); (h)
    ∷ eg (0x02 ∷ 0 ∷ 0x08 ∷ 0 ∷ 0x01 ∷ 0 ∷ 0 ∷ 0 ∷ []) 1 (refused 2 0 8)
    ∷ eg (0x02 ∷ 0 ∷ 0x0C ∷ 0 ∷ 0x01 ∷ 0 ∷ 0 ∷ 0 ∷ 0x00 ∷ 0x00 ∷ 0x05 ∷ 0 ∷ []) 1 (refused 2 0 8)
    ∷ eg (0x02 ∷ 0 ∷ 0x18 ∷ 0 ∷ 0x01 ∷ 0 ∷ 0 ∷ 0 ∷ 0x00 ∷ 0x00 ∷ 0x10 ∷ 0x01 ∷ 0 ∷ 0 ∷ 0 ∷ 0 ∷ 0x01 ∷ 0x00 ∷ 0 ∷ 0 ∷ 0 ∷ 0 ∷ 0 ∷ 0 ∷ []) 1 (refused 2 0 8)
    ∷ eg (0x02 ∷ 0 ∷ 0x0C ∷ 0 ∷ 0x01 ∷ 0 ∷ 0 ∷ 0 ∷ 0x00 ∷ 0x00 ∷ 0x04 ∷ 0 ∷ []) 1 (refused 2 0 8)
    ∷ eg (0x02 ∷ 0 ∷ 0x10 ∷ 0 ∷ 0x01 ∷ 0 ∷ 0 ∷ 0 ∷ 0x00 ∷ 0x00 ∷ 0x08 ∷ 0 ∷ 0 ∷ 0 ∷ 0 ∷ 0 ∷ []) 1 (refused 2 0 8)
    ∷ eg (0x02 ∷ 0 ∷ 0x18 ∷ 0 ∷ 0x01 ∷ 0 ∷ 0 ∷ 0 ∷ 0x00 ∷ 0x00 ∷ 0x10 ∷ 0 ∷ 0 ∷ 0 ∷ 0 ∷ 0 ∷ 0x01 ∷ 0x01 ∷ 0 ∷ 0 ∷ 0 ∷ 0 ∷ 0 ∷ 0 ∷ []) 1 (refused 2 0 8)
    -- 3: type 05 under revision 2, though the flags are unknown too
    ∷ eg (0x02 ∷ 0 ∷ 0x0C ∷ 0 ∷ 0x01 ∷ 0 ∷ 0 ∷ 0 ∷ 0x05 ∷ 0x20 ∷ 0x04 ∷ 0 ∷ []) 1 (refused 3 0 8)
    -- types 02, 04 and 07 under revision 4
    ∷ eg (0x04 ∷ 0 ∷ 0x0C ∷ 0 ∷ 0x01 ∷ 0 ∷ 0 ∷ 0 ∷ 0x02 ∷ 0x00 ∷ 0x04 ∷ 0 ∷ []) 1 (refused 3 0 8)
    ∷ eg (0x04 ∷ 0 ∷ 0x0C ∷ 0 ∷ 0x01 ∷ 0 ∷ 0 ∷ 0 ∷ 0x04 ∷ 0x00 ∷ 0x04 ∷ 0 ∷ []) 1 (refused 3 0 8)
    ∷ eg (0x04 ∷ 0 ∷ 0x0C ∷ 0 ∷ 0x01 ∷ 0 ∷ 0 ∷ 0 ∷ 0x07 ∷ 0x00 ∷ 0x04 ∷ 0 ∷ []) 1 (refused 3 0 8)
    -- 2: (d) of an object type, that has no room for its word
    ∷ eg (0x04 ∷ 0 ∷ 0x13 ∷ 0 ∷ 0x01 ∷ 0 ∷ 0 ∷ 0 ∷ 0x05 ∷ 0x00 ∷ 0x0B ∷ 0 ∷ 0 ∷ 0 ∷ 0 ∷ 0 ∷ 0x04 ∷ 0 ∷ 0 ∷ []) 1 (refused 2 0 8)
    -- 4: an unknown flag, though the size is too small; an unknown bit in the object word
    ∷ eg (0x02 ∷ 0 ∷ 0x0C ∷ 0 ∷ 0x01 ∷ 0 ∷ 0 ∷ 0 ∷ 0x00 ∷ 0x20 ∷ 0x04 ∷ 0 ∷ []) 1 (refused 4 0 8)
    ∷ eg (0x04 ∷ 0 ∷ 0x14 ∷ 0 ∷ 0x01 ∷ 0 ∷ 0 ∷ 0 ∷ 0x05 ∷ 0x00 ∷ 0x0C ∷ 0 ∷ 0 ∷ 0 ∷ 0 ∷ 0 ∷ 0x04 ∷ 0 ∷ 0 ∷ 0 ∷ []) 1 (refused 4 0 8)
    -- 5: a first byte that isn't 1, of the second entry; n above 15
    ∷ eg (0x02 ∷ 0 ∷ 0x28 ∷ 0 ∷ 0x02 ∷ 0 ∷ 0 ∷ 0 ∷ 0x00 ∷ 0x00 ∷ 0x10 ∷ 0 ∷ 0 ∷ 0 ∷ 0 ∷ 0 ∷ 0x01 ∷ 0x00 ∷ 0 ∷ 0 ∷ 0 ∷ 0 ∷ 0 ∷ 0
    ∷ 0x00 ∷ 0x00 ∷ 0x10 ∷ 0 ∷ 0 ∷ 0 ∷ 0 ∷ 0 ∷ 0x02 ∷ 0x00 ∷ 0 ∷ 0 ∷ 0 ∷ 0 ∷ 0 ∷ 0 ∷ []) 2 (refused 5 0 24)
    ∷ eg (0x02 ∷ 0 ∷ 0x18 ∷ 0 ∷ 0x01 ∷ 0 ∷ 0 ∷ 0 ∷ 0x00 ∷ 0x00 ∷ 0x10 ∷ 0 ∷ 0 ∷ 0 ∷ 0 ∷ 0 ∷ 0x01 ∷ 0x10 ∷ 0 ∷ 0 ∷ 0 ∷ 0 ∷ 0 ∷ 0 ∷ []) 1 (refused 5 0 8)
    -- conditional entries: 09 and 0A under either revision, the expression of 12 bytes with no zero; 0A for S-1-5-18, flags 1F, a mask
    ∷ eg (alone 0x02 0x24 (tailed 0x09 0x1C (known []))) 1 (read_done 36 1 36)
    ∷ eg (alone 0x04 0x24 (tailed 0x09 0x1C (known []))) 1 (read_done 36 1 36)
    ∷ eg (alone 0x02 0x24 (tailed 0x0A 0x1C (known []))) 1 (read_done 36 1 36)
    ∷ eg (alone 0x04 0x28 (0x0A ∷ 0x1F ∷ 0x20 ∷ 0 ∷ 1 ∷ 2 ∷ 3 ∷ 4 ∷ 0x01 ∷ 0x01 ∷ 0 ∷ 0 ∷ 0 ∷ 0 ∷ 0 ∷ 0x05 ∷ 0x12 ∷ 0 ∷ 0 ∷ 0 ∷ known [])) 1 (read_done 40 1 40)
    -- not that, of 13 bytes, with three zeros; not not, with two; not not not, with one; two entries; four zeros behind the entry, which are spare
    ∷ eg (alone 0x02 0x28 (tailed 0x09 0x20 (known (0xA2 ∷ 0 ∷ 0 ∷ 0 ∷ [])))) 1 (read_done 40 1 40)
    ∷ eg (alone 0x02 0x28 (tailed 0x09 0x20 (known (0xA2 ∷ 0xA2 ∷ 0 ∷ 0 ∷ [])))) 1 (read_done 40 1 40)
    ∷ eg (alone 0x02 0x28 (tailed 0x0A 0x20 (known (0xA2 ∷ 0xA2 ∷ 0xA2 ∷ 0 ∷ [])))) 1 (read_done 40 1 40)
    ∷ eg (0x02 ∷ 0 ∷ 0x44 ∷ 0 ∷ 0x02 ∷ 0 ∷ 0 ∷ 0 ∷ (tailed 0x09 0x1C (known []) ++ tailed 0x0A 0x20 (known (0xA2 ∷ 0 ∷ 0 ∷ 0 ∷ [])))) 2 (read_done 68 2 68)
    ∷ eg (alone 0x02 0x28 (tailed 0x09 0x1C (known (0 ∷ 0 ∷ 0 ∷ 0 ∷ [])))) 1 (read_done 40 1 36)
    -- 2: zeros are missing, three, two, one; one, two, three and four too many behind 12 bytes; four too many behind 13
    ∷ eg (alone 0x02 0x25 (tailed 0x09 0x1D (known (0xA2 ∷ [])))) 1 (refused 2 0 8)
    ∷ eg (alone 0x02 0x26 (tailed 0x09 0x1E (known (0xA2 ∷ 0 ∷ [])))) 1 (refused 2 0 8)
    ∷ eg (alone 0x02 0x27 (tailed 0x09 0x1F (known (0xA2 ∷ 0 ∷ 0 ∷ [])))) 1 (refused 2 0 8)
    ∷ eg (alone 0x02 0x25 (tailed 0x09 0x1D (known (0 ∷ [])))) 1 (refused 2 0 8)
    ∷ eg (alone 0x02 0x26 (tailed 0x09 0x1E (known (0 ∷ 0 ∷ [])))) 1 (refused 2 0 8)
    ∷ eg (alone 0x02 0x27 (tailed 0x09 0x1F (known (0 ∷ 0 ∷ 0 ∷ [])))) 1 (refused 2 0 8)
    ∷ eg (alone 0x02 0x28 (tailed 0x0A 0x20 (known (0 ∷ 0 ∷ 0 ∷ 0 ∷ [])))) 1 (refused 2 0 8)
    ∷ eg (alone 0x04 0x2C (tailed 0x09 0x24 (known (0xA2 ∷ 0 ∷ 0 ∷ 0 ∷ 0 ∷ 0 ∷ 0 ∷ 0 ∷ [])))) 1 (refused 2 0 8)
    -- the SID ends past the size, though it and an expression are there
    ∷ eg (alone 0x02 0x28 (0x09 ∷ 0x00 ∷ 0x10 ∷ 0 ∷ 0 ∷ 0 ∷ 0 ∷ 0 ∷ 0x01 ∷ 0x01 ∷ 0 ∷ 0 ∷ 0 ∷ 0 ∷ 0 ∷ 0x05 ∷ 0x12 ∷ 0 ∷ 0 ∷ 0 ∷ known [])) 1 (refused 2 0 8)
    -- an expression behind the SID of an allow entry, and behind that of an object entry
    ∷ eg (alone 0x02 0x24 (tailed 0x00 0x1C (known []))) 1 (refused 2 0 8)
    ∷ eg (alone 0x04 0x28 (0x05 ∷ 0x00 ∷ 0x20 ∷ 0 ∷ 0 ∷ 0 ∷ 0 ∷ 0 ∷ 0 ∷ 0 ∷ 0 ∷ 0 ∷ 0x01 ∷ 0x00 ∷ 0 ∷ 0 ∷ 0 ∷ 0 ∷ 0 ∷ 0 ∷ known [])) 1 (refused 2 0 8)
    -- 15: a 1 behind a zero; nothing behind the SID; a lone name with its zero; no four bytes at the front
    ∷ eg (alone 0x02 0x28 (tailed 0x09 0x20 (known (0xA2 ∷ 0 ∷ 1 ∷ 0 ∷ [])))) 1 (refused 15 0 8)
    ∷ eg (alone 0x02 0x28 (tailed 0x0A 0x20 (known (0 ∷ 0 ∷ 0 ∷ 1 ∷ [])))) 1 (refused 15 0 8)
    ∷ eg (alone 0x02 0x18 (tailed 0x09 0x10 [])) 1 (refused 15 0 8)
    ∷ eg (alone 0x04 0x18 (tailed 0x0A 0x10 [])) 1 (refused 15 0 8)
    ∷ eg (alone 0x02 0x24 (tailed 0x09 0x1C (lone (0 ∷ [])))) 1 (refused 15 0 8)
    ∷ eg (alone 0x02 0x20 (tailed 0x09 0x18 (0xF8 ∷ 2 ∷ 0 ∷ 0 ∷ 0 ∷ 0x61 ∷ 0 ∷ 0x87 ∷ []))) 1 (refused 15 0 8)
    -- nothing behind the SID inside the size, though an expression follows there; one that the size cuts, though it goes on there
    ∷ eg (alone 0x02 0x24 (tailed 0x09 0x10 (known []))) 1 (refused 15 0 8)
    ∷ eg (alone 0x02 0x24 (tailed 0x09 0x1B (known []))) 1 (refused 15 0 8)
    -- 15 before 2: a lone name without its zero, and with four too many; one zero alone
    ∷ eg (alone 0x02 0x23 (tailed 0x09 0x1B (lone []))) 1 (refused 15 0 8)
    ∷ eg (alone 0x02 0x28 (tailed 0x09 0x20 (lone (0 ∷ 0 ∷ 0 ∷ 0 ∷ 0 ∷ [])))) 1 (refused 15 0 8)
    ∷ eg (alone 0x02 0x19 (tailed 0x09 0x11 (0 ∷ []))) 1 (refused 15 0 8)
    -- 5 before 15; 4 before 15; 2 of (f) before 15, and of (d); types 08 and 0B are 3
    ∷ eg (alone 0x02 0x18 (0x09 ∷ 0x00 ∷ 0x10 ∷ 0 ∷ 0 ∷ 0 ∷ 0 ∷ 0 ∷ 0x02 ∷ 0x00 ∷ 0 ∷ 0 ∷ 0 ∷ 0 ∷ 0 ∷ 0 ∷ [])) 1 (refused 5 0 8)
    ∷ eg (alone 0x02 0x18 (0x09 ∷ 0x20 ∷ 0x10 ∷ 0 ∷ 0 ∷ 0 ∷ 0 ∷ 0 ∷ 0x01 ∷ 0x00 ∷ 0 ∷ 0 ∷ 0 ∷ 0 ∷ 0 ∷ 0 ∷ [])) 1 (refused 4 0 8)
    ∷ eg (alone 0x02 0x18 (tailed 0x09 0x0F [])) 1 (refused 2 0 8)
    ∷ eg (alone 0x02 0x18 (tailed 0x09 0x07 [])) 1 (refused 2 0 8)
    ∷ eg (alone 0x04 0x24 (tailed 0x08 0x1C (known []))) 1 (refused 3 0 8)
    ∷ eg (alone 0x04 0x24 (tailed 0x0B 0x1C (known []))) 1 (refused 3 0 8)
    -- 15 of the second entry, behind an allow entry and behind a conditional one; of the first one, though the second is 3; before 8
    ∷ eg (0x02 ∷ 0 ∷ 0x28 ∷ 0 ∷ 0x02 ∷ 0 ∷ 0 ∷ 0 ∷ (small ++ tailed 0x09 0x10 [])) 2 (refused 15 0 24)
    ∷ eg (0x02 ∷ 0 ∷ 0x40 ∷ 0 ∷ 0x02 ∷ 0 ∷ 0 ∷ 0 ∷ (tailed 0x09 0x1C (known []) ++ tailed 0x0A 0x1C (lone (0 ∷ [])))) 2 (refused 15 0 36)
    ∷ eg (0x02 ∷ 0 ∷ 0x28 ∷ 0 ∷ 0x02 ∷ 0 ∷ 0 ∷ 0 ∷ (tailed 0x09 0x10 [] ++ tailed 0x05 0x10 [])) 2 (refused 15 0 8)
    ∷ eg (alone 0x02 0x18 (tailed 0x09 0x10 [])) 0 (refused 15 0 8)
    ∷ eg (alone 0x02 0x24 (tailed 0x09 0x1C (known []))) 0 (refused 8 0 0)
    -- 8: a good entry, and no room in the row
    ∷ eg (0x02 ∷ 0 ∷ 0x18 ∷ 0 ∷ 0x01 ∷ 0 ∷ 0 ∷ 0 ∷ 0x00 ∷ 0x00 ∷ 0x10 ∷ 0 ∷ 0 ∷ 0 ∷ 0 ∷ 0 ∷ 0x01 ∷ 0x00 ∷ 0 ∷ 0 ∷ 0 ∷ 0 ∷ 0 ∷ 0 ∷ []) 0 (refused 8 0 0)
    ∷ []

-- what an expression opens
unfoldable pub expression-open : Unit {0}
unfolding end_by accepted_of marked same_bytes acceptable zeros up_to_four tokens_in over long long_all one_left kinds_from kinds_after taking operand_kind is_operand is_named is_condition bind
    token_at literal_at name_at operator_of comparison_of name_ok one_to_three le
expression-open = tt

-- what an entry's test opens
entry-open : Unit {0}
unfolding entry_of need kind_ok plain_of object_of object_kind flags_ok head_of word_after conditional_of conditional_kind expression_ok tail_long size_ok length_of_sid le expression-open
entry-open = tt

pub examples : map (λ x. read_values x.list x.row) table ≡ map (λ x. x.answer) table
unfolding table eg read_of with_row check_of header_ok rev_ok walk_of on_good finish entry-open
examples = refl

-- a list that is given is that list, an empty one too; else there is none
pub lent-worked : (s : List ℕ) → (lent true s ≡ some s) × (lent false s ≡ none)
lent-worked s = (refl, refl)

-- ---- identities (RULES 1.2, 1.3): S-1-5-18, the two placeholders in their bytes, and what comes near them

abbrev system : List ℕ
system = 0x01 ∷ 0x01 ∷ 0 ∷ 0 ∷ 0 ∷ 0 ∷ 0 ∷ 0x05 ∷ 0x12 ∷ 0 ∷ 0 ∷ 0 ∷ []

abbrev creators : ℕ → List ℕ
creators k = 0x01 ∷ 0x01 ∷ 0 ∷ 0 ∷ 0 ∷ 0 ∷ 0 ∷ 0x03 ∷ k ∷ 0 ∷ 0 ∷ 0 ∷ []

pub lengths-worked : map length_of_sid (system ∷ (1 ∷ 0 ∷ []) ∷ (1 ∷ 15 ∷ []) ∷ (1 ∷ 16 ∷ []) ∷ (2 ∷ 0 ∷ []) ∷ (0 ∷ 0 ∷ []) ∷ [] ∷ []) ≡ 12 ∷ 8 ∷ 68 ∷ 0 ∷ 0 ∷ 0 ∷ 0 ∷ []
unfolding length_of_sid
lengths-worked = refl

-- held whole, with a byte behind it, cut by one byte, of no number
pub whole-worked :
    map whole_sid (system ∷ (system ++ (9 ∷ [])) ∷ take 11 system ∷ (0x01 ∷ 0x00 ∷ 0 ∷ 0 ∷ 0 ∷ 0 ∷ 0 ∷ 0 ∷ []) ∷ (0x01 ∷ 0x00 ∷ 0 ∷ 0 ∷ 0 ∷ 0 ∷ 0 ∷ []) ∷ (0x02 ∷ replicate 20 0) ∷ [] ∷ [])
    ≡ 12 ∷ 12 ∷ 0 ∷ 8 ∷ 0 ∷ 0 ∷ 0 ∷ []
unfolding whole_sid length_of_sid
whole-worked = refl

pub identities-worked :
    map identity_of (system ∷ creators 0 ∷ creators 1 ∷ creators 2 ∷ (creators 0 ++ (0 ∷ [])) ∷ (0x01 ∷ 0x01 ∷ 0 ∷ 0 ∷ 0 ∷ 0 ∷ 0 ∷ 0x03 ∷ 0 ∷ 0 ∷ 0 ∷ []) ∷ [] ∷ [])
    ≡ 0 ∷ 1 ∷ 2 ∷ 0 ∷ 6 ∷ 6 ∷ 6 ∷ []
unfolding identity_of is_sid placeholder_of length_of_sid same_bytes
identities-worked = refl

-- and what is answered: none of the two, the one, the other, or a refusal
pub answers-worked :
    map (λ s. identity_in (identity_of s)) (system ∷ creators 0 ∷ creators 1 ∷ creators 2 ∷ (creators 0 ++ (0 ∷ [])) ∷ [] ∷ [])
    ≡ Ok None ∷ Ok (Some Owner) ∷ Ok (Some Group) ∷ Ok None ∷ Err Identity ∷ Err Identity ∷ []
unfolding identity_in placeholder_in identity_of is_sid placeholder_of length_of_sid same_bytes
answers-worked = refl

-- as values: the bytes, zeros up to 68, the length; refused
pub made-worked :
    (made_of system ≡ Some (record { bytes = system ++ replicate 56 0; len = 12 }))
    × ((made_of [] ≡ None)
    × ((placeholder_sid 0 ≡ record { bytes = creators 0 ++ replicate 56 0; len = 12 })
    × ((placeholder_sid 1 ≡ record { bytes = creators 1 ++ replicate 56 0; len = 12 })
    × (bytes_of (placeholder_sid 1) ≡ creators 1))))
unfolding made_of is_sid length_of_sid
made-worked = (refl, (refl, (refl, (refl, refl))))

-- ---- the row afterwards (RULES 1.7): the offsets of two entries, of 20 and of 16 bytes, and the rest as it was; where it is refused, all as it was

abbrev two : List ℕ
two =
    0x02 ∷ 0 ∷ 0x2C ∷ 0 ∷ 0x02 ∷ 0 ∷ 0 ∷ 0
    ∷ 0x00 ∷ 0x00 ∷ 0x14 ∷ 0 ∷ 0 ∷ 0 ∷ 0 ∷ 0 ∷ 0x01 ∷ 0x01 ∷ 0 ∷ 0 ∷ 0 ∷ 0 ∷ 0 ∷ 0x05 ∷ 0x12 ∷ 0 ∷ 0 ∷ 0
    ∷ 0x01 ∷ 0x1F ∷ 0x10 ∷ 0 ∷ 0 ∷ 0 ∷ 0 ∷ 0 ∷ 0x01 ∷ 0x00 ∷ 0 ∷ 0 ∷ 0 ∷ 0 ∷ 0 ∷ 0 ∷ []

pub rows-worked :
    (row_by (read_of access two 3) two (9 ∷ 9 ∷ 9 ∷ []) ≡ 8 ∷ 28 ∷ 9 ∷ [])
    × ((row_by (read_of access two 1) two (9 ∷ []) ≡ 9 ∷ []) × (row_by (read_of access [] 3) [] (9 ∷ 9 ∷ 9 ∷ []) ≡ 9 ∷ 9 ∷ 9 ∷ []))
unfolding row_by offsets read_of with_row check_of header_ok rev_ok walk_of on_good finish entry-open
rows-worked = (refl, (refl, refl))

-- ---- a look (RULES 1.5) at the second of two entries; at one of two GUIDs that is cut in its word, at one that is cut in its mask, at nothing

pub looks-worked :
    (look_of (drop 28 two) ≡ record { kind = 1; flags = 31; size = 16; mask = 0; word = 0; sid = 8 })
    × ((look_of (0x05 ∷ 0x02 ∷ 0x38 ∷ 0x01 ∷ 1 ∷ 2 ∷ 3 ∷ 4 ∷ 3 ∷ []) ≡ record { kind = 5; flags = 2; size = 312; mask = 0x04030201; word = 3; sid = 44 })
    × ((look_of (0x00 ∷ 0x02 ∷ 0x10 ∷ 0x00 ∷ 1 ∷ 2 ∷ []) ≡ record { kind = 0; flags = 2; size = 16; mask = 0x0201; word = 0; sid = 8 })
    × (look_of [] ≡ record { kind = 0; flags = 0; size = 0; mask = 0; word = 0; sid = 8 })))
unfolding le head_of object_kind object_of word_after
looks-worked = (refl, (refl, (refl, refl)))

-- ---- spare bytes (RULES 1.4): such a list of one entry with three, without them, and with another; one that is refused has none; the sizes of two entries

abbrev with_three : List ℕ
with_three = 0x02 ∷ 0 ∷ 0x1B ∷ 0 ∷ 0x01 ∷ 0 ∷ 0 ∷ 0 ∷ (small ++ (9 ∷ 9 ∷ 9 ∷ []))

pub spare-worked :
    (bare access with_three ≡ 0x02 ∷ 0 ∷ 0x18 ∷ 0 ∷ 0x01 ∷ 0 ∷ 0 ∷ 0 ∷ small)
    × ((with_spare 24 (7 ∷ []) with_three ≡ 0x02 ∷ 0 ∷ 0x19 ∷ 0 ∷ 0x01 ∷ 0 ∷ 0 ∷ 0 ∷ (small ++ (7 ∷ [])))
    × ((bare access (0x05 ∷ 0 ∷ 0x09 ∷ 0 ∷ 0 ∷ 0 ∷ 0 ∷ 0 ∷ 9 ∷ []) ≡ 0x05 ∷ 0 ∷ 0x09 ∷ 0 ∷ 0 ∷ 0 ∷ 0 ∷ 0 ∷ 9 ∷ [])
    × (size_sum (entries_of two) ≡ 36)))
unfolding bare_by with_spare size_sum spell entries_of cut check_of header_ok rev_ok walk_of on_good finish entry-open
spare-worked = (refl, (refl, (refl, refl)))
