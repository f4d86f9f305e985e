-- One entry of a list (RULES 1.5, 1.6, 4.3), read off the bytes t that it begins; of what follows it in t only the length counts, in (a).
use Rattle.std.specs.Prelude.{ℕ, ◌+◌, ◌-◌, ◌*◌, ◌/◌, ◌%◌, List, [], ◌∷◌, ◌++◌, Bool, true, cond, ◌&&◌, ◌||◌, length, get_or, take, drop, eqb, leb, ltb, Result, Ok, Err}
use Rattle.octets.specs.Order.{need}
use Rattle.octets.specs.Bytes.{le, spell}
use Rattle.condition.specs.Kind.{stored_end, up_to_four}
use Rattle.list.specs.Identity.{length_of_sid}
use Rattle.list.specs.declared.entries.Entry.{Entry}
use Rattle.refusal.specs.declared.Refusal.{Refusal}
use Rattle.refusal.specs.declared.Refusal.TheVariants.{Size, Kind, Bits, Sid, Expression}

-- what kind of list an entry stands in: today access lists only
pub data Family : Type 0 where
  access : Family

-- types with an expression behind the SID: 09 conditional allow, 0A conditional deny
unfoldable pub conditional_of : Family → ℕ → Bool
conditional_of access k = eqb k 9 || eqb k 10

-- types that go on with a SID: 00 allow, 01 deny, and those
unfoldable pub plain_of : Family → ℕ → Bool
plain_of access k = leb k 1 || conditional_of access k

-- types that go on with a word, the GUIDs it announces, and a SID: 05 object allow, 06 object deny
unfoldable pub object_of : Family → ℕ → Bool
object_of access k = eqb k 5 || eqb k 6

-- an object type of any family, a conditional one of any family
unfoldable pub object_kind : ℕ → Bool
object_kind k = object_of access k

unfoldable pub conditional_kind : ℕ → Bool
conditional_kind k = conditional_of access k

-- the types that a list of revision rev may hold: object types under revision 4 only
unfoldable pub kind_ok : Family → ℕ → ℕ → Bool
kind_ok f k rev = plain_of f k || (eqb rev 4 && object_of f k)

-- the flags that are known: 01, 02, 04, 08, 10
unfoldable pub flags_ok : Family → ℕ → Bool
flags_ok access flags = leb flags 31

-- how many bytes of an entry of type k stand before its GUIDs: the head with the mask and, for object types, the word
unfoldable pub head_of : ℕ → ℕ
head_of k = cond (object_kind k) 12 8

-- the fields, each at its place
abbrev pub kind_of : List ℕ → ℕ
kind_of t = get_or t 0 0

abbrev pub flags_of : List ℕ → ℕ
flags_of t = get_or t 1 0

abbrev pub size_of : List ℕ → ℕ
size_of t = le 2 (drop 2 t)

abbrev pub mask_of : List ℕ → ℕ
mask_of t = le 4 (drop 4 t)

-- the object word behind a head of 12 bytes; 0 where the head is shorter
unfoldable pub word_after : ℕ → List ℕ → ℕ
word_after head t = cond (eqb head 12) (le 4 (drop 8 t)) 0

abbrev pub word_of : List ℕ → ℕ
word_of t = word_after (head_of (kind_of t)) t

-- the bytes of the GUIDs that an object word announces: value 1 an ObjectType, value 2 an InheritedObjectType
abbrev pub guids_of : ℕ → ℕ
guids_of word = 16 * (word % 2 + word / 2 % 2)

-- where the SID begins, how long it is, and where it ends
abbrev pub sid_at : List ℕ → ℕ
sid_at t = head_of (kind_of t) + guids_of (word_of t)

abbrev pub sid_len_of : List ℕ → ℕ
sid_len_of t = length_of_sid (drop (sid_at t) t)

abbrev pub sid_end : List ℕ → ℕ
sid_end t = sid_at t + sid_len_of t

-- what stands between the mask and the SID (word and GUIDs), the SID, and what follows it inside the entry
abbrev pub middle_of : List ℕ → List ℕ
middle_of t = take (sid_at t - 8) (drop 8 t)

abbrev pub sid_of : List ℕ → List ℕ
sid_of t = take (sid_len_of t) (drop (sid_at t) t)

abbrev pub tail_of : List ℕ → List ℕ
tail_of t = take (size_of t - sid_end t) (drop (sid_end t) t)

-- what an entry is made of: type, flags, mask, what stands between the mask and the SID, the SID, and what follows it
pub record EntryParts : Type 0 where
  pub kind : ℕ
  pub flags : ℕ
  pub mask : ℕ
  pub middle : List ℕ
  pub sid : List ℕ
  pub tail : List ℕ

-- the bytes of an entry made of its parts: type, flags, the size, which is exactly its parts, mask, and those three
unfoldable pub entry_bytes : EntryParts → List ℕ
entry_bytes p =
    (p.kind ∷ p.flags ∷ [])
    ++ (spell 2 (8 + (length p.middle + (length p.sid + length p.tail)))
    ++ (spell 4 p.mask ++ (p.middle ++ (p.sid ++ p.tail))))

-- a conditional entry's expression, where the SID ends within the size, is acceptable
unfoldable pub expression_ok : List ℕ → Bool
expression_ok t = cond (conditional_kind (kind_of t) && leb (sid_end t) (size_of t)) (ltb 0 (stored_end (tail_of t))) true

-- how long that must be which follows the SID in an entry of type k: nothing; or its tokens, padded to a multiple of four (what stands before them is one)
unfoldable pub tail_long : ℕ → List ℕ → ℕ
tail_long k tail = cond (conditional_kind k) (up_to_four (stored_end tail)) 0

-- the size is exactly the entry's parts
unfoldable pub size_ok : List ℕ → Bool
size_ok t = eqb (sid_end t + tail_long (kind_of t) (tail_of t)) (size_of t)

abbrev pub fields_of : List ℕ → Entry
fields_of t =
    record {
      kind = kind_of t;
      flags = flags_of t;
      size = size_of t;
      mask = mask_of t;
      word = word_of t;
      sid = sid_at t;
      sid_len = sid_len_of t;
    }

-- the check of one entry, (a) to (h)
unfoldable pub entry_of : Family → ℕ → List ℕ → Result Entry Refusal
entry_of f rev t =
    need (leb 4 (length t)) (Err Size)  -- (a) four bytes are there
    (need (leb (size_of t) (length t)) (Err Size)  -- and the size is at most what remains
    (need (kind_ok f (kind_of t) rev) (Err Kind)  -- (b) type
    (need (flags_ok f (flags_of t)) (Err Bits)  -- (c) flags
    (need (leb (head_of (kind_of t)) (size_of t)) (Err Size)  -- (d) the size holds the mask and, for object types, the word
    (need (leb (word_of t) 3) (Err Bits)  -- (e) word
    (need (leb (sid_at t + 8) (size_of t)) (Err Size)  -- (f) GUIDs and eight SID bytes fit in the size
    (need (ltb 0 (sid_len_of t)) (Err Sid)  -- (g) SID
    (need (expression_ok t) (Err Expression)  -- an acceptable expression
    (need (size_ok t) (Err Size)  -- (h) exact size
    (Ok (fields_of t)))))))))))
