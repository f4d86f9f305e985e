-- What the parts of a room hold (docs/ROOM.md): a slot, an identity, own data of an object.
use Rattle.std.specs.Prelude.{ℕ, ◌-◌, List, [], ◌∷◌, ◌++◌, Bool, true, false, cond, ◌&&◌, ◌||◌, length, get_or, drop, replicate, eqb, leb, Result, Ok, Err}
use Rattle.std.proofs.Math.Option.{Option, none, some}
use Rattle.octets.specs.Bytes.{le, spell, part, same_bytes, guid_at}
use Rattle.list.specs.Entry.{access}
use Rattle.list.specs.List.{check_of, MaybeList, lent}
use Rattle.list.specs.declared.readings.Read.{Read}
use Rattle.refusal.specs.declared.Fault.{Fault}
pub use Rattle.inherit.specs.Asked.{lent_list}
use Rattle.inherit.specs.Compute.{ordinary}
use Rattle.tree.specs.Model.{Object, parent_byte}

-- ---- a slot, 1,027 bytes: 1 present or 0 absent, 16-bit length, 1,024 bytes with the list

abbrev pub has_list : List ℕ → Bool
has_list s = eqb (get_or s 0 0) 1

-- as many bytes as the length says, of those there are
unfoldable pub bytes_in : List ℕ → List ℕ
bytes_in s = part 0 (le 2 (drop 1 s)) (part 3 1024 s)

-- the list that a slot holds, possibly absent
abbrev pub held : List ℕ → MaybeList
held s = lent (has_list s) (bytes_in s)

-- the slot of a list of at most 1,024 bytes, or of none
unfoldable pub slot_for : MaybeList → List ℕ
slot_for none = replicate 1027 0
slot_for (some s) = 1 ∷ (spell 2 (length s) ++ (s ++ replicate (1024 - length s) 0))

-- a list reads as done
abbrev pub is_done : Result Read Fault → Bool
is_done (Ok r) = true
is_done (Err fault) = false

-- absent, or a list of at most 1,024 bytes that reads as done
unfoldable pub slot_ok : List ℕ → Bool
slot_ok s = eqb (get_or s 0 0) 0 || (eqb (get_or s 0 0) 1 && (leb (le 2 (drop 1 s)) 1024 && is_done (check_of access (bytes_in s))))

-- ---- an identity, 69 bytes: its length, 68 bytes with it

unfoldable pub id_in : List ℕ → List ℕ
id_in f = part 0 (get_or f 0 0) (part 1 68 f)

unfoldable pub id_for : List ℕ → List ℕ
id_for s = length s ∷ (s ++ replicate (68 - length s) 0)

-- exactly one SID, and no placeholder
unfoldable pub id_ok : List ℕ → Bool
id_ok f = leb (get_or f 0 0) 68 && ordinary (id_in f)

-- ---- own data of an object, 1,184 bytes: parent (255 none), kind, mark, type, owner, group, own list

abbrev pub parent_byte_in : List ℕ → ℕ
parent_byte_in b = get_or b 0 0

-- p as a parent: none where it is `none_is`, the number that says so
abbrev pub parent_in : ℕ → ℕ → Option ℕ
parent_in none_is p = cond (eqb p none_is) none (some p)

abbrev pub parent_of : List ℕ → Option ℕ
parent_of b = parent_in 255 (parent_byte_in b)

abbrev pub kind_byte : List ℕ → ℕ
kind_byte b = get_or b 1 0

abbrev pub mark_byte : List ℕ → ℕ
mark_byte b = get_or b 2 0

abbrev pub type_of : List ℕ → List ℕ
type_of b = guid_at b 3

abbrev pub owner_of : List ℕ → List ℕ
owner_of b = id_in (part 19 69 b)

abbrev pub group_of : List ℕ → List ℕ
group_of b = id_in (part 88 69 b)

abbrev pub own_slot : List ℕ → List ℕ
own_slot b = part 157 1027 b

abbrev pub own_list : List ℕ → MaybeList
own_list b = held (own_slot b)

-- good by itself
unfoldable pub block_ok : List ℕ → Bool
block_ok b =
    leb (kind_byte b) 1
    && (leb (mark_byte b) 1
    && (id_ok (part 19 69 b)
    && (id_ok (part 88 69 b)
    && slot_ok (own_slot b))))

-- two of them agree in what no change alters: parent, kind and type
unfoldable pub alike : List ℕ → List ℕ → Bool
alike a b = eqb (parent_byte_in a) (parent_byte_in b) && (eqb (kind_byte a) (kind_byte b) && same_bytes (type_of a) (type_of b))

-- a byte for yes or no
abbrev pub yes : Bool → ℕ
yes b = cond b 1 0

-- own data of a new object
unfoldable pub block_for : Object → List ℕ
block_for o =
    (parent_byte o.parent ∷ yes o.container ∷ yes o.mark ∷ [])
    ++ (o.type ++ (id_for o.owner ++ (id_for o.group ++ slot_for o.list)))
