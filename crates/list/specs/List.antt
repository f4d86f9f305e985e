-- A whole list (RULES 1.4, 1.7, 4.3): its header, its entries one after the other, their offsets, and what the reader answers.
use Rattle.std.specs.Prelude.{ℕ, zero, suc, ◌+◌, Bool, cond, ◌&&◌, ◌||◌, length, get_or, take, drop, eqb, leb, Result, Ok, Err}
use mathlib.Core.List.{List, [], ◌∷◌, ◌++◌, flatten}
use Rattle.std.proofs.Math.Option.{Option, none, some}
use Rattle.octets.specs.Bytes.{le, spell}
use Rattle.list.specs.Entry.{Family, size_of, entry_of}
use Rattle.list.specs.declared.entries.Entry.{Entry}
use Rattle.list.specs.declared.readings.Read.{Read}
use Rattle.refusal.specs.Faults.{fault_at}
use Rattle.refusal.specs.declared.Refusal.{Refusal}
use Rattle.refusal.specs.declared.Refusal.TheVariants.{Header, Room}
use Rattle.refusal.specs.declared.Fault.{Fault}

-- a list's bytes, or none where it is absent
abbrev pub MaybeList : Type 0
MaybeList = Option (List ℕ)

-- bytes that are a list where one is given
abbrev pub lent : Bool → List ℕ → MaybeList
lent given s = cond given (some s) none

unfoldable pub rev_ok : ℕ → Bool
rev_ok rev = eqb rev 2 || eqb rev 4

-- revision (2 or 4), a zero byte, 16-bit size, 16-bit entry count, two zero bytes; the size equals the length handed in
unfoldable pub header_ok : List ℕ → Bool
header_ok s =
    leb 8 (length s)
    && (rev_ok (get_or s 0 0)
    && (eqb (get_or s 1 0) 0
    && (eqb (le 2 (drop 2 s)) (length s)
    && eqb (le 2 (drop 6 s)) 0)))

abbrev pub rev_of : List ℕ → ℕ
rev_of s = get_or s 0 0

abbrev pub count_of : List ℕ → ℕ
count_of s = le 2 (drop 4 s)

-- n entries cut off t by their sizes
unfoldable pub cut : ℕ → List ℕ → List (List ℕ)
cut zero t = []
cut (suc n) t = take (size_of t) t ∷ cut n (drop (size_of t) t)

-- the entries of a list, each as its bytes
unfoldable pub entries_of : List ℕ → List (List ℕ)
entries_of s = cut (count_of s) (drop 8 s)

-- where n entries end, the first at `at`
unfoldable pub entries_end : ℕ → ℕ → List ℕ → ℕ
entries_end zero at t = at
entries_end (suc n) at t = entries_end n (at + size_of t) (drop (size_of t) t)

-- the offset of each of them
unfoldable pub offsets : ℕ → ℕ → List ℕ → List ℕ
offsets zero at t = []
offsets (suc n) at t = at ∷ offsets n (at + size_of t) (drop (size_of t) t)

-- a header: revision, a zero byte, size, count, two zero bytes
unfoldable pub head_bytes : ℕ → ℕ → ℕ → List ℕ
head_bytes rev size count = (rev ∷ 0 ∷ []) ++ (spell 2 size ++ (spell 2 count ++ (0 ∷ 0 ∷ [])))

-- the bytes of a list of revision rev that holds the entries es
unfoldable pub render : ℕ → List (List ℕ) → List ℕ
render rev es = head_bytes rev (8 + length (flatten es)) (length es) ++ flatten es

-- a list that was read: its length, its count and where its entries end; and one that is refused, with the offset of its entry
abbrev pub read_as : ℕ → ℕ → ℕ → Result Read Fault
read_as len n end = Ok (record { length = len; count = n; end = end })

abbrev pub unread : Refusal → ℕ → Result Read Fault
unread why at = Err (fault_at why at)

-- a bad entry at `at` is the answer, a good one leaves it to what follows
unfoldable pub on_good : Result Entry Refusal → ℕ → Result Read Fault → Result Read Fault
on_good (Ok e) at rest = rest
on_good (Err why) at rest = unread why at

-- n entries begin t, which lies at `at`: then `done` of where they end; else the earliest refusal
unfoldable pub walk_of : Family → ℕ → ℕ → ℕ → List ℕ → (ℕ → Result Read Fault) → Result Read Fault
walk_of f rev zero at t done = done at
walk_of f rev (suc n) at t done = on_good (entry_of f rev t) at (walk_of f rev n (at + size_of t) (drop (size_of t) t) done)

-- where the entries end: what follows there, up to the size, is spare and looked at by nothing
unfoldable pub finish : ℕ → ℕ → ℕ → Result Read Fault
finish len n end = read_as len n end

-- a list without its index: the header (1), then entry after entry (2 to 5, 15)
unfoldable pub check_of : Family → List ℕ → Result Read Fault
check_of f s =
    cond (header_ok s)
    (walk_of f (rev_of s) (count_of s) 8 (drop 8 s) (finish (length s) (count_of s)))
    (unread Header 0)

-- a row of m elements holds the index of a good list, or there is no room (8)
unfoldable pub with_row : ℕ → Result Read Fault → Result Read Fault
with_row m (Ok r) = cond (leb r.count m) (Ok r) (unread Room 0)
with_row m (Err fault) = Err fault

-- what the reader answers for the list s and a row of m elements
unfoldable pub read_of : Family → List ℕ → ℕ → Result Read Fault
read_of f s m = with_row m (check_of f s)

-- the row afterwards: the offsets up to the count and the rest unchanged; as it was where the list is refused
unfoldable pub row_by : Result Read Fault → List ℕ → List ℕ → List ℕ
row_by (Ok r) s row = offsets r.count 8 (drop 8 s) ++ drop r.count row
row_by (Err fault) s row = row
