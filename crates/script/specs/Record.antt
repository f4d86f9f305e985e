-- The records of a script (RULES 6.2, 6.3). A record is its bytes from its number on; bytes that are not there count as 0.
use Rattle.std.specs.Prelude.{ℕ, ◌+◌, List, Bool, true, cond, not, ◌&&◌, length, get_or, drop, eqb, leb, Result, Ok, Err}
use Rattle.list.specs.List.{MaybeList, lent}
use Rattle.octets.specs.Bytes.{le, part, guid_at}
use Rattle.tree.specs.Shown.{Request, change, undo}
use Rattle.tree.specs.Calls.{list, mark, owners, New, nobody, add, alter}
use Rattle.script.specs.declared.records.Asks.{Asks}
use Rattle.script.specs.declared.records.Asks.TheVariants.{Add, SetList, SetMark, SetOwner, Undo}
use Rattle.script.specs.declared.records.Flaw.{Flaw}
use Rattle.script.specs.declared.records.Flaw.TheVariants.{Cut, Bad}
use Rattle.script.specs.declared.records.Record.{Record}

-- ---- parts of a record

abbrev pub record_number : List ℕ → ℕ
record_number t = get_or t 0 0

-- a length byte at `at`, then as many bytes: an owner or a group; and where it ends
abbrev pub name_in : ℕ → List ℕ → List ℕ
name_in at t = part (at + 1) (get_or t at 0) t

unfoldable pub name_end : ℕ → List ℕ → ℕ
name_end at t = at + 1 + get_or t at 0

-- an owner and then a group: where both end
abbrev pub names_end : ℕ → List ℕ → ℕ
names_end at t = name_end (name_end at t) t

-- a 16-bit length at `at` (0 absent), then the list; and where it ends
abbrev pub list_in : ℕ → List ℕ → MaybeList
list_in at t = lent (not (eqb (le 2 (drop at t)) 0)) (part (at + 2) (le 2 (drop at t)) t)

unfoldable pub list_end : ℕ → List ℕ → ℕ
list_end at t = at + 2 + le 2 (drop at t)

-- a kind or a mark is 1 or 0
abbrev pub flag_ok : ℕ → List ℕ → Bool
flag_ok at t = leb (get_or t at 0) 1

abbrev pub flag : ℕ → List ℕ → Bool
flag at t = eqb (get_or t at 0) 1

-- the parent byte: FF is none
unfoldable pub parent_named : ℕ → ℕ
parent_named b = cond (eqb b 0xFF) nobody b

-- ---- the five records

-- 1 add: parent byte (FF none), kind, mark, 16 type bytes, owner, group, list
-- 2 set list: object byte, list
-- 3 mark: object byte, mark
-- 4: object byte, owner and group
-- 5 undo

-- how long a record is; undo, and an unknown one, is its number alone
unfoldable pub record_size : List ℕ → ℕ
record_size t =
    cond (eqb (record_number t) 1) (list_end (names_end 20 t) t)
    (cond (eqb (record_number t) 2) (list_end 2 t)
    (cond (eqb (record_number t) 3) 3
    (cond (eqb (record_number t) 4) (names_end 2 t)
    1)))

-- no kind or mark above 1, no unknown record
unfoldable pub form_ok : List ℕ → Bool
form_ok t =
    cond (eqb (record_number t) 1) (flag_ok 2 t && flag_ok 3 t)
    (cond (eqb (record_number t) 2) true
    (cond (eqb (record_number t) 3) (flag_ok 2 t)
    (cond (eqb (record_number t) 4) true
    (eqb (record_number t) 5))))

-- the object that record 1 adds
abbrev pub new_in : List ℕ → New
new_in t =
    record {
      parent = parent_named (get_or t 1 0);
      container = flag 2 t;
      mark = flag 3 t;
      type = guid_at t 4;
      owner = name_in 20 t;
      group = name_in (name_end 20 t) t;
      list = list_in (names_end 20 t) t;
    }

-- which record a number means: of good form, the number that is left is 5
unfoldable pub asks_by : ℕ → Asks
asks_by n =
    cond (eqb n 1) Add
    (cond (eqb n 2) SetList
    (cond (eqb n 3) SetMark
    (cond (eqb n 4) SetOwner
    Undo)))

-- what each asks of a tree
unfoldable pub request_of : Asks → List ℕ → Request
request_of Add t = change (add (new_in t))
request_of SetList t = change (alter (get_or t 1 0) (list (list_in 2 t)))
request_of SetMark t = change (alter (get_or t 1 0) (mark (flag 2 t)))
request_of SetOwner t = change (alter (get_or t 1 0) (owners (name_in 2 t) (name_in (name_end 2 t) t)))
request_of Undo t = undo

-- what a whole record of good form asks of a tree
unfoldable pub record_asks : List ℕ → Request
record_asks t = request_of (asks_by (record_number t)) t

-- the record at the front of t: cut where bytes of it are missing, bad by its form, else its length and what it asks
unfoldable pub step_of : List ℕ → Result Record Flaw
step_of t =
    cond (leb (record_size t) (length t))
    (cond (form_ok t) (Ok (record { length = record_size t; asks = asks_by (record_number t) })) (Err Bad))
    (Err Cut)
