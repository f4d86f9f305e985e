-- The numbers and values (RULES 4.1, 4.2) of each case of an answer.
use Rattle.std.specs.Prelude.{ℕ, List, Result, Ok, Err}
use Rattle.list.specs.Entry.{access}
use Rattle.list.specs.List.{check_of, read_of}
use Rattle.list.specs.declared.entries.Entry.{Entry}
use Rattle.list.specs.declared.readings.Read.{Read}
use Rattle.refusal.specs.Numbers.{number_of}
use Rattle.refusal.specs.declared.Refusal.{Refusal}
use Rattle.refusal.specs.declared.Fault.{Fault}

-- the number, which list a refusal concerns, the offset of its entry; length, present or absent, entry count, control, where the entries end
pub record Values : Type 0 where
  pub number : ℕ
  pub list : ℕ
  pub offset : ℕ
  pub length : ℕ
  pub present : ℕ
  pub count : ℕ
  pub control : ℕ
  pub end : ℕ

-- done, with its values; the others are zero, the end too
abbrev pub done : ℕ → ℕ → ℕ → ℕ → Values
done len present count control =
    record { number = 0; list = 0; offset = 0; length = len; present = present; count = count; control = control; end = 0 }

-- done, of a list that was read: it is present, with control 0, and its end is told
abbrev pub read_done : ℕ → ℕ → ℕ → Values
read_done len count end =
    record { number = 0; list = 0; offset = 0; length = len; present = 1; count = count; control = 0; end = end }

-- a refusal carries its number, its list and its offset; its other fields are zero
abbrev pub refused : ℕ → ℕ → ℕ → Values
refused number list offset =
    record { number = number; list = list; offset = offset; length = 0; present = 0; count = 0; control = 0; end = 0 }

-- the number of one entry's check: 0 where it is good
abbrev pub entry_number : Result Entry Refusal → ℕ
entry_number (Ok e) = 0
entry_number (Err why) = number_of why

-- the reader's answer
abbrev pub reading_values : Result Read Fault → Values
reading_values (Ok r) = read_done r.length r.count r.end
reading_values (Err fault) = refused (number_of fault.why) fault.list fault.at

-- what the test of the access list s answers
abbrev pub check_values : List ℕ → Values
check_values s = reading_values (check_of access s)

-- and the reader, with a row of m elements
abbrev pub read_values : List ℕ → ℕ → Values
read_values s m = reading_values (read_of access s m)
