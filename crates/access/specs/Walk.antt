-- Stepping through a list's entries where they lie (RULES 10.6, 10.7).
use Rattle.std.specs.Prelude.{ℕ, zero, suc, ◌+◌, List, [], ◌∷◌, cond, take, drop, leb, Option, None, Some, Result, Ok, Err}
use Rattle.list.specs.Entry.{access, size_of, fields_of, entry_of}
use Rattle.list.specs.List.{rev_of, entries_of, check_of}
use Rattle.list.specs.Answer.{Values, done, refused}
use Rattle.list.specs.declared.entries.Entry.{Entry}
use Rattle.list.specs.declared.readings.Read.{Read}
use Rattle.refusal.specs.Numbers.{number_of}
use Rattle.refusal.specs.declared.Refusal.{Refusal}
use Rattle.refusal.specs.declared.Fault.{Fault}
use Rattle.access.specs.declared.steps.Found.{Found}

-- an entry as a walk tells it: where it lies, its fields, where the next one begins
abbrev pub found_at : ℕ → Entry → Found
found_at at e = record { at = at; entry = e; next = at + e.size }

-- entries from `at` on, each as a walk tells it
unfoldable pub walk_over : ℕ → List (List ℕ) → List Found
walk_over at [] = []
walk_over at (e ∷ es) = found_at at (fields_of e) ∷ walk_over (at + size_of e) es

-- the walk over a list: all of its entries, in order, each once
abbrev pub walk_through : List ℕ → List Found
walk_through s = walk_over 8 (entries_of s)

-- the first one that begins at or after a place; none at the end
unfoldable pub first_from : ℕ → List Found → Option Found
first_from place [] = None
first_from place (f ∷ r) = cond (leb place f.at) (Some f) (first_from place r)

-- the list is tested as the reader tests it (1 to 5, 15); then the entry meant is that one
unfoldable pub on_walk : Result Read Fault → Option Found → Result (Option Found) Fault
on_walk (Ok r) found = Ok found
on_walk (Err fault) found = Err fault

abbrev pub pointed_of : List ℕ → ℕ → Result (Option Found) Fault
pointed_of s place = on_walk (check_of access s) (first_from place (walk_through s))

-- the numbers and values (RULES 4.2, 8.1) of each case of the answer: done, with where the entry begins in the place of the length, present; zeros where none is left
abbrev pub found_values : Option Found → Values
found_values (Some f) = done f.at 1 0 0
found_values None = done 0 0 0 0

abbrev pub pointed_values : Result (Option Found) Fault → Values
pointed_values (Ok found) = found_values found
pointed_values (Err fault) = refused (number_of fault.why) fault.list fault.at

-- ---- the walker

-- what a walker holds of a list: the list up to where its entries end; nothing of one that doesn't read as done
unfoldable pub walked_by : Result Read Fault → List ℕ → List ℕ
walked_by (Ok r) s = take r.end s
walked_by (Err fault) s = []

abbrev pub walked_of : List ℕ → List ℕ
walked_of s = walked_by (check_of access s) s

-- what is found at a place: an entry, with where it lies, its fields and where the next one begins; or the end
unfoldable pub found_by : Result Entry Refusal → ℕ → Option Found
found_by (Ok e) at = Some (found_at at e)
found_by (Err why) at = None

abbrev pub step_at : List ℕ → ℕ → Option Found
step_at s at = found_by (entry_of access (rev_of s) (drop at s)) at

-- the place past it; at the end the same place
unfoldable pub past_by : Option Found → ℕ → ℕ
past_by (Some f) at = f.next
past_by None at = at

abbrev pub next_at : List ℕ → ℕ → ℕ
next_at s at = past_by (step_at s at) at

-- n steps from a place: what is found, up to the end
unfoldable pub walk_on : Option Found → List Found → List Found
walk_on (Some f) rest = f ∷ rest
walk_on None rest = []

unfoldable pub walk_from : ℕ → List ℕ → ℕ → List Found
walk_from zero s at = []
walk_from (suc n) s at = walk_on (step_at s at) (walk_from n s (next_at s at))
