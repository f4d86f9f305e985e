-- Spare bytes (RULES 1.4): a list with others in their place, and without any.
use Rattle.std.specs.Prelude.{ℕ, ◌+◌, ◌-◌, ◌<◌, ◌≡◌, List, [], ◌∷◌, ◌++◌, length, take, drop, Result, Ok, Err}
use Rattle.octets.specs.Bytes.{spell}
use Rattle.list.specs.Entry.{Family, size_of}
use Rattle.list.specs.List.{check_of, read_as}
use Rattle.list.specs.declared.readings.Read.{Read}
use Rattle.refusal.specs.declared.Fault.{Fault}

-- s, whose entries end at `end`, with the spare bytes v, and with the size that then fits
unfoldable pub with_spare : ℕ → List ℕ → List ℕ → List ℕ
with_spare end v s = take 2 s ++ (spell 2 (end + length v) ++ (take (end - 4) (drop 4 s) ++ v))

-- s without spare bytes; what doesn't read as done has none
unfoldable pub bare_by : Result Read Fault → List ℕ → List ℕ
bare_by (Ok r) s = with_spare r.end [] s
bare_by (Err fault) s = s

abbrev pub bare : Family → List ℕ → List ℕ
bare f s = bare_by (check_of f s) s

-- where s reads as done, a size field can say how long it is: of bytes this always holds
abbrev pub Sized : Family → List ℕ → Type 0
Sized f s = (l n x : ℕ) → check_of f s ≡ read_as l n x → l < 65536

-- the sum of the entries' sizes
unfoldable pub size_sum : List (List ℕ) → ℕ
size_sum [] = 0
size_sum (e ∷ es) = size_of e + size_sum es
