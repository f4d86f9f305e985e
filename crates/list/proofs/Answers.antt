-- Laws of the answers: what their values say, and which numbers a refusal can have.
use mathlib.Core.Path.{◌≡◌, refl, sym, ap}
use mathlib.Core.Bool.{Bool, true, false, cond}
use mathlib.Core.List.{List}
use mathlib.Core.Logic.{◌⊎◌, inl, inr}
use Prim.Native.Nat.{ℕ, zero, suc, ◌+◌, ◌≤◌}
use native.Mathlib.Omega.{arith}
use lib.ListN.{drop}
use lib.Dec.{leb}
use Rattle.octets.specs.Order.{need}
use Rattle.list.specs.Entry.{Family, access, entry_of, size_of}
use Rattle.list.specs.List.{header_ok, read_as, unread, on_good, walk_of, finish, check_of, with_row, read_of, rev_of, count_of}
use Rattle.list.specs.Answer.{Values, entry_number, reading_values, check_values}
use Rattle.list.specs.Good.{Sound}
use Rattle.list.specs.declared.entries.Entry.{Entry}
use Rattle.std.specs.Prelude.{Result, Ok, Err}
use Rattle.list.specs.declared.readings.Read.{Read}
use Rattle.refusal.specs.Numbers.{number_of}
use Rattle.refusal.specs.declared.Refusal.{Refusal}
use Rattle.refusal.specs.declared.Refusal.TheVariants.{Size, Kind, Bits, Sid, Expression, Room}
use Rattle.refusal.specs.declared.Fault.{Fault}
use Rattle.refusal.proofs.Tells.{number-tells}
use Rattle.list.proofs.Cases.{sound, is-good}

-- the values determine the answer
same_read : (l n x k m y : ℕ) → l ≡ k → n ≡ m → x ≡ y → read_as l n x ≡ read_as k m y
same_read l n x k m y a b c = cc

same_fault : (why or : Refusal) (list from at to : ℕ) → why ≡ or → list ≡ from → at ≡ to
    → ◌≡◌ {A = Result Read Fault} (Err (record { why = why; list = list; at = at })) (Err (record { why = or; list = from; at = to }))
same_fault why or list from at to a b c = cc

pub values_same : (x y : Result Read Fault) → reading_values x ≡ reading_values y → x ≡ y
values_same (Ok r) (Ok q) e =
    same_read r.length r.count r.end q.length q.count q.end (ap (λ (v : Values). v.length) e) (ap (λ (v : Values). v.count) e) (ap (λ (v : Values). v.end) e)
values_same (Ok r) (Err g) e = let a = ap (λ (v : Values). v.present) e in absurd (omega arith)
values_same (Err f) (Ok q) e = let a = ap (λ (v : Values). v.present) e in absurd (omega arith)
values_same (Err f) (Err g) e =
    same_fault f.why g.why f.list g.list f.at g.at (number-tells f.why g.why (ap (λ (v : Values). v.number) e)) (ap (λ (v : Values). v.list) e) (ap (λ (v : Values). v.offset) e)

-- so what the test of a list gives is the definition's
pub checked : (r : Result Read Fault) (s : List ℕ) → reading_values r ≡ check_values s → r ≡ check_of access s
checked r s e = values_same r (check_of access s) e

-- an entry is refused by 2 to 5 or 15
pub data EntryNumber : Result Entry Refusal → Type 0 where
  good : {e : Entry} → EntryNumber (Ok e)
  bad : {why : Refusal} → 2 ≤ number_of why → (number_of why ≤ 5) ⊎ (number_of why ≡ 15) → EntryNumber (Err why)

need-number : (b : Bool) (why : Refusal) (rest : Result Entry Refusal) → 2 ≤ number_of why → (number_of why ≤ 5) ⊎ (number_of why ≡ 15)
    → EntryNumber rest → EntryNumber (need b (Err why) rest)
unfolding need
need-number true why rest l m h = h
need-number false why rest l m h = bad l m

pub entry-number : (f : Family) (rev : ℕ) (t : List ℕ) → EntryNumber (entry_of f rev t)
unfolding entry_of
entry-number f rev t =
    need-number _ Size _ (omega arith) (inl (omega arith))
    (need-number _ Size _ (omega arith) (inl (omega arith))
    (need-number _ Kind _ (omega arith) (inl (omega arith))
    (need-number _ Bits _ (omega arith) (inl (omega arith))
    (need-number _ Size _ (omega arith) (inl (omega arith))
    (need-number _ Bits _ (omega arith) (inl (omega arith))
    (need-number _ Size _ (omega arith) (inl (omega arith))
    (need-number _ Sid _ (omega arith) (inl (omega arith))
    (need-number _ Expression _ (omega arith) (inr refl)
    (need-number _ Size _ (omega arith) (inl (omega arith)) good)))))))))

-- so its number is 0 exactly where it is good
pub good-number-zero : (f : Family) (rev : ℕ) (t : List ℕ) → Sound f rev t → entry_number (entry_of f rev t) ≡ 0
good-number-zero f rev t s = ap entry_number (sym (is-good f rev t s))

pub number-zero-good : (f : Family) (rev : ℕ) (t : List ℕ) → entry_number (entry_of f rev t) ≡ 0 → Sound f rev t
number-zero-good f rev t h = by (entry_of f rev t) refl (entry-number f rev t) h
  where
    by : (o : Result Entry Refusal) → entry_of f rev t ≡ o → EntryNumber o → entry_number o ≡ 0 → Sound f rev t
    by (Ok e) q n z = sound f rev t e q
    by (Err why) q (bad l m) z = absurd (omega arith)

-- a list is refused by 1 to 5 or 15
abbrev pub ListNumber : Result Read Fault → Type 0
ListNumber (Ok r) = Unit
ListNumber (Err fault) = (1 ≤ number_of fault.why) × ((number_of fault.why ≤ 5) ⊎ (number_of fault.why ≡ 15))

cond-number : (b : Bool) (x y : Result Read Fault) → ListNumber x → ListNumber y → ListNumber (cond b x y)
cond-number true x y h k = h
cond-number false x y h k = k

good-number : (o : Result Entry Refusal) (at : ℕ) (rest : Result Read Fault) → EntryNumber o → ListNumber rest → ListNumber (on_good o at rest)
unfolding on_good
good-number (Ok e) at rest h k = k
good-number (Err why) at rest (bad l m) k = (omega arith, m)

walk-number : (f : Family) (rev n at : ℕ) (t : List ℕ) (done : ℕ → Result Read Fault) → ((end : ℕ) → ListNumber (done end)) → ListNumber (walk_of f rev n at t done)
unfolding walk_of
walk-number f rev zero at t done h = h at
walk-number f rev (suc n) at t done h =
    good-number (entry_of f rev t) at _ (entry-number f rev t) (walk-number f rev n (at + size_of t) (drop (size_of t) t) done h)

pub list-number : (f : Family) (s : List ℕ) → ListNumber (check_of f s)
unfolding check_of finish
list-number f s =
    cond-number (header_ok s) _ _
    (walk-number f (rev_of s) (count_of s) 8 (drop 8 s) _ (λ end. tt))
    (omega arith, inl (omega arith))

-- with its row by 8 besides, with offset 0; so the number is 0 exactly where the list was read
abbrev pub ReadNumber : Result Read Fault → Type 0
ReadNumber (Ok r) = Unit
ReadNumber (Err fault) = ((1 ≤ number_of fault.why) × ((number_of fault.why ≤ 5) ⊎ (number_of fault.why ≡ 15))) ⊎ ((number_of fault.why ≡ 8) × (fault.at ≡ 0))

row_number : (m : ℕ) (r : Result Read Fault) → ListNumber r → ReadNumber (with_row m r)
unfolding with_row
row_number m (Ok r) h = by (leb r.count m)
  where
    by : (b : Bool) → ReadNumber (cond b (Ok r) (unread Room 0))
    by true = tt
    by false = inr (refl, refl)
row_number m (Err fault) h = inl h

pub read_number : (f : Family) (s : List ℕ) (m : ℕ) → ReadNumber (read_of f s m)
unfolding read_of
read_number f s m = row_number m (check_of f s) (list-number f s)
