-- A list reads as done exactly where it is a list of good entries, and then its end is where they end.
use mathlib.Core.Path.{◌≡◌, refl, sym, ap}
use mathlib.Core.Bool.{Bool, true, false, cond}
use mathlib.Core.List.{List, ◌++◌}
use Prim.Native.Nat.{ℕ, ◌≤◌, ◌<◌}
use lib.ListN.{length, drop}
use borrow.Author.Tests.{le-leb, lt-leb}
use Rattle.list.specs.Entry.{Family}
use Rattle.list.specs.List.{header_ok, read_as, unread, walk_of, finish, check_of, with_row, read_of, row_by, offsets, entries_end, rev_of, count_of}
use Rattle.list.specs.Good.{Listed}
use Rattle.std.specs.Prelude.{Result, Err}
use Rattle.list.specs.declared.readings.Read.{Read}
use Rattle.refusal.specs.declared.Fault.{Fault}
use Rattle.refusal.specs.declared.Refusal.{Refusal}
use Rattle.refusal.specs.declared.Refusal.TheVariants.{Header, Room}
use Rattle.list.proofs.Walks.{header, is-header, walked, walks}

-- the reader's answer, and the row afterwards
pub record Reads (f : Family) (s row : List ℕ) (r : Result Read Fault) (row' : List ℕ) : Type 0 where
  pub answer : r ≡ read_of f s (length row)
  pub index : row' ≡ row_by (read_of f s (length row)) s row

done-cond : (b : Bool) (r : Result Read Fault) (l k x : ℕ) (why : Refusal) (at : ℕ) → cond b r (unread why at) ≡ read_as l k x → (b ≡ true) × (r ≡ read_as l k x)
done-cond true r l k x why at h = (refl, h)
done-cond false r l k x why at h = (cc, cc)

-- the check by cases
module _ (f : Family) (s : List ℕ) where
  pub check-header : header_ok s ≡ false → check_of f s ≡ unread Header 0
  unfolding check_of
  check-header h = rw h

  pub check-walk : header_ok s ≡ true → check_of f s ≡ walk_of f (rev_of s) (count_of s) 8 (drop 8 s) (finish (length s) (count_of s))
  unfolding check_of
  check-walk h = rw h

  -- the reader by cases: a refused list, a row that is too short, and the index in the row
  module _ (row : List ℕ) where
    pub read-refused : (fault : Fault) → check_of f s ≡ Err fault → Reads f s row (Err fault) row
    unfolding read_of with_row row_by
    read-refused fault e = record { answer = rw e; index = rw e }

    module _ (l n x : ℕ) (e : check_of f s ≡ read_as l n x) where
      pub read_short : length row < n → Reads f s row (unread Room 0) row
      unfolding read_of with_row row_by
      read_short p = record { answer = rw (e, lt-leb n (length row)); index = rw (e, lt-leb n (length row)) }

      pub read_done : n ≤ length row → Reads f s row (read_as l n x) (offsets n 8 (drop 8 s) ++ drop n row)
      unfolding read_of with_row row_by
      read_done p = record { answer = rw (e, le-leb n (length row)); index = rw (e, le-leb n (length row)) }

-- the parts of an answer that is done
pub read-parts : (l n x k m y : ℕ) → read_as l n x ≡ read_as k m y → (l ≡ k) × (n ≡ m) × (x ≡ y)
read-parts l n x k m y h =
    let e : ◌≡◌ {A = Read} (record { length = l; count = n; end = x }) (record { length = k; count = m; end = y }) = cc in
    (ap (λ (r : Read). r.length) e, ap (λ (r : Read). r.count) e, ap (λ (r : Read). r.end) e)

-- what a good answer says of the bytes
pub record Told (f : Family) (s : List ℕ) (l n x : ℕ) : Type 0 where
  pub listed : Listed f s n
  pub whole : l ≡ length s
  pub end : x ≡ entries_end n 8 (drop 8 s)

pub told : (f : Family) (s : List ℕ) (l n x : ℕ) → check_of f s ≡ read_as l n x → Told f s l n x
unfolding check_of finish
told f s l n x h =
    let p = done-cond (header_ok s) _ l n x Header 0 h in
    let w = walked f (rev_of s) (count_of s) 8 (drop 8 s) _ l n x p.1 in
    let d = w.1 in
    let q = read-parts _ _ _ l n x d in
    let c : n ≡ count_of s = sym q.1 in
    record { listed = record { head = header s p.0; count = c; passes = rw c w.0 }; whole = sym q.0; end = rw c (sym q.2) }

-- and the bytes of the answer
pub reads : (f : Family) (s : List ℕ) (n : ℕ) → Listed f s n → check_of f s ≡ read_as (length s) n (entries_end n 8 (drop 8 s))
unfolding check_of finish
reads f s n r =
    let c = r.count in
    rw (is-header s r.head, ← c, walks f (rev_of s) n 8 (drop 8 s) (finish (length s) n) r.passes)
