-- The answer by cases, and over the bytes of a list that reads as done, cut where its entries end, as the code has it.
use mathlib.Core.Path.{◌≡◌, refl, ap, ◌∙◌}
use mathlib.Core.Bool.{Bool, true, false}
use mathlib.Core.List.{List}
use mathlib.Core.Option.{none, some}
use Prim.Native.Nat.{ℕ, ◌^◌, ◌≤◌, ◌<◌}
use native.Mathlib.Omega.{arith}
use lib.ListN.{length, take, drop}
use lib.Dec.{leb}
use borrow.Author.Tests.{le-leb}
use Rattle.octets.specs.Order.{need}
use Rattle.octets.specs.Bytes.{has}
use Rattle.condition.specs.Table.{table_ok}
use Rattle.list.specs.Entry.{access}
use Rattle.list.specs.List.{cut, entries_of, read_as, check_of}
use Rattle.list.specs.Good.{Listed}
use Rattle.list.specs.declared.readings.Read.{Read}
use Rattle.refusal.specs.declared.Fault.{Fault}
use Rattle.list.proofs.Told.{told}
use Rattle.access.specs.Held.{held_of, reaches_end}
use Rattle.access.specs.Open.{Question, opens_by, opens, on_read, read_first, may_open_of}
use Rattle.access.specs.Walk.{walk_over, walk_through, first_from, on_walk, pointed_of, step_at}
use Rattle.access.specs.Inner.Decide.{fine, held_fault, lent_fault, decided}
use Rattle.refusal.specs.Faults.{plain}
use Rattle.refusal.specs.declared.Refusal.{Refusal}
use Rattle.refusal.specs.declared.Refusal.TheVariants.{Identity, Types, Generic, Table}
use Rattle.std.specs.Prelude.{Result, Ok, Err}
use Rattle.access.specs.Inner.Seek.{seek_from}
use Rattle.access.proofs.Walks.{walking-first, entries-kept}
use Rattle.access.proofs.Seeks.{found_first}
use Rattle.access.proofs.Decides.{decided-is}

-- the answer where the list has no fault: a fault of what is lent beside it, else yes or no
abbrev pub told_by : Result Unit Refusal → Bool → Result Bool Fault
told_by (Ok _) may = Ok may
told_by (Err why) may = Err (plain why)

-- the held bytes and the table are tested, then it is yes or no
told_is : (h table : List ℕ) (b : Bool)
    → need (reaches_end h) (Err (plain Identity)) (need (leb (length (held_of h)) 32) (Err (plain Types)) (need (table_ok table) (Err (plain Table)) (Ok b))) ≡ told_by (lent_fault h table) b
unfolding lent_fault need
told_is h table b = by (reaches_end h) (leb (length (held_of h)) 32) (table_ok table)
  where
    by : (x y z : Bool) → need x (Err (plain Identity)) (need y (Err (plain Types)) (need z (Err (plain Table)) (Ok b)))
        ≡ told_by (need x (Err Identity) (need y (Err Types) (need z (Err Table) fine))) b
    by true true true = refl
    by true true false = refl
    by true false z = refl
    by false y z = refl

-- a fault of the held bytes; where they have none, one of the table
pub held_first : (h table : List ℕ) (why : Refusal) → held_fault h ≡ Err why → lent_fault h table ≡ Err why
unfolding lent_fault held_fault need
held_first h table why = by (reaches_end h) (leb (length (held_of h)) 32)
  where
    by : (x y : Bool) → need x (Err Identity) (need y (Err Types) fine) ≡ Err why → need x (Err Identity) (need y (Err Types) (need (table_ok table) (Err Table) fine)) ≡ Err why
    by true true e = let z : ◌≡◌ {A = ℕ} 0 1 = cc in absurd (omega arith)
    by true false e = e
    by false y e = e

module _ (h table : List ℕ) (u : Unit) (e : held_fault h ≡ Ok u) where
  table-next : lent_fault h table ≡ need (table_ok table) (Err Table) fine
  unfolding lent_fault held_fault need
  table-next = by (reaches_end h) (leb (length (held_of h)) 32) e
    where
      by : (x y : Bool) → need x (Err Identity) (need y (Err Types) fine) ≡ Ok u
          → need x (Err Identity) (need y (Err Types) (need (table_ok table) (Err Table) fine)) ≡ need (table_ok table) (Err Table) fine
      by true true g = refl
      by true false g = let f : ◌≡◌ {A = ℕ} 0 1 = cc in absurd (omega arith)
      by false y g = let f : ◌≡◌ {A = ℕ} 0 1 = cc in absurd (omega arith)

  pub table-bad : table_ok table ≡ false → lent_fault h table ≡ Err Table
  unfolding need
  table-bad f = table-next ∙ ap (λ (b : Bool). need b (Err Table) fine) f

  pub table-fine : table_ok table ≡ true → lent_fault h table ≡ fine
  unfolding need
  table-fine t = table-next ∙ ap (λ (b : Bool). need b (Err Table) fine) t

-- and where there is none the held bytes are SIDs to their end
pub no-fault : (h table : List ℕ) (u : Unit) → lent_fault h table ≡ Ok u → reaches_end h ≡ true
unfolding lent_fault need
no-fault h table u = by (reaches_end h)
  where
    by : (x : Bool) → need x (Err Identity) (need (leb (length (held_of h)) 32) (Err Types) (need (table_ok table) (Err Table) fine)) ≡ Ok u → x ≡ true
    by true e = refl
    by false e = let f : ◌≡◌ {A = ℕ} 0 1 = cc in absurd (omega arith)

-- held bytes without a fault leave it to the table
pub fine-fault : (h table : List ℕ) → reaches_end h ≡ true → length (held_of h) ≤ 32 → lent_fault h table ≡ need (table_ok table) (Err Table) fine
unfolding lent_fault need
fine-fault h table e l = rw (e, le-leb (length (held_of h)) 32)

module _ (q : Question) where
  pub wants-generic : has 0xF0000000 q.wanted ≡ true → may_open_of q ≡ Err (plain Generic)
  unfolding may_open_of need
  wants-generic h = rw h

  module _ (specific : has 0xF0000000 q.wanted ≡ false) where
    pub without-list : q.list ≡ none → may_open_of q ≡ told_by (lent_fault q.held q.table) true
    unfolding may_open_of read_first opens need
    without-list e = rw (specific, e) (told_is q.held q.table true)

    module _ (s : List ℕ) (e : q.list ≡ some s) where
      pub unread : (fault : Fault) → check_of access s ≡ Err fault → may_open_of q ≡ Err fault
      unfolding may_open_of read_first on_read need
      unread fault c = rw (specific, e, c)

      pub read : (l n x : ℕ) → check_of access s ≡ read_as l n x
          → may_open_of q ≡ told_by (lent_fault q.held q.table) (opens_by q.type q.table (held_of q.held) q.wanted (entries_of s))
      unfolding may_open_of read_first on_read opens need
      read l n x c = rw (specific, e, c) (told_is q.held q.table (opens_by q.type q.table (held_of q.held) q.wanted (entries_of s)))

-- ---- over the bytes

module _ (s : List ℕ) (l n x : ℕ) (e : check_of access s ≡ read_as l n x) where
  -- how its entries are read
  pub reads_so : Listed access s n
  reads_so = (told access s l n x e).listed

  pub decided-all : (type table : List ℕ) (sids : List (List ℕ)) (w : ℕ) → w < 2 ^ 32 → decided type table sids w (cut n (drop 8 s)) ≡ opens_by type table sids w (entries_of s)
  unfolding entries_of
  decided-all type table sids w f = decided-is type table sids w _ f ∙ ap (λ (k : ℕ). opens_by type table sids w (cut k (drop 8 s))) reads_so.count

  pub sought : (place : ℕ) → step_at (take x s) (seek_from n (take x s) 8 place) ≡ first_from place (walk_through s)
  sought place =
      found_first (take x s) place n 8 (walking-first s l n x e)
      ∙ ap (λ (es : List (List ℕ)). first_from place (walk_over 8 es)) (entries-kept s l n x e)

  pub pointed : (place : ℕ) → pointed_of s place ≡ Ok (first_from place (walk_through s))
  unfolding on_walk
  pointed place = ap (λ (r : Result Read Fault). on_walk r (first_from place (walk_through s))) e

pub stopped : (s : List ℕ) (fault : Fault) (place : ℕ) → check_of access s ≡ Err fault → pointed_of s place ≡ Err fault
unfolding on_walk
stopped s fault place e = ap (λ (r : Result Read Fault). on_walk r (first_from place (walk_through s))) e
