-- Laws of the header and of the walk over the entries.
use mathlib.Core.Path.{◌≡◌, refl, sym, ap, ◌∙◌}
use mathlib.Core.Bool.{true, false}
use mathlib.Core.List.{List}
use Prim.Native.Nat.{ℕ, zero, suc, ◌+◌, ◌-◌, ◌≤◌, ◌<◌}
use native.Mathlib.Nat.{not-suc-le-zero}
use native.Mathlib.Numerals.{sub-one}
use native.Mathlib.Omega.{arith}
use lib.ListN.{length, drop, get_or}
use lib.Dec.{eqb}
use Rattle.octets.specs.Bytes.{le}
use Rattle.list.specs.Entry.{Family, entry_of, size_of}
use Rattle.list.specs.List.{rev_ok, rev_of, header_ok, read_as, unread, on_good, walk_of, entries_end}
use Rattle.list.specs.Good.{Sound, Passes, Header}
use Rattle.list.specs.declared.entries.Entry.{Entry}
use Rattle.std.specs.Prelude.{Result, Ok, Err}
use Rattle.refusal.specs.declared.Refusal.{Refusal}
use Rattle.list.specs.declared.readings.Read.{Read}
use Rattle.refusal.specs.declared.Fault.{Fault}
use Rattle.octets.proofs.Tests.{tests, le-or, true-or, eq-or, off}
use Rattle.list.specs.Inner.Begins.{sized}
use Rattle.refusal.specs.Faults.{fault_at}
use Rattle.list.proofs.Cases.{sound, is-good, fields}

module _ (s : List ℕ) where
  pub short : length s < 8 → header_ok s ≡ false
  unfolding header_ok
  short x = simp tests

  module _ (long : 8 ≤ length s) where
    pub bad-rev : rev_ok (rev_of s) ≡ false → header_ok s ≡ false
    unfolding header_ok
    bad-rev x = simp (tests, x)

    module _ (rev : rev_ok (rev_of s) ≡ true) where
      pub bad-zero : (get_or s 1 0 ≡ 0 → ⊥) → header_ok s ≡ false
      unfolding header_ok
      bad-zero x = simp (tests, rev)

      module _ (none : get_or s 1 0 ≡ 0) where
        pub bad-size : (le 2 (drop 2 s) ≡ length s → ⊥) → header_ok s ≡ false
        unfolding header_ok
        bad-size x = simp (tests, rev)

        module _ (size : le 2 (drop 2 s) ≡ length s) where
          pub last-test : header_ok s ≡ eqb (le 2 (drop 6 s)) 0
          unfolding header_ok
          last-test = simp (tests, rev)

pub header : (s : List ℕ) → header_ok s ≡ true → Header s
header s h =
    let a : 8 ≤ length s = le-or _ _ (λ x. off h (short s x)) in
    let b : rev_ok (rev_of s) ≡ true = true-or _ (λ x. off h (bad-rev s a x)) in
    let z : get_or s 1 0 ≡ 0 = eq-or _ _ (λ x. off h (bad-zero s a b x)) in
    let n : le 2 (drop 2 s) ≡ length s = eq-or _ _ (λ x. off h (bad-size s a b z x)) in
    let e : (le 2 (drop 6 s) ≡ 0 → ⊥) → header_ok s ≡ false = λ x. last-test s a b z n ∙ simp tests in
    record { long = a; rev = b; zero = z; size = n; zeros = eq-or _ _ (λ x. off h (e x)) }

pub is-header : (s : List ℕ) → Header s → header_ok s ≡ true
is-header s h = let z = h.zeros in last-test s h.long h.rev h.zero h.size ∙ simp tests

-- a walk's turn
pub walk_end : (f : Family) (rev n at : ℕ) (t : List ℕ) (done : ℕ → Result Read Fault) → n ≤ 0 → walk_of f rev n at t done ≡ done at
unfolding walk_of
walk_end f rev zero at t done p = refl
walk_end f rev (suc n) at t done p = absurd (not-suc-le-zero p)

walk_turn : (f : Family) (rev n at : ℕ) (t : List ℕ) (done : ℕ → Result Read Fault) → 0 < n
    → walk_of f rev n at t done ≡ on_good (entry_of f rev t) at (walk_of f rev (n - 1) (at + size_of t) (drop (size_of t) t) done)
unfolding walk_of
walk_turn f rev zero at t done p = absurd (not-suc-le-zero p)
walk_turn f rev (suc n) at t done p = rw (sub-one (suc n))

sized-good : (at : ℕ) (e : Entry) → sized at (Ok e) ≡ Ok e.size
unfolding sized
sized-good at e = refl

sized-bad : (at : ℕ) (why : Refusal) → sized at (Err why) ≡ Err (fault_at why at)
unfolding sized
sized-bad at why = refl

module _ (f : Family) (rev n at : ℕ) (t : List ℕ) (done : ℕ → Result Read Fault) (some : 0 < n) where
  pub walk-bad : (why : Refusal) → entry_of f rev t ≡ Err why → walk_of f rev n at t done ≡ unread why at
  unfolding on_good
  walk-bad k h = walk_turn f rev n at t done some ∙ rw h

  pub walk-good : (e : Entry) → entry_of f rev t ≡ Ok e → walk_of f rev n at t done ≡ walk_of f rev (n - 1) (at + size_of t) (drop (size_of t) t) done
  unfolding on_good
  walk-good e h = walk_turn f rev n at t done some ∙ rw h

  -- by what a turn of the code finds: a fault, or the size of a good entry
  pub walk-stops : (fault : Fault) → sized at (entry_of f rev t) ≡ Err fault → walk_of f rev n at t done ≡ Err fault
  walk-stops fault h = by (entry_of f rev t) refl h
    where
      by : (o : Result Entry Refusal) → entry_of f rev t ≡ o → sized at o ≡ Err fault → walk_of f rev n at t done ≡ Err fault
      by (Ok e) q h = let g = sized-good at e in cc
      by (Err why) q h = let g = sized-bad at why in let w = walk-bad why q in cc

  pub walk-goes : (size : ℕ) → sized at (entry_of f rev t) ≡ Ok size
      → Sound f rev t × (size ≡ size_of t) × (walk_of f rev n at t done ≡ walk_of f rev (n - 1) (at + size) (drop size t) done)
  walk-goes size h = by (entry_of f rev t) refl h
    where
      by : (o : Result Entry Refusal) → entry_of f rev t ≡ o → sized at o ≡ Ok size
          → Sound f rev t × (size ≡ size_of t) × (walk_of f rev n at t done ≡ walk_of f rev (n - 1) (at + size) (drop size t) done)
      by (Ok e) q h =
          let g = sized-good at e in
          let z : e.size ≡ size = cc in
          let y : size ≡ size_of t = sym z ∙ ap (λ (x : Entry). x.size) (fields f rev t e q) in
          (sound f rev t e q, y, rw y (walk-good e q))
      by (Err why) q h = let g = sized-bad at why in cc

-- in a walk that ends well an entry is there, it is good, and the rest of the walk ends so too
turn : (f : Family) (rev n at : ℕ) (t : List ℕ) (done : ℕ → Result Read Fault) (l k x : ℕ) → walk_of f rev (suc n) at t done ≡ read_as l k x
    → Sound f rev t × (walk_of f rev n (at + size_of t) (drop (size_of t) t) done ≡ read_as l k x)
turn f rev n at t done l k x h = by (entry_of f rev t) refl
  where
    by : (o : Result Entry Refusal) → entry_of f rev t ≡ o → Sound f rev t × (walk_of f rev n (at + size_of t) (drop (size_of t) t) done ≡ read_as l k x)
    by (Ok e) q = (sound f rev t e q, (rw sub-one at (sym (walk-good f rev (suc n) at t done (omega arith) e q))) ∙ h)
    by (Err why) q = let w = walk-bad f rev (suc n) at t done (omega arith) why q in cc

-- so it has passed n good entries, and what it says, it says of their end
pub walked : (f : Family) (rev n at : ℕ) (t : List ℕ) (done : ℕ → Result Read Fault) (l k x : ℕ) → walk_of f rev n at t done ≡ read_as l k x
    → Passes f rev n t × (done (entries_end n at t) ≡ read_as l k x)
unfolding walk_of entries_end
walked f rev zero at t done l k x h = (tt, h)
walked f rev (suc n) at t done l k x h =
    let p = turn f rev n at t done l k x h in
    let r = walked f rev n (at + size_of t) (drop (size_of t) t) done l k x p.1 in
    ((p.0, r.0), r.1)

-- and the other way
pub walks : (f : Family) (rev n at : ℕ) (t : List ℕ) (done : ℕ → Result Read Fault) → Passes f rev n t → walk_of f rev n at t done ≡ done (entries_end n at t)
unfolding walk_of entries_end
walks f rev zero at t done p = refl
walks f rev (suc n) at t done p =
    walk-good f rev (suc n) at t done (omega arith) _ (sym (is-good f rev t p.0))
    ∙ rw (sub-one (suc n)) (walks f rev n (at + size_of t) (drop (size_of t) t) done p.1)
