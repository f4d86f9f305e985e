-- What a slot and the place of an identity hold: the list or the SID that they were made of, and back from the tests of them.
use mathlib.Core.Path.{◌≡◌, refl, sym, ap, ◌∙◌}
use mathlib.Core.Bool.{Bool, true, false, ◌&&◌}
use mathlib.Core.List.{List, ◌++◌}
use mathlib.Core.Option.{none, some}
use Prim.Native.Nat.{ℕ, zero, suc, ◌-◌, ◌≤◌, ◌<◌}
use native.Mathlib.Omega.{arith}
use lib.ListN.{length, get_or, take, drop, replicate}
use lib.Seq.{take_at, take_all}
use lib.Dec.{leb}
use borrow.Author.Tests.{leb-true, le-leb, eqb-true}
use Rattle.octets.specs.Bytes.{le, spell, part}
use Rattle.list.specs.Identity.{identity_of}
use Rattle.list.specs.Entry.{access}
use Rattle.list.specs.List.{check_of, MaybeList, lent}
use Rattle.octets.proofs.Little.{le-append, le-spell, length-spell}
use Rattle.list.proofs.Sids.{identity-zero, one-sid, sid-most}
use Rattle.octets.proofs.Tests.{both_true}
use Rattle.inherit.specs.Compute.{ordinary}
use Rattle.tree.specs.Model.{short_if}
use Rattle.tree.specs.Held.{has_list, bytes_in, held, slot_for, is_done, slot_ok, id_in, id_for, id_ok}
use Rattle.tree.proofs.Replay.{reads}
use Rattle.tree.proofs.Lays.{length-padded, length-id}

-- bytes with zeros behind them
front_of : (s : List ℕ) (n z : ℕ) → length (s ++ replicate z 0) ≡ n → part 0 (length s) (take n (s ++ replicate z 0)) ≡ s
unfolding part
front_of s n z e = ap (take (length s)) (take_all n (s ++ replicate z 0) (omega arith)) ∙ take_at s (replicate z 0) (length s) refl

-- ---- a slot

zeros-absent : (n : ℕ) → 0 < n → held (replicate n 0) ≡ none
zeros-absent zero h = absurd (omega arith)
zeros-absent (suc n) h = refl

zeros-good : (n : ℕ) → 0 < n → slot_ok (replicate n 0) ≡ true
unfolding slot_ok
zeros-good zero h = absurd (omega arith)
zeros-good (suc n) h = refl

zeros-slot : slot_ok (slot_for none) ≡ true
unfolding slot_for
zeros-slot = zeros-good 1027 (omega arith)

-- its first byte, its length and its bytes
slot-tag : (s : List ℕ) → get_or (slot_for (some s)) 0 0 ≡ 1
unfolding slot_for
slot-tag s = refl

module _ (s : List ℕ) (h : length s ≤ 1024) where
  slot-size : le 2 (drop 1 (slot_for (some s))) ≡ length s
  unfolding slot_for
  slot-size =
      let k : 2 ≤ length (spell 2 (length s)) = rw length-spell (omega arith) in
      le-append 2 (spell 2 (length s)) (s ++ replicate (1024 - length s) 0) k ∙ le-spell 2 (length s) (omega arith)

  slot-bytes : bytes_in (slot_for (some s)) ≡ s
  unfolding bytes_in slot_for spell part
  slot-bytes = ap (λ (n : ℕ). part 0 n (part 3 1024 (slot_for (some s)))) slot-size ∙ front_of s 1024 (1024 - length s) (length-padded 1024 s h)

pub held-slot : (o : MaybeList) → short_if o ≡ true → held (slot_for o) ≡ o
unfolding slot_for short_if
held-slot none h = zeros-absent 1027 (omega arith)
held-slot (some s) h = ap some (slot-bytes s (leb-true (length s) 1024 h))

-- the test of one that holds a list
tagged : (s : List ℕ) → get_or s 0 0 ≡ 1 → slot_ok s ≡ (leb (le 2 (drop 1 s)) 1024 && is_done (check_of access (bytes_in s)))
unfolding slot_ok
tagged s e = rw e

pub slot-good : (o : MaybeList) → short_if o ≡ true → reads o ≡ true → slot_ok (slot_for o) ≡ true
unfolding short_if reads
slot-good none h r = zeros-slot
slot-good (some s) h r =
    let m = leb-true (length s) 1024 h in
    tagged (slot_for (some s)) (slot-tag s) ∙ rw (slot-size s m, slot-bytes s m, h) r

-- what a good slot holds reads as done
pub slot-reads : (s : List ℕ) → slot_ok s ≡ true → reads (held s) ≡ true
unfolding reads
slot-reads s h = by (has_list s) refl
  where
    by : (b : Bool) → has_list s ≡ b → reads (lent b (bytes_in s)) ≡ true
    by true e = (both_true (leb (le 2 (drop 1 s)) 1024) (is_done (check_of access (bytes_in s))) (sym (tagged s (eqb-true (get_or s 0 0) 1 e)) ∙ h)).1
    by false e = refl

-- ---- an identity

pub ordinary-most : (s : List ℕ) → ordinary s ≡ true → length s ≤ 68
ordinary-most s h =
    let o = one-sid s (identity-zero s (eqb-true (identity_of s) 0 h)).0 in
    omega (arith, o.exact, sid-most s)

pub id-length : (s : List ℕ) → ordinary s ≡ true → length (id_for s) ≡ 69
id-length s h = length-id s (ordinary-most s h)

pub id-held : (s : List ℕ) → ordinary s ≡ true → id_in (id_for s) ≡ s
unfolding id_for id_in part
id-held s h = front_of s 68 (68 - length s) (length-padded 68 s (ordinary-most s h))

id-tag : (s : List ℕ) → get_or (id_for s) 0 0 ≡ length s
unfolding id_for
id-tag s = refl

pub id-good : (s : List ℕ) → ordinary s ≡ true → id_ok (id_for s) ≡ true
unfolding id_ok
id-good s h = rw (id-tag s, le-leb (length s) 68 (ordinary-most s h), id-held s h) h

pub id-ordinary : (f : List ℕ) → id_ok f ≡ true → ordinary (id_in f) ≡ true
unfolding id_ok
id-ordinary f h = (both_true (leb (get_or f 0 0) 68) (ordinary (id_in f)) h).1
