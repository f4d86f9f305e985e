-- What a walk over a list of bytes tells is smaller than its size field can say.
use mathlib.Core.Path.{◌≡◌, refl, subst}
use mathlib.Core.Bool.{Bool, true, false, cond}
use mathlib.Core.List.{List, [], ◌∷◌, flatten}
use Prim.Native.Nat.{ℕ, ◌+◌, ◌≤◌}
use native.Mathlib.Omega.{arith}
use lib.ListN.{length, length-append}
use lib.Dec.{leb}
use Rattle.octets.specs.Bytes.{Bytes}
use Rattle.list.specs.Entry.{access, size_of, fields_of}
use Rattle.list.specs.List.{rev_of, entries_of, check_of}
use Rattle.list.specs.Good.{Whole, Every}
use Rattle.list.specs.declared.readings.Read.{Read}
use Rattle.refusal.specs.declared.Fault.{Fault}
use Rattle.list.proofs.Told.{told}
use Rattle.list.proofs.Parts.{laid}
use Rattle.list.proofs.Spare.{end-within, bytes-sized}
use Rattle.list.proofs.Remade.{bounds}
use Rattle.access.specs.declared.steps.Found.{Found}
use Rattle.std.specs.Prelude.{Option, Some, None, Result, Ok, Err}
use Rattle.access.specs.Walk.{found_at, walk_over, walk_through, first_from, on_walk, pointed_of}

-- the parts of an entry lie inside it, and it ends at the next place, which is at most `most`
pub record Inside (most : ℕ) (f : Found) : Type 0 where
  pub sid : f.entry.sid + f.entry.sid_len ≤ f.entry.size
  pub ends : f.next ≡ f.at + f.entry.size
  pub last : f.next ≤ most

abbrev InsideIf : ℕ → Option Found → Type 0
InsideIf most (Some f) = Inside most f
InsideIf most None = Unit

first-inside : (rev place o most : ℕ) (es : List (List ℕ)) → Every (Whole access rev) es → o + length (flatten es) ≤ most → InsideIf most (first_from place (walk_over o es))
unfolding first_from walk_over flatten
first-inside rev place o most [] ws h = tt
first-inside rev place o most (e ∷ es) ws h =
    let b = bounds access rev e ws.0.sound in
    let l = length-append e (flatten es) in
    by (leb place o)
    (record { sid = b.sid; ends = refl; last = omega (arith, ws.0.whole) })
    (first-inside rev place (o + size_of e) most es ws.1 (omega (arith, ws.0.whole)))
  where
    by : (c : Bool) → Inside most (found_at o (fields_of e)) → InsideIf most (first_from place (walk_over (o + size_of e) es))
        → InsideIf most (cond c (Some (found_at o (fields_of e))) (first_from place (walk_over (o + size_of e) es)))
    by true p q = p
    by false p q = q

pub pointed-small : (s : List ℕ) (place : ℕ) (f : Found) → Bytes s → pointed_of s place ≡ Ok (Some f) → Inside 65535 f
unfolding on_walk
pointed-small s place f d h = by (check_of access s) refl h
  where
    by : (r : Result Read Fault) → check_of access s ≡ r → on_walk r (first_from place (walk_through s)) ≡ Ok (Some f) → Inside 65535 f
    by (Ok r) q k =
        let n = r.count in
        let t = told access s r.length n r.end q in
        let g = laid access s n t.listed in
        let z = bytes-sized access s d r.length n r.end q in
        let e : first_from place (walk_through s) ≡ Some f = cc in
        let i = first-inside (rev_of s) place 8 65535 (entries_of s) g.wholes (omega (arith, end-within access s r.length n r.end q, t.end, g.ends)) in
        subst (InsideIf 65535) e i
    by (Err j) q k = let z : ◌≡◌ {A = ℕ} 0 1 = cc in absurd (omega arith)
