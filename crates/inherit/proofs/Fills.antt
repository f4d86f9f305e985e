-- The answer by cases: no list, no room, or a list on the front of the buffer.
use mathlib.Core.Path.{◌≡◌, refl, sym, ap, subst, ◌∙◌}
use mathlib.Core.Bool.{Bool, true, false, cond}
use mathlib.Core.List.{List, [], ◌∷◌, ◌++◌, flatten}
use Prim.Native.Nat.{ℕ, ◌+◌, ◌*◌, ◌≤◌, ◌<◌}
use native.Mathlib.Omega.{arith}
use lib.ListN.{length, set, length-append}
use borrow.Author.Tests.{le-leb, lt-leb}
use Rattle.std.proofs.Common.{Some, None, Ok, Err}
use Rattle.refusal.specs.Faults.{plain}
use Rattle.refusal.specs.declared.Refusal.TheVariants.{Room}
use Rattle.octets.specs.Bytes.{front}
use Rattle.list.specs.Entry.{flags_of}
use Rattle.list.specs.List.{head_bytes, render}
use Rattle.list.proofs.Parts.{render-is}
use Rattle.list.proofs.Remade.{length-entry}
use Rattle.inherit.specs.declared.passes.Measure.{Measure}
use Rattle.inherit.specs.declared.whole.Parts.{Parts}
use Rattle.inherit.specs.declared.copies.Pass.{Pass}
use Rattle.inherit.specs.declared.copies.Pass.TheVariants.{First, Second, Own, All}
use Rattle.inherit.specs.Branch.{absent, holds}
use Rattle.inherit.specs.Asked.{Given}
use Rattle.inherit.specs.Last.{resolved}
use Rattle.inherit.specs.Compute.{rev_for, size_for, with_room, bytes_for, written}
use Rattle.inherit.specs.Inner.Ending.{Ends}
use Rattle.inherit.specs.Inner.Still.{still}
use Rattle.inherit.specs.Inner.Emit.{takes_by, flags_by, emit_of, emit_all, measure_of}
use Rattle.inherit.specs.Inner.Plan.{gathered}
use Rattle.inherit.proofs.Emits.{flatten-append}

-- each entry is eight bytes long at the least, so their number fits where their bytes do
cond-eight : (b : Bool) (x : List ℕ) → 8 ≤ length x → 8 * length (cond b (x ∷ []) []) ≤ length (flatten (cond b (x ∷ []) []))
unfolding flatten
cond-eight true x h = omega (arith, length-append x [])
cond-eight false x h = omega arith

resolved-eight : (g : Given) (e : List ℕ) → 8 ≤ length (resolved g e)
unfolding resolved
resolved-eight g e = rw length-entry (omega arith)

emit-eight : (g : Given) (p : Pass) (e : List ℕ) → 8 * length (emit_of g p e) ≤ length (flatten (emit_of g p e))
unfolding emit_of
emit-eight g p e = cond-eight (takes_by g p e) _ (resolved-eight g (set e 1 (flags_by p (flags_of e))))

append-eight : (xs ys : List (List ℕ)) → 8 * length xs ≤ length (flatten xs) → 8 * length ys ≤ length (flatten ys)
    → 8 * length (xs ++ ys) ≤ length (flatten (xs ++ ys))
append-eight xs ys h k =
    omega (arith, length-append xs ys, length-append (flatten xs) (flatten ys), ap (λ (l : List ℕ). length l) (flatten-append xs ys))

all-eight : (g : Given) (p : Pass) (es : List (List ℕ)) → 8 * length (emit_all g p es) ≤ length (flatten (emit_all g p es))
unfolding emit_all flatten
all-eight g p [] = omega arith
all-eight g p (e ∷ es) = append-eight (emit_of g p e) (emit_all g p es) (emit-eight g p e) (all-eight g p es)

-- the header that a measure gives, and then the entries, are the list
pub header-then : (es : List (List ℕ)) (out : List ℕ) (m : Measure) → m ≡ measure_of es → (rev : ℕ) → rev ≡ cond m.object 4 2
    → front (head_bytes rev (8 + m.bytes) m.count ++ flatten es) out ≡ front (render (rev_for es) es) out
header-then es out m e rev r =
    ap (λ (w : List ℕ). front (w ++ flatten es) out)
    (ap (λ (x : ℕ). head_bytes x (8 + m.bytes) m.count) r ∙ ap (λ (z : Measure). head_bytes (cond z.object 4 2) (8 + z.bytes) z.count) e)
    ∙ ap (λ (w : List ℕ). front w out) (sym (render-is (rev_for es) es))

module _ (g : Given) (n : Parts) where
  pub gathered-eight : 8 * length (gathered g n) ≤ length (flatten (gathered g n))
  gathered-eight =
      let a = still n.own in
      let b = still n.parent in
      let e = still n.default in
      append-eight (emit_all g Own a) (emit_all g First b ++ (emit_all g Second b ++ emit_all g All e)) (all-eight g Own a)
      (append-eight (emit_all g First b) (emit_all g Second b ++ emit_all g All e) (all-eight g First b)
      (append-eight (emit_all g Second b) (emit_all g All e) (all-eight g Second b) (all-eight g All e)))

-- no list at all
pub ends-absent : (out : List ℕ) → Ends absent out (Ok None) out
unfolding with_room written
ends-absent out = record { answer = record { values = refl; refuses = refl }; buffer = refl }

module _ (es : List (List ℕ)) (control : ℕ) (out : List ℕ) where
  pub ends-short : length out < size_for es → Ends (holds es control) out (Err (plain Room)) out
  unfolding with_room written
  ends-short k =
      let e = lt-leb (size_for es) (length out) k in
      record { answer = record { values = rw e; refuses = rw e }; buffer = rw e }

  pub ends-long : size_for es ≤ length out → 65532 < size_for es → Ends (holds es control) out (Err (plain Room)) out
  unfolding with_room written
  ends-long k m =
      let e = le-leb (size_for es) (length out) k in
      let f = lt-leb (size_for es) 65532 m in
      record { answer = record { values = rw (e, f); refuses = rw (e, f) }; buffer = rw (e, f) }

  ends_done : size_for es ≤ length out → size_for es ≤ 65532 → (out' : List ℕ) → out' ≡ front (render (rev_for es) es) out
      → Ends (holds es control) out (Ok (Some (record { length = size_for es; count = length es; control = control }))) out'
  unfolding with_room written bytes_for
  ends_done k m out' o =
      let e = le-leb (size_for es) (length out) k in
      let f = le-leb (size_for es) 65532 m in
      record { answer = record { values = rw (e, f); refuses = rw (e, f) }; buffer = rw (e, f) o }

  -- the same, of the measure that the code has
  pub ends-measured : (m : Measure) → m ≡ measure_of es → 8 + m.bytes ≤ length out → 8 + m.bytes ≤ 65532
      → (out' : List ℕ) → out' ≡ front (render (rev_for es) es) out
      → Ends (holds es control) out (Ok (Some (record { length = 8 + m.bytes; count = m.count; control = control }))) out'
  ends-measured m e k j out' o =
      let b = ap (λ (z : Measure). z.bytes) e in
      subst (λ (z : Measure). Ends (holds es control) out (Ok (Some (record { length = 8 + z.bytes; count = z.count; control = control }))) out') (sym e)
      (ends_done (omega arith) (omega arith) out' o)
