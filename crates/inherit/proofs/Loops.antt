-- What holds at each turn of the two loops over a list's entries.
use mathlib.Core.Path.{◌≡◌, refl, sym, ap, ◌∙◌}
use mathlib.Core.Bool.{false}
use mathlib.Core.List.{List, [], ◌∷◌, ◌++◌, append_assoc, append-nil, flatten}
use Prim.Native.Nat.{ℕ, ◌+◌, ◌-◌, ◌*◌, ◌≤◌}
use native.Mathlib.Omega.{arith}
use lib.ListN.{length, take, drop, length-append}
use Rattle.octets.specs.Bytes.{front}
use Rattle.octets.proofs.Writes.{Stands, grown, stands-none, stands-length}
use Rattle.list.proofs.Parts.{length_cut}
use Rattle.inherit.specs.declared.entries.Entry.{Entry}
use Rattle.inherit.specs.declared.entries.Entries.{Entries}
use Rattle.inherit.specs.declared.terms.Terms.{Terms}
use Rattle.inherit.specs.declared.copies.Pass.{Pass}
use Rattle.inherit.specs.declared.copies.Origin.{Origin}
use Rattle.inherit.specs.declared.passes.Measure.{Measure}
use Rattle.inherit.specs.Asked.{Given}
use Rattle.inherit.specs.Compute.{any_object}
use Rattle.inherit.specs.Inner.Still.{still}
use Rattle.inherit.specs.Inner.Emit.{given_by, emit_of, emit_all, both, measure_from, measure_all}
use Rattle.inherit.proofs.Emits.{flatten-append}
use Rattle.inherit.proofs.One.{from_bytes, from-count}
use Rattle.inherit.proofs.Measures.{both-none, none_both, both-assoc}

module _ (g : Given) (o : Origin) (all : List (List ℕ)) where
  -- what was measured, with what is still to come, is the measure of all
  pub record Measuring (total : Measure) (left : List (List ℕ)) : Type 0 where
    pub sum : both total (measure_all g o left) ≡ measure_all g o all
    pub bytes : total.bytes + 131206 * length left ≤ 131206 * length all
    pub count : total.count + 2 * length left ≤ 2 * length all

  pub measuring-none : Measuring (record { bytes = 0; count = 0; object = false }) all
  unfolding flatten any_object
  measuring-none = record { sum = none_both _; bytes = omega arith; count = omega arith }

  pub measuring-more : (total : Measure) (e : List ℕ) (es : List (List ℕ)) → Measuring total (e ∷ es)
      → (measure_from g o e).bytes ≤ 131206 → (measure_from g o e).count ≤ 2 → Measuring (both total (measure_from g o e)) es
  unfolding measure_all
  measuring-more total e es m b k =
      record {
        sum = both-assoc total (measure_from g o e) (measure_all g o es) ∙ m.sum;
        bytes = omega (arith, m.bytes, b);
        count = omega (arith, m.count, k);
      }

  pub measured-all : (total : Measure) → Measuring total [] → total ≡ measure_all g o all
  unfolding measure_all
  measured-all total m = sym (both-none total) ∙ m.sum

module _ (g : Given) (p : Pass) (all : List (List ℕ)) where
  -- what was written stands on the front, and with what is still to come it is all
  pub record Writing (out₀ out : List ℕ) (to : ℕ) (left : List (List ℕ)) : Type 0 where
    pub stands : Stands out out₀ to
    pub sofar : take to out ++ flatten (emit_all g p left) ≡ flatten (emit_all g p all)

  pub writing-none : (out : List ℕ) → Writing out out 0 all
  writing-none out = record { stands = stands-none out; sofar = refl }

  module _ (out₀ out : List ℕ) (to : ℕ) (room : length (flatten (emit_all g p all)) ≤ length out₀) where
    pub to-fits : (left : List (List ℕ)) → Writing out₀ out to left → to ≤ length out₀
    to-fits left w = omega (arith, w.stands.long, ap length w.sofar, length-append (take to out) (flatten (emit_all g p left)))

    pub long : (left : List (List ℕ)) → Writing out₀ out to left → length out ≡ length out₀
    long left w = stands-length out out₀ to w.stands (to-fits left w)

    module _ (e : List ℕ) (es : List (List ℕ)) (w : Writing out₀ out to (e ∷ es)) where
      next : take to out ++ (flatten (emit_of g p e) ++ flatten (emit_all g p es)) ≡ flatten (emit_all g p all)
      unfolding emit_all
      next = ap (λ (x : List ℕ). take to out ++ x) (sym (flatten-append (emit_of g p e) (emit_all g p es))) ∙ w.sofar

      pub one-fits : to + length (flatten (emit_of g p e)) ≤ length out₀
      one-fits =
          let one = flatten (emit_of g p e) in
          let later = flatten (emit_all g p es) in
          omega (arith, w.stands.long, ap length next, length-append (take to out) (one ++ later), length-append one later)

      pub writing-more : (ys : List ℕ) (k : ℕ) → ys ≡ front (flatten (emit_of g p e)) (take (length out - to) (drop to out))
          → k ≡ length (flatten (emit_of g p e)) → Writing out₀ (take to out ++ (ys ++ drop (length out - to) (drop to out))) (to + k) es
      writing-more ys k ey ek =
          let f = one-fits in
          let q = grown out₀ out ys (flatten (emit_of g p e)) to k w.stands ey ek (omega arith) in
          record {
            stands = q.stands;
            sofar = ap (λ (x : List ℕ). x ++ flatten (emit_all g p es)) q.more ∙ append_assoc (take to out) (flatten (emit_of g p e)) _ ∙ next;
          }

    pub written_all : Writing out₀ out to [] → (to ≡ length (flatten (emit_all g p all))) × (out ≡ front (flatten (emit_all g p all)) out₀)
    unfolding emit_all flatten
    written_all w =
        let e : take to out ≡ flatten (emit_all g p all) = sym (append-nil (take to out)) ∙ w.sofar in
        (sym w.stands.long ∙ ap length e, w.stands.whole ∙ ap (λ (x : List ℕ). front x out₀) e)

-- what an entry gives is bounded: it is at most 65,535 bytes long, and an identity at most 68
module _ (e : Entry) (t : Terms) (o : Origin) where
  pub few-bytes : (measure_from (given_by t) o e.bytes.now).bytes ≤ 131206
  few-bytes =
      omega (arith, e.small, from_bytes 4 e.bytes.now e.whole.sound (given_by t) o t.owner_short t.group_short)

  pub few-count : (measure_from (given_by t) o e.bytes.now).count ≤ 2
  few-count = from-count 4 e.bytes.now e.whole.sound (given_by t) o

-- at the most, of the entries of a list
module _ (g : Given) (o : Origin) (s : Entries) (total : Measure) (left : List (List ℕ)) (m : Measuring g o (still s) total left) where
  pub most-bytes : total.bytes ≤ 131206 * s.left
  most-bytes = omega (arith, m.bytes, length_cut s.left s.bytes.now)

  pub most-count : total.count ≤ 2 * s.left
  most-count = omega (arith, m.count, length_cut s.left s.bytes.now)
