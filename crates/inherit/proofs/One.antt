-- One entry through a pass, and all copies that it gives.
use mathlib.Core.Path.{◌≡◌, refl, sym, ap, ap₂, ◌∙◌}
use mathlib.Core.Bool.{Bool, true, false, not, ◌&&◌, ◌||◌, or-false}
use mathlib.Core.List.{List, [], append-nil, flatten, ◌∷◌}
use Prim.Native.Nat.{ℕ, ◌+◌, ◌*◌, ◌≤◌}
use native.Mathlib.Nat.{zero-mul, one-mul, mul-le-mul}
use native.Mathlib.Omega.{arith}
use lib.ListN.{length}
use lib.Dec.{eqb}
use Rattle.list.specs.Entry.{access, object_kind, kind_of, flags_of, size_of}
use Rattle.list.specs.Good.{Sound}
use Rattle.list.proofs.Remade.{kind-entry}
use Rattle.inherit.specs.declared.copies.Pass.{Pass}
use Rattle.inherit.specs.declared.copies.Pass.TheVariants.{First, Second, Own, All}
use Rattle.inherit.specs.declared.copies.Origin.{Origin}
use Rattle.inherit.specs.declared.copies.Origin.TheVariants.{Own as Origin-as-Own, Parent, Default}
use Rattle.inherit.specs.declared.passes.Measure.{Measure}
use Rattle.inherit.specs.Asked.{Given}
use Rattle.inherit.specs.Compute.{any_object}
use Rattle.inherit.specs.Inner.Emit.{takes_by, flags_by, copy_length, copy_of, emit_of, measure_of, both, once, times_of, measure_from}
use Rattle.inherit.proofs.Emits.{emit-yes, emit-no, copy-length, copy-le}
use Rattle.inherit.proofs.Measures.{measures}

-- n copies of an entry
abbrev pub many : ℕ → ℕ → Bool → Measure
many n long object = record { bytes = n * long; count = n; object = not (eqb n 0) && object }

or_same : (o : Bool) → (o || o) ≡ o
or_same true = refl
or_same false = refl

many-both : (a b : Bool) (long : ℕ) (o : Bool) → both (many (once a) long o) (many (once b) long o) ≡ many (once a + once b) long o
many-both true true long o = measures (omega arith) refl (or_same o)
many-both true false long o = measures (omega arith) refl (or-false o)
many-both false true long o = measures (omega arith) refl refl
many-both false false long o = measures (omega arith) refl refl

pub once-le : (b : Bool) → once b ≤ 1
once-le true = omega arith
once-le false = omega arith

pub times-le : (g : Given) (o : Origin) (t : List ℕ) → times_of g o t ≤ 2
unfolding times_of
times-le g Origin-as-Own t = omega (arith, once-le (takes_by g Own t))
times-le g Parent t = omega (arith, once-le (takes_by g First t), once-le (takes_by g Second t))
times-le g Default t = omega (arith, once-le (takes_by g All t))

module _ (rev : ℕ) (t : List ℕ) (s : Sound access rev t) (g : Given) where
  module _ (p : Pass) where
    -- an entry that isn't taken gives nothing
    pub writes-none : takes_by g p t ≡ false → flatten (emit_of g p t) ≡ []
    unfolding flatten
    writes-none h = rw (emit-no g p t h)

    module _ (h : takes_by g p t ≡ true) where
      one : emit_of g p t ≡ copy_of g (flags_by p (flags_of t)) t ∷ []
      one = emit-yes g p t h (omega (arith, s.four))

      pub writes_one : flatten (emit_of g p t) ≡ copy_of g (flags_by p (flags_of t)) t
      unfolding flatten
      writes_one = ap flatten one ∙ append-nil _

      pub length-one : length (flatten (emit_of g p t)) ≡ copy_length t g.owner g.group
      unfolding flatten
      length-one =
          ap (λ (l : List (List ℕ)). length (flatten l)) one
          ∙ ap (λ (l : List ℕ). length l) (append-nil (copy_of g (flags_by p (flags_of t)) t))
          ∙ copy-length g (flags_by p (flags_of t)) t

      object-one : any_object (emit_of g p t) ≡ object_kind (kind_of t)
      unfolding any_object copy_of
      object-one = ap any_object one ∙ or-false _ ∙ ap object_kind (kind-entry _)

    -- one copy, or none
    gives : measure_of (emit_of g p t) ≡ many (once (takes_by g p t)) (copy_length t g.owner g.group) (object_kind (kind_of t))
    unfolding flatten any_object
    gives = by (takes_by g p t) refl
      where
        by : (b : Bool) → takes_by g p t ≡ b → measure_of (emit_of g p t) ≡ many (once b) (copy_length t g.owner g.group) (object_kind (kind_of t))
        by true h = measures (length-one h ∙ sym (one-mul _)) (ap length (one h)) (object-one h)
        by false h = rw (emit-no g p t h) (measures (sym (zero-mul (copy_length t g.owner g.group))) refl refl)

  -- all copies that an entry gives
  pub gives-from : (o : Origin) → measure_from g o t ≡ many (times_of g o t) (copy_length t g.owner g.group) (object_kind (kind_of t))
  unfolding measure_from times_of
  gives-from Origin-as-Own = gives Own
  gives-from Parent =
      ap₂ both (gives First) (gives Second)
      ∙ many-both (takes_by g First t) (takes_by g Second t) (copy_length t g.owner g.group) (object_kind (kind_of t))
  gives-from Default = gives All

  -- two at the most, each no longer than the entry and a SID
  pub from_bytes : (o : Origin) → length g.owner ≤ 68 → length g.group ≤ 68 → (measure_from g o t).bytes ≤ 2 * (size_of t + 68)
  from_bytes o lo lg = rw (gives-from o) (mul-le-mul (times-le g o t) (copy-le g rev t s lo lg))

  pub from-count : (o : Origin) → (measure_from g o t).count ≤ 2
  from-count o = rw (gives-from o) (times-le g o t)
