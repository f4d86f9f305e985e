-- Laws of measures: how they add up, and what the entries of a list measure, all copies of each at once.
use mathlib.Core.Path.{◌≡◌, refl, sym, ap, ap₂, ◌∙◌}
use mathlib.Core.Bool.{Bool, true, false, ◌||◌, or_assoc, or-false}
use mathlib.Core.List.{List, [], ◌∷◌, flatten}
use Prim.Native.Nat.{ℕ, zero, suc, ◌-◌, ◌≤◌, ◌<◌}
use native.Mathlib.Nat.{add_assoc, add-zero, zero-add, not-suc-le-zero}
use native.Mathlib.Omega.{arith}
use lib.ListN.{take, drop}
use Rattle.list.specs.Entry.{access, size_of}
use Rattle.list.specs.List.{cut}
use Rattle.list.specs.Good.{Sound}
use Rattle.inherit.specs.declared.copies.Pass.{Pass}
use Rattle.inherit.specs.declared.copies.Pass.TheVariants.{First, Second, Own, All}
use Rattle.inherit.specs.declared.copies.Origin.{Origin}
use Rattle.inherit.specs.declared.copies.Origin.TheVariants.{Own as Origin-as-Own, Parent, Default}
use Rattle.inherit.specs.declared.passes.Measure.{Measure}
use Rattle.inherit.specs.Asked.{Given}
use Rattle.inherit.specs.Compute.{any_object}
use Rattle.inherit.specs.Inner.Emit.{emit_of, emit_all, measure_of, both, measure_from, measure_all}
use Rattle.inherit.proofs.Emits.{emit-cut, measure-append}

pub measures : {a b m n : ℕ} {x y : Bool} → a ≡ b → m ≡ n → x ≡ y
    → ◌≡◌ {A = Measure} (record { bytes = a; count = m; object = x }) (record { bytes = b; count = n; object = y })
measures p q r = rw (p, q, r)

-- measures may be joined in any order
pub both-none : (a : Measure) → both a (measure_of []) ≡ a
unfolding flatten any_object
both-none a = measures (add-zero a.bytes) (add-zero a.count) (or-false a.object)

pub none_both : (a : Measure) → both (measure_of []) a ≡ a
unfolding flatten any_object
none_both a = measures (zero-add a.bytes) (zero-add a.count) refl

pub both-assoc : (a b c : Measure) → both (both a b) c ≡ both a (both b c)
both-assoc a b c =
    measures (add_assoc a.bytes b.bytes c.bytes) (add_assoc a.count b.count c.count) (or_assoc a.object b.object c.object)

or_swap : (a b c d : Bool) → ((a || b) || (c || d)) ≡ ((a || c) || (b || d))
or_swap true b c d = refl
or_swap false true true d = refl
or_swap false true false d = refl
or_swap false false true d = refl
or_swap false false false d = refl

both-swap : (a b c d : Measure) → both (both a b) (both c d) ≡ both (both a c) (both b d)
both-swap a b c d = measures (omega arith) (omega arith) (or_swap a.object b.object c.object d.object)

module _ (g : Given) where
  -- where an entry gives to one part only, this is the measure of that part
  one-part : (o : Origin) (p : Pass) → ((e : List ℕ) → measure_from g o e ≡ measure_of (emit_of g p e))
      → (es : List (List ℕ)) → measure_all g o es ≡ measure_of (emit_all g p es)
  unfolding measure_all emit_all
  one-part o p h [] = refl
  one-part o p h (e ∷ es) = ap₂ both (h e) (one-part o p h es) ∙ sym (measure-append (emit_of g p e) (emit_all g p es))

  pub from-own : (es : List (List ℕ)) → measure_all g Origin-as-Own es ≡ measure_of (emit_all g Own es)
  unfolding measure_from
  from-own = one-part Origin-as-Own Own (λ e. refl)

  pub from-default : (es : List (List ℕ)) → measure_all g Default es ≡ measure_of (emit_all g All es)
  unfolding measure_from
  from-default = one-part Default All (λ e. refl)

  -- of the parent's, it is both parts'
  pub from-parent : (es : List (List ℕ)) → measure_all g Parent es ≡ both (measure_of (emit_all g First es)) (measure_of (emit_all g Second es))
  unfolding measure_all measure_from emit_all
  from-parent [] = sym (both-none (measure_of []))
  from-parent (e ∷ es) =
      ap (both (both (measure_of (emit_of g First e)) (measure_of (emit_of g Second e)))) (from-parent es)
      ∙ both-swap (measure_of (emit_of g First e)) (measure_of (emit_of g Second e)) (measure_of (emit_all g First es)) (measure_of (emit_all g Second es))
      ∙ ap₂ both (sym (measure-append (emit_of g First e) (emit_all g First es))) (sym (measure-append (emit_of g Second e) (emit_all g Second es)))

  -- what follows a good entry doesn't count
  from_cut : (o : Origin) (rev : ℕ) (t : List ℕ) → Sound access rev t → measure_from g o (take (size_of t) t) ≡ measure_from g o t
  unfolding measure_from
  from_cut Origin-as-Own rev t s = ap measure_of (emit-cut g Own rev t s)
  from_cut Parent rev t s = ap₂ (λ (a b : List (List ℕ)). both (measure_of a) (measure_of b)) (emit-cut g First rev t s) (emit-cut g Second rev t s)
  from_cut Default rev t s = ap measure_of (emit-cut g All rev t s)

  -- n entries: none, or the first and those after it
  pub measure-none : (o : Origin) (n : ℕ) (t : List ℕ) → n ≤ 0 → measure_all g o (cut n t) ≡ measure_of []
  unfolding measure_all cut
  measure-none o zero t h = refl
  measure-none o (suc n) t h = absurd (not-suc-le-zero h)

  pub measure-turn : (o : Origin) (rev n : ℕ) (t : List ℕ) → 0 < n → Sound access rev t
      → measure_all g o (cut n t) ≡ both (measure_from g o t) (measure_all g o (cut (n - 1) (drop (size_of t) t)))
  unfolding measure_all cut
  measure-turn o rev zero t h s = absurd (not-suc-le-zero h)
  measure-turn o rev (suc n) t h s =
      let e : suc n - 1 ≡ n = omega arith in
      rw (e, from_cut o rev t s)
