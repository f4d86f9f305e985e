-- Laws of the passes: what one entry gives, a list's entries one by one, and how much they measure together.
use mathlib.Core.Path.{◌≡◌, refl, sym, ap, ◌∙◌}
use mathlib.Core.Bool.{Bool, true, false, cond, ◌&&◌, ◌||◌, or_assoc}
use mathlib.Core.List.{List, [], ◌∷◌, ◌++◌, append_assoc, flatten}
use Prim.Native.Nat.{ℕ, zero, suc, ◌+◌, ◌-◌, ◌≤◌, ◌<◌}
use native.Mathlib.Nat.{not-suc-le-zero}
use native.Mathlib.Omega.{arith}
use lib.ListN.{length, set, take, drop, length-append}
use lib.Dec.{eqb}
use Rattle.octets.specs.Bytes.{has, among}
use Rattle.list.specs.Identity.{placeholder_of}
use Rattle.list.specs.Entry.{access, object_kind, kind_of, flags_of, size_of, word_of, sid_at, sid_of}
use Rattle.list.specs.List.{cut}
use Rattle.list.specs.Good.{Sound}
use Rattle.list.proofs.Sids.{sid-most}
use Rattle.list.proofs.Remade.{bounds, set-flags, set-kind, set-mask, set-middle, set-sid, set-tail, typed_long, length-entry}
use Rattle.list.proofs.Remade.{cut-same, cut-middle, cut-sid, cut-tail, cut-length, cut-guid}
use Rattle.inherit.specs.declared.copies.Pass.{Pass}
use Rattle.inherit.specs.declared.copies.Pass.TheVariants.{First, Second, Own, All}
use Rattle.inherit.specs.Asked.{Given}
use Rattle.inherit.specs.Copies.{type_applies, takes_first, takes_second}
use Rattle.inherit.specs.Last.{in_place, resolved}
use Rattle.inherit.specs.Compute.{any_object}
use Rattle.inherit.specs.Inner.Emit.{takes_by, flags_by, copy_length, copy_of, emit_of, emit_all, measure_of, both}

-- the last step over an entry with new flags is a copy with these flags
pub resolved-set : (g : Given) (t : List ℕ) (v : ℕ) → 1 < length t → resolved g (set t 1 v) ≡ copy_of g v t
unfolding resolved copy_of
resolved-set g t v h = rw (set-tail t v, set-sid t v, set-middle t v, set-mask t v, set-flags t v h, set-kind t v)

-- an entry that is taken gives one copy, another none
pub emit-yes : (g : Given) (p : Pass) (t : List ℕ) → takes_by g p t ≡ true → 1 < length t
    → emit_of g p t ≡ copy_of g (flags_by p (flags_of t)) t ∷ []
unfolding emit_of
emit-yes g p t h l = rw (h, resolved-set g t (flags_by p (flags_of t)) l)

pub emit-no : (g : Given) (p : Pass) (t : List ℕ) → takes_by g p t ≡ false → emit_of g p t ≡ []
unfolding emit_of
emit-no g p t h = rw h

-- a test that is looked at only where an ObjectType is announced
typed : (o b x y : Bool) → (o ≡ true → b ≡ true → x ≡ y) → cond o (b && x) true ≡ cond o (b && y) true
typed true true x y h = h refl refl
typed true false x y h = refl
typed false b x y h = refl

-- what follows a good entry doesn't count: whether it is taken, its copy, what it gives
module _ (g : Given) (rev : ℕ) (t : List ℕ) (s : Sound access rev t) where
  type-cut : type_applies g (take (size_of t) t) ≡ type_applies g t
  unfolding type_applies
  type-cut =
      let c = cut-same access rev t s in
      rw (c.word, c.kind)
      (typed (object_kind (kind_of t)) (has 1 (word_of t)) _ _
      (λ o w. ap (λ (x : List ℕ). among x g.types) (cut-guid access rev t s (typed_long access rev t s o w))))

  takes-in : (p : Pass) → takes_by g p (take (size_of t) t) ≡ takes_by g p t
  unfolding takes_by takes_first takes_second
  takes-in First = rw ((cut-same access rev t s).flags, type-cut)
  takes-in Second = rw (cut-same access rev t s).flags
  takes-in Own = rw (cut-same access rev t s).flags
  takes-in All = refl

  copy-in : (v : ℕ) → copy_of g v (take (size_of t) t) ≡ copy_of g v t
  unfolding copy_of
  copy-in v =
      let c = cut-same access rev t s in
      rw (cut-tail access rev t s, cut-sid access rev t s, cut-middle access rev t s, c.mask, c.kind)

  emit-in : (p : Pass) → emit_of g p (take (size_of t) t) ≡ emit_of g p t
  emit-in p = by (takes_by g p t) refl
    where
      by : (b : Bool) → takes_by g p t ≡ b → emit_of g p (take (size_of t) t) ≡ emit_of g p t
      by true e =
          emit-yes g p (take (size_of t) t) (takes-in p ∙ e) (omega (arith, cut-length access rev t s, s.eight))
          ∙ rw ((cut-same access rev t s).flags, copy-in)
          (sym (emit-yes g p t e (omega (arith, s.four))))
      by false e = emit-no g p (take (size_of t) t) (takes-in p ∙ e) ∙ sym (emit-no g p t e)

pub emit-cut : (g : Given) (p : Pass) (rev : ℕ) (t : List ℕ) → Sound access rev t → emit_of g p (take (size_of t) t) ≡ emit_of g p t
emit-cut g p rev t s = emit-in g rev t s p

-- n entries: none, or the first and those after it
pub emit-none : (g : Given) (p : Pass) (n : ℕ) (t : List ℕ) → n ≤ 0 → emit_all g p (cut n t) ≡ []
unfolding emit_all cut
emit-none g p zero t h = refl
emit-none g p (suc n) t h = absurd (not-suc-le-zero h)

pub emit-turn : (g : Given) (p : Pass) (rev n : ℕ) (t : List ℕ) → 0 < n → Sound access rev t
    → emit_all g p (cut n t) ≡ emit_of g p t ++ emit_all g p (cut (n - 1) (drop (size_of t) t))
unfolding emit_all cut
emit-turn g p rev zero t h s = absurd (not-suc-le-zero h)
emit-turn g p rev (suc n) t h s =
    let e : suc n - 1 ≡ n = omega arith in
    rw (e, emit-cut g p rev t s)

-- measures add up
pub flatten-append : (xs ys : List (List ℕ)) → flatten (xs ++ ys) ≡ flatten xs ++ flatten ys
unfolding flatten
flatten-append [] ys = refl
flatten-append (x ∷ xs) ys = rw (flatten-append xs ys) (sym (append_assoc x (flatten xs) (flatten ys)))

pub object-append : (xs ys : List (List ℕ)) → any_object (xs ++ ys) ≡ (any_object xs || any_object ys)
unfolding any_object
object-append [] ys = refl
object-append (x ∷ xs) ys = rw (object-append xs ys) (sym (or_assoc (object_kind (kind_of x)) (any_object xs) (any_object ys)))

pub measure-append : (xs ys : List (List ℕ)) → measure_of (xs ++ ys) ≡ both (measure_of xs) (measure_of ys)
measure-append xs ys = rw (flatten-append xs ys, length-append (flatten xs) (flatten ys), length-append xs ys, object-append xs ys)

-- how long a copy is
pub copy-length : (g : Given) (flags : ℕ) (t : List ℕ) → length (copy_of g flags t) ≡ copy_length t g.owner g.group
unfolding copy_of
copy-length g flags t = length-entry _

cond-long : (b : Bool) (x y : List ℕ) (n : ℕ) → length x ≤ n → length y ≤ n → length (cond b x y) ≤ n
cond-long true x y n h k = h
cond-long false x y n h k = k

pub in-place-le : (k : ℕ) (sid owner group : List ℕ) → length owner ≤ 68 → length group ≤ 68 → length sid ≤ 68
    → length (in_place k sid owner group) ≤ 68
unfolding in_place
in-place-le k sid owner group o g s = cond-long (eqb k 1) owner _ 68 o (cond-long (eqb k 2) group sid 68 g s)

-- no longer than the entry and a SID
pub copy-le : (g : Given) (rev : ℕ) (t : List ℕ) → Sound access rev t → length g.owner ≤ 68 → length g.group ≤ 68
    → copy_length t g.owner g.group ≤ size_of t + 68
copy-le g rev t s o r =
    let b = bounds access rev t s in
    let m = sid-most (drop (sid_at t) t) in
    let n = in-place-le (placeholder_of (sid_of t)) (sid_of t) g.owner g.group o r (omega (arith, b.sid-length)) in
    omega arith
