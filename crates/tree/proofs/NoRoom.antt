-- The model's answer 8 to a change: exactly where the list given, or some list that the change would have worked out afresh, passes 1,024 bytes.
use mathlib.Core.Path.{◌≡◌, refl, ap, ◌∙◌}
use mathlib.Core.Bool.{Bool, true, false, cond, ◌&&◌}
use mathlib.Core.List.{List, [], ◌∷◌, ◌++◌}
use mathlib.Core.Logic.{◌⊎◌, inl, inr}
use mathlib.Core.Option.{Option, none, some}
use Prim.Native.Nat.{ℕ, zero, suc, ◌≤◌, ◌<◌}
use native.Mathlib.Decide.{ℕ_discrete}
use native.Mathlib.Omega.{arith}
use lib.ListN.{length, set, length-append, length-set, get_or-append}
use lib.Seq.{get_or_at, get_or-set_same, get_or-set_other}
use lib.Dec.{leb, ltb}
use borrow.Author.Tests.{leb-false, lt-leb, ltb-true}
use Rattle.list.specs.Entry.{access}
use Rattle.list.specs.List.{check_of, MaybeList}
use Rattle.std.specs.Prelude.{Result as Answer, Ok, Err}
use Rattle.list.specs.declared.readings.Read.{Read}
use Rattle.refusal.specs.declared.Fault.{Fault}
use Rattle.octets.proofs.Places.{split}
use Rattle.octets.proofs.Tests.{both_true, off}
use Rattle.inherit.specs.Branch.{Result, absent, holds, result_of}
use Rattle.inherit.specs.Compute.{ordinary, bytes_for, on_reading, readable}
use Rattle.octets.specs.Order.{need}
use Rattle.list.specs.Answer.{Values, refused}
use Rattle.tree.specs.Held.{is_done}
use Rattle.tree.proofs.Replay.{reads}
use Rattle.tree.specs.General.{bind, is_some, every}
use Rattle.tree.specs.Model.{Settings, Object, no-object, object, asked, fitting, list_below, above, list_from, list_of, listed, Change, add, set_list, set_mark, set_owners, with_list, with_mark, with_owners, apply, short_if, told, outcome, placed, change_answer}
use Rattle.tree.specs.Apart.{changed_by}

-- each object has no parent or an earlier one
abbrev pub Earlier : List Object → Type 0
Earlier os = (i : ℕ) → i < length os → ((object os i).parent ≡ none) ⊎ ((p : ℕ) × (((object os i).parent ≡ some p) × (p < i)))

-- object j's list, from its parent's computed one, would pass 1,024 bytes
pub record TooLong (t : Settings) (os : List Object) (j : ℕ) : Type 0 where
  pub stands : j < length os
  pub parent : MaybeList
  pub parent_is : above (object os j).parent (list_of t os) ≡ some parent
  pub long : 1024 < length (bytes_for (result_of access (asked t parent (object os j))))

fitting-none : (r : Result) → fitting r ≡ none → 1024 < length (bytes_for r)
unfolding fitting
fitting-none absent h = let z : ◌≡◌ {A = ℕ} 0 1 = cc in absurd (omega arith)
fitting-none (holds es k) h = by (leb (length (bytes_for (holds es k))) 1024) refl h
  where
    by : (b : Bool) → leb (length (bytes_for (holds es k))) 1024 ≡ b → cond b (some (some (bytes_for (holds es k)))) none ≡ none → 1024 < length (bytes_for (holds es k))
    by true e q = let z : ◌≡◌ {A = ℕ} 0 1 = cc in absurd (omega arith)
    by false e q = leb-false (length (bytes_for (holds es k))) 1024 e

module _ (t : Settings) (os : List Object) (E : Earlier os) where
  pub list-enough : (f g i : ℕ) → i < length os → i < f → i < g → list_from t os f i ≡ list_from t os g i
  unfolding list_from
  list-enough zero g i h k l = absurd (omega arith)
  list-enough (suc f) zero i h k l = absurd (omega arith)
  list-enough (suc f) (suc g) i h k l =
      elim (E i h) [
        | inl e ↦ rw e refl
        | inr q ↦ rw q.1.0 (ap (λ (o : Option MaybeList). bind o (list_below t (object os i))) (list-enough f g q.0 (omega (arith, q.1.1)) (omega (arith, q.1.1)) (omega (arith, q.1.1))))
      ]

  below-long : (i : ℕ) (p : MaybeList) → i < length os → above (object os i).parent (list_of t os) ≡ some p → list_below t (object os i) p ≡ none → (j : ℕ) × TooLong t os j
  below-long i p h e q = (i, record { stands = h; parent = p; parent_is = e; long = fitting-none _ q })

  from-long : (f i : ℕ) → i < length os → i < f → list_from t os f i ≡ none → (j : ℕ) × TooLong t os j
  unfolding list_from bind
  from-long zero i h k e = absurd (omega arith)
  from-long (suc f) i h k e =
      elim (E i h) [
        | inl q ↦ below-long i none h (rw q refl) (rw q at e)
        | inr q ↦ by q.0 q.1.0 q.1.1 (list_from t os f q.0) refl (λ x. from-long f q.0 (omega (arith, q.1.1)) (omega (arith, q.1.1)) x)
      ]
    where
      by : (p : ℕ) → (object os i).parent ≡ some p → p < i → (o : Option MaybeList) → list_from t os f p ≡ o → (list_from t os f p ≡ none → (j : ℕ) × TooLong t os j) → (j : ℕ) × TooLong t os j
      by p q l none w again = again w
      by p q l (some x) w again =
          let n : list_of t os p ≡ some x = list-enough (length os) f p (omega arith) (omega arith) (omega arith) ∙ w in
          below-long i x h (rw q n) (rw (q, w) at e)

  every-none : (n : ℕ) → n ≤ length os → every (λ i. is_some (list_of t os i)) n ≡ false → (j : ℕ) × TooLong t os j
  unfolding every is_some
  every-none zero h e = let z : ◌≡◌ {A = ℕ} 0 1 = cc in absurd (omega arith)
  every-none (suc n) h e = by (every (λ i. is_some (list_of t os i)) n) refl e (λ q. every-none n (omega arith) q)
    where
      last : (o : Option MaybeList) → list_of t os n ≡ o → is_some o ≡ false → (j : ℕ) × TooLong t os j
      last none q f = from-long (length os) n (omega arith) (omega arith) q
      last (some x) q f = let z : ◌≡◌ {A = ℕ} 0 1 = cc in absurd (omega arith)

      by : (b : Bool) → every (λ i. is_some (list_of t os i)) n ≡ b → (b && is_some (list_of t os n)) ≡ false → (every (λ i. is_some (list_of t os i)) n ≡ false → (j : ℕ) × TooLong t os j) → (j : ℕ) × TooLong t os j
      by true q f again = last (list_of t os n) refl f
      by false q f again = again q

  pub listed-or-long : listed t os ≡ false → (j : ℕ) × TooLong t os j
  unfolding listed
  listed-or-long e = every-none (length os) (omega arith) e

-- ---- the objects after a change whose tests were passed

module _ (os : List Object) (E : Earlier os) where
  earlier-add : (o : Object) → placed os o.parent ≡ true → Earlier (os ++ (o ∷ []))
  unfolding placed
  earlier-add o h i k =
      split (length os) i
      (λ l.
      let e : i ≡ length os = omega (arith, simp length-append at k) in
      rw (e, get_or_at os o [] no-object (length os) refl) (by o.parent h))
      (λ l. rw (get_or-append os (o ∷ []) no-object i l) (E i l))
    where
      by : (q : Option ℕ) → placed os q ≡ true → (q ≡ none) ⊎ ((p : ℕ) × ((q ≡ some p) × (p < length os)))
      by none f = inl refl
      by (some p) f = inr (p, (refl, ltb-true p (length os) (both_true (ltb p (length os)) (object os p).container f).0))

  earlier-set : (i : ℕ) (o : Object) → i < length os → o.parent ≡ (object os i).parent → Earlier (set os i o)
  earlier-set i o h p j k =
      elim (ℕ_discrete j i) [
        | yes e ↦ rw (e, get_or-set_same os i o no-object h, p) (E i h)
        | no e ↦ rw (get_or-set_other os i j o no-object e) (E j (rw length-set at k))
      ]

-- ---- where the answer is 8

fitting-long : (r : Result) → 1024 < length (bytes_for r) → fitting r ≡ none
unfolding fitting bytes_for
fitting-long absent h = absurd (omega arith)
fitting-long (holds es k) h = rw (lt-leb (length (bytes_for (holds es k))) 1024 h) refl

every-false : (f : ℕ → Bool) (n j : ℕ) → j < n → f j ≡ false → every f n ≡ false
unfolding every
every-false f zero j h e = absurd (omega arith)
every-false f (suc n) j h e =
    elim (ℕ_discrete j n) [
      | yes q ↦ rw (← q, e) (and-false (every f j))
      | no q ↦ rw (every-false f n j (omega arith) e) refl
    ]
  where
    and-false : (b : Bool) → (b && false) ≡ false
    and-false true = refl
    and-false false = refl

module _ (t : Settings) (os : List Object) (E : Earlier os) where
  above_same : (j m : ℕ) (x : MaybeList) → j < length os → length os ≡ suc m → above (object os j).parent (list_of t os) ≡ some x
      → above (object os j).parent (list_from t os m) ≡ some x
  above_same j m x h n e =
      elim (E j h) [
        | inl q ↦ rw q (rw q at e)
        | inr q ↦ rw q.1.0 (list-enough t os E m (length os) q.0 (omega (arith, q.1.1)) (omega (arith, q.1.1)) (omega (arith, q.1.1)) ∙ rw q.1.0 at e)
      ]

  long-none : (j : ℕ) → TooLong t os j → list_of t os j ≡ none
  unfolding list_from bind
  long-none j l = by (length os) refl
    where
      by : (n : ℕ) → length os ≡ n → list_from t os n j ≡ none
      by zero e = refl
      by (suc m) e = rw (above_same j m l.parent l.stands e l.parent_is) (fitting-long _ l.long)

  pub long-unlisted : (j : ℕ) → TooLong t os j → listed t os ≡ false
  unfolding listed is_some
  long-unlisted j l = every-false (λ i. is_some (list_of t os i)) (length os) j l.stands (rw (long-none j l) refl)

-- the list that a change gives
abbrev pub list_given : Change → MaybeList
list_given (add o) = o.list
list_given (set_list i l) = l
list_given (set_mark i m) = none
list_given (set_owners i x y) = none

-- what is tested before room: 9, 10, 1 to 5, 6
unfoldable pub earlier_tests : Settings → List Object → Change → Bool
earlier_tests t os (add o) =
    placed os o.parent && (ltb (length os) t.object-limit && (reads o.list && (ordinary o.owner && ordinary o.group)))
earlier_tests t os (set_list i l) = ltb i (length os) && reads l
earlier_tests t os (set_mark i m) = ltb i (length os)
earlier_tests t os (set_owners i x y) = ltb i (length os) && (ordinary x && ordinary y)

-- the list given, or some object's list worked out afresh after the change, has more than 1,024 bytes
abbrev pub Over : Settings → List Object → Change → Type 0
Over t os c = (short_if (list_given c) ≡ false) ⊎ ((j : ℕ) × TooLong t (apply c os) j)

reads_on : (l : MaybeList) (which : ℕ) (v : Values) → reads l ≡ true → readable l which v ≡ v
unfolding reads readable on_reading
reads_on none which v h = refl
reads_on (some s) which v h = by (check_of access s) h
  where
    by : (x : Answer Read Fault) → is_done x ≡ true → on_reading x which v ≡ v
    by (Ok read) e = refl
    by (Err fault) e = let z : ◌≡◌ {A = ℕ} 0 1 = cc in absurd (omega arith)

need-on : (v w : Values) → need true v w ≡ w
unfolding need
need-on v w = refl

need-off : (v w : Values) → need false v w ≡ v
unfolding need
need-off v w = refl

passed-8 : (w v : Values) → (need true w v).number ≡ 8 → v.number ≡ 8
unfolding need
passed-8 w v h = h

module _ (t : Settings) where
  outcome-8 : (os : List Object) (i : ℕ) → Earlier os → i < length os → (outcome t os i).number ≡ 8 → (j : ℕ) × TooLong t os j
  unfolding outcome need told
  outcome-8 os i E h e = by (listed t os) refl e
    where
      list-8 : (o : Option MaybeList) → list_of t os i ≡ o → (told o).number ≡ 8 → (j : ℕ) × TooLong t os j
      list-8 none q f = from-long t os E (length os) i h h q
      list-8 (some none) q f = absurd (omega arith)
      list-8 (some (some s)) q f = absurd (omega arith)

      by : (b : Bool) → listed t os ≡ b → (need b (refused 8 0 0) (told (list_of t os i))).number ≡ 8 → (j : ℕ) × TooLong t os j
      by true q f = list-8 (list_of t os i) refl f
      by false q f = listed-or-long t os E q

  over-8 : (os : List Object) (i : ℕ) → Earlier os → (j : ℕ) → TooLong t os j → outcome t os i ≡ refused 8 0 0
  unfolding outcome need
  over-8 os i E j l = rw (long-unlisted t os E j l) refl

  module _ (os : List Object) (E : Earlier os) where
    -- what a change whose earlier tests were passed answers, and the objects after it
    tests-passed : (c : Change) → earlier_tests t os c ≡ true
        → (change_answer t os c ≡ need (short_if (list_given c)) (refused 8 0 0) (outcome t (apply c os) (changed_by c os)))
        × (Earlier (apply c os) × (changed_by c os < length (apply c os)))
    unfolding earlier_tests change_answer apply need short_if changed_by
    tests-passed (add o) h =
        let a = both_true (placed os o.parent) _ h in
        let b = both_true (ltb (length os) t.object-limit) _ a.1 in
        let c = both_true (reads o.list) _ b.1 in
        let d = both_true (ordinary o.owner) (ordinary o.group) c.1 in
        (rw (a.0, b.0, d.0, d.1) (reads_on o.list 2 _ c.0), (earlier-add os E o a.0, simp length-append (omega arith)))
    tests-passed (set_list i l) h =
        let a = both_true (ltb i (length os)) (reads l) h in
        let k = ltb-true i (length os) a.0 in
        (rw a.0 (reads_on l 2 _ a.1), (earlier-set os E i (with_list l (object os i)) k refl, rw length-set k))
    tests-passed (set_mark i m) h =
        let k = ltb-true i (length os) h in
        (rw h refl, (earlier-set os E i (with_mark m (object os i)) k refl, rw length-set k))
    tests-passed (set_owners i x y) h =
        let a = both_true (ltb i (length os)) (ordinary x && ordinary y) h in
        let b = both_true (ordinary x) (ordinary y) a.1 in
        let k = ltb-true i (length os) a.0 in
        (rw (a.0, b.0, b.1) refl, (earlier-set os E i (with_owners x y (object os i)) k refl, rw length-set k))

    -- 8 exactly then
    pub change-exact : (c : Change) → earlier_tests t os c ≡ true
        → ((change_answer t os c).number ≡ 8 → Over t os c) × (Over t os c → change_answer t os c ≡ refused 8 0 0)
    change-exact c h =
        let p = tests-passed c h in
        rw p.0 (λ e. to (short_if (list_given c)) refl e, λ o. from (short_if (list_given c)) refl o)
      where
        to : (b : Bool) → short_if (list_given c) ≡ b → (need b (refused 8 0 0) (outcome t (apply c os) (changed_by c os))).number ≡ 8 → Over t os c
        to true q e = inr (outcome-8 (apply c os) (changed_by c os) (tests-passed c h).1.0 (tests-passed c h).1.1 (passed-8 _ _ e))
        to false q e = inl q

        from : (b : Bool) → short_if (list_given c) ≡ b → Over t os c → need b (refused 8 0 0) (outcome t (apply c os) (changed_by c os)) ≡ refused 8 0 0
        from true q (inl z) = absurd (off q z)
        from true q (inr l) = need-on _ _ ∙ over-8 (apply c os) (changed_by c os) (tests-passed c h).1.0 l.0 l.1
        from false q o = need-off _ _
