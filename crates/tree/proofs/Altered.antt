-- A change of one object's list, mark, or owner and group, on the model: what it leaves alone; and two of them, to objects apart: each answers as without the other,
-- and in either order the objects are the same.
use mathlib.Core.Path.{◌≡◌, refl, sym, ap, ◌∙◌}
use mathlib.Core.Bool.{true}
use mathlib.Core.List.{List, [], ◌∷◌, ◌++◌}
use mathlib.Core.Logic.{inl, inr}
use mathlib.Core.Option.{Option, none, some}
use Prim.Native.Nat.{ℕ, zero, suc, ◌<◌}
use native.Mathlib.Decide.{ℕ_discrete}
use native.Mathlib.Omega.{arith}
use lib.ListN.{length, set, length-append, length-set, get_or-append, get_or-eq_default}
use lib.Seq.{get_or-set_same, get_or-set_other, set_comm, set_out}
use lib.Dec.{ltb}
use borrow.Author.Tests.{lt-ltb, le-ltb}
use Rattle.octets.specs.Order.{need}
use Rattle.octets.proofs.Places.{split}
use Rattle.list.specs.List.{MaybeList}
use Rattle.list.specs.Answer.{Values, refused}
use Rattle.inherit.specs.Compute.{ordinary, readable}
use Rattle.tree.specs.General.{bind, is_some}
use Rattle.tree.specs.Model.{Settings, Object, no-object, object, list_below, above, list_from, list_of, listed, Change, add, set_list, set_mark, set_owners, with_list, with_mark, with_owners, apply, short_if, outcome, change_answer}
use Rattle.tree.specs.Calls.{Edit, list, mark, owners}
use Rattle.tree.specs.Shown.{alteration}
use Rattle.tree.specs.Apart.{Elsewhere, Apart, changed_by}
use Rattle.tree.proofs.Applied.{every-at, every-all, every-same}
use Rattle.tree.proofs.Apart.{Rooted, SameParents, parent-elsewhere, from_either, elsewhere-kept}

-- ---- objects that are the same but for one

-- an object elsewhere keeps its list, whatever stands at i before and after: its parent too may be another, or it is new
module _ (t : Settings) (os ps : List Object) (i : ℕ) (same : (k : ℕ) → (k ≡ i → ⊥) → object ps k ≡ object os k) where
  pub from-elsewhere : (more k : ℕ) → Elsewhere os i k → list_from t ps more k ≡ list_from t os more k
  unfolding list_from
  from-elsewhere zero k w = refl
  from-elsewhere (suc more) k w = rw (same k (λ e. w (inl e))) (by (object os k).parent refl (λ p v. from-elsewhere more p v))
    where
      by : (q : Option ℕ) → (object os k).parent ≡ q → ((p : ℕ) → Elsewhere os i p → list_from t ps more p ≡ list_from t os more p)
          → bind (above q (list_from t ps more)) (list_below t (object os k)) ≡ bind (above q (list_from t os more)) (list_below t (object os k))
      by none e again = refl
      by (some p) e again = ap (λ (x : Option MaybeList). bind x (list_below t (object os k))) (again p (parent-elsewhere os i e w))

-- one put in the place of another
pub set_other : (os : List Object) (i : ℕ) (o : Object) (k : ℕ) → (k ≡ i → ⊥) → object (set os i o) k ≡ object os k
set_other os i o k n = get_or-set_other os i k o no-object n

pub list-elsewhere : (t : Settings) (os : List Object) (i : ℕ) (o : Object) (k : ℕ) → Elsewhere os i k → list_of t (set os i o) k ≡ list_of t os k
list-elsewhere t os i o k w = rw (length-set os i o) (from-elsewhere t os (set os i o) i (set_other os i o) (length os) k w)

-- one added
pub added-other : (os : List Object) (o : Object) (k : ℕ) → (k ≡ length os → ⊥) → object (os ++ (o ∷ [])) k ≡ object os k
added-other os o k n =
    split (length os) k
    (λ h. get_or-eq_default (os ++ (o ∷ [])) no-object (simp length-append (omega (arith, n))) ∙ sym (get_or-eq_default os no-object h))
    (λ h. get_or-append os (o ∷ []) no-object k h)

-- a list that is found over so many objects is found over more
from_more : (t : Settings) (os : List Object) (more k : ℕ) (l : MaybeList) → list_from t os more k ≡ some l → list_from t os (suc more) k ≡ some l
unfolding list_from bind
from_more t os zero k l e = let z : ◌≡◌ {A = ℕ} 0 1 = cc in absurd (omega arith)
from_more t os (suc more) k l e = by (object os k).parent e (λ p m q. from_more t os more p m q)
  where
    found : (p : ℕ) (x : Option MaybeList) → list_from t os more p ≡ x → bind x (list_below t (object os k)) ≡ some l
        → ((m : MaybeList) → list_from t os more p ≡ some m → list_from t os (suc more) p ≡ some m) → bind (list_from t os (suc more) p) (list_below t (object os k)) ≡ some l
    found p none q f again = let z : ◌≡◌ {A = ℕ} 0 1 = cc in absurd (omega arith)
    found p (some m) q f again = rw (again m q) f

    by : (q : Option ℕ) → bind (above q (list_from t os more)) (list_below t (object os k)) ≡ some l
        → ((p : ℕ) (m : MaybeList) → list_from t os more p ≡ some m → list_from t os (suc more) p ≡ some m) → bind (above q (list_from t os (suc more))) (list_below t (object os k)) ≡ some l
    by none f again = f
    by (some p) f again = found p (list_from t os more p) refl f (λ m q. again p m q)

pub list-added : (t : Settings) (os : List Object) (o : Object) (k : ℕ) → Elsewhere os (length os) k → is_some (list_of t os k) ≡ true → list_of t (os ++ (o ∷ [])) k ≡ list_of t os k
unfolding is_some
list-added t os o k w h =
    let n : length (os ++ (o ∷ [])) ≡ suc (length os) = simp length-append (omega arith) in
    ap (λ (more : ℕ). list_from t (os ++ (o ∷ [])) more k) n
    ∙ from-elsewhere t os (os ++ (o ∷ [])) (length os) (added-other os o) (suc (length os)) k w
    ∙ by (list_of t os k) refl h
  where
    by : (x : Option MaybeList) → list_of t os k ≡ x → is_some x ≡ true → list_from t os (suc (length os)) k ≡ list_of t os k
    by none e f = let z : ◌≡◌ {A = ℕ} 0 1 = cc in absurd (omega arith)
    by (some l) e f = from_more t os (length os) k l e ∙ sym e

pub set-parents : (os : List Object) (i : ℕ) (o : Object) → o.parent ≡ (object os i).parent → SameParents os (set os i o)
set-parents os i o e k =
    split (length os) i
    (λ h. rw (set_out os i o h) refl)
    (λ h. elim (ℕ_discrete k i) [
      | yes q ↦ rw (q, get_or-set_same os i o no-object h) e
      | no q ↦ rw (get_or-set_other os i k o no-object q) refl
    ])

pub listed_at : (t : Settings) (os : List Object) → listed t os ≡ true → (k : ℕ) → k < length os → is_some (list_of t os k) ≡ true
unfolding listed
listed_at t os h k l = every-at _ (length os) h k l

pub all_listed : (t : Settings) (os : List Object) → ((k : ℕ) → k < length os → is_some (list_of t os k) ≡ true) → listed t os ≡ true
unfolding listed
all_listed t os h = every-all _ (length os) h

-- ---- two objects put in, apart, where no list is too long

module _ (t : Settings) (os : List Object) (R : Rooted os) (L : listed t os ≡ true) (i j : ℕ) (A : Apart os i j) (x y : Object)
    (px : x.parent ≡ (object os i).parent) (py : y.parent ≡ (object os j).parent) where
  both-lists : (k : ℕ) → Elsewhere os i k → list_of t (set (set os i x) j y) k ≡ list_of t (set os j y) k
  both-lists k w =
      rw (set_comm os i j x y (λ e. A.1 (inl e)))
      (list-elsewhere t (set os j y) i x k (elsewhere-kept os (set os j y) (set-parents os j y py) i k w))

  both_some : listed t (set os i x) ≡ true → (k : ℕ) → k < length os → is_some (list_of t (set (set os i x) j y) k) ≡ is_some (list_of t (set os j y) k)
  both_some h k l =
      elim (from_either os R i j k A) [
        | inl w ↦ ap is_some (both-lists k w)
        | inr w ↦
            ap is_some (list-elsewhere t (set os i x) j y k (elsewhere-kept os (set os i x) (set-parents os i x px) j k w))
            ∙ listed_at t (set os i x) h k (rw (length-set os i x) l) ∙ sym (listed_at t os L k l) ∙ ap is_some (sym (list-elsewhere t os j y k w))
      ]

  both-listed : listed t (set os i x) ≡ true → listed t (set (set os i x) j y) ≡ listed t (set os j y)
  unfolding listed
  both-listed h =
      rw (length-set (set os i x) j y, length-set os i x, length-set os j y)
      (every-same _ _ (length os) (λ k l. rw (length-set (set os i x) j y, length-set os i x, length-set os j y) at (both_some h k l)))

  -- the second's end is as without the first
  pub both-outcome : listed t (set os i x) ≡ true → outcome t (set (set os i x) j y) j ≡ outcome t (set os j y) j
  unfolding outcome
  both-outcome h = rw (both-listed h, both-lists j A.0) refl

-- ---- a change: the object that it makes, and its tests but for the last

abbrev made : Edit → Object → Object
made (list l) o = with_list l o
made (mark m) o = with_mark m o
made (owners x y) o = with_owners x y o

made-parent : (e : Edit) (o : Object) → (made e o).parent ≡ o.parent
made-parent (list l) o = refl
made-parent (mark m) o = refl
made-parent (owners x y) o = refl

abbrev pub put : List Object → ℕ → Edit → List Object
put os i e = set os i (made e (object os i))

pub put-parents : (os : List Object) (i : ℕ) (e : Edit) → SameParents os (put os i e)
put-parents os i e = set-parents os i (made e (object os i)) (made-parent e (object os i))

given : Edit → Values → Values
given (list l) v = readable l 2 (need (short_if l) (refused 8 0 0) v)
given (mark m) v = v
given (owners x y) v = need (ordinary x) (refused 6 0 0) (need (ordinary y) (refused 6 0 0) v)

pub apply-is : (i : ℕ) (e : Edit) (os : List Object) → apply (alteration i e) os ≡ put os i e
unfolding apply alteration
apply-is i (list l) os = refl
apply-is i (mark m) os = refl
apply-is i (owners x y) os = refl

answer-is : (t : Settings) (os : List Object) (i : ℕ) (e : Edit)
    → change_answer t os (alteration i e) ≡ need (ltb i (length os)) (refused 9 0 0) (given e (outcome t (put os i e) i))
unfolding change_answer alteration given
answer-is t os i (list l) = rw (apply-is i (list l) os) refl
answer-is t os i (mark m) = rw (apply-is i (mark m) os) refl
answer-is t os i (owners x y) = rw (apply-is i (owners x y) os) refl

-- ---- two changes to objects apart

module _ (os : List Object) (i j : ℕ) (A : Apart os i j) (e f : Edit) where
  second-put : put (put os i e) j f ≡ set (put os i e) j (made f (object os j))
  second-put = ap (λ (o : Object). set (put os i e) j (made f o)) (get_or-set_other os i j (made e (object os i)) no-object (λ q. A.0 (inl q)))

  -- after one that is accepted, so that every list is there, the other answers as before it
  pub answers-as-before : (t : Settings) → Rooted os → listed t os ≡ true → listed t (put os i e) ≡ true → change_answer t (put os i e) (alteration j f) ≡ change_answer t os (alteration j f)
  answers-as-before t R L h =
      answer-is t (put os i e) j f
      ∙ rw (
        length-set os i (made e (object os i)),
        second-put,
        both-outcome t os R L i j A (made e (object os i)) (made f (object os j)) (made-parent e (object os i)) (made-parent f (object os j)) h,
      )
      (sym (answer-is t os j f))

pub either_order : (os : List Object) (i j : ℕ) → Apart os i j → (e f : Edit) → put (put os i e) j f ≡ put (put os j f) i e
either_order os i j A e f =
    second-put os i j A e f
    ∙ set_comm os i j (made e (object os i)) (made f (object os j)) (λ q. A.1 (inl q))
    ∙ sym (second-put os j i (A.1, A.0) f e)

-- ---- what one change leaves alone, an add too

pub changed-other : (c : Change) (os : List Object) (k : ℕ) → (k ≡ changed_by c os → ⊥) → object (apply c os) k ≡ object os k
unfolding changed_by apply
changed-other (add o) os k n = added-other os o k n
changed-other (set_list i l) os k n = set_other os i _ k n
changed-other (set_mark i m) os k n = set_other os i _ k n
changed-other (set_owners i x y) os k n = set_other os i _ k n

-- of other objects it stands who stood before
pub changed-stands : (c : Change) (os : List Object) (k : ℕ) → (k ≡ changed_by c os → ⊥) → ltb k (length (apply c os)) ≡ ltb k (length os)
unfolding changed_by apply
changed-stands (add o) os k n =
    split (length os) k
    (λ h. rw (le-ltb k (length os) h) (le-ltb k (length (os ++ (o ∷ []))) (simp length-append (omega (arith, n)))))
    (λ h. rw (lt-ltb k (length os) h) (lt-ltb k (length (os ++ (o ∷ []))) (simp length-append (omega arith))))
changed-stands (set_list i l) os k n = ap (ltb k) (length-set os i _)
changed-stands (set_mark i m) os k n = ap (ltb k) (length-set os i _)
changed-stands (set_owners i x y) os k n = ap (ltb k) (length-set os i _)

pub changed-list : (t : Settings) (c : Change) (os : List Object) (k : ℕ) → Elsewhere os (changed_by c os) k → is_some (list_of t os k) ≡ true → list_of t (apply c os) k ≡ list_of t os k
unfolding changed_by apply
changed-list t (add o) os k w h = list-added t os o k w h
changed-list t (set_list i l) os k w h = list-elsewhere t os i _ k w
changed-list t (set_mark i m) os k w h = list-elsewhere t os i _ k w
changed-list t (set_owners i x y) os k w h = list-elsewhere t os i _ k w

pub alters-it : (i : ℕ) (e : Edit) (os : List Object) → changed_by (alteration i e) os ≡ i
unfolding changed_by alteration
alters-it i (list l) os = refl
alters-it i (mark m) os = refl
alters-it i (owners x y) os = refl
