-- The machine that keeps steps and the changes that remain agree (specs/History), for any lawful rules, any number S of steps and any calls:
-- own data is the replay of the accepted changes not since undone, the lists are worked out afresh from it, as many steps are kept as can be
-- undone, and each further call is accepted exactly where the past says so. So an undo with a kept step left is never refused.
use mathlib.Core.Path.{◌≡◌, refl, sym, ap, ◌∙◌, subst}
use mathlib.Core.Option.{Option, none, some}
use mathlib.Core.Bool.{true}
use mathlib.Core.List.{List, [], ◌∷◌}
use Prim.Native.Nat.{ℕ, zero, suc, ◌≤◌, ◌<◌, min, zero-le}
use native.Mathlib.Nat.{zero-min, min-zero, suc-min-suc, not-suc-le-zero, le_of_suc-le-suc}
use native.Mathlib.Omega.{arith}
use lib.ListN.{length, take}
use lib.Seq.{length-take-le}
use Rattle.tree.specs.General.{bind, is_some, rest}
use Rattle.tree.specs.Inner.Else.{or_else}
use Rattle.tree.proofs.History.{Call, edit, undo, Rules, Lawful, State, Past, settled, edited, undone, after, start}
use Rattle.tree.proofs.History.{run, replay, afresh, noted, unnoted, next, remains, positive, accepts}

take_min : {A : Type 0} (a b : ℕ) (l : List A) → take a (take b l) ≡ take (min a b) l
take_min zero b l = rw zero-min
take_min (suc a) zero l = rw min-zero
take_min (suc a) (suc b) [] = rw suc-min-suc
take_min {A} (suc a) (suc b) (x ∷ xs) = rw suc-min-suc (ap (λ (r : List A). x ∷ r) (take_min a b xs))

is-some : {A : Type 0} (o : Option A) → is_some o ≡ true → (a : A) × (o ≡ some a)
unfolding is_some
is-some none e = let z : ◌≡◌ {A = ℕ} 0 1 = cc in absurd (omega arith)
is-some (some a) e = (a, refl)

module _ {C D L U : Type 0} (R : Rules C D L U) (S : ℕ) where
  -- how changes came about one after the other, the latest first: the own data at the end, and the step of each, none of them forgotten
  data Trace : List C → D → List U → Type 0 where
    begun : Trace [] R.empty []
    more : {c : C} {cs : List C} {d : D} {us : List U} → Trace cs d us → (e : D) (l : L) → R.change c d ≡ some e → R.work e ≡ some l
        → Trace (c ∷ cs) e (R.keep c d ∷ us)

  -- a state and a past agree: the past's changes lead to own data, the latest of their steps are kept, the lists are worked out from it
  record Agree (s : State D L U) (p : Past C) : Type 0 where
    all : List U
    trace : Trace p.done s.own all
    same : s.kept ≡ take p.left all
    enough : p.left ≤ length all
    fresh : R.work s.own ≡ some s.lists

module _ {C D L U : Type 0} (R : Rules C D L U) (law : Lawful R) (S : ℕ) where
  replayed : {cs : List C} {d : D} {us : List U} → Trace R S cs d us → replay R S cs ≡ some d
  unfolding replay bind
  replayed begun = refl
  replayed (more {c = c} t e l q w) = rw (replayed t) q

  worked : {cs : List C} {d : D} {us : List U} → Trace R S cs d us → (l : L) × (R.work d ≡ some l)
  worked begun = (R.bare, law.starts)
  worked (more t e l q w) = (l, w)

  -- after a call the two agree again, and the call was accepted where the past says so
  record Moved (s : State D L U) (p : Past C) (q : Call C) : Type 0 where
    agree : Agree R S (or_else s (after R S s q)) (next R S p q)
    told : is_some (after R S s q) ≡ accepts R S p q

  module _ (s : State D L U) (p : Past C) (a : Agree R S s p) where
    -- a change: the own data that it makes, if any, and the lists worked out from that, if any
    edit-work : (c : C) (d : D) (w : Option L) → R.change c s.own ≡ some d → R.work d ≡ w
        → Agree R S (or_else s (settled R S d (take S (R.keep c s.own ∷ s.kept)) w)) (noted R S p c w)
        × (is_some (settled R S d (take S (R.keep c s.own ∷ s.kept)) w) ≡ is_some w)
    unfolding or_else settled noted is_some
    edit-work c d none e w = (a, refl)
    edit-work c d (some l) e w = (
      record {
        all = R.keep c s.own ∷ a.all;
        trace = more a.trace d l e w;
        same = rw a.same (take_min S (suc p.left) (R.keep c s.own ∷ a.all));
        enough = omega (arith, a.enough);
        fresh = w;
      },
      refl,
    )

    edit-go : (c : C) (o : Option D) → R.change c s.own ≡ o
        → Agree R S (or_else s (edited R S s c o)) (noted R S p c (bind o R.work)) × (is_some (edited R S s c o) ≡ is_some (bind o R.work))
    unfolding edited noted bind or_else is_some
    edit-go c none e = (a, refl)
    edit-go c (some d) e = edit-work c d (R.work d) e refl

    afresh-is : (c : C) → afresh R S (c ∷ p.done) ≡ bind (R.change c s.own) R.work
    unfolding afresh replay bind
    afresh-is c = ap (λ (o : Option D). bind (bind o (R.change c)) R.work) (replayed a.trace)

    edit-moved : (c : C) → Moved s p (edit c)
    unfolding next after accepts
    edit-moved c =
        let g = edit-go c (R.change c s.own) refl in
        record { agree = rw (afresh-is c) g.0; told = g.1 ∙ ap is_some (sym (afresh-is c)) }

    -- an undo: the latest change's step, put back, gives what stood before that change, and its lists could be worked out then
    undo-go : (cs : List C) (d : D) (us : List U) (k : ℕ) → Trace R S cs d us → suc k ≤ length us → s.own ≡ d → p.done ≡ cs
        → Agree R S (or_else s (undone R S s (take (suc k) us))) (record { done = rest cs; left = k }) × (is_some (undone R S s (take (suc k) us)) ≡ true)
    unfolding or_else undone is_some settled rest
    undo-go cs d us k begun h e f = absurd (not-suc-le-zero h)
    undo-go cs d us k (more {c = c} {cs = cs₀} {d = d₀} {us = us₀} t x l q w) h e f =
        let b : R.back (R.keep c d₀) s.own ≡ d₀ = rw e (law.undoes c d₀ x q) in
        let wk = worked t in
        rw b (rw wk.1 (record { all = us₀; trace = t; same = refl; enough = le_of_suc-le-suc h; fresh = wk.1 }, refl))

    undo-left : (k : ℕ) → p.left ≡ k
        → Agree R S (or_else s (undone R S s (take k a.all))) (unnoted R S p k) × (is_some (undone R S s (take k a.all)) ≡ positive R S k)
    unfolding unnoted positive undone is_some or_else
    undo-left zero e = (a, refl)
    undo-left (suc k) e = undo-go p.done s.own a.all k a.trace (subst (λ (n : ℕ). n ≤ length a.all) e a.enough) refl refl

    undo-moved : Moved s p undo
    unfolding next after accepts
    undo-moved =
        let g = undo-left p.left refl in
        record {
          agree = subst (λ (us : List U). Agree R S (or_else s (undone R S s us)) (unnoted R S p p.left)) (sym a.same) g.0;
          told = subst (λ (us : List U). is_some (undone R S s us) ≡ positive R S p.left) (sym a.same) g.1;
        }

    moved : (q : Call C) → Moved s p q
    moved (edit c) = edit-moved c
    moved undo = undo-moved

  agree : (qs : List (Call C)) → Agree R S (run R S qs) (remains R S qs)
  unfolding run remains start
  agree [] = record { all = []; trace = begun; same = refl; enough = zero-le; fresh = law.starts }
  agree (q ∷ qs) = (moved (run R S qs) (remains R S qs) (agree qs) q).agree

  -- what holds after any calls, the latest first
  pub record Holds (qs : List (Call C)) : Type 0 where
    pub data-replayed : replay R S (remains R S qs).done ≡ some (run R S qs).own
    pub lists-afresh : afresh R S (remains R S qs).done ≡ some (run R S qs).lists
    pub steps-left : length (run R S qs).kept ≡ (remains R S qs).left
    pub told : (q : Call C) → is_some (after R S (run R S qs) q) ≡ accepts R S (remains R S qs) q

  pub history : (qs : List (Call C)) → Holds qs
  unfolding afresh bind
  history qs =
      let a = agree qs in
      let r = replayed a.trace in
      record {
        data-replayed = r;
        lists-afresh = rw r a.fresh;
        steps-left = ap length a.same ∙ length-take-le (remains R S qs).left a.all a.enough;
        told = λ q. (moved (run R S qs) (remains R S qs) a q).told;
      }

  some_left : (n : ℕ) → 0 < n → positive R S n ≡ true
  unfolding positive
  some_left zero h = absurd (omega arith)
  some_left (suc n) h = refl

  -- an undo with a kept step left is accepted: what it leads back to could be worked out before
  pub undo-accepted : (qs : List (Call C)) → 0 < length (run R S qs).kept → (s : State D L U) × (after R S (run R S qs) undo ≡ some s)
  unfolding accepts
  undo-accepted qs h =
      let g = history qs in
      is-some (after R S (run R S qs) undo) (g.told undo ∙ some_left (remains R S qs).left (rw (← g.steps-left) h))
