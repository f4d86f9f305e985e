-- Spare bytes in the model: the calls made without them lead to the same tree but for the own lists and the default list, and give the same answers.
use mathlib.Core.Path.{◌≡◌, refl, sym, ap, ap₂, ◌∙◌}
use mathlib.Core.Bool.{Bool, true, false, cond}
use mathlib.Core.List.{List, [], ◌∷◌, ◌++◌, map}
use mathlib.Core.Option.{Option, none, some}
use Prim.Native.Nat.{ℕ, zero, suc}
use native.Mathlib.Omega.{arith}
use lib.ListN.{length, set}
use lib.Dec.{leb, ltb}
use borrow.Author.Tests.{le-leb, leb-true}
use Rattle.list.specs.List.{MaybeList}
use Rattle.octets.specs.Order.{need}
use Rattle.octets.specs.Bytes.{front}
use Rattle.list.specs.Entry.{access}
use Rattle.list.specs.Answer.{Values, done, refused}
use Rattle.octets.proofs.Tests.{off}
use Rattle.list.specs.Spare.{bare, Sized}
use Rattle.list.proofs.Spare.{short-sized, bare-shorter}
use Rattle.inherit.specs.Compute.{readable, ordinary}
use Rattle.inherit.specs.Spare.{bare_if, Each}
use Rattle.inherit.proofs.Spare.{readable-unseen, like-same, like-bare, result-like}
use Rattle.tree.specs.General.{bind, is_some, every, rest}
use Rattle.tree.specs.Model.{Settings, Object, object, asked, fitting, list_below, above, list_from, list_of, listed, short_if, placed, told, outcome}
use Rattle.tree.specs.Model.{Change, add, set_list, set_mark, set_owners, apply, objects_after, change_answer, start_answer}
use Rattle.tree.specs.Model.{Part, computed-list, own-list, other-data, bytes_if, data_bytes, part_bytes, part_told, read_answer, accepted, read_into}
use Rattle.tree.specs.Model.{Call, start, change, undo, read, counts, Tree, objects_of, answer, begun, noted, taken_off, next, after}
use Rattle.tree.specs.Spare.{bare_object, bare_settings}
use Rattle.tree.proofs.Applied.{every-same}
use Rattle.tree.proofs.Likeness.{length-map, set-map, map_more, rest-map, bind-like}

-- ---- one list, at most 1,024 bytes long

short-each : (o : MaybeList) → short_if o ≡ true → Each (Sized access) o
unfolding short_if
short-each none h = tt
short-each (some s) h = short-sized access s (omega (arith, leb-true (length s) 1024 h))

bare-short : (o : MaybeList) → short_if o ≡ true → short_if (bare_if o) ≡ true
unfolding short_if bare_if
bare-short none h = refl
bare-short (some s) h = le-leb (length (bare access s)) 1024 (omega (arith, leb-true (length s) 1024 h, bare-shorter access s (short-each (some s) h)))

-- ---- objects

pub object-bare : (os : List Object) (i : ℕ) → object (map bare_object os) i ≡ bare_object (object os i)
unfolding bare_if
object-bare [] i = refl
object-bare (o ∷ os) zero = refl
object-bare (o ∷ os) (suc i) = object-bare os i

-- a change without spare bytes, and the list that it gives
unfoldable pub bare_change : Change → Change
bare_change (add o) = add (bare_object o)
bare_change (set_list i l) = set_list i (bare_if l)
bare_change (set_mark i m) = set_mark i m
bare_change (set_owners i o g) = set_owners i o g

unfoldable pub change_gives : Change → MaybeList
change_gives (add o) = o.list
change_gives (set_list i l) = l
change_gives (set_mark i m) = none
change_gives (set_owners i o g) = none

apply-bare : (c : Change) (os : List Object) → apply (bare_change c) (map bare_object os) ≡ map bare_object (apply c os)
unfolding apply bare_change
apply-bare (add o) os = sym (map_more bare_object os o)
apply-bare (set_list i l) os = rw (object-bare os i) (sym (set-map bare_object os i _))
apply-bare (set_mark i m) os = rw (object-bare os i) (sym (set-map bare_object os i _))
apply-bare (set_owners i o g) os = rw (object-bare os i) (sym (set-map bare_object os i _))

pub objects-bare : (cs : List Change) → objects_after (map bare_change cs) ≡ map bare_object (objects_after cs)
unfolding objects_after
objects-bare [] = refl
objects-bare (c ∷ cs) = ap (apply (bare_change c)) (objects-bare cs) ∙ apply-bare c (objects_after cs)

-- every own list is short enough for its size field
abbrev pub Owns : List Object → Type 0
Owns os = (i : ℕ) → Each (Sized access) (object os i).list

owns-set : (os : List Object) (o : Object) → Each (Sized access) o.list → Owns os → (i : ℕ) → Owns (set os i o)
owns-set [] o z h i j = h j
owns-set (x ∷ os) o z h zero zero = z
owns-set (x ∷ os) o z h zero (suc j) = h (suc j)
owns-set (x ∷ os) o z h (suc i) zero = h zero
owns-set (x ∷ os) o z h (suc i) (suc j) = owns-set os o z (λ k. h (suc k)) i j

owns-add : (os : List Object) (o : Object) → Each (Sized access) o.list → Owns os → Owns (os ++ (o ∷ []))
owns-add [] o z h zero = z
owns-add [] o z h (suc j) = tt
owns-add (x ∷ os) o z h zero = h zero
owns-add (x ∷ os) o z h (suc j) = owns-add os o z (λ k. h (suc k)) j

owns-apply : (c : Change) (os : List Object) → short_if (change_gives c) ≡ true → Owns os → Owns (apply c os)
unfolding apply change_gives
owns-apply (add o) os z h = owns-add os o (short-each o.list z) h
owns-apply (set_list i l) os z h = owns-set os _ (short-each l z) h i
owns-apply (set_mark i m) os z h = owns-set os _ (h i) h i
owns-apply (set_owners i o g) os z h = owns-set os _ (h i) h i

abbrev pub Short : List Change → Type 0
Short [] = Unit
Short (c ∷ cs) = (short_if (change_gives c) ≡ true) × Short cs

pub owns : (cs : List Change) → Short cs → Owns (objects_after cs)
unfolding objects_after
owns [] h = λ i. tt
owns (c ∷ cs) h = owns-apply c (objects_after cs) h.0 (owns cs h.1)

-- ---- computed lists

above_same : (p : Option ℕ) (f g : ℕ → Option MaybeList) → ((i : ℕ) → f i ≡ g i) → above p f ≡ above p g
above_same none f g h = refl
above_same (some i) f g h = h i

module _ (t : Settings) (d : short_if t.default ≡ true) where
  below-unseen : (o : Object) → Each (Sized access) o.list → (a : MaybeList) → list_below (bare_settings t) (bare_object o) a ≡ list_below t o a
  below-unseen o z a =
      ap fitting (result-like access (asked t a o) a (bare_if o.list) (bare_if t.default) (like-same a) (like-bare o.list z) (like-bare t.default (short-each t.default d)))

  module _ (os : List Object) (z : Owns os) where
    from-unseen : (n i : ℕ) → list_from (bare_settings t) (map bare_object os) n i ≡ list_from t os n i
    unfolding list_from
    from-unseen zero i = refl
    from-unseen (suc n) i =
        ap (λ (o : Object). bind (above o.parent (list_from (bare_settings t) (map bare_object os) n)) (list_below (bare_settings t) o)) (object-bare os i)
        ∙ ap (λ (x : Option MaybeList). bind x (list_below (bare_settings t) (bare_object (object os i)))) (above_same (object os i).parent _ _ (from-unseen n))
        ∙ bind-like _ _ _ (λ a e. below-unseen (object os i) (z i) a)

    pub list-unseen : (i : ℕ) → list_of (bare_settings t) (map bare_object os) i ≡ list_of t os i
    list-unseen i = ap (λ (n : ℕ). list_from (bare_settings t) (map bare_object os) n i) (length-map bare_object os) ∙ from-unseen (length os) i

    listed-unseen : listed (bare_settings t) (map bare_object os) ≡ listed t os
    unfolding listed
    listed-unseen =
        ap (every (λ i. is_some (list_of (bare_settings t) (map bare_object os) i))) (length-map bare_object os)
        ∙ every-same _ _ (length os) (λ i h. ap is_some (list-unseen i))

    outcome-unseen : (i : ℕ) → outcome (bare_settings t) (map bare_object os) i ≡ outcome t os i
    unfolding outcome
    outcome-unseen i = ap₂ (λ (b : Bool) (l : Option MaybeList). need b (refused 8 0 0) (told l)) listed-unseen (list-unseen i)

-- ---- what a change answers

unfoldable pub is_own : Part → Bool
is_own computed-list = false
is_own own-list = true
is_own other-data = false

module _ (t : Settings) (d : short_if t.default ≡ true) (os : List Object) (z : Owns os) where
  -- the outcome of a change that is given a short list
  after-unseen : (c : Change) → short_if (change_gives c) ≡ true → (i : ℕ)
      → outcome (bare_settings t) (apply (bare_change c) (map bare_object os)) i ≡ outcome t (apply c os) i
  after-unseen c h i =
      ap (λ (ps : List Object). outcome (bare_settings t) ps i) (apply-bare c os) ∙ outcome-unseen t d (apply c os) (owns-apply c os h z) i

  placed-unseen : (p : Option ℕ) → placed (map bare_object os) p ≡ placed os p
  unfolding placed
  placed-unseen none = rw (length-map bare_object os) refl
  placed-unseen (some p) = rw (length-map bare_object os, object-bare os p) refl

  given-unseen : (l : MaybeList) → short_if l ≡ true → (v w : Values) → v ≡ w
      → readable (bare_if l) 2 (need (short_if (bare_if l)) (refused 8 0 0) v) ≡ readable l 2 (need (short_if l) (refused 8 0 0) w)
  given-unseen l h v w e =
      readable-unseen l 2 _ (short-each l h) ∙ ap₂ (λ (b : Bool) (x : Values). readable l 2 (need b (refused 8 0 0) x)) (bare-short l h ∙ sym h) e

  change-unseen : (c : Change) → short_if (change_gives c) ≡ true → change_answer (bare_settings t) (map bare_object os) (bare_change c) ≡ change_answer t os c
  unfolding change_answer bare_change change_gives
  change-unseen (add o) h =
      rw (placed-unseen o.parent, length-map bare_object os, readable-unseen o.list 2 _ (short-each o.list h), bare-short o.list h, h)
      (rw (after-unseen (add o) h (length os)) refl)
  change-unseen (set_list i l) h = rw (length-map bare_object os) (ap (need (ltb i (length os)) (refused 9 0 0)) (given-unseen l h _ _ (after-unseen (set_list i l) h i)))
  change-unseen (set_mark i m) h = rw (length-map bare_object os) (ap (need (ltb i (length os)) (refused 9 0 0)) (after-unseen (set_mark i m) h i))
  change-unseen (set_owners i o g) h =
      rw (length-map bare_object os)
      (ap (λ (v : Values). need (ltb i (length os)) (refused 9 0 0) (need (ordinary o) (refused 6 0 0) (need (ordinary g) (refused 6 0 0) v)))
      (after-unseen (set_owners i o g) h i))

  -- what is read back: everything but the own list
  told-unseen : (x : Part) (i : ℕ) → is_own x ≡ false → (part_bytes (bare_settings t) (map bare_object os) x i ≡ part_bytes t os x i)
      × (part_told (bare_settings t) (map bare_object os) x i ≡ part_told t os x i)
  unfolding part_bytes part_told data_bytes is_own
  told-unseen computed-list i h = (ap bytes_if (list-unseen t d os z i), ap told (list-unseen t d os z i))
  told-unseen other-data i h = (ap data_bytes (object-bare os i), ap (λ (o : Object). done (length (data_bytes o)) 1 0 0) (object-bare os i))
  told-unseen own-list i h = absurd (off refl h)

  read-unseen : (x : Part) (i room : ℕ) → is_own x ≡ false → read_answer (bare_settings t) (map bare_object os) x i room ≡ read_answer t os x i room
  unfolding read_answer
  read-unseen x i room h =
      rw (length-map bare_object os)
      (ap₂ (λ (b : List ℕ) (v : Values). need (ltb i (length os)) (refused 9 0 0) (need (leb (length b) room) (refused 8 0 0) v)) (told-unseen x i h).0 (told-unseen x i h).1)

  pub into-unseen : (x : Part) (i : ℕ) (out : List ℕ) → is_own x ≡ false → read_into (bare_settings t) (map bare_object os) x i out ≡ read_into t os x i out
  unfolding read_into
  into-unseen x i out h = ap₂ (λ (v : Values) (b : List ℕ). cond (accepted v) (front b out) out) (read-unseen x i (length out) h) (told-unseen x i h).0

pub start-unseen : (t : Settings) (enough : Bool) → short_if t.default ≡ true → start_answer (bare_settings t) enough ≡ start_answer t enough
unfolding start_answer
start-unseen t enough h = rw (readable-unseen t.default 3 _ (short-each t.default h), bare-short t.default h, h) refl

-- ---- calls

-- a call without spare bytes; the list that it gives; the only one that shows spare bytes
unfoldable pub bare_call : Call → Call
bare_call (start t enough) = start (bare_settings t) enough
bare_call (change c) = change (bare_change c)
bare_call undo = undo
bare_call (read x i out) = read x i out
bare_call counts = counts

unfoldable pub call_gives : Call → MaybeList
call_gives (start t enough) = t.default
call_gives (change c) = change_gives c
call_gives undo = none
call_gives (read x i out) = none
call_gives counts = none

unfoldable pub reads_own : Call → Bool
reads_own (start t enough) = false
reads_own (change c) = false
reads_own undo = false
reads_own (read x i out) = is_own x
reads_own counts = false

abbrev pub bare_tree : Tree → Tree
bare_tree s = record { settings = bare_settings s.settings; changes = map bare_change s.changes; kept = s.kept }

pub record ShortTree (s : Tree) : Type 0 where
  pub default : short_if s.settings.default ≡ true
  pub changes : Short s.changes

module _ (s : Tree) (g : ShortTree s) where
  pub answer-unseen : (q : Call) → short_if (call_gives q) ≡ true → reads_own q ≡ false → answer (bare_tree s) (bare_call q) ≡ answer s q
  unfolding answer bare_call call_gives reads_own
  answer-unseen (start t enough) h o = start-unseen t enough h
  answer-unseen (change c) h o =
      rw (objects-bare s.changes) (change-unseen s.settings g.default (objects_of s) (owns s.changes g.changes) c h)
  answer-unseen undo h o = refl
  answer-unseen (read x i out) h o =
      rw (objects-bare s.changes) (read-unseen s.settings g.default (objects_of s) (owns s.changes g.changes) x i (length out) o)
  answer-unseen counts h o = rw (objects-bare s.changes, length-map bare_object (objects_of s)) refl

  off-bare : (k : ℕ) → taken_off (bare_tree s) k ≡ bare_tree (taken_off s k)
  unfolding taken_off
  off-bare zero = refl
  off-bare (suc k) = rw (rest-map bare_change s.changes) refl

  cond-bare : (b : Bool) (x y : Tree) → cond b (bare_tree x) (bare_tree y) ≡ bare_tree (cond b x y)
  cond-bare true x y = refl
  cond-bare false x y = refl

  next-unseen : (q : Call) → short_if (call_gives q) ≡ true → next (bare_tree s) (bare_call q) ≡ bare_tree (next s q)
  unfolding next bare_call reads_own call_gives
  next-unseen (start t enough) h =
      rw (answer-unseen (start t enough) h refl) (cond-bare (accepted (answer s (start t enough))) (begun t) s)
  next-unseen (change c) h = rw (answer-unseen (change c) h refl) (cond-bare (accepted (answer s (change c))) (noted s c) s)
  next-unseen undo h = off-bare s.kept
  next-unseen (read x i out) h = refl
  next-unseen counts h = refl

  cond_short : (b : Bool) (x y : Tree) → ShortTree x → ShortTree y → ShortTree (cond b x y)
  cond_short true x y h k = h
  cond_short false x y h k = k

  short-rest : (cs : List Change) → Short cs → Short (rest cs)
  unfolding rest
  short-rest [] h = tt
  short-rest (c ∷ cs) h = h.1

  short-off : (k : ℕ) → ShortTree (taken_off s k)
  unfolding taken_off
  short-off zero = g
  short-off (suc k) = record { default = g.default; changes = short-rest s.changes g.changes }

  next-short : (q : Call) → short_if (call_gives q) ≡ true → ShortTree (next s q)
  unfolding next call_gives
  next-short (start t enough) h = cond_short (accepted (answer s (start t enough))) (begun t) s (record { default = h; changes = tt }) g
  next-short (change c) h = cond_short (accepted (answer s (change c))) (noted s c) s (record { default = g.default; changes = (h, g.changes) }) g
  next-short undo h = short-off s.kept
  next-short (read x i out) h = g
  next-short counts h = g

-- calls that give short lists
abbrev pub ShortCalls : List Call → Type 0
ShortCalls [] = Unit
ShortCalls (q ∷ qs) = (short_if (call_gives q) ≡ true) × ShortCalls qs

pub after-bare : (s : Tree) → ShortTree s → (qs : List Call) → ShortCalls qs → ShortTree (after s qs) × (after (bare_tree s) (map bare_call qs) ≡ bare_tree (after s qs))
unfolding after
after-bare s g [] h = (g, refl)
after-bare s g (q ∷ qs) h =
    let r = after-bare s g qs h.1 in (
      next-short (after s qs) r.0 q h.0,
      ap (λ (x : Tree). next x (bare_call q)) r.1 ∙ next-unseen (after s qs) r.0 q h.0,
    )
