-- Sequences of changes to objects apart, on the model: each is answered as if it were the first, any order leaves the same tree, and of two at work in folders apart
-- each is answered, and finds their folder, as if the other weren't there.
use mathlib.Core.Path.{◌≡◌, refl, sym, ap, ap₂, ◌∙◌, subst}
use mathlib.Core.Bool.{Bool, true, false, not, cond, beq}
use mathlib.Core.List.{List, [], ◌∷◌, ◌++◌, map, map-append, Permᴰ}
use mathlib.Core.Logic.{inl}
use Prim.Native.Nat.{ℕ}
use lib.ListN.{length}
use lib.Dec.{ltb}
use borrow.Author.Tests.{ltb-true}
use Rattle.list.specs.Answer.{Values}
use Rattle.tree.specs.Model.{Object, object, list_of, listed, Change, change_answer, accepted, Call, change, Tree, objects_of, answer, noted, next, after}
use Rattle.tree.specs.Shown.{alteration}
use Rattle.tree.specs.Apart.{Within, Elsewhere, Apart, changed_by, Alter, ApartFrom, AllApart, Turn, turns_of, Keeps}
use Rattle.tree.proofs.Apart.{Rooted, SameParents, within-apart, apart-turned, apart-kept}
use Rattle.tree.proofs.Altered.{listed_at, changed-other, changed-stands, changed-list, alters-it, put, put-parents, apply-is, answers-as-before, either_order}
use Rattle.tree.proofs.Alike.{next_by, next-change, answer-change, noted-objects, Alike, alike_same, alike-on, alike_is, answer-alike, next-alike, Kept, kept_same, kept-alike, kept_on}

-- the model's change and call
abbrev altering : Alter → Change
altering c = alteration c.object c.edit

abbrev pub asks : Alter → Call
asks c = change (altering c)

abbrev pub after_all : Tree → List Alter → Tree
after_all s cs = after s (map asks cs)

-- ---- trees in which following parents ends at the root and every list is there, and stays so

pub record Standing (s : Tree) : Type 0 where
  pub rooted : Rooted (objects_of s)
  pub all_there : listed s.settings (objects_of s) ≡ true

abbrev pub Lasting : Tree → Type 0
Lasting s = (cs : List Alter) → Standing (after_all s cs)

pub after_then : (s : Tree) (ps qs : List Call) → after s (ps ++ qs) ≡ after (after s qs) ps
unfolding after
after_then s [] qs = refl
after_then s (p ∷ ps) qs = ap (λ (u : Tree). next u p) (after_then s ps qs)

lasting-on : (s : Tree) → Lasting s → (cs : List Alter) → Lasting (after_all s cs)
lasting-on s L cs ds = subst (λ (u : Tree). Standing u) (ap (after s) (map-append asks ds cs) ∙ after_then s (map asks ds) (map asks cs)) (L (ds ++ cs))

-- ---- what one change leaves alone

-- an object that is neither the changed one nor below it
pub kept-elsewhere : (s : Tree) → Standing s → (c : Change) (k : ℕ) → Elsewhere (objects_of s) (changed_by c (objects_of s)) k → Kept s (next s (change c)) k
kept-elsewhere s S c k w = subst (λ (u : Tree). Kept s u k) (sym (next-change s c)) (by (accepted (answer s (change c))))
  where
    by : (b : Bool) → Kept s (next_by b s c) k
    by true =
        record {
          own-data = ap (λ (os : List Object). object os k) (noted-objects s c) ∙ changed-other c (objects_of s) k (λ e. w (inl e));
          stands = ap (λ (os : List Object). ltb k (length os)) (noted-objects s c) ∙ changed-stands c (objects_of s) k (λ e. w (inl e));
          list = λ h. ap (λ (os : List Object). list_of s.settings os k) (noted-objects s c)
              ∙ changed-list s.settings c (objects_of s) k w (listed_at s.settings (objects_of s) S.all_there k (ltb-true k (length (objects_of s)) h));
        }
    by false = kept_same s k

module _ (s : Tree) (c : Alter) where
  put-objects : objects_of (noted s (altering c)) ≡ put (objects_of s) c.object c.edit
  put-objects = noted-objects s (altering c) ∙ apply-is c.object c.edit (objects_of s)

  parents-next : SameParents (objects_of s) (objects_of (next s (asks c)))
  parents-next k = rw (next-change s (altering c)) (by (accepted (answer s (asks c))))
    where
      by : (b : Bool) → (object (objects_of (next_by b s (altering c))) k).parent ≡ (object (objects_of s) k).parent
      by true = ap (λ (os : List Object). (object os k).parent) put-objects ∙ put-parents (objects_of s) c.object c.edit k
      by false = refl

parents-after : (s : Tree) (cs : List Alter) → SameParents (objects_of s) (objects_of (after_all s cs))
unfolding after
parents-after s [] k = refl
parents-after s (c ∷ cs) k = parents-next (after_all s cs) c k ∙ parents-after s cs k

apart-after : (s : Tree) (cs : List Alter) (i j : ℕ) → Apart (objects_of s) i j → Apart (objects_of (after_all s cs)) i j
apart-after s cs i j A = apart-kept (objects_of s) (objects_of (after_all s cs)) (parents-after s cs) i j A

from-after : (s : Tree) (cs : List Alter) (i : ℕ) (ds : List Alter) → ApartFrom (objects_of s) i ds → ApartFrom (objects_of (after_all s cs)) i ds
from-after s cs i [] F = tt
from-after s cs i (d ∷ ds) F = (apart-after s cs i d.object F.0, from-after s cs i ds F.1)

-- objects apart from all that is changed
pub kept-apart : (s : Tree) → Lasting s → (k : ℕ) (ds : List Alter) → ApartFrom (objects_of s) k ds → Kept s (after_all s ds) k
unfolding after
kept-apart s L k [] F = kept_same s k
kept-apart s L k (d ∷ ds) F =
    kept_on s (after_all s ds) (next (after_all s ds) (asks d)) k (kept-apart s L k ds F.1)
    (kept-elsewhere (after_all s ds) (L ds) (altering d) k
    (rw (alters-it d.object d.edit (objects_of (after_all s ds))) (apart-after s ds k d.object F.0).1))

-- ---- two changes to objects apart

two-objects : (s : Tree) (c d : Alter)
    → objects_of (noted (noted s (altering c)) (altering d)) ≡ put (put (objects_of s) c.object c.edit) d.object d.edit
two-objects s c d = put-objects (noted s (altering c)) d ∙ ap (λ (os : List Object). put os d.object d.edit) (put-objects s c)

module _ (s : Tree) (L : Lasting s) (c d : Alter) (A : Apart (objects_of s) c.object d.object) where
  -- the one answers as if the other hadn't been
  pub answer-after : answer (next s (asks c)) (asks d) ≡ answer s (asks d)
  unfolding after
  answer-after = rw (next-change s (altering c)) (by (accepted (answer s (asks c))) (next-change s (altering c)))
    where
      by : (b : Bool) → next s (asks c) ≡ next_by b s (altering c) → answer (next_by b s (altering c)) (asks d) ≡ answer s (asks d)
      by true e =
          let there : listed s.settings (put (objects_of s) c.object c.edit) ≡ true =
          subst (λ (os : List Object). listed s.settings os ≡ true) (put-objects s c)
          (subst (λ (u : Tree). listed u.settings (objects_of u) ≡ true) e (L (c ∷ [])).all_there) in
          answer-change (noted s (altering c)) (altering d)
          ∙ ap (λ (os : List Object). change_answer s.settings os (altering d)) (put-objects s c)
          ∙ answers-as-before (objects_of s) c.object d.object A c.edit d.edit s.settings (L []).rooted (L []).all_there there
          ∙ sym (answer-change s (altering d))
      by false e = refl

  noted-both : (x y : Bool) → let e = altering c in let f = altering d in Alike (next_by y (next_by x s e) f) (next_by x (next_by y s f) e)
  noted-both true true =
      record {
        settings-are = refl;
        objects-are = two-objects s c d ∙ either_order (objects_of s) c.object d.object A c.edit d.edit ∙ sym (two-objects s d c);
        kept-are = refl;
      }
  noted-both true false = alike_same (noted s (altering c))
  noted-both false true = alike_same (noted s (altering d))
  noted-both false false = alike_same s

next-two : (s : Tree) (c d : Alter) → answer (next s (asks c)) (asks d) ≡ answer s (asks d)
    → next (next s (asks c)) (asks d) ≡ next_by (accepted (answer s (asks d))) (next_by (accepted (answer s (asks c))) s (altering c)) (altering d)
next-two s c d e =
    next-change (next s (asks c)) (altering d)
    ∙ ap₂ (λ (v : Values) (u : Tree). next_by (accepted v) u (altering d)) e (next-change s (altering c))

-- in either order the trees are alike
pub both-alike : (s : Tree) → Lasting s → (c d : Alter) → Apart (objects_of s) c.object d.object → Alike (next (next s (asks c)) (asks d)) (next (next s (asks d)) (asks c))
both-alike s L c d A =
    alike_is _ _ _ _ (next-two s c d (answer-after s L c d A)) (next-two s d c (answer-after s L d c (apart-turned (objects_of s) c.object d.object A)))
    (noted-both s L c d A (accepted (answer s (asks c))) (accepted (answer s (asks d))))

-- ---- any number of changes

-- after changes to objects apart from its own, a change answers as if it were the first
pub as_first : (s : Tree) → Lasting s → (c : Alter) (ds : List Alter) → ApartFrom (objects_of s) c.object ds → answer (after_all s ds) (asks c) ≡ answer s (asks c)
unfolding after
as_first s L c [] F = refl
as_first s L c (d ∷ ds) F =
    answer-after (after_all s ds) (lasting-on s L ds) d c (apart-turned _ c.object d.object (apart-after s ds c.object d.object F.0))
    ∙ as_first s L c ds F.1

-- and leaves the same, before them or after them
slide : (s : Tree) → Lasting s → (c : Alter) (ds : List Alter) → ApartFrom (objects_of s) c.object ds → Alike (next (after_all s ds) (asks c)) (after_all (next s (asks c)) ds)
unfolding after
slide s L c [] F = alike_same (next s (asks c))
slide s L c (d ∷ ds) F =
    alike-on _ (next (next (after_all s ds) (asks c)) (asks d)) _
    (both-alike (after_all s ds) (lasting-on s L ds) d c (apart-turned _ c.object d.object (apart-after s ds c.object d.object F.0)))
    (next-alike (next (after_all s ds) (asks c)) (after_all (next s (asks c)) ds) (slide s L c ds F.1) (altering d))

-- ---- in another order

from-reordered : (os : List Object) (i : ℕ) {cs ds : List Alter} → Permᴰ cs ds → ApartFrom os i cs → ApartFrom os i ds
from-reordered os i Permᴰ.nil F = F
from-reordered os i (Permᴰ.cons e p) F = (subst (λ (c : Alter). Apart os i c.object) e F.0, from-reordered os i p F.1)
from-reordered os i (Permᴰ.swap e f) F =
    (subst (λ (c : Alter). Apart os i c.object) f F.1.0, (subst (λ (c : Alter). Apart os i c.object) e F.0, F.1.1))
from-reordered os i (Permᴰ.trans p q) F = from-reordered os i q (from-reordered os i p F)

pub all-reordered : (os : List Object) {cs ds : List Alter} → Permᴰ cs ds → AllApart os cs → AllApart os ds
all-reordered os Permᴰ.nil F = F
all-reordered os (Permᴰ.cons {a = a} {l₂ = ds} e p) F =
    (subst (λ (c : Alter). ApartFrom os c.object ds) e (from-reordered os a.object p F.0), all-reordered os p F.1)
all-reordered os (Permᴰ.swap {a = a} {b = b} {b' = b'} {l = l} e f) F =
    let G : AllApart os (b ∷ a ∷ l) = ((apart-turned os a.object b.object F.0.0, F.1.0), (F.0.1, F.1.1)) in
    subst (λ (x : Alter). AllApart os (x ∷ b' ∷ l)) f (subst (λ (x : Alter). AllApart os (b ∷ x ∷ l)) e G)
all-reordered os (Permᴰ.trans p q) F = all-reordered os q (all-reordered os p F)

pub any-order-alike : (s : Tree) → Lasting s → {cs ds : List Alter} → Permᴰ cs ds → AllApart (objects_of s) cs → Alike (after_all s cs) (after_all s ds)
unfolding after
any-order-alike s L Permᴰ.nil F = alike_same s
any-order-alike s L (Permᴰ.cons {a = a} {l₁ = cs} {l₂ = ds} e p) F =
    subst (λ (c : Alter). Alike (after_all s (a ∷ cs)) (after_all s (c ∷ ds))) e
    (next-alike (after_all s cs) (after_all s ds) (any-order-alike s L p F.1) (altering a))
any-order-alike s L (Permᴰ.swap {a = a} {b = b} {b' = b'} {l = l} e f) F =
    subst (λ (x : Alter). Alike (after_all s (a ∷ b ∷ l)) (after_all s (x ∷ b' ∷ l))) f
    (subst (λ (x : Alter). Alike (after_all s (a ∷ b ∷ l)) (after_all s (b ∷ x ∷ l))) e
    (both-alike (after_all s l) (lasting-on s L l) b a (apart-turned _ a.object b.object (apart-after s l a.object b.object F.0.0))))
any-order-alike s L (Permᴰ.trans {l₁ = cs} {l₂ = ds} {l₃ = es} p q) F =
    alike-on (after_all s cs) (after_all s ds) (after_all s es) (any-order-alike s L p F) (any-order-alike s L q (all-reordered (objects_of s) p F))

-- ---- two at work: one of them in folder a, the other apart from it

abbrev pub changes : List Turn → List Alter
changes zs = map (λ (z : Turn). z.change) zs

-- the other's
abbrev pub others : Bool → List Turn → List Alter
others who zs = turns_of (not who) zs

beq-not : (x y : Bool) → beq x (not y) ≡ not (beq x y)
beq-not true true = refl
beq-not true false = refl
beq-not false true = refl
beq-not false false = refl

-- one turn more, b saying whether it is the one's
one-turn : (who : Bool) (z : Turn) (zs : List Turn) → turns_of who (z ∷ zs) ≡ cond (beq z.first who) (z.change ∷ turns_of who zs) (turns_of who zs)
unfolding turns_of
one-turn who z zs = refl

other-turn : (who : Bool) (z : Turn) (zs : List Turn) → others who (z ∷ zs) ≡ cond (not (beq z.first who)) (z.change ∷ others who zs) (others who zs)
other-turn who z zs = one-turn (not who) z zs ∙ ap (λ (b : Bool). cond b (z.change ∷ others who zs) (others who zs)) (beq-not z.first who)

others_apart : (os : List Object) (who : Bool) (a : ℕ) (zs : List Turn) → Keeps os who a zs → ApartFrom os a (others who zs)
unfolding turns_of
others_apart os who a [] K = tt
others_apart os who a (z ∷ zs) K = rw (other-turn who z zs) (by (beq z.first who) K.0 (others_apart os who a zs K.1))
  where
    by : (b : Bool) → cond b (Within os a z.change.object) (Apart os a z.change.object) → ApartFrom os a (others who zs)
        → ApartFrom os a (cond (not b) (z.change ∷ others who zs) (others who zs))
    by true v F = F
    by false A F = (A, F)

from-within : (os : List Object) (a i : ℕ) → Within os a i → (ds : List Alter) → ApartFrom os a ds → ApartFrom os i ds
from-within os a i v [] F = tt
from-within os a i v (d ∷ ds) F = (within-apart os a i d.object v F.0, from-within os a i v ds F.1)

module _ (s : Tree) (L : Lasting s) (who : Bool) (a : ℕ) where
  -- what the other changes is apart from whatever stands in the folder, whenever it comes
  apart-others : (zs : List Turn) → Keeps (objects_of s) who a zs → (i : ℕ) → Within (objects_of s) a i → (cs : List Alter) → ApartFrom (objects_of (after_all s cs)) i (others who zs)
  apart-others zs K i v cs = from-after s cs i (others who zs) (from-within (objects_of s) a i v (others who zs) (others_apart (objects_of s) who a zs K))

  -- the turns of both leave what those of the one leave, and the other's after them
  pub mixed-alike : (zs : List Turn) → Keeps (objects_of s) who a zs → Alike (after_all s (changes zs)) (after_all (after_all s (turns_of who zs)) (others who zs))
  unfolding after turns_of
  mixed-alike [] K = alike_same s
  mixed-alike (z ∷ zs) K = rw (one-turn who z zs, other-turn who z zs) (by (beq z.first who) K.0 (next-alike _ _ (mixed-alike zs K.1) _))
    where
      by : (b : Bool) → cond b (Within (objects_of s) a z.change.object) (Apart (objects_of s) a z.change.object)
          → Alike (after_all s (changes (z ∷ zs))) (next (after_all (after_all s (turns_of who zs)) (others who zs)) (asks z.change))
          → Alike (after_all s (changes (z ∷ zs))) (after_all (after_all s (cond b (z.change ∷ turns_of who zs) (turns_of who zs))) (cond (not b) (z.change ∷ others who zs) (others who zs)))
      by true v again =
          alike-on _ (next (after_all (after_all s (turns_of who zs)) (others who zs)) (asks z.change)) _ again
          (slide (after_all s (turns_of who zs)) (lasting-on s L (turns_of who zs)) z.change (others who zs) (apart-others zs K.1 z.change.object v (turns_of who zs)))
      by false A again = again

  -- the one is answered as if the other weren't there
  pub mixed-answer : (zs : List Turn) → Keeps (objects_of s) who a zs → (c : Alter) → Within (objects_of s) a c.object
      → answer (after_all s (changes zs)) (asks c) ≡ answer (after_all s (turns_of who zs)) (asks c)
  mixed-answer zs K c v =
      answer-alike _ _ (mixed-alike zs K) (asks c)
      ∙ as_first (after_all s (turns_of who zs)) (lasting-on s L (turns_of who zs)) c (others who zs) (apart-others zs K c.object v (turns_of who zs))

  -- and finds the folder so
  pub mixed-folder : (zs : List Turn) → Keeps (objects_of s) who a zs → (k : ℕ) → Within (objects_of s) a k → Kept (after_all s (turns_of who zs)) (after_all s (changes zs)) k
  mixed-folder zs K k v =
      kept_on _ (after_all (after_all s (turns_of who zs)) (others who zs)) _ k
      (kept-apart (after_all s (turns_of who zs)) (lasting-on s L (turns_of who zs)) k (others who zs) (apart-others zs K k v (turns_of who zs)))
      (kept-alike _ _ k (mixed-alike zs K))
