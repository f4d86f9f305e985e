-- Own data read as the model's objects: what a new object and each change write reads as what the model makes of the objects; so does a whole replay; and the lists are the same.
use mathlib.Core.Path.{◌≡◌, refl, sym, ap, ◌∙◌}
use mathlib.Core.Bool.{Bool, true, false, cond, ◌&&◌}
use mathlib.Core.List.{List, [], ◌∷◌, ◌++◌, map}
use mathlib.Core.Logic.{◌⊎◌, inl, inr}
use mathlib.Core.Option.{Option, none, some}
use Prim.Native.Nat.{ℕ, zero, suc, ◌≤◌, ◌<◌}
use native.Mathlib.Decide.{ℕ_discrete}
use native.Mathlib.Omega.{arith}
use lib.ListN.{length, get_or, set, length-append, length-set, get_or-append}
use lib.Seq.{get_or_at, get_or-set_same, get_or-set_other}
use lib.Dec.{eqb, ltb, leb}
use borrow.Author.Tests.{ltb-true, eqb-false, le-leb, leb-true}
use Rattle.list.specs.List.{MaybeList}
use Rattle.octets.specs.Bytes.{put_at}
use Rattle.octets.proofs.Places.{split}
use Rattle.octets.proofs.Tests.{both_true}
use Rattle.list.specs.Answer.{Values, done, refused}
use Rattle.inherit.specs.Branch.{Result, absent, holds, result_of}
use Rattle.inherit.specs.Compute.{ordinary, rule_ok, size_for, fits, rev_for, with_room, bytes_for}
use Rattle.inherit.proofs.Theorems.{passed-room}
use Rattle.list.proofs.Parts.{length-render}
use Rattle.list.specs.Entry.{access}
use Rattle.tree.specs.Held.{parent_in, block_for, block_ok, parent_byte_in, yes as bit}
use Rattle.tree.specs.Room.{rule_of, default_of}
use Rattle.tree.specs.Formed.{placed_in}
use Rattle.tree.specs.Work.{asked_in, taken, computed}
use Rattle.tree.proofs.Computed.{all-passed, computed-reads}
use Rattle.tree.specs.Calls.{Edit, list, mark, owners, edit_at, edit_bytes, object_for, ChangeGiven, add, alter}
use Rattle.tree.specs.General.{bind, is_some, every, rest}
use Rattle.tree.proofs.History.{replay}
use Rattle.tree.proofs.Replay.{Blocks, reads, fine, when, change, rules, from_root, gather, work}
use Rattle.tree.proofs.Blocks.{Shows, length-guid, new-shows, new-good}
use Rattle.tree.proofs.Edits.{edited, list-shows, mark-shows, owners-shows, edit-keeps, edit-good}
use Rattle.tree.proofs.Paths.{Ordered, ordered-next, gather-at}
use Rattle.tree.proofs.Turns.{Placed, placed-facts, placed-parent}
use Rattle.tree.specs.Model.{Settings, Object, parent_byte, no-object, object, fitting, list_below, above, list_from, list_of, listed, apply, objects_after, with_list, with_mark, with_owners, short_if}
use Rattle.tree.proofs.NoRoom.{Earlier}
use Rattle.tree.specs.Shown.{settings_at, object_in, alteration, change_meant}

-- ---- lists element by element

module _ {A B : Type 0} (f : A → B) where
  pub length-map : (l : List A) → length (map f l) ≡ length l
  length-map [] = refl
  length-map (x ∷ l) = ap suc (length-map l)

  pub get_d_map : (l : List A) (i : ℕ) (d : A) (c : B) → i < length l → get_or (map f l) i c ≡ f (get_or l i d)
  get_d_map [] i d c h = absurd (omega arith)
  get_d_map (x ∷ l) zero d c h = refl
  get_d_map (x ∷ l) (suc i) d c h = get_d_map l i d c (omega arith)

  pub set-map : (l : List A) (i : ℕ) (x : A) → map f (set l i x) ≡ set (map f l) i (f x)
  set-map [] i x = refl
  set-map (y ∷ l) zero x = refl
  set-map (y ∷ l) (suc i) x = ap (λ (r : List B). f y ∷ r) (set-map l i x)

  pub map_more : (l : List A) (x : A) → map f (l ++ (x ∷ [])) ≡ map f l ++ (f x ∷ [])
  map_more [] x = refl
  map_more (y ∷ l) x = ap (λ (r : List B). f y ∷ r) (map_more l x)

  pub rest-map : (l : List A) → rest (map f l) ≡ map f (rest l)
  unfolding rest
  rest-map [] = refl
  rest-map (x ∷ l) = refl

-- what goes on alike from what is there
pub bind-like : {A B : Type 0} (x : Option A) (f g : A → Option B) → ((a : A) → x ≡ some a → f a ≡ g a) → bind x f ≡ bind x g
unfolding bind
bind-like none f g h = refl
bind-like (some a) f g h = h a refl

-- ---- one object

yes-is : (b : Bool) → eqb (bit b) 1 ≡ b
yes-is true = refl
yes-is false = refl

-- own data by what it shows
pub object-shows : {b : List ℕ} {p k m : ℕ} {t o g : List ℕ} {l : MaybeList} → Shows b p k m t o g l
    → object_in b ≡ record { parent = parent_in 255 p; container = eqb k 1; mark = eqb m 1; type = t; owner = o; group = g; list = l }
object-shows s = rw (s.parent, s.kind, s.mark, s.type, s.owner, s.group, s.list) refl

pub object-new : (o : Object) → length o.type ≡ 16 → ordinary o.owner ≡ true → ordinary o.group ≡ true → short_if o.list ≡ true
    → parent_in 255 (parent_byte o.parent) ≡ o.parent → object_in (block_for o) ≡ o
object-new o t ho hg s p = object-shows (new-shows o t ho hg s) ∙ rw (p, yes-is o.container, yes-is o.mark) refl

module _ (b : List ℕ) (n : length b ≡ 1184) where
  pub object-list : (o : MaybeList) → short_if o ≡ true → object_in (edited (list o) b) ≡ with_list o (object_in b)
  object-list o h = object-shows (list-shows b n o h)

  pub object-mark : (m : Bool) → object_in (edited (mark m) b) ≡ with_mark m (object_in b)
  object-mark m = object-shows (mark-shows b n m) ∙ rw (yes-is m) refl

  pub object-owners : (o g : List ℕ) → ordinary o ≡ true → ordinary g ≡ true → object_in (edited (owners o g) b) ≡ with_owners o g (object_in b)
  object-owners o g ho hg = object-shows (owners-shows b n o g ho hg)

-- ---- all objects

-- own data good by itself and in full length, and each object's parent before it
pub record Good (d : Blocks) : Type 0 where
  pub sound : (i : ℕ) → i < length d → block_ok (get_or d i []) ≡ true
  pub long : (i : ℕ) → i < length d → length (get_or d i []) ≡ 1184
  pub ordered : Ordered d

pub good_none : Good []
good_none = record { sound = λ i h. absurd (omega arith); long = λ i h. absurd (omega arith); ordered = λ i h. absurd (omega arith) }

-- what holds of each holds with one more, and with one put in
each_more : (P : List ℕ → Type 0) (d : Blocks) (b : List ℕ) → ((i : ℕ) → i < length d → P (get_or d i [])) → P b → (i : ℕ) → i < length (d ++ (b ∷ [])) → P (get_or (d ++ (b ∷ [])) i [])
each_more P d b f x i h =
    split (length d) i
    (λ k.
    let l : i ≡ length d = omega (arith, simp length-append at h) in
    rw (l, get_or_at d b [] [] (length d) refl) x)
    (λ k. rw (get_or-append d (b ∷ []) [] i k) (f i k))

each_set : (P : ℕ → List ℕ → Type 0) (d : Blocks) (i : ℕ) (b : List ℕ) → ((j : ℕ) → j < length d → P j (get_or d j [])) → i < length d → P i b
    → (j : ℕ) → j < length (set d i b) → P j (get_or (set d i b) j [])
each_set P d i b f k x j h =
    elim (ℕ_discrete j i) [
      | yes e ↦ rw (e, get_or-set_same d i b [] k) x
      | no e ↦ rw (get_or-set_other d i j b [] e) (f j (rw length-set at h))
    ]

good_more : (d : Blocks) (b : List ℕ) → Good d → block_ok b ≡ true → length b ≡ 1184 → (parent_byte_in b ≡ 255) ⊎ (parent_byte_in b < length d) → Good (d ++ (b ∷ []))
good_more d b G o n p =
    record {
      sound = each_more (λ x. block_ok x ≡ true) d b G.sound o;
      long = each_more (λ x. length x ≡ 1184) d b G.long n;
      ordered = ordered-next d G.ordered b p;
    }

good-set : (d : Blocks) (i : ℕ) (b : List ℕ) → Good d → i < length d → block_ok b ≡ true → length b ≡ 1184 → parent_byte_in b ≡ parent_byte_in (get_or d i []) → Good (set d i b)
good-set d i b G k o n p =
    record {
      sound = each_set (λ j x. block_ok x ≡ true) d i b G.sound k o;
      long = each_set (λ j x. length x ≡ 1184) d i b G.long k n;
      ordered = each_set (λ j x. (parent_byte_in x ≡ 255) ⊎ (parent_byte_in x < j)) d i b G.ordered k (rw p (G.ordered i k));
    }

when-some : {A : Type 0} (b : Bool) (x y : A) → when b x ≡ some y → (b ≡ true) × (x ≡ y)
when-some true x y e = let z : x ≡ y = cc in (refl, z)
when-some false x y e = let z : ◌≡◌ {A = ℕ} 0 1 = cc in absurd (omega arith)

-- the objects of own data
abbrev pub objects_from : Blocks → List Object
objects_from d = map object_in d

pub object-in : (d : Blocks) (i : ℕ) → i < length d → object (objects_from d) i ≡ object_in (get_or d i [])
object-in d i h = get_d_map object_in d i [] no-object h

pub edit-long : (b : List ℕ) → length b ≡ 1184 → (e : Edit) → fine e ≡ true → length (edited e b) ≡ 1184
unfolding fine
edit-long b n (list o) h = (list-shows b n o (both_true (reads o) (short_if o) h).1).long
edit-long b n (mark m) h = (mark-shows b n m).long
edit-long b n (owners o g) h =
    let f = both_true (ordinary o) (ordinary g) h in
    (owners-shows b n o g f.0 f.1).long

-- a change of object i
altered : (d : Blocks) (i : ℕ) (e : Edit) → Good d → i < length d → fine e ≡ true
    → objects_from (set d i (edited e (get_or d i []))) ≡ apply (alteration i e) (objects_from d)
unfolding apply alteration fine
altered d i (list o) G h f =
    set-map object_in d i _ ∙ ap (set (objects_from d) i) (object-list (get_or d i []) (G.long i h) o (both_true (reads o) (short_if o) f).1 ∙ ap (with_list o) (sym (object-in d i h)))
altered d i (mark m) G h f = set-map object_in d i _ ∙ ap (set (objects_from d) i) (object-mark (get_or d i []) (G.long i h) m ∙ ap (with_mark m) (sym (object-in d i h)))
altered d i (owners x y) G h f =
    let t = both_true (ordinary x) (ordinary y) f in
    set-map object_in d i _ ∙ ap (set (objects_from d) i) (object-owners (get_or d i []) (G.long i h) x y t.0 t.1 ∙ ap (with_owners x y) (sym (object-in d i h)))

-- where a new object stands
stands : (d : Blocks) (q : Option ℕ) → Placed (λ j. get_or d j []) (length d) q → (parent_byte q ≡ 255) ⊎ (parent_byte q < length d)
unfolding parent_byte
stands d none x = inl refl
stands d (some p) x = inr x.0

-- what a change makes of own data reads as what the model makes of the objects
pub change-like : (n : ℕ) → n ≤ 64 → (c : ChangeGiven) (d e : Blocks) → Good d → change n c d ≡ some e → Good e × (objects_from e ≡ apply (change_meant c) (objects_from d))
unfolding change change_meant apply
change-like n few (add new) d e G h =
    let o = object_for new in
    let b = block_for o in
    let w = when-some _ (d ++ (b ∷ [])) e h in
    let t₁ = both_true (placed_in (λ j. get_or d j []) (length d) o.parent) _ w.0 in
    let t₂ = both_true (ltb (length d) n) _ t₁.1 in
    let t₃ = both_true (reads o.list) _ t₂.1 in
    let t₄ = both_true (ordinary o.owner) _ t₃.1 in
    let t₅ = both_true (ordinary o.group) (short_if o.list) t₄.1 in
    let k : length d < n = ltb-true (length d) n t₂.0 in
    let l = length-guid new.type 0 in
    let at = placed-facts (λ j. get_or d j []) (length d) o.parent t₁.0 in
    let back = placed-parent (λ j. get_or d j []) (length d) o.parent (omega arith) at in
    let x = new-shows o l t₄.0 t₅.0 t₅.1 in
    rw (← w.1) (
      good_more d b G (new-good o l t₄.0 t₅.0 t₅.1 t₃.0) x.long (rw x.parent (stands d o.parent at)),
      map_more object_in d b ∙ ap (λ (y : Object). objects_from d ++ (y ∷ [])) (object-new o l t₄.0 t₅.0 t₅.1 back),
    )
change-like n few (alter i x) d e G h =
    let w = when-some (ltb i (length d) && fine x) (set d i (put_at (edit_at x) (edit_bytes x) (get_or d i []))) e h in
    let t = both_true (ltb i (length d)) (fine x) w.0 in
    let k = ltb-true i (length d) t.0 in
    let l = G.long i k in
    rw (← w.1) (
      good-set d i (edited x (get_or d i [])) G k (edit-good (get_or d i []) l x t.1 (G.sound i k)) (edit-long (get_or d i []) l x t.1) (edit-keeps (get_or d i []) l x t.1).parent,
      altered d i x G k t.1,
    )

-- and so does a replay
bind_is : {A B : Type 0} (o : Option A) (f : A → Option B) (y : B) → bind o f ≡ some y → (x : A) × ((o ≡ some x) × (f x ≡ some y))
unfolding bind
bind_is none f y h = let z : ◌≡◌ {A = ℕ} 0 1 = cc in absurd (omega arith)
bind_is (some x) f y h = (x, (refl, h))

pub replay-like : (n s : ℕ) (e : List ℕ) → n ≤ 64 → (cs : List ChangeGiven) (d : Blocks) → replay (rules n e) s cs ≡ some d → Good d × (objects_from d ≡ objects_after (map change_meant cs))
unfolding replay rules objects_after
replay-like n s e few [] d h = let z : [] ≡ d = cc in rw (← z) (good_none, refl)
replay-like n s e few (c ∷ cs) d h =
    let b = bind_is (replay (rules n e) s cs) (change n c) d h in
    let i = replay-like n s e few cs b.0 b.1.0 in
    let l = change-like n few c b.0 d i.0 b.1.1 in
    (l.0, l.1 ∙ ap (apply (change_meant c)) i.1)

-- ---- lists

-- room for 1,024 bytes
fits-is : (es : List (List ℕ)) → fits 1024 es ≡ leb (size_for es) 1024
fits-is es = by (leb (size_for es) 1024) refl
  where
    by : (b : Bool) → leb (size_for es) 1024 ≡ b → (b && leb (size_for es) 65532) ≡ b
    by true q = le-leb (size_for es) 65532 (omega (arith, leb-true (size_for es) 1024 q))
    by false q = refl

room-like : (r : Result) → taken (with_room 1024 r) (bytes_for r) ≡ fitting r
unfolding with_room fitting bytes_for
room-like absent = refl
room-like (holds es k) = rw (fits-is es, length-render (rev_for es) es) (by (leb (size_for es) 1024))
  where
    by : (b : Bool) → taken (cond b (done (size_for es) 1 (length es) k) (refused 8 0 0)) (bytes_for (holds es k)) ≡ cond b (some (some (bytes_for (holds es k)))) none
    by true = refl
    by false = refl

-- all that is gathered is there where each is
two-some : {A : Type 0} (a : Option (List A)) (b : Option A) → is_some (bind a (λ xs. bind b (λ x. some (xs ++ (x ∷ []))))) ≡ (is_some a && is_some b)
unfolding is_some bind
two-some none b = refl
two-some (some xs) none = refl
two-some (some xs) (some x) = refl

gathered : {A : Type 0} (n : ℕ) (f g : ℕ → Option A) → ((i : ℕ) → i < n → f i ≡ g i) → is_some (gather n f) ≡ every (λ i. is_some (g i)) n
unfolding gather every is_some
gathered zero f g h = refl
gathered (suc n) f g h = two-some (gather n f) (f n) ∙ rw (gathered n f g (λ i k. h i (omega arith)), h n (omega arith)) refl

-- in the tree whose settings lie in e
module _ (n s : ℕ) (e : List ℕ) (hr : rule_ok (rule_of e) ≡ true) (hd : reads (default_of e) ≡ true) where
  abbrev t : Settings
  t = settings_at n s e

  -- one list from the parent's
  computed-like : (p : MaybeList) (b : List ℕ) → reads p ≡ true → block_ok b ≡ true → computed e p b ≡ list_below t (object_in b) p
  unfolding computed
  computed-like p b hp hb =
      ap (λ (v : Values). taken v (bytes_for (result_of access (asked_in e p b)))) (passed-room (asked_in e p b) 1024 (all-passed e p b hr hp hb hd))
      ∙ room-like (result_of access (asked_in e p b))

  -- from the root: what is there was computed, so it reads as done, and its entries end at its length
  from-computed : (P : MaybeList → Type 0) → ((p : MaybeList) (b : List ℕ) (o : MaybeList) → computed e p b ≡ some o → P o)
      → (d : Blocks) (more i : ℕ) (o : MaybeList) → from_root e d more i ≡ some o → P o
  unfolding from_root
  from-computed P k d zero i o h = let z : ◌≡◌ {A = ℕ} 0 1 = cc in absurd (omega arith)
  from-computed P k d (suc more) i o h =
      let b = bind_is _ _ o h in
      k b.0 (get_or d i []) o b.1.1

  from-reads : (d : Blocks) (more i : ℕ) (o : MaybeList) → from_root e d more i ≡ some o → reads o ≡ true
  from-reads = from-computed (λ o. reads o ≡ true) (computed-reads e)

  -- what holds of each computed list holds of all that are worked out
  pub lists-computed : (P : MaybeList → Type 0) → ((p : MaybeList) (b : List ℕ) (o : MaybeList) → computed e p b ≡ some o → P o)
      → (d : Blocks) (ls : List MaybeList) → work e d ≡ some ls → (i : ℕ) → i < length d → P (get_or ls i none)
  unfolding work
  lists-computed P f d ls h i k = from-computed P f d (length d) i _ (gather-at none (length d) (from_root e d (length d)) ls h i k)

  module _ (d : Blocks) (G : Good d) where
    from_step : (more i : ℕ) → i < length d
        → ((p : ℕ) → p < length d → from_root e d more p ≡ list_from t (objects_from d) more p)
        → from_root e d (suc more) i ≡ list_from t (objects_from d) (suc more) i
    unfolding from_root list_from bind reads
    from_step more i h before = rw (object-in d i h) (by (eqb (parent_byte_in b) 255) refl)
      where
        b : List ℕ
        b = get_or d i []

        earlier : eqb (parent_byte_in b) 255 ≡ false → (parent_byte_in b ≡ 255) ⊎ (parent_byte_in b < i) → parent_byte_in b < i
        earlier q (inl e) = absurd (eqb-false _ _ q e)
        earlier q (inr l) = l

        by : (c : Bool) → eqb (parent_byte_in b) 255 ≡ c
            → bind (cond c (some none) (from_root e d more (parent_byte_in b))) (λ p. computed e p b)
            ≡ bind (above (cond c none (some (parent_byte_in b))) (list_from t (objects_from d) more)) (list_below t (object_in b))
        by true q = computed-like none b refl (G.sound i h)
        by false q =
            let k : parent_byte_in b < i = earlier q (G.ordered i h) in
            rw (← before (parent_byte_in b) (omega arith))
            (bind-like (from_root e d more (parent_byte_in b)) _ _ (λ p e. computed-like p b (from-reads d more (parent_byte_in b) p e) (G.sound i h)))

    from-like : (more i : ℕ) → i < length d → from_root e d more i ≡ list_from t (objects_from d) more i
    unfolding from_root list_from
    from-like zero i h = refl
    from-like (suc more) i h = from_step more i h (λ p k. from-like more p k)

    -- all of them are there in both or in neither, and are the same
    pub work-like : is_some (work e d) ≡ listed t (objects_from d)
    unfolding work listed
    work-like =
        rw (length-map object_in d)
        (gathered (length d) (from_root e d (length d)) (λ i. list_from t (objects_from d) (length d) i) (λ i h. from-like (length d) i h))

    pub list-like : (ls : List MaybeList) → work e d ≡ some ls → (i : ℕ) → i < length d
        → list_of t (objects_from d) i ≡ some (get_or ls i none)
    unfolding work
    list-like ls h i k =
        rw (length-map object_in d) (sym (from-like (length d) i k) ∙ gather-at none (length d) (from_root e d (length d)) ls h i k)

-- each object has no parent or an earlier one
pub earlier-in : (d : Blocks) → Good d → Earlier (objects_from d)
earlier-in d G i h =
    let k : i < length d = rw (length-map object_in d) at h in
    rw (object-in d i k) (by (eqb (parent_byte_in (get_or d i [])) 255) refl (G.ordered i k))
  where
    by : (b : Bool) → eqb (parent_byte_in (get_or d i [])) 255 ≡ b → (parent_byte_in (get_or d i []) ≡ 255) ⊎ (parent_byte_in (get_or d i []) < i)
        → (cond b none (some (parent_byte_in (get_or d i []))) ≡ none) ⊎ ((p : ℕ) × ((cond b none (some (parent_byte_in (get_or d i []))) ≡ some p) × (p < i)))
    by true e o = inl refl
    by false e (inl q) = absurd (eqb-false _ _ e q)
    by false e (inr l) = inr (parent_byte_in (get_or d i []), (refl, l))
