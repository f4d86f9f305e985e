-- Document 02, Seven: on any tree that calls reach from a start that was accepted, the order of changes of list, mark, owner and group to objects apart doesn't matter,
-- and two people in folders apart don't meet.
use mathlib.Core.Path.{◌≡◌, refl, sym, ap, ap₂, ◌∙◌, subst}
use mathlib.Core.Bool.{Bool, true, false, not, cond, beq}
use mathlib.Core.List.{List, [], ◌∷◌, ◌++◌, map, map-append, Permᴰ}
use mathlib.Core.Logic.{inl}
use Prim.Native.Nat.{ℕ, ◌<◌}
use lib.ListN.{length}
use lib.Dec.{ltb}
use borrow.Author.Tests.{lt-ltb, ltb-true}
use Rattle.list.specs.Answer.{Values}
use Rattle.tree.specs.General.{is_some, tab}
use Rattle.tree.specs.Held.{held}
use Rattle.tree.specs.Room.{objects, slot}
use Rattle.tree.specs.Model as Model
use Rattle.tree.specs.Model.{Settings, Object, object, Tree, objects_of, begun, answer, after}
use Rattle.tree.specs.Calls.{start_to, answer_values, ChangeGiven}
use Rattle.tree.specs.Shown.{settings_from, objects_in, lists_in, change_meant, Request, start, change, undo, read, counts, meant, call_on, answer_to, played_on, answers_on}
use Rattle.tree.specs.Apart.{Within, Elsewhere, Apart, changed_by, Alter, alters, altered_by, altered_answers, AllApart, Turn, turns_of, turned_by, answers_of, Keeps, InFolders}
use Rattle.tree.specs.Same.{NoUndo, SameRooms, SameObject}
use Rattle.tree.proofs.Tab.{tab-ext}
use Rattle.tree.proofs.Keeps.{formed-facts}
use Rattle.tree.proofs.Modelled.{objects-length}
use Rattle.tree.proofs.Exact.{earlier-shown}
use Rattle.tree.proofs.Demand3.{Shows, demand3}
use Rattle.tree.proofs.NoRoom.{Earlier}
use Rattle.tree.proofs.Apart.{some_is, Rooted, earlier-rooted, apart-turned, folders-apart}
use Rattle.tree.proofs.Altered.{all_listed}
use Rattle.tree.proofs.Alike.{Alike, alike_turned, alike-on, answer-alike, undoes, call-alike, Kept, kept-alike, read_kept, into-kept}
use Rattle.tree.proofs.Sequences.{asks, after_all, Standing, Lasting, after_then, kept-elsewhere, answer-after, both-alike, as_first, all-reordered, any-order-alike, changes, mixed-alike, mixed-answer, mixed-folder}

-- ---- a room beside the model's tree, whatever calls follow

record Together (long : ℕ) (r : List ℕ) (s : Tree) : Type 0 where
  later-shows : (qs : List Request) → Shows long (played_on qs r) (after s (map (meant long) qs))

played-then : (ps qs : List Request) (r : List ℕ) → played_on (ps ++ qs) r ≡ played_on ps (played_on qs r)
unfolding played_on
played-then [] qs r = refl
played-then (p ∷ ps) qs r = ap (λ (x : List ℕ). (call_on p x).bytes) (played-then ps qs r)

shows_then : (long : ℕ) (r : List ℕ) (s : Tree) (ps qs : List Request) → Shows long (played_on (ps ++ qs) r) (after s (map (meant long) (ps ++ qs)))
    → Shows long (played_on ps (played_on qs r)) (after (after s (map (meant long) qs)) (map (meant long) ps))
shows_then long r s ps qs S =
    subst (λ (x : List ℕ). Shows long x (after (after s (map (meant long) qs)) (map (meant long) ps))) (played-then ps qs r)
    (subst (λ (u : Tree). Shows long (played_on (ps ++ qs) r) u) (ap (after s) (map-append (meant long) ps qs) ∙ after_then s (map (meant long) ps) (map (meant long) qs)) S)

together : (t : Settings) (r : List ℕ) → Model.accepted (answer_values (start_to t r).answer) ≡ true → (qs : List Request)
    → Together (length r) (played_on qs (start_to t r).bytes) (after (begun (settings_from t)) (map (meant (length r)) qs))
together t r h qs =
    record { later-shows = λ ps. shows_then (length r) (start_to t r).bytes (begun (settings_from t)) ps qs (demand3 t r h (ps ++ qs)) }

-- ---- changes of list, mark, owner and group

meant-asks : (long : ℕ) (cs : List Alter) → map (meant long) (map alters cs) ≡ map asks cs
unfolding meant change_meant
meant-asks long [] = refl
meant-asks long (c ∷ cs) = ap (λ (qs : List Model.Call). asks c ∷ qs) (meant-asks long cs)

meant-one : (long : ℕ) (c : Alter) → meant long (alters c) ≡ asks c
unfolding meant change_meant
meant-one long c = refl

standing-shown : (long : ℕ) (r : List ℕ) (s : Tree) → Shows long r s → Standing s
unfolding is_some
standing-shown long r s S =
    record {
      rooted = earlier-rooted (objects_of s) (subst (λ (os : List Object). Earlier os) S.objects-are (earlier-shown r (formed-facts r S.well)));
      all_there = all_listed s.settings (objects_of s) (λ k l.
          rw (S.lists-are k (subst (λ (n : ℕ). k < n) (ap length (sym S.objects-are) ∙ objects-length r) l)) refl);
    }

module _ {long : ℕ} {r : List ℕ} {s : Tree} (T : Together long r s) where
  shows : Shows long r s
  unfolding played_on after
  shows = T.later-shows []

  together-then : (qs : List Request) → Together long (played_on qs r) (after s (map (meant long) qs))
  together-then qs = record { later-shows = λ ps. shows_then long r s ps qs (T.later-shows (ps ++ qs)) }

  together-after : (cs : List Alter) → Together long (altered_by cs r) (after_all s cs)
  together-after cs = subst (λ (qs : List Model.Call). Together long (altered_by cs r) (after s qs)) (meant-asks long cs) (together-then (map alters cs))

number-shown : {long : ℕ} {r : List ℕ} {s : Tree} → Together long r s → objects r ≡ length (objects_of s)
number-shown {r = r} T = sym (objects-length r) ∙ ap length (shows T).objects-are

lasting : {long : ℕ} {r : List ℕ} {s : Tree} → Together long r s → Lasting s
lasting T cs = standing-shown _ _ _ (shows (together-after T cs))

asks-said : {long : ℕ} {r : List ℕ} {s : Tree} → Together long r s → (c : Alter) → answer_to (alters c) r ≡ answer s (asks c)
asks-said {long = long} {s = s} T c = (shows T).answers (alters c) ∙ ap (answer s) (meant-one long c)

-- ---- rooms that are the same, and an object in two rooms

no-undo : (long : ℕ) (q : Request) (qs : List Request) → NoUndo (q ∷ qs) → (undoes (meant long q) ≡ false) × NoUndo qs
unfolding undoes meant
no-undo long (start t) qs n = (refl, n)
no-undo long (change c) qs n = (refl, n)
no-undo long undo qs n = absurd n
no-undo long (read x i out) qs n = (refl, n)
no-undo long counts qs n = (refl, n)

after-alike : (long : ℕ) (s v : Tree) → Alike s v → (qs : List Request) → NoUndo qs → Alike (after s (map (meant long) qs)) (after v (map (meant long) qs))
unfolding after
after-alike long s v A [] n = A
after-alike long s v A (q ∷ qs) n =
    let m = no-undo long q qs n in
    call-alike (after s (map (meant long) qs)) (after v (map (meant long) qs)) (after-alike long s v A qs m.1) (meant long q) m.0

module _ {long : ℕ} {r u : List ℕ} {s v : Tree} (T : Together long r s) (U : Together long u v) where
  -- what a call answers, where the trees give it the same answer
  said_same : (q : Request) → answer s (meant long q) ≡ answer v (meant long q) → answer_to q r ≡ answer_to q u
  said_same q e = (shows T).answers q ∙ e ∙ sym ((shows U).answers q)

  -- an object of which the trees say the same
  same_object : (k : ℕ) → Kept s v k → SameObject r u k
  unfolding Model.answer meant
  same_object k K =
      record {
        own-data = ap (λ (os : List Object). object os k) (shows T).objects-are ∙ sym K.own-data ∙ sym (ap (λ (os : List Object). object os k) (shows U).objects-are);
        list = λ h.
            let l : ltb k (length (objects_of s)) ≡ true = ap (ltb k) (sym (number-shown T)) ∙ lt-ltb k (objects r) h in
            let m : k < objects u = ltb-true k (objects u) (ap (ltb k) (number-shown U) ∙ K.stands ∙ l) in
            some_is _ _ (sym ((shows T).lists-are k h) ∙ sym (K.list l) ∙ (shows U).lists-are k m);
        read_answer = λ x out. said_same (read x k out) (sym (read_kept s v k K x (length out)));
        read_back = λ x out. (shows T).read_back x k out ∙ sym (into-kept s v k K x out) ∙ sym ((shows U).read_back x k out);
      }

  lists-same : Alike s v → lists_in r ≡ lists_in u
  unfolding lists_in
  lists-same A =
      let n : objects r ≡ objects u = number-shown T ∙ ap length A.objects-are ∙ sym (number-shown U) in
      tab-ext (objects r) _ _ (λ i h. (same_object i (kept-alike s v i (alike_turned s v A))).list h) ∙ ap (λ (m : ℕ). tab m (λ i. held (slot i u))) n

module _ {long : ℕ} {r u : List ℕ} {s v : Tree} (T : Together long r s) (U : Together long u v) (A : Alike s v) where
  later_same : (qs : List Request) → NoUndo qs → answers_on qs r ≡ answers_on qs u
  unfolding answers_on
  later_same [] n = refl
  later_same (q ∷ qs) n =
      let m = (no-undo long q qs n).1 in
      ap₂ (λ (x : Values) (xs : List Values). x ∷ xs)
      (said_same (together-then T qs) (together-then U qs) q (answer-alike _ _ (after-alike long s v A qs m) (meant long q)))
      (later_same qs m)

  same-rooms : SameRooms r u
  same-rooms =
      record {
        settings-are = (shows T).settings-are ∙ A.settings-are ∙ sym (shows U).settings-are;
        own-data = (shows T).objects-are ∙ A.objects-are ∙ sym (shows U).objects-are;
        lists = lists-same T U A;
        steps = (shows T).kept-are ∙ A.kept-are ∙ sym (shows U).kept-are;
        undo-answer = said_same T U undo (answer-alike s v A (meant long undo));
        later = later_same;
        read_back = λ qs n x i out. (same_object (together-then T qs) (together-then U qs) i (kept-alike _ _ i (alike_turned _ _ (after-alike long s v A qs n)))).read_back x out;
      }

-- ---- the theorems

-- two changes in either order, on the room r
pub record OrderFree (r : List ℕ) (c d : Alter) : Type 0 where
  pub first : answer_to (alters c) (altered_by (d ∷ []) r) ≡ answer_to (alters c) r
  pub second : answer_to (alters d) (altered_by (c ∷ []) r) ≡ answer_to (alters d) r
  pub rooms : SameRooms (altered_by (d ∷ c ∷ []) r) (altered_by (c ∷ d ∷ []) r)

-- changes in their order and in another: each answers what it would answer as the first
pub record AnyOrder (r : List ℕ) (cs ds : List Alter) : Type 0 where
  pub answers : altered_answers cs r ≡ map (λ (c : Alter). answer_to (alters c) r) cs
  pub answers-reordered : altered_answers ds r ≡ map (λ (c : Alter). answer_to (alters c) r) ds
  pub rooms : SameRooms (altered_by cs r) (altered_by ds r)

-- turns of two, of which one keeps to folder a: answered, and the folder found, as if the other weren't there; the room as if the other came after
pub record AsIfAlone (r : List ℕ) (who : Bool) (a : ℕ) (zs : List Turn) : Type 0 where
  pub answers : answers_of who zs r ≡ altered_answers (turns_of who zs) r
  pub folder : (k : ℕ) → Within (objects_in r) a k → SameObject (altered_by (turns_of who zs) r) (turned_by zs r) k
  pub rooms : SameRooms (turned_by zs r) (altered_by (turns_of (not who) zs) (altered_by (turns_of who zs) r))

module _ {long : ℕ} {r : List ℕ} {s : Tree} (T : Together long r s) where
  order-free-here : (c d : Alter) → Apart (objects_in r) c.object d.object → OrderFree r c d
  unfolding after
  order-free-here c d A =
      let B = rw (shows T).objects-are at A in
      record {
        first = asks-said (together-after T (d ∷ [])) c ∙ answer-after s (lasting T) d c (apart-turned _ c.object d.object B) ∙ sym (asks-said T c);
        second = asks-said (together-after T (c ∷ [])) d ∙ answer-after s (lasting T) c d B ∙ sym (asks-said T d);
        rooms = same-rooms (together-after T (d ∷ c ∷ [])) (together-after T (c ∷ d ∷ [])) (both-alike s (lasting T) c d B);
      }

  answers-first : (cs : List Alter) → AllApart (objects_of s) cs → altered_answers cs r ≡ map (λ (c : Alter). answer_to (alters c) r) cs
  unfolding answers_on
  answers-first [] F = refl
  answers-first (c ∷ cs) F =
      ap₂ (λ (x : Values) (xs : List Values). x ∷ xs)
      (asks-said (together-after T cs) c ∙ as_first s (lasting T) c cs F.0 ∙ sym (asks-said T c)) (answers-first cs F.1)

  any-order-here : (cs ds : List Alter) → Permᴰ cs ds → AllApart (objects_in r) cs → AnyOrder r cs ds
  any-order-here cs ds p F =
      let G : AllApart (objects_of s) cs = subst (λ (os : List Object). AllApart os cs) (shows T).objects-are F in
      record {
        answers = answers-first cs G;
        answers-reordered = answers-first ds (all-reordered (objects_of s) p G);
        rooms = same-rooms (together-after T cs) (together-after T ds) (any-order-alike s (lasting T) p G);
      }

  answers-alone : (who : Bool) (a : ℕ) (zs : List Turn) → Keeps (objects_of s) who a zs → answers_of who zs r ≡ altered_answers (turns_of who zs) r
  unfolding answers_of turns_of answers_on
  answers-alone who a [] K = refl
  answers-alone who a (z ∷ zs) K = by (beq z.first who) K.0 (answers-alone who a zs K.1)
    where
      by : (b : Bool) → cond b (Within (objects_of s) a z.change.object) (Apart (objects_of s) a z.change.object) → answers_of who zs r ≡ altered_answers (turns_of who zs) r
          → cond b (answer_to (alters z.change) (turned_by zs r) ∷ answers_of who zs r) (answers_of who zs r) ≡ altered_answers (cond b (z.change ∷ turns_of who zs) (turns_of who zs)) r
      by true v e =
          ap₂ (λ (x : Values) (xs : List Values). x ∷ xs)
          (asks-said (together-after T (changes zs)) z.change ∙ mixed-answer s (lasting T) who a zs K.1 z.change v ∙ sym (asks-said (together-after T (turns_of who zs)) z.change)) e
      by false A e = e

  alone-here : (who : Bool) (a : ℕ) (zs : List Turn) → Keeps (objects_in r) who a zs → AsIfAlone r who a zs
  alone-here who a zs F =
      let K : Keeps (objects_of s) who a zs = subst (λ (os : List Object). Keeps os who a zs) (shows T).objects-are F in
      record {
        answers = answers-alone who a zs K;
        folder = λ k v. same_object (together-after T (turns_of who zs)) (together-after T (changes zs)) k
            (mixed-folder s (lasting T) who a zs K k (subst (λ (os : List Object). Within os a k) (shows T).objects-are v));
        rooms = same-rooms (together-after T (changes zs)) (together-after (together-after T (turns_of who zs)) (turns_of (not who) zs)) (mixed-alike s (lasting T) who a zs K);
      }

  mixes-here : (who : Bool) (a : ℕ) (zs ys : List Turn) → Keeps (objects_in r) who a zs → Keeps (objects_in r) who a ys → turns_of who zs ≡ turns_of who ys → turns_of (not who) zs ≡ turns_of (not who) ys
      → SameRooms (turned_by zs r) (turned_by ys r)
  mixes-here who a zs ys F G e f =
      let K : Keeps (objects_of s) who a zs = subst (λ (os : List Object). Keeps os who a zs) (shows T).objects-are F in
      let M : Keeps (objects_of s) who a ys = subst (λ (os : List Object). Keeps os who a ys) (shows T).objects-are G in
      same-rooms (together-after T (changes zs)) (together-after T (changes ys))
      (alike-on _ _ _ (rw (e, f) at (mixed-alike s (lasting T) who a zs K)) (alike_turned _ _ (mixed-alike s (lasting T) who a ys M)))

  elsewhere-here : (c : ChangeGiven) (k : ℕ) → Elsewhere (objects_in r) (changed_by (change_meant c) (objects_in r)) k → SameObject r (played_on (change c ∷ []) r) k
  unfolding after meant
  elsewhere-here c k w =
      same_object T (together-then T (change c ∷ [])) k
      (kept-elsewhere s (standing-shown _ _ _ (shows T)) (change_meant c) k (subst (λ (os : List Object). Elsewhere os (changed_by (change_meant c) os) k) (shows T).objects-are w))

-- turns of two in their own folders, seen by one of them
own-folder : (os : List Object) (a b : ℕ) → Apart os a b → (who : Bool) (zs : List Turn) → InFolders os a b zs → Keeps os who (cond who a b) zs
own-folder os a b A who [] F = tt
own-folder os a b A who (z ∷ zs) F = (by z.first who F.0, own-folder os a b A who zs F.1)
  where
    by : (x y : Bool) → Within os (cond x a b) z.change.object → cond (beq x y) (Within os (cond y a b) z.change.object) (Apart os (cond y a b) z.change.object)
    by true true v = v
    by true false v = folders-apart os b a b z.change.object (apart-turned os a b A) (inl refl) v
    by false true v = folders-apart os a b a z.change.object A (inl refl) v
    by false false v = v

-- the room that calls reach
abbrev pub reached : Settings → List ℕ → List Request → List ℕ
reached t r qs = played_on qs (start_to t r).bytes

module _ (t : Settings) (r : List ℕ) (h : Model.accepted (answer_values (start_to t r).answer) ≡ true) (qs : List Request) where
  -- following parents ends at the root
  pub rooted-reached : Rooted (objects_in (reached t r qs))
  rooted-reached = subst (λ (os : List Object). Rooted os) (sym (shows (together t r h qs)).objects-are) (standing-shown _ _ _ (shows (together t r h qs))).rooted

  pub order-free : (c d : Alter) → Apart (objects_in (reached t r qs)) c.object d.object → OrderFree (reached t r qs) c d
  order-free = order-free-here (together t r h qs)

  pub any_order : (cs ds : List Alter) → Permᴰ cs ds → AllApart (objects_in (reached t r qs)) cs → AnyOrder (reached t r qs) cs ds
  any_order = any-order-here (together t r h qs)

  -- what one change leaves alone, an add too: whatever is neither the changed object nor below it
  pub elsewhere : (c : ChangeGiven) (k : ℕ) → Elsewhere (objects_in (reached t r qs)) (changed_by (change_meant c) (objects_in (reached t r qs))) k
      → SameObject (reached t r qs) (reached t r (change c ∷ qs)) k
  unfolding played_on
  elsewhere = elsewhere-here (together t r h qs)

  pub as-if-alone : (who : Bool) (a : ℕ) (zs : List Turn) → Keeps (objects_in (reached t r qs)) who a zs → AsIfAlone (reached t r qs) who a zs
  as-if-alone = alone-here (together t r h qs)

  -- two people, each in a folder of their own
  pub two-people : (a b : ℕ) → Apart (objects_in (reached t r qs)) a b → (zs : List Turn) → InFolders (objects_in (reached t r qs)) a b zs
      → AsIfAlone (reached t r qs) true a zs × AsIfAlone (reached t r qs) false b zs
  two-people a b A zs F = (as-if-alone true a zs (own-folder _ a b A true zs F), as-if-alone false b zs (own-folder _ a b A false zs F))

  -- and any two mixes of the same turns leave the same room
  pub any-mix : (a b : ℕ) → Apart (objects_in (reached t r qs)) a b → (zs ys : List Turn) → InFolders (objects_in (reached t r qs)) a b zs → InFolders (objects_in (reached t r qs)) a b ys
      → turns_of true zs ≡ turns_of true ys → turns_of false zs ≡ turns_of false ys → SameRooms (turned_by zs (reached t r qs)) (turned_by ys (reached t r qs))
  any-mix a b A zs ys F G e f = mixes-here (together t r h qs) true a zs ys (own-folder _ a b A true zs F) (own-folder _ a b A true ys G) e f
