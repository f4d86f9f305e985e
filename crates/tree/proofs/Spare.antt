-- Spare bytes and the tree. Let any calls be made twice, as they are and without the spare bytes in the lists that they give: each call answers the same both
-- times, every computed list is the same, byte for byte, and of the objects the own lists alone differ. Left out is only a list of over 1,024 bytes, which is 8
-- with spare bytes that count and may be none without; and what the reading of an own list gives: that is the list as it was given.
use mathlib.Core.Path.{◌≡◌, refl, sym, ap, ap₂, subst, ◌∙◌}
use mathlib.Core.Bool.{Bool, true, false}
use mathlib.Core.List.{List, [], ◌∷◌, map}
use mathlib.Core.Option.{some}
use Prim.Native.Nat.{ℕ, ◌<◌}
use lib.ListN.{length}
use lib.Dec.{leb}
use Rattle.list.specs.List.{MaybeList}
use Rattle.inherit.specs.Spare.{bare_if}
use Rattle.tree.specs.Model as Model
use Rattle.tree.specs.Model.{Settings, Object, Part, short_if}
use Rattle.tree.specs.Held.{held}
use Rattle.tree.specs.Room.{objects, kept_steps, room_for, slot}
use Rattle.tree.specs.Calls.{Edit, list, mark, owners, start_to, answer_values, ChangeGiven, add, alter}
use Rattle.tree.specs.Shown.{settings_in, settings_from, objects_in, alteration, change_meant, Request, start, change, undo, read, counts, meant, read_with, answer_to, played_on}
use Rattle.tree.specs.Spare.{bare_object, bare_settings, bare_edit, bare_given, bare_request, list_given}
use Rattle.tree.proofs.Likeness.{length-map}
use Rattle.tree.proofs.Modelled.{objects-length}
use Rattle.tree.proofs.Numbers.{accepted-number}
use Rattle.tree.proofs.Reaches.{begun}
use Rattle.tree.proofs.Demand3.{Shows, start-as, demand3}
use Rattle.tree.proofs.Bare.{is_own, change_gives, bare_change, bare_call, call_gives, reads_own, bare_tree, ShortTree, ShortCalls}
use Rattle.tree.proofs.Bare.{objects-bare, owns, list-unseen, into-unseen, start-unseen, answer-unseen, after-bare}

-- a call as it is made and the model's call
edit-bare : (i : ℕ) (e : Edit) → alteration i (bare_edit e) ≡ bare_change (alteration i e)
unfolding alteration bare_edit bare_change
edit-bare i (list l) = refl
edit-bare i (mark m) = refl
edit-bare i (owners o g) = refl

change-bare : (c : ChangeGiven) → change_meant (bare_given c) ≡ bare_change (change_meant c)
unfolding change_meant bare_given bare_change
change-bare (add n) = refl
change-bare (alter i e) = edit-bare i e

meant-bare : (long : ℕ) (q : Request) → meant long (bare_request q) ≡ bare_call (meant long q)
unfolding meant bare_request bare_call
meant-bare long (start t) = refl
meant-bare long (change c) = ap Model.change (change-bare c)
meant-bare long undo = refl
meant-bare long (read x i out) = refl
meant-bare long counts = refl

meant-gives : (long : ℕ) (q : Request) → call_gives (meant long q) ≡ list_given q
unfolding meant list_given call_gives change_meant change_gives alteration
meant-gives long (start t) = refl
meant-gives long (change (add n)) = refl
meant-gives long (change (alter i (list l))) = refl
meant-gives long (change (alter i (mark m))) = refl
meant-gives long (change (alter i (owners o g))) = refl
meant-gives long undo = refl
meant-gives long (read x i out) = refl
meant-gives long counts = refl

-- without spare bytes a call gives its list without them
pub gives-bare : (q : Request) → list_given (bare_request q) ≡ bare_if (list_given q)
unfolding list_given bare_request bare_given bare_edit bare_if
gives-bare (start t) = refl
gives-bare (change (add n)) = refl
gives-bare (change (alter i (list l))) = refl
gives-bare (change (alter i (mark m))) = refl
gives-bare (change (alter i (owners o g))) = refl
gives-bare undo = refl
gives-bare (read x i out) = refl
gives-bare counts = refl

all-meant : (long : ℕ) (qs : List Request) → map (meant long) (map bare_request qs) ≡ map bare_call (map (meant long) qs)
all-meant long [] = refl
all-meant long (q ∷ qs) = ap₂ (λ (x : Model.Call) (xs : List Model.Call). x ∷ xs) (meant-bare long q) (all-meant long qs)

-- each list that is given has at most 1,024 bytes
abbrev pub ShortLists : List Request → Type 0
ShortLists [] = Unit
ShortLists (q ∷ qs) = (short_if (list_given q) ≡ true) × ShortLists qs

all_short : (long : ℕ) (qs : List Request) → ShortLists qs → ShortCalls (map (meant long) qs)
all_short long [] h = tt
all_short long (q ∷ qs) h = (ap short_if (meant-gives long q) ∙ h.0, all_short long qs h.1)

-- the call that reads an own list
unfoldable pub asks_own : Request → Bool
asks_own (start t) = false
asks_own (change c) = false
asks_own undo = false
asks_own (read x i out) = is_own x
asks_own counts = false

asks-meant : (long : ℕ) (q : Request) → asks_own q ≡ false → reads_own (meant long q) ≡ false
unfolding meant asks_own reads_own
asks-meant long (start t) h = refl
asks-meant long (change c) h = refl
asks-meant long undo h = refl
asks-meant long (read x i out) h = h
asks-meant long counts h = refl

-- the room r after calls, and the room w after the same without spare bytes
pub record Unseen (r w : List ℕ) : Type 0 where
  pub answers : (q : Request) → short_if (list_given q) ≡ true → asks_own q ≡ false → answer_to (bare_request q) w ≡ answer_to q r
  pub lists : (i : ℕ) → i < objects r → held (slot i w) ≡ held (slot i r)
  pub read_back : (x : Part) (i : ℕ) (out : List ℕ) → is_own x ≡ false → (read_with x i w out).bytes ≡ (read_with x i r out).bytes
  pub own-data : objects_in w ≡ map bare_object (objects_in r)
  pub settings : settings_in w ≡ bare_settings (settings_in r)
  pub kept : kept_steps w ≡ kept_steps r

some_same : {x y : MaybeList} → some x ≡ some y → x ≡ y
some_same h = cc

module _ (t : Settings) (r : List ℕ) (h : Model.accepted (answer_values (start_to t r).answer) ≡ true) (qs : List Request) (g : ShortLists qs) where
  d : short_if t.default ≡ true
  d = (begun t r (sym (accepted-number (start_to t r).answer) ∙ h)).short-default

  abbrev tree : Model.Tree
  tree = Model.after (Model.begun (settings_from t)) (map (meant (length r)) qs)

  short : ShortTree tree × (Model.after (Model.begun (bare_settings (settings_from t))) (map bare_call (map (meant (length r)) qs)) ≡ bare_tree tree)
  short = after-bare (Model.begun (settings_from t)) (record { default = d; changes = tt }) (map (meant (length r)) qs) (all_short (length r) qs g)

  starts : Model.accepted (answer_values (start_to (bare_settings t) r).answer) ≡ true
  starts =
      ap Model.accepted (start-as (bare_settings t) r ∙ start-unseen (settings_from t) (leb (room_for t.object-limit t.step-limit) (length r)) d ∙ sym (start-as t r)) ∙ h

  -- the room after the calls, and after the same without spare bytes
  abbrev room : List ℕ
  room = played_on qs (start_to t r).bytes

  abbrev bare_room : List ℕ
  bare_room = played_on (map bare_request qs) (start_to (bare_settings t) r).bytes

  as_is : Shows (length r) room tree
  as_is = demand3 t r h qs

  without : Shows (length r) bare_room (bare_tree tree)
  without =
      subst (Shows (length r) bare_room)
      (ap (Model.after (Model.begun (settings_from (bare_settings t)))) (all-meant (length r) qs) ∙ short.1)
      (demand3 (bare_settings t) r starts (map bare_request qs))

  own_same : objects_in bare_room ≡ map bare_object (objects_in room)
  own_same = without.objects-are ∙ objects-bare tree.changes ∙ ap (map bare_object) (sym as_is.objects-are)

  as_many : objects bare_room ≡ objects room
  as_many = sym (objects-length bare_room) ∙ ap length own_same ∙ length-map bare_object (objects_in room) ∙ objects-length room

  lists-same : (i : ℕ) → i < objects room → held (slot i bare_room) ≡ held (slot i room)
  lists-same i k =
      some_same
      (sym (without.lists-are i (subst (λ (n : ℕ). i < n) (sym as_many) k))
      ∙ ap (λ (os : List Object). Model.list_of (bare_settings tree.settings) os i) (objects-bare tree.changes)
      ∙ list-unseen tree.settings short.0.default (Model.objects_of tree) (owns tree.changes short.0.changes) i
      ∙ as_is.lists-are i k)

  back-same : (x : Part) (i : ℕ) (out : List ℕ) → is_own x ≡ false → (read_with x i bare_room out).bytes ≡ (read_with x i room out).bytes
  back-same x i out o =
      without.read_back x i out
      ∙ ap (λ (os : List Object). Model.read_into (bare_settings tree.settings) os x i out) (objects-bare tree.changes)
      ∙ into-unseen tree.settings short.0.default (Model.objects_of tree) (owns tree.changes short.0.changes) x i out o
      ∙ sym (as_is.read_back x i out)

  pub spare-unseen : Unseen (played_on qs (start_to t r).bytes) (played_on (map bare_request qs) (start_to (bare_settings t) r).bytes)
  spare-unseen =
      record {
        answers = λ q b o.
            without.answers (bare_request q)
            ∙ ap (Model.answer (bare_tree tree)) (meant-bare (length r) q)
            ∙ answer-unseen tree short.0 (meant (length r) q) (ap short_if (meant-gives (length r) q) ∙ b) (asks-meant (length r) q o)
            ∙ sym (as_is.answers q);
        lists = lists-same;
        read_back = back-same;
        own-data = own_same;
        settings = without.settings-are ∙ ap bare_settings (sym as_is.settings-are);
        kept = without.kept-are ∙ sym as_is.kept-are;
      }
