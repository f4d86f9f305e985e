-- A change in any well-formed room, reached by calls or not, answers what the model answers for the objects that the room shows.
use mathlib.Core.Path.{◌≡◌, refl, sym, ap, ◌∙◌, subst}
use mathlib.Core.Bool.{Bool, true, false, ◌&&◌}
use mathlib.Core.List.{List, [], ◌∷◌, ◌++◌, map}
use mathlib.Core.Option.{Option, none, some}
use Prim.Native.Nat.{ℕ, zero, suc, ◌+◌, ◌≤◌, ◌<◌}
use native.Mathlib.Omega.{arith}
use lib.ListN.{length, get_or, set, take, length-append, length-set}
use lib.Dec.{ltb}
use borrow.Author.Tests.{ltb-true, lt-ltb, le-ltb}
use Rattle.octets.specs.Order.{need}
use Rattle.octets.specs.Bytes.{put_at, front}
use Rattle.list.specs.Entry.{access}
use Rattle.list.specs.List.{check_of, MaybeList}
use Rattle.list.specs.Answer.{Values, refused}
use Rattle.std.specs.Prelude.{Result, Ok, Err}
use Rattle.list.specs.declared.readings.Read.{Read}
use Rattle.refusal.specs.declared.Fault.{Fault}
use Rattle.octets.proofs.Places.{split, length_part, part-front}
use Rattle.octets.proofs.Tests.{both_true}
use Rattle.inherit.specs.Compute.{ordinary, rule_ok, on_reading as Values·on_reading, readable as Values·readable}
use Rattle.refusal.specs.Numbers.{number_of}
use Rattle.refusal.specs.declared.Refusal.{Refusal}
use Rattle.refusal.specs.declared.Refusal.TheVariants as Why
use Rattle.tree.specs.Model.{short_if}
use Rattle.tree.specs.General.{is_some, tab}
use Rattle.tree.specs.Held.{held, is_done, slot_ok, parent_in, block_for}
use Rattle.tree.specs.Room.{object_limit, step_limit, objects, room_for, settings, rule_of, default_of, default_slot, own_at, own_data, slot, area}
use Rattle.tree.specs.Formed.{settings_ok, placed_in, formed}
use Rattle.tree.specs.Inner.Heads.{Head}
use Rattle.tree.specs.Calls.{Outcome, refuse, Edit, list, mark, owners, on_reading_to, readable_to, told_as, on_object, edit_at, edit_bytes, edit_put, add_put, tested, change_ends, change_to, New, nobody, object_for}
use Rattle.tree.specs.Calls.{add_to, alter_to, answer_values, ChangeGiven, add, alter}
use Rattle.tree.proofs.History.{edit, settled, edited, after}
use Rattle.tree.proofs.Replay.{Blocks, Undo, reads, fine, addable, when, change, keep, work, rules, shown, Tree}
use Rattle.tree.proofs.Played.{call_to, accepted}
use Rattle.tree.proofs.Tab.{length-tab, get_d-tab}
use Rattle.tree.proofs.Areas.{area_byte, area-length, area-ready}
use Rattle.tree.proofs.Became.{change-became}
use Rattle.tree.proofs.Machine.{placed-tab}
use Rattle.tree.proofs.Keeps.{Formed, facts-formed}
use Rattle.tree.proofs.Blocks.{length-guid, new-shows}
use Rattle.tree.proofs.Edits.{edit-fits}
use Rattle.tree.proofs.Answered.{need-yes}
use Rattle.tree.proofs.Plays.{Passes, on, stop, then, need-first, reads_first, tested-first, accepted-told, call_ends}
use Rattle.tree.proofs.Slots.{slot-reads}
use Rattle.tree.proofs.Turns.{owned-ordered}
use Rattle.tree.specs.Model as Model
use Rattle.tree.specs.Shown.{settings_in, object_in, objects_in, alteration, change_meant, change_with}
use Rattle.tree.proofs.Likeness.{map_more, Good, objects_from, change-like, work-like, list-like}

-- ---- one test of a call, and of the model

-- the values of what a call answers
abbrev pub said : Outcome → Values
said o = answer_values o.answer

pub need-as : (b : Bool) (k : Refusal) (r : List ℕ) (o : Outcome) (v : Values) → (b ≡ true → said o ≡ v) → said (need b (refuse k 0 0 r) o) ≡ need b (refused (number_of k) 0 0) v
unfolding need
need-as true k r o v h = h refl
need-as false k r o v h = refl

-- the same test in other words
pub test-as : (b c : Bool) (k : Refusal) (r : List ℕ) (o : Outcome) (v : Values) → b ≡ c → (b ≡ true → said o ≡ v)
    → said (need b (refuse k 0 0 r) o) ≡ need c (refused (number_of k) 0 0) v
test-as b c k r o v e h = rw (← e) (need-as b k r o v h)

module _ (which : ℕ) (r : List ℕ) (o : Outcome) (v : Values) where
  reading-as : (x : Result Read Fault) → (is_done x ≡ true → said o ≡ v) → said (on_reading_to x which r o) ≡ Values·on_reading x which v
  unfolding on_reading_to Values·on_reading
  reading-as (Ok read) h = h refl
  reading-as (Err fault) h = refl

  pub readable-as : (l : MaybeList) → (reads l ≡ true → said o ≡ v) → said (readable_to l which r o) ≡ Values·readable l which v
  unfolding readable_to Values·readable reads
  readable-as none h = h refl
  readable-as (some s) h = reading-as (check_of access s) h

pub short-is : (o : MaybeList) → short_if o ≡ Model.short_if o
unfolding Model.short_if
short-is none = refl
short-is (some s) = refl

pub told_is : (o : MaybeList) → answer_values (told_as o) ≡ Model.told (some o)
unfolding told_as Model.told
told_is none = refl
told_is (some s) = refl

passed_on : {r : List ℕ} {o rest : Outcome} (b : Bool) → Passes r o rest b → b ≡ true → o ≡ rest
passed_on true (on e) h = e
passed_on false (stop x) h = let z : ◌≡◌ {A = ℕ} 0 1 = cc in absurd (omega arith)

-- ---- a room's objects

map-tab : {A B : Type 0} (f : A → B) (n : ℕ) (g : ℕ → A) → map f (tab n g) ≡ tab n (λ i. f (g i))
unfolding tab
map-tab f zero g = refl
map-tab f (suc n) g = map_more f (tab n g) (g n) ∙ rw (map-tab f n g) refl

pub objects-shown : (r : List ℕ) → objects_from (shown r).own ≡ objects_in r
unfolding shown objects_in
objects-shown r = map-tab object_in (objects r) (λ i. own_data i r)

pub shown-length : (r : List ℕ) → length (shown r).own ≡ objects r
unfolding shown
shown-length r = length-tab (objects r) (λ i. own_data i r)

pub objects-length : (r : List ℕ) → length (objects_in r) ≡ objects r
unfolding objects_in
objects-length r = length-tab (objects r) (λ i. object_in (own_data i r))

pub object-at : (r : List ℕ) (i : ℕ) → i < objects r → Model.object (objects_in r) i ≡ object_in (own_data i r)
unfolding objects_in
object-at r i h = get_d-tab (objects r) (λ i. object_in (own_data i r)) i Model.no-object h

-- the place of a new object
placed-is : (r : List ℕ) (q : Option ℕ) → placed_in (λ j. own_data j r) (objects r) q ≡ Model.placed (objects_in r) q
unfolding placed_in Model.placed
placed-is r none = rw (objects-length r) refl
placed-is r (some p) =
    rw (objects-length r)
    (split (objects r) p
    (λ h. rw (le-ltb p (objects r) h) refl)
    (λ h. rw (object-at r p h) refl))

pub own-long : (r : List ℕ) → Head r → (i : ℕ) → i < objects r → length (own_data i r) ≡ 1184
unfolding own_data
own-long r H i h = length_part (own_at i) 1184 r (omega arith)

-- own data of a well-formed room
pub good-shown : (r : List ℕ) → Formed r → Good (shown r).own
unfolding shown
good-shown r F =
    record {
      sound = λ i h. let k = rw (length-tab (objects r) (λ i. own_data i r)) at h in rw (get_d-tab (objects r) (λ i. own_data i r) i [] k) (F.owned i k).0;
      long = λ i h. let k = rw (length-tab (objects r) (λ i. own_data i r)) at h in rw (get_d-tab (objects r) (λ i. own_data i r) i [] k) (own-long r F.head i k);
      ordered = λ i h. let k = rw (length-tab (objects r) (λ i. own_data i r)) at h in
          rw (get_d-tab (objects r) (λ i. own_data i r) i [] k) (owned-ordered (objects r) (λ j. own_data j r) F.owned i k);
    }

-- ---- the end of a change, in a well-formed room

pub settings-facts : (e : List ℕ) → settings_ok e ≡ true → (rule_ok (rule_of e) ≡ true) × (reads (default_of e) ≡ true)
unfolding settings_ok
settings-facts e h =
    let b = both_true (rule_ok (rule_of e)) (slot_ok (default_slot e)) h in
    (b.0, slot-reads (default_slot e) b.1)

module _ (r : List ℕ) (F : Formed r) where
  abbrev t : Model.Settings
  t = settings_in r

  e-rule : rule_ok (rule_of (settings r)) ≡ true
  e-rule = (settings-facts (settings r) F.settings-ok).0

  e-default : reads (default_of (settings r)) ≡ true
  e-default = (settings-facts (settings r) F.settings-ok).1

  pub works-like : (d : Blocks) → Good d → is_some (work (settings r) d) ≡ Model.listed t (objects_from d)
  works-like d G = work-like (object_limit r) (step_limit r) (settings r) e-rule e-default d G

  pub lists-like : (d : Blocks) → Good d → (ls : List MaybeList) → work (settings r) d ≡ some ls → (i : ℕ) → i < length d
      → Model.list_of t (objects_from d) i ≡ some (get_or ls i none)
  lists-like d G ls h i k = list-like (object_limit r) (step_limit r) (settings r) e-rule e-default d G ls h i k

  -- the model's end, by whether every list can be worked out
  outcome-none : (d : Blocks) (i : ℕ) → Good d → work (settings r) d ≡ none → Model.outcome t (objects_from d) i ≡ refused 8 0 0
  unfolding Model.outcome need is_some
  outcome-none d i G e = rw (← works-like d G, e) refl

  outcome-some : (d : Blocks) (i : ℕ) (ls : List MaybeList) → Good d → i < length d → work (settings r) d ≡ some ls
      → Model.outcome t (objects_from d) i ≡ answer_values (told_as (get_or ls i none))
  unfolding Model.outcome need is_some
  outcome-some d i ls G h e = rw (← works-like d G, e, lists-like d G ls e i h) (sym (told_is (get_or ls i none)))

  slot-front : (w : List ℕ) (i : ℕ) → length w ≡ room_for (object_limit r) (step_limit r) → i < object_limit r → slot i (front w r) ≡ slot i w
  unfolding slot
  slot-front w i l h = part-front _ 1027 w _ (omega arith)

  lists_at : (w : List ℕ) (d : Blocks) (us : List Undo) (ls : List MaybeList) (i : ℕ) → record { own = d; lists = ls; kept = us } ≡ shown (front w r)
      → i < length d → get_or ls i none ≡ held (slot i (front w r))
  unfolding shown
  lists_at w d us ls i e h =
      let n : length d ≡ objects (front w r) = ap (λ (x : Tree). length x.own) e ∙ length-tab (objects (front w r)) _ in
      ap (λ (x : Tree). get_or x.lists i none) e ∙ get_d-tab (objects (front w r)) (λ j. held (slot j (front w r))) i none (omega arith)

  finish-as : (i : ℕ) (o : Option (List ℕ)) (d : Blocks) (us : List Undo) (W : Option (List MaybeList)) → Good d → i < length d → i < object_limit r
      → ((w : List ℕ) → o ≡ some w → length w ≡ room_for (object_limit r) (step_limit r)) → work (settings r) d ≡ W
      → settled (rules (object_limit r) (settings r)) (step_limit r) d us W ≡ when (accepted (change_ends i r o).answer) (shown (change_ends i r o).bytes)
      → said (change_ends i r o) ≡ Model.outcome t (objects_from d) i
  unfolding change_ends settled
  finish-as i none d us none G h k l e q = sym (outcome-none d i G e)
  finish-as i none d us (some ls) G h k l e q = let z : ◌≡◌ {A = ℕ} 0 1 = cc in absurd (omega arith)
  finish-as i (some w) d us none G h k l e q =
      let a = rw (accepted-told (held (slot i w))) at q in
      let z : ◌≡◌ {A = ℕ} 0 1 = cc in absurd (omega arith)
  finish-as i (some w) d us (some ls) G h k l e q =
      let a = rw (accepted-told (held (slot i w))) at q in
      let s : record { own = d; lists = ls; kept = us } ≡ shown (front w r) = cc in
      let x : get_or ls i none ≡ held (slot i w) = lists_at w d us ls i s h ∙ ap held (slot-front w i (l w refl) k) in
      ap (λ (y : MaybeList). answer_values (told_as y)) (sym x) ∙ sym (outcome-some d i ls G h e)

  machine-is : (c : ChangeGiven) (d : Blocks) → change (object_limit r) c (shown r).own ≡ some d
      → after (rules (object_limit r) (settings r)) (step_limit r) (shown r) (edit c)
      ≡ settled (rules (object_limit r) (settings r)) (step_limit r) d (take (step_limit r) (keep c (shown r).own ∷ (shown r).kept)) (work (settings r) d)
  unfolding after edited rules
  machine-is c d e = rw e refl

  -- a change whose tests were passed
  go-as : (c : ChangeGiven) (d : Blocks) (i : ℕ) (o : Option (List ℕ)) → change (object_limit r) c (shown r).own ≡ some d → call_to (edit c) r ≡ change_ends i r o
      → i < length d → i < object_limit r → ((w : List ℕ) → o ≡ some w → length w ≡ room_for (object_limit r) (step_limit r))
      → said (change_ends i r o) ≡ Model.outcome t (Model.apply (change_meant c) (objects_in r)) i
  go-as c d i o e q h k l =
      let us = take (step_limit r) (keep c (shown r).own ∷ (shown r).kept) in
      let T = sym (machine-is c d e) ∙ (call_ends r (facts-formed r F) (edit c)).told in
      let T₁ = subst (λ (x : Outcome). settled (rules (object_limit r) (settings r)) (step_limit r) d us (work (settings r) d)
      ≡ when (accepted x.answer) (shown x.bytes)) q T in
      let L = change-like (object_limit r) F.head.limit-64 c (shown r).own d (good-shown r F) e in
      finish-as i o d us (work (settings r) d) L.0 h k l refl T₁
      ∙ ap (λ (os : List Model.Object). Model.outcome t os i) (L.1 ∙ ap (Model.apply (change_meant c)) (objects-shown r))

  -- ---- an alteration

  alter-is : (i : ℕ) (e : Edit) → i < objects r → fine e ≡ true → call_to (edit (alter i e)) r ≡ change_to (edit_put i e (objects r)) r
  unfolding call_to alter_to on_object
  alter-is i e h f =
      let go : Outcome = change_to (edit_put i e (objects r)) r in
      passed_on (formed r && (ltb i (objects r) && fine e))
      (then r _ _ go (formed r) (ltb i (objects r) && fine e) (need-first (formed r) Why.Tree r _)
      (then r _ _ go (ltb i (objects r)) (fine e) (need-first (ltb i (objects r)) Why.Object r _) (tested-first e r go)))
      (rw (facts-formed r F, lt-ltb i (objects r) h) f)

  alter-change : (i : ℕ) (e : Edit) → i < objects r → fine e ≡ true
      → change (object_limit r) (alter i e) (shown r).own ≡ some (set (shown r).own i (put_at (edit_at e) (edit_bytes e) (get_or (shown r).own i [])))
  unfolding change
  alter-change i e h f = rw (lt-ltb i (length (shown r).own) (omega (arith, shown-length r)), f) refl

  alter-go : (i : ℕ) (e : Edit) → i < objects r → fine e ≡ true
      → said (change_to (edit_put i e (objects r)) r) ≡ Model.outcome t (Model.apply (alteration i e) (objects_in r)) i
  unfolding change_meant
  alter-go i e h f =
      let H : Head r = F.head in
      let a = area_byte r 0 (omega arith) in
      let fits : edit_at e + length (edit_bytes e) ≤ 1184 = omega (arith, edit-fits e f) in
      go-as (alter i e) _ i _ (alter-change i e h f) (alter-is i e h f)
      (rw (length-set (shown r).own i (put_at (edit_at e) (edit_bytes e) (get_or (shown r).own i [])), shown-length r) h) (omega (arith, H.within))
      (λ w q. (change-became (area r) (area-ready r H) (edit_put i e (objects r)) (omega (arith, H.within)) (omega (arith, H.within)) fits w q).size
      ∙ area-length r H)

  alter-as : (i : ℕ) (e : Edit) → said (alter_to i e r) ≡ Model.change_answer t (objects_in r) (alteration i e)
  unfolding alter_to on_object tested Model.change_answer alteration fine
  alter-as i (list o) =
      ap said (need-yes Why.Tree r _ (facts-formed r F))
      ∙ rw (objects-length r, ← short-is o)
      (need-as (ltb i (objects r)) Why.Object r _ _ (λ h.
      readable-as 2 r _ _ o (λ g.
      need-as (short_if o) Why.Room r _ _ (λ f. alter-go i (list o) (ltb-true i (objects r) h) (rw (g, f) refl)))))
  alter-as i (mark m) =
      ap said (need-yes Why.Tree r _ (facts-formed r F))
      ∙ rw (objects-length r)
      (need-as (ltb i (objects r)) Why.Object r _ _ (λ h. alter-go i (mark m) (ltb-true i (objects r) h) refl))
  alter-as i (owners x y) =
      ap said (need-yes Why.Tree r _ (facts-formed r F))
      ∙ rw (objects-length r)
      (need-as (ltb i (objects r)) Why.Object r _ _ (λ h.
      need-as (ordinary x) Why.Identity r _ _ (λ f.
      need-as (ordinary y) Why.Identity r _ _ (λ g. alter-go i (owners x y) (ltb-true i (objects r) h) (rw (f, g) refl)))))

  -- ---- an add

  -- what it asks
  asks : New → Bool
  asks new = addable (object_limit r) new (objects r) (λ j. own_data j r)

  add_is : (new : New) → asks new ≡ true → call_to (edit (add new)) r ≡ change_to (add_put (object_for new) (objects r)) r
  unfolding call_to add_to asks
  add_is new ask =
      let go : Outcome = change_to (add_put (object_for new) (objects r)) r in
      let at = placed_in (λ j. own_data j r) (objects r) (parent_in nobody new.parent) in
      passed_on (formed r && asks new)
      (then r _ _ go (formed r) _ (need-first (formed r) Why.Tree r _)
      (then r _ _ go at _ (need-first at Why.Object r _)
      (then r _ _ go (ltb (objects r) (object_limit r)) _ (need-first (ltb (objects r) (object_limit r)) Why.Full r _)
      (then r _ _ go (reads new.list) _ (reads_first new.list 2 r _)
      (then r _ _ go (ordinary new.owner) _ (need-first (ordinary new.owner) Why.Identity r _)
      (then r _ _ go (ordinary new.group) (short_if new.list) (need-first (ordinary new.group) Why.Identity r _) (need-first (short_if new.list) Why.Room r go)))))))
      (rw (facts-formed r F) ask)

  add-change : (new : New) → asks new ≡ true → change (object_limit r) (add new) (shown r).own ≡ some ((shown r).own ++ (block_for (object_for new) ∷ []))
  unfolding change shown asks
  add-change new ask = rw (length-tab (objects r) (λ i. own_data i r), placed-tab (objects r) (parent_in nobody new.parent) (λ j. own_data j r), ask) refl

  add-go : (new : New) → asks new ≡ true
      → said (change_to (add_put (object_for new) (objects r)) r)
      ≡ Model.outcome t (Model.apply (Model.add (object_for new)) (objects_in r)) (objects r)
  unfolding change_meant asks
  add-go new ask =
      let H : Head r = F.head in
      let t₁ = both_true (placed_in (λ j. own_data j r) (objects r) (parent_in nobody new.parent)) _ ask in
      let t₂ = both_true (ltb (objects r) (object_limit r)) _ t₁.1 in
      let t₃ = both_true (reads new.list) _ t₂.1 in
      let t₄ = both_true (ordinary new.owner) _ t₃.1 in
      let t₅ = both_true (ordinary new.group) (short_if new.list) t₄.1 in
      let k : objects r < object_limit r = ltb-true (objects r) (object_limit r) t₂.0 in
      let a = area_byte r 0 (omega arith) in
      let x = new-shows (object_for new) (length-guid new.type 0) t₄.0 t₅.0 t₅.1 in
      go-as (add new) _ (objects r) _ (add-change new ask) (add_is new ask)
      (simp length-append (omega (arith, shown-length r))) k
      (λ w q. (change-became (area r) (area-ready r H) (add_put (object_for new) (objects r)) (omega arith) (omega arith) (omega (arith, x.long)) w q).size
      ∙ area-length r H)

  add-as : (new : New) → said (add_to (object_for new) r) ≡ Model.change_answer t (objects_in r) (Model.add (object_for new))
  unfolding add_to Model.change_answer asks
  add-as new =
      ap said (need-yes Why.Tree r _ (facts-formed r F))
      ∙ rw (objects-length r)
      (test-as (placed_in (λ j. own_data j r) (objects r) (parent_in nobody new.parent)) _ Why.Object r _ _ (placed-is r (parent_in nobody new.parent)) (λ h₁.
      need-as (ltb (objects r) (object_limit r)) Why.Full r _ _ (λ h₂.
      readable-as 2 r _ _ new.list (λ h₃.
      need-as (ordinary new.owner) Why.Identity r _ _ (λ h₄.
      need-as (ordinary new.group) Why.Identity r _ _ (λ h₅.
      test-as (short_if new.list) _ Why.Room r _ _ (short-is new.list) (λ h₆. add-go new (rw (h₁, h₂, h₃, h₄, h₅, h₆) refl))))))))

  -- a change in any well-formed room answers what the model answers for the objects that the room shows
  pub change-as : (c : ChangeGiven) → said (change_with c r) ≡ Model.change_answer t (objects_in r) (change_meant c)
  unfolding change_with change_meant
  change-as (add new) = add-as new
  change-as (alter i e) = alter-as i e
