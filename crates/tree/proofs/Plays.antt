-- Every call on a well-formed room, reached by calls or not, leaves a well-formed room, and shows what History's machine makes of the tree that the room
-- showed: refused exactly where the machine refuses, and then with every byte as it was.
use mathlib.Core.Path.{◌≡◌, refl, sym, ap, ◌∙◌, subst}
use mathlib.Core.Bool.{Bool, true, false, cond, ◌&&◌}
use mathlib.Core.Logic.{⊎_elim}
use mathlib.Core.List.{List, ◌∷◌}
use mathlib.Core.Option.{Option, none, some}
use Prim.Native.Nat.{ℕ, suc, ◌+◌, ◌-◌, ◌≤◌, ◌<◌, min}
use native.Mathlib.Omega.{arith}
use lib.ListN.{length, take}
use lib.Seq.{take_all}
use lib.Dec.{ltb}
use borrow.Author.Tests.{lt-ltb, le-ltb, ltb-true}
use Rattle.octets.specs.Bytes.{put_at, front, part}
use Rattle.list.specs.Entry.{access}
use Rattle.list.specs.List.{check_of, MaybeList}
use Rattle.std.specs.Prelude.{Result, Ok, Err}
use Rattle.list.specs.declared.readings.Read.{Read}
use Rattle.refusal.specs.declared.Fault.{Fault}
use Rattle.octets.proofs.Places.{split, length_part, put_whole}
use Rattle.octets.proofs.Tests.{both_true}
use Rattle.inherit.specs.Compute.{ordinary}
use Rattle.refusal.specs.declared.Refusal.{Refusal}
use Rattle.refusal.specs.declared.Refusal.TheVariants as Why
use Rattle.tree.specs.Model.{short_if}
use Rattle.tree.specs.General.{tab}
use Rattle.tree.specs.Held.{held, is_done, parent_in, block_for}
use Rattle.tree.specs.Room.{object_limit, step_limit, objects, kept_steps, settings, own_data, slot, step, step_tag, step_object, step_data, area}
use Rattle.tree.specs.Formed.{placed_in, steps_ok, formed}
use Rattle.tree.specs.Inner.Heads.{Head}
use Rattle.octets.specs.Order.{need}
use Rattle.tree.specs.Calls.{Edit, list, mark, owners, Outcome, refuse, on_reading_to, readable_to, on_object, tested, told_as as told_in, ChangeGiven, add, alter}
use Rattle.tree.specs.Calls.{edit_at, edit_bytes, edit_put, add_put, changed, change_to, latest, standing_after, step_taken_back, change_ends, undo_ends, New, nobody, object_for, add_to, alter_to, undo_to}
use Rattle.tree.proofs.History.{Call, edit, undo, settled, after}
use Rattle.tree.proofs.Replay.{Undo, off, again, Tree, reads, fine, addable, when, work, rules, undo_in, shown}
use Rattle.tree.proofs.Played.{call_to, accepted}
use Rattle.tree.proofs.Applied.{upd, upd_other, ahead, Adds, Again}
use Rattle.tree.proofs.Turns.{Owned, owned-off, owned-put, owned-add, put-steps, add-steps, latest as latest-of, back-steps, off-steps}
use Rattle.tree.proofs.Tab.{tab-push, tab-first}
use Rattle.tree.proofs.Paths.{in_order}
use Rattle.tree.proofs.Blocks.{length-guid, new-shows, new-good}
use Rattle.tree.proofs.Edits.{edit-fits, edit-keeps, edit-good}
use Rattle.tree.proofs.Areas.{tab-as, area_byte, area-length, area-ready, area-settings, area-own, area-slot, area-step}
use Rattle.tree.proofs.Became.{Became, change-became, change-refused, undo-became, undo-refused}
use Rattle.tree.proofs.Keeps.{Formed, formed-facts, facts-formed, steps-as, work-as, new-limit, new-step-limit, new-length, new-settings, new-formed}
use Rattle.tree.proofs.Keeps.{new-shown}
use Rattle.tree.proofs.Machine.{alter-after, alter-none, add-after, add_none, undo-none, undo-off, undo-again}

-- how a call on r ends, where the machine gives m
pub record Ends (r : List ℕ) (o : Outcome) (m : Option Tree) : Type 0 where
  pub well : Formed o.bytes
  pub limits : object_limit o.bytes ≡ object_limit r
  pub step-limits : step_limit o.bytes ≡ step_limit r
  pub same-settings : settings o.bytes ≡ settings r
  pub size : length o.bytes ≡ length r
  pub told : m ≡ when (accepted o.answer) (shown o.bytes)
  pub stays : accepted o.answer ≡ false → o.bytes ≡ r

-- a list's answer is an acceptance
pub accepted-told : (o : MaybeList) → accepted (told_in o) ≡ true
unfolding told_in
accepted-told none = refl
accepted-told (some s) = refl

-- ---- refusals

pub refused-ends : (r : List ℕ) → Formed r → (k : Refusal) (which at : ℕ) (m : Option Tree) → m ≡ none → Ends r (refuse k which at r) m
refused-ends r F k which at m e = record { well = F; limits = refl; step-limits = refl; same-settings = refl; size = refl; told = e; stays = λ z. refl }

pub record Refuses (r : List ℕ) (o : Outcome) : Type 0 where
  pub why : Refusal
  pub list : ℕ
  pub offset : ℕ
  pub is : o ≡ refuse why list offset r

refuses-ends : (r : List ℕ) → Formed r → (o : Outcome) (m : Option Tree) → Refuses r o → m ≡ none → Ends r o m
refuses-ends r F o m x e = subst (λ (y : Outcome). Ends r y m) (sym x.is) (refused-ends r F x.why x.list x.offset m e)

-- a list that is given: what follows, or a refusal
reading-by : (s : List ℕ) (which : ℕ) (r : List ℕ) (rest : Outcome) (x : Result Read Fault) → check_of access s ≡ x → (b : Bool) → is_done x ≡ b
    → cond b (on_reading_to x which r rest ≡ rest) (Refuses r (on_reading_to x which r rest))
unfolding on_reading_to
reading-by s which r rest (Ok read) e true h = refl
reading-by s which r rest (Ok read) e false h = let z : ◌≡◌ {A = ℕ} 0 1 = cc in absurd (omega arith)
reading-by s which r rest (Err fault) e true h = let z : ◌≡◌ {A = ℕ} 0 1 = cc in absurd (omega arith)
reading-by s which r rest (Err fault) e false h = record { why = fault.why; list = which; offset = fault.at; is = refl }

read_by : (o : MaybeList) (which : ℕ) (r : List ℕ) (rest : Outcome) (b : Bool) → reads o ≡ b
    → cond b (readable_to o which r rest ≡ rest) (Refuses r (readable_to o which r rest))
unfolding reads readable_to
read_by none which r rest true h = refl
read_by none which r rest false h = let z : ◌≡◌ {A = ℕ} 0 1 = cc in absurd (omega arith)
read_by (some s) which r rest b h = reading-by s which r rest (check_of access s) refl b h

need-by : (t : Bool) (k : Refusal) (r : List ℕ) (rest : Outcome) (b : Bool) → t ≡ b → cond b (need t (refuse k 0 0 r) rest ≡ rest) (Refuses r (need t (refuse k 0 0 r) rest))
unfolding need
need-by true k r rest true h = refl
need-by true k r rest false h = let z : ◌≡◌ {A = ℕ} 0 1 = cc in absurd (omega arith)
need-by false k r rest true h = let z : ◌≡◌ {A = ℕ} 0 1 = cc in absurd (omega arith)
need-by false k r rest false h = record { why = k; list = 0; offset = 0; is = refl }

-- one test after another
pub data Passes (r : List ℕ) (o rest : Outcome) : Bool → Type 0 where
  on : o ≡ rest → Passes r o rest true
  stop : Refuses r o → Passes r o rest false

as-passes : (r : List ℕ) (o rest : Outcome) (b : Bool) → cond b (o ≡ rest) (Refuses r o) → Passes r o rest b
as-passes r o rest true h = on h
as-passes r o rest false h = stop h

pub then : (r : List ℕ) (o p rest : Outcome) (a b : Bool) → Passes r o p a → Passes r p rest b → Passes r o rest (a && b)
then r o p rest true b (on e) q = subst (λ (x : Outcome). Passes r x rest b) (sym e) q
then r o p rest false b (stop x) q = stop x

pub reads_first : (o : MaybeList) (which : ℕ) (r : List ℕ) (rest : Outcome) → Passes r (readable_to o which r rest) rest (reads o)
reads_first o which r rest = as-passes r (readable_to o which r rest) rest (reads o) (read_by o which r rest (reads o) refl)

pub need-first : (t : Bool) (k : Refusal) (r : List ℕ) (rest : Outcome) → Passes r (need t (refuse k 0 0 r) rest) rest t
need-first t k r rest = as-passes r (need t (refuse k 0 0 r) rest) rest t (need-by t k r rest t refl)

-- what an alteration is given
pub tested-first : (e : Edit) (r : List ℕ) (rest : Outcome) → Passes r (tested e r rest) rest (fine e)
unfolding tested fine
tested-first (list o) r rest = then r _ _ rest (reads o) (short_if o) (reads_first o 2 r (need (short_if o) (refuse Why.Room 0 0 r) rest)) (need-first (short_if o) Why.Room r rest)
tested-first (mark m) r rest = on refl
tested-first (owners o g) r rest =
    then r _ _ rest (ordinary o) (ordinary g) (need-first (ordinary o) Why.Identity r (need (ordinary g) (refuse Why.Identity 0 0 r) rest)) (need-first (ordinary g) Why.Identity r rest)

-- ---- what a step holds

saved-is : (tag i : ℕ) (b : List ℕ) → length b ≡ 1184 → step_data (tag ∷ i ∷ b) ≡ b
unfolding part
saved-is tag i b l = take_all 1184 b (omega (arith, l))

undo-of : (i : ℕ) (b : List ℕ) → length b ≡ 1184 → undo_in (2 ∷ i ∷ b) ≡ again i b
unfolding undo_in
undo-of i b l = ap (again i) (saved-is 2 i b l)

off_of : (u : List ℕ) → step_tag u ≡ 1 → undo_in u ≡ off
unfolding undo_in
off_of u t = rw t refl

-- the same place below own data that is the same
placed-as : (n : ℕ) (q : Option ℕ) (f f' : ℕ → List ℕ) → ((j : ℕ) → j < n → f j ≡ f' j) → placed_in f n q ≡ placed_in f' n q
unfolding placed_in
placed-as n none f f' e = refl
placed-as n (some p) f f' e = split n p (λ q. rw (le-ltb p n q) refl) (λ q. rw (e p q) refl)

refused_as : (e x : List ℕ) (f : ℕ → List ℕ) (n n' i i' : ℕ) → n ≡ n' → i ≡ i' → in_order e (tab n (upd i x f)) n ≡ none
    → in_order e (tab n' (upd i' x f)) n' ≡ none
refused_as e x f n n' i i' en ei q = rw (← en, ← ei) q

-- ---- a room before a call, by its area

module _ (r : List ℕ) (F : Formed r) where
  h : Head r
  h = F.head

  f₀ : ℕ → List ℕ
  f₀ j = own_data j (area r)

  g₀ : ℕ → List ℕ
  g₀ j = step (object_limit (area r)) j (area r)

  a-limit : object_limit (area r) ≡ object_limit r
  a-limit = area_byte r 0 (omega arith)

  a-step-limit : step_limit (area r) ≡ step_limit r
  a-step-limit = area_byte r 1 (omega arith)

  a-objects : objects (area r) ≡ objects r
  a-objects = area_byte r 2 (omega arith)

  a-kept : kept_steps (area r) ≡ kept_steps r
  a-kept = area_byte r 3 (omega arith)

  f-is : (j : ℕ) → j < object_limit r → f₀ j ≡ own_data j r
  unfolding f₀
  f-is = area-own r

  g-is : (j : ℕ) → j < step_limit r → g₀ j ≡ step (object_limit r) j r
  unfolding g₀
  g-is j q = ap (λ (m : ℕ). step m j (area r)) a-limit ∙ area-step r j q

  O₀ : Owned (objects r) f₀
  O₀ = owned-off (objects r) (objects r) (λ j. own_data j r) f₀ F.owned (omega arith) (λ j q. sym (f-is j (omega (arith, h.within))))

  T₀ : steps_ok f₀ g₀ (kept_steps r) 0 (objects r) ≡ true
  T₀ =
      steps-as (λ j. own_data j r) f₀ (λ j. step (object_limit r) j r) g₀ (kept_steps r) (objects r)
      (λ j q. sym (f-is j (omega (arith, h.within)))) (λ j q. sym (g-is j (omega (arith, h.kept-within)))) F.steps

  own-long : (i : ℕ) → i < object_limit r → length (f₀ i) ≡ 1184
  unfolding f₀ own_data
  own-long i q = length_part _ 1184 (area r) (omega (arith, area-length r h))

  shown-as : shown r ≡ record { own = tab (objects r) f₀; lists = tab (objects r) (λ j. held (slot j (area r))); kept = tab (kept_steps r) (λ j. undo_in (g₀ j)) }
  unfolding shown
  shown-as =
      let a : tab (objects r) (λ i. own_data i r) ≡ tab (objects r) f₀ = tab-as _ _ _ f₀ refl (λ j q. sym (f-is j (omega (arith, h.within)))) in
      let b : tab (objects r) (λ i. held (slot i r)) ≡ tab (objects r) (λ j. held (slot j (area r))) =
      tab-as _ _ _ (λ j. held (slot j (area r))) refl (λ j q. ap held (sym (area-slot r j (omega (arith, h.within))))) in
      let c : tab (kept_steps r) (λ j. undo_in (step (object_limit r) j r)) ≡ tab (kept_steps r) (λ j. undo_in (g₀ j)) =
      tab-as _ _ _ (λ j. undo_in (g₀ j)) refl (λ j q. ap undo_in (sym (g-is j (omega (arith, h.kept-within))))) in
      rw (a, b, c) refl

  -- ---- the end of a change or an undo

  Told : Option (List ℕ) → Option Tree → Type 0
  Told none m = m ≡ none
  Told (some w) m =
      Formed (front w r)
      × ((object_limit (front w r) ≡ object_limit r)
      × ((step_limit (front w r) ≡ step_limit r)
      × ((settings (front w r) ≡ settings r) × ((length (front w r) ≡ length r) × (m ≡ some (shown (front w r)))))))

  settled-none : (R : Option (List MaybeList)) (n : ℕ) (f : ℕ → List ℕ) (us : List Undo) → R ≡ none
      → settled (rules (object_limit r) (settings r)) (step_limit r) (tab n f) us R ≡ none
  unfolding settled
  settled-none R n f us e = rw e refl

  settled-some : (R : Option (List MaybeList)) (n : ℕ) (f : ℕ → List ℕ) (us : List Undo) (ls : List MaybeList) → R ≡ some ls
      → settled (rules (object_limit r) (settings r)) (step_limit r) (tab n f) us R ≡ some (record { own = tab n f; lists = ls; kept = us })
  unfolding settled
  settled-some R n f us ls e = rw e refl

  settles : (o : Option (List ℕ)) (n : ℕ) (f : ℕ → List ℕ) (k : ℕ) (g : ℕ → List ℕ) (us : List Undo) → n ≤ object_limit r → k ≤ step_limit r → Owned n f
      → steps_ok f g k 0 n ≡ true
      → tab k (λ j. undo_in (g j)) ≡ us
      → ((w : List ℕ) → o ≡ some w → Became (area r) w n f k g) → (o ≡ none → in_order (settings (area r)) (tab n f) n ≡ none)
      → Told o (settled (rules (object_limit r) (settings r)) (step_limit r) (tab n f) us (work (settings r) (tab n f)))
  unfolding Told
  settles none n f k g us hn hk O T eu made not_made =
      settled-none (work (settings r) (tab n f)) n f us
      (sym (work-as (settings r) n f O (omega (arith, h.limit-64))) ∙ rw (← area-settings r) (not_made refl))
  settles (some w) n f k g us hn hk O T eu made not_made =
      let B = made w refl in
      let e : work (settings r) (tab n f) ≡ some (tab n (λ j. held (slot j w))) =
      sym (work-as (settings r) n f O (omega (arith, h.limit-64))) ∙ rw (← area-settings r) B.lists in (
        new-formed r F w n f k g B hn hk O T,
        (
          new-limit r F w n f k g B hn hk O T,
          (
            new-step-limit r F w n f k g B hn hk O T,
            (
              new-settings r F w n f k g B hn hk O T,
              (
                new-length r F w n f k g B hn hk O T,
                settled-some (work (settings r) (tab n f)) n f us (tab n (λ j. held (slot j w))) e
                    ∙ sym (ap some (new-shown r F w n f k g B hn hk O T
                    ∙ ap (λ (vs : List Undo). record { own = tab n f; lists = tab n (λ j. held (slot j w)); kept = vs }) eu)),
              ),
            ),
          ),
        ),
      )

  change-ends : (i : ℕ) (o : Option (List ℕ)) (m : Option Tree) → Told o m → Ends r (change_ends i r o) m
  unfolding change_ends Told
  change-ends i none m t = refused-ends r F Why.Room 0 0 m t
  change-ends i (some w) m t =
      let a : accepted (told_in (held (slot i w))) ≡ true = accepted-told (held (slot i w)) in
      record {
        well = t.0;
        limits = t.1.0;
        step-limits = t.1.1.0;
        same-settings = t.1.1.1.0;
        size = t.1.1.1.1.0;
        told = rw a t.1.1.1.1.1;
        stays = λ z. let y : ◌≡◌ {A = ℕ} 0 1 = cc in absurd (omega arith);
      }

  undo-done : (o : Option (List ℕ)) (m : Option Tree) → Told o m → Ends r (undo_ends r o) m
  unfolding undo_ends Told
  undo-done none m t = refused-ends r F Why.Room 0 0 m t
  undo-done (some w) m t =
      record {
        well = t.0;
        limits = t.1.0;
        step-limits = t.1.1.0;
        same-settings = t.1.1.1.0;
        size = t.1.1.1.1.0;
        told = t.1.1.1.1.1;
        stays = λ z. let y : ◌≡◌ {A = ℕ} 0 1 = cc in absurd (omega arith);
      }

  -- ---- the calls

  Next : Call ChangeGiven → Option Tree
  Next q = after (rules (object_limit r) (settings r)) (step_limit r) (shown r) q

  next-as : (q : Call ChangeGiven)
      → Next q ≡ after (rules (object_limit r) (settings r)) (step_limit r)
      (record { own = tab (objects r) f₀; lists = tab (objects r) (λ j. held (slot j (area r))); kept = tab (kept_steps r) (λ j. undo_in (g₀ j)) }) q
  unfolding Next
  next-as q = ap (λ (t : Tree). after (rules (object_limit r) (settings r)) (step_limit r) t q) shown-as

  passes-ends : (o rest : Outcome) (b : Bool) (m : Option Tree) → Passes r o rest b → (b ≡ true → Ends r rest m) → (b ≡ false → m ≡ none) → Ends r o m
  passes-ends o rest true m (on e) go back = subst (λ (x : Outcome). Ends r x m) (sym e) (go refl)
  passes-ends o rest false m (stop x) go back = refuses-ends r F o m x (back refl)

  kept-steps : (u : List ℕ) → tab (min (step_limit (area r)) (suc (kept_steps (area r)))) (λ j. undo_in (ahead u g₀ j))
      ≡ take (step_limit r) (undo_in u ∷ tab (kept_steps r) (λ j. undo_in (g₀ j)))
  unfolding ahead
  kept-steps u =
      rw (a-step-limit, a-kept)
      (tab-push (step_limit r) (kept_steps r) (λ j. undo_in (g₀ j)) (λ j. undo_in (ahead u g₀ j)) (undo_in u) refl (λ i p q. refl))

  few-steps : min (step_limit (area r)) (suc (kept_steps (area r))) ≤ suc (kept_steps r)
  few-steps = omega (arith, a-step-limit, a-kept)

  within-limit : min (step_limit (area r)) (suc (kept_steps (area r))) ≤ step_limit r
  within-limit = omega (arith, a-step-limit, a-kept)

  -- an alteration whose tests were passed
  alter-goes : (i : ℕ) (e : Edit) → i < objects r → fine e ≡ true
      → Ends r (change_to (edit_put i e (objects r)) r) (Next (edit (alter i e)))
  unfolding f₀ g₀
  alter-goes i e hi he =
      let il : i < object_limit r = omega (arith, h.within) in
      let il₁ : i < object_limit (area r) = omega (arith, a-limit) in
      let nl : objects r ≤ object_limit (area r) = omega (arith, a-limit, h.within) in
      let fits : edit_at e + length (edit_bytes e) ≤ 1184 = omega (arith, edit-fits e he) in
      let x : List ℕ = put_at (edit_at e) (edit_bytes e) (own_data i (area r)) in
      let u : List ℕ = 2 ∷ i ∷ own_data i (area r) in
      let lo = own-long i il in
      let ba = (O₀ i hi).0 in
      let keeps = edit-keeps (own_data i (area r)) lo e he in
      let O = owned-put (objects r) i x f₀ O₀ hi (edit-good (own_data i (area r)) lo e he ba) keeps in
      let T = put-steps (objects r) i (kept_steps r) (min (step_limit (area r)) (suc (kept_steps (area r)))) x u f₀ g₀ O₀ T₀ hi keeps refl refl
      (saved-is 2 i (own_data i (area r)) lo) few-steps in
      let us : List Undo = take (step_limit r) (undo_in u ∷ tab (kept_steps r) (λ j. undo_in (g₀ j))) in
      subst (Ends r (change_to (edit_put i e (objects r)) r))
      (sym (next-as (edit (alter i e))
      ∙ alter-after (object_limit r) (step_limit r) (settings r) (objects r) f₀ _ _ i e hi he
      ∙ ap (λ (y : Undo). settled (rules (object_limit r) (settings r)) (step_limit r) (tab (objects r) (upd i x f₀))
      (take (step_limit r) (y ∷ tab (kept_steps r) (λ j. undo_in (g₀ j)))) (work (settings r) (tab (objects r) (upd i x f₀)))) (sym (undo-of i (own_data i (area r)) lo))))
      (change-ends i _ _
      (settles (changed (edit_put i e (objects r)) (area r)) (objects r) (upd i x f₀) (min (step_limit (area r)) (suc (kept_steps (area r)))) (ahead u g₀) us
      (omega (arith, h.within)) within-limit O T (kept-steps u)
      (λ w q. change-became (area r) (area-ready r h) (edit_put i e (objects r)) il₁ nl fits w q)
      (λ q. change-refused (area r) (area-ready r h) (edit_put i e (objects r)) il₁ nl fits q)))

  alter-ends : (i : ℕ) (e : Edit) → Ends r (alter_to i e r) (Next (edit (alter i e)))
  unfolding alter_to on_object
  alter-ends i e =
      let go : Outcome = change_to (edit_put i e (objects r)) r in
      let F₁ = facts-formed r F in
      passes-ends (alter_to i e r) go (formed r && (ltb i (objects r) && fine e)) (Next (edit (alter i e)))
      (then r _ _ go (formed r) (ltb i (objects r) && fine e) (need-first (formed r) Why.Tree r _)
      (then r _ _ go (ltb i (objects r)) (fine e) (need-first (ltb i (objects r)) Why.Object r _) (tested-first e r go)))
      (λ b.
      let t = both_true (ltb i (objects r)) (fine e) (both_true (formed r) (ltb i (objects r) && fine e) b).1 in
      alter-goes i e (ltb-true i (objects r) t.0) t.1)
      (λ b. next-as (edit (alter i e)) ∙ alter-none (object_limit r) (step_limit r) (settings r) (objects r) f₀ _ _ i e (rw F₁ at b))

  -- an add whose tests were passed
  add_goes : (new : New) → addable (object_limit r) new (objects r) f₀ ≡ true
      → Ends r (change_to (add_put (object_for new) (objects r)) r) (Next (edit (add new)))
  unfolding f₀ g₀
  add_goes new ask =
      let t₁ = both_true (placed_in f₀ (objects r) (parent_in nobody new.parent)) _ ask in
      let t₂ = both_true (ltb (objects r) (object_limit r)) _ t₁.1 in
      let t₃ = both_true (reads new.list) _ t₂.1 in
      let t₄ = both_true (ordinary new.owner) _ t₃.1 in
      let t₅ = both_true (ordinary new.group) (short_if new.list) t₄.1 in
      let nl : objects r < object_limit r = ltb-true (objects r) (object_limit r) t₂.0 in
      let nl₁ : objects r < object_limit (area r) = omega (arith, a-limit) in
      let nl₂ : objects r + 1 ≤ object_limit (area r) = omega (arith, a-limit) in
      let shows = new-shows (object_for new) (length-guid new.type 0) t₄.0 t₅.0 t₅.1 in
      let fits : 0 + length (block_for (object_for new)) ≤ 1184 = omega (arith, shows.long) in
      let x : List ℕ = put_at 0 (block_for (object_for new)) (own_data (objects r) (area r)) in
      let ex : x ≡ block_for (object_for new) = put_whole (block_for (object_for new)) (own_data (objects r) (area r)) (shows.long ∙ sym (own-long (objects r) nl)) in
      let u : List ℕ = 1 ∷ objects r ∷ own_data (objects r) (area r) in
      let O = owned-add (objects r) (parent_in nobody new.parent) x f₀ O₀ (omega (arith, h.limit-64)) (rw ex (new-good (object_for new) (length-guid new.type 0) t₄.0 t₅.0 t₅.1 t₃.0)) t₁.0
      (rw ex shows.parent) in
      let T = add-steps (objects r) (kept_steps r) (min (step_limit (area r)) (suc (kept_steps (area r)))) x u f₀ g₀ T₀ refl refl few-steps in
      let us : List Undo = take (step_limit r) (undo_in u ∷ tab (kept_steps r) (λ j. undo_in (g₀ j))) in
      subst (Ends r (change_to (add_put (object_for new) (objects r)) r))
      (sym (next-as (edit (add new))
      ∙ add-after (object_limit r) (step_limit r) (settings r) (objects r) f₀ _ _ new ask
      ∙ ap (λ (b : List ℕ). settled (rules (object_limit r) (settings r)) (step_limit r) (tab (objects r + 1) (upd (objects r) b f₀))
      (take (step_limit r) (off ∷ tab (kept_steps r) (λ j. undo_in (g₀ j)))) (work (settings r) (tab (objects r + 1) (upd (objects r) b f₀)))) (sym ex)
      ∙ ap (λ (y : Undo). settled (rules (object_limit r) (settings r)) (step_limit r) (tab (objects r + 1) (upd (objects r) x f₀))
      (take (step_limit r) (y ∷ tab (kept_steps r) (λ j. undo_in (g₀ j)))) (work (settings r) (tab (objects r + 1) (upd (objects r) x f₀)))) (sym (off_of u refl))))
      (change-ends (objects r) _ _
      (settles (changed (add_put (object_for new) (objects r)) (area r)) (objects r + 1) (upd (objects r) x f₀)
      (min (step_limit (area r)) (suc (kept_steps (area r)))) (ahead u g₀) us
      (omega arith) within-limit O T (kept-steps u)
      (λ w q. change-became (area r) (area-ready r h) (add_put (object_for new) (objects r)) nl₁ nl₂ fits w q)
      (λ q. change-refused (area r) (area-ready r h) (add_put (object_for new) (objects r)) nl₁ nl₂ fits q)))

  add-ends : (new : New) → Ends r (add_to (object_for new) r) (Next (edit (add new)))
  unfolding add_to
  add-ends new =
      let go : Outcome = change_to (add_put (object_for new) (objects r)) r in
      let F₁ = facts-formed r F in
      let same : placed_in (λ j. own_data j r) (objects r) (parent_in nobody new.parent) ≡ placed_in f₀ (objects r) (parent_in nobody new.parent) =
      placed-as (objects r) (parent_in nobody new.parent) (λ j. own_data j r) f₀ (λ j q. sym (f-is j (omega (arith, h.within)))) in
      passes-ends (add_to (object_for new) r) go (formed r && addable (object_limit r) new (objects r) (λ j. own_data j r)) (Next (edit (add new)))
      (then r _ _ go (formed r) _ (need-first (formed r) Why.Tree r _)
      (then r _ _ go (placed_in (λ j. own_data j r) (objects r) (parent_in nobody new.parent)) _ (need-first (placed_in (λ j. own_data j r) (objects r) (parent_in nobody new.parent)) Why.Object r _)
      (then r _ _ go (ltb (objects r) (object_limit r)) _ (need-first (ltb (objects r) (object_limit r)) Why.Full r _)
      (then r _ _ go (reads new.list) _ (reads_first new.list 2 r _)
      (then r _ _ go (ordinary new.owner) _ (need-first (ordinary new.owner) Why.Identity r _)
      (then r _ _ go (ordinary new.group) (short_if new.list) (need-first (ordinary new.group) Why.Identity r _) (need-first (short_if new.list) Why.Room r go)))))))
      (λ b. add_goes new (rw same at (both_true (formed r) _ b).1))
      (λ b. next-as (edit (add new)) ∙ add_none (object_limit r) (step_limit r) (settings r) (objects r) f₀ _ _ new (rw (F₁, same) at b))

  became-as : (w x : List ℕ) (f g : ℕ → List ℕ) (n n' i i' k k' : ℕ) → n ≡ n' → i ≡ i' → k ≡ k' → Became (area r) w n (upd i x f) k g
      → Became (area r) w n' (upd i' x f) k' g
  became-as w x f g n n' i i' k k' en ei ek b = rw (← en, ← ei, ← ek) b

  module _ (p : 0 < kept_steps r) where
    m : ℕ
    m = kept_steps r - 1

    steps : steps_ok f₀ g₀ (suc m) 0 (objects r) ≡ true
    unfolding m
    steps = let e : kept_steps r ≡ suc (kept_steps r - 1) = omega arith in rw (← e) T₀

    first : tab (kept_steps r) (λ j. undo_in (g₀ j)) ≡ undo_in (g₀ 0) ∷ tab (kept_steps r - 1) (λ j. undo_in (g₀ (suc j)))
    first = tab-first (kept_steps r) (λ j. undo_in (g₀ j)) p

    k-is : kept_steps (area r) - 1 ≡ kept_steps r - 1
    k-is = omega (arith, a-kept)

    p₁ : 0 < kept_steps (area r)
    p₁ = omega (arith, a-kept)

    off-goes : Adds (objects r) (g₀ 0) → Ends r (undo_ends r (step_taken_back (area r))) (Next undo)
    unfolding f₀ g₀ m
    off-goes a =
        let x : List ℕ = step_data (latest (area r)) in
        let el : standing_after (area r) ≡ objects r - 1 = rw (a.tag, a-objects) refl in
        let en : step_object (latest (area r)) ≡ objects r - 1 = a.number in
        let hi : step_object (latest (area r)) < object_limit (area r) = omega (arith, a-limit, h.within, a.some, en) in
        let hn : standing_after (area r) ≤ object_limit (area r) = omega (arith, a-limit, h.within, el) in
        let T = (off-steps (objects r) (kept_steps r - 1) f₀ g₀ steps a.tag).1 x in
        let O = owned-off (objects r) (objects r - 1) f₀ (upd (objects r - 1) x f₀) O₀ (omega arith)
        (λ j q. sym (upd_other (objects r - 1) x f₀ j (λ z. absurd (omega arith)))) in
        subst (Ends r (undo_ends r (step_taken_back (area r))))
        (sym (next-as undo ∙ undo-off (object_limit r) (step_limit r) (settings r) (objects r) f₀ _ _ (latest (area r)) _ first a.tag))
        (undo-done _ _
        (settles (step_taken_back (area r)) (objects r - 1) (upd (objects r - 1) x f₀) (kept_steps r - 1) (λ j. g₀ (suc j)) (tab (kept_steps r - 1) (λ j. undo_in (g₀ (suc j))))
        (omega (arith, h.within)) (omega (arith, h.kept-within)) O T refl
        (λ w q. became-as w x f₀ (λ j. g₀ (suc j)) _ _ _ _ _ _ el en k-is (undo-became (area r) (area-ready r h) p₁ hi hn w q))
        (λ q. refused_as (settings (area r)) x f₀ _ _ _ _ el en (undo-refused (area r) (area-ready r h) p₁ hi hn q))))

    again-goes : Again f₀ (objects r) (g₀ 0) → Ends r (undo_ends r (step_taken_back (area r))) (Next undo)
    unfolding f₀ g₀ m
    again-goes a =
        let x : List ℕ = step_data (latest (area r)) in
        let el : standing_after (area r) ≡ objects r = rw (a.tag, a-objects) refl in
        let hi : step_object (latest (area r)) < object_limit (area r) = omega (arith, a-limit, h.within, a.number) in
        let hn : standing_after (area r) ≤ object_limit (area r) = omega (arith, a-limit, h.within, el) in
        let T = (back-steps (objects r) (kept_steps r - 1) f₀ g₀ steps a.tag).1 in
        let O = owned-put (objects r) (step_object (latest (area r))) x f₀ O₀ a.number a.block a.same in
        subst (Ends r (undo_ends r (step_taken_back (area r))))
        (sym (next-as undo ∙ undo-again (object_limit r) (step_limit r) (settings r) (objects r) f₀ _ _ (latest (area r)) _ first a.tag a.number))
        (undo-done _ _
        (settles (step_taken_back (area r)) (objects r) (upd (step_object (latest (area r))) x f₀) (kept_steps r - 1) (λ j. g₀ (suc j))
        (tab (kept_steps r - 1) (λ j. undo_in (g₀ (suc j))))
        h.within (omega (arith, h.kept-within)) O T refl
        (λ w q. became-as w x f₀ (λ j. g₀ (suc j)) _ _ _ _ _ _ el refl k-is (undo-became (area r) (area-ready r h) p₁ hi hn w q))
        (λ q. refused_as (settings (area r)) x f₀ _ _ _ _ el refl (undo-refused (area r) (area-ready r h) p₁ hi hn q))))

    undo-goes : Ends r (undo_ends r (step_taken_back (area r))) (Next undo)
    undo-goes = ⊎_elim off-goes again-goes (latest-of (objects r) m f₀ g₀ steps)

  undo-ends : Ends r (undo_to r) (Next undo)
  unfolding undo_to tab
  undo-ends =
      let go : Outcome = undo_ends r (step_taken_back (area r)) in
      let F₁ = facts-formed r F in
      passes-ends (undo_to r) go (formed r && ltb 0 (kept_steps r)) (Next undo)
      (then r _ _ go (formed r) (ltb 0 (kept_steps r)) (need-first (formed r) Why.Tree r _) (need-first (ltb 0 (kept_steps r)) Why.NoStep r go))
      (λ b. undo-goes (ltb-true 0 (kept_steps r) (both_true (formed r) (ltb 0 (kept_steps r)) b).1))
      (λ b.
      let c : ltb 0 (kept_steps r) ≡ false = rw F₁ at b in
      let z : kept_steps r ≡ 0 = split (kept_steps r) 0 (λ q. omega arith) (λ q. let y : ◌≡◌ {A = ℕ} 0 1 = cc (lt-ltb 0 (kept_steps r) q) in absurd (omega arith)) in
      next-as undo ∙ undo-none (object_limit r) (step_limit r) (settings r) (objects r) f₀ _ _ (rw z refl))

pub call_ends : (r : List ℕ) → formed r ≡ true → (q : Call ChangeGiven) → Ends r (call_to q r) (after (rules (object_limit r) (settings r)) (step_limit r) (shown r) q)
unfolding call_to Next
call_ends r e (edit (add new)) = add-ends r (formed-facts r e) new
call_ends r e (edit (alter i ed)) = alter-ends r (formed-facts r e) i ed
call_ends r e undo = undo-ends r (formed-facts r e)
