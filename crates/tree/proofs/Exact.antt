-- Answer 8, exactly then, in any well-formed room, reached by calls or not: to a change, and to an undo.
use mathlib.Core.Path.{◌≡◌, refl, sym, ap, ◌∙◌, subst}
use mathlib.Core.Bool.{Bool, true, false, cond}
use mathlib.Core.List.{List, [], ◌∷◌, map}
use mathlib.Core.Logic.{⊎_elim}
use mathlib.Core.Option.{Option, none, some}
use Prim.Native.Nat.{ℕ, zero, suc, ◌-◌, ◌<◌}
use native.Mathlib.Decide.{ℕ_discrete}
use native.Mathlib.Omega.{arith}
use lib.ListN.{length, take, set}
use borrow.Author.Tests.{lt-ltb}
use Rattle.list.specs.List.{MaybeList}
use Rattle.octets.specs.Order.{need}
use Rattle.list.specs.Answer.{Values, done, refused}
use Rattle.octets.proofs.Places.{length_part}
use Rattle.refusal.specs.declared.Refusal.TheVariants as Why
use Rattle.tree.specs.General.{is_some, tab}
use Rattle.tree.specs.Room.{object_limit, step_limit, objects, kept_steps, settings, own_data, step, step_object, step_data, area}
use Rattle.tree.specs.Formed.{steps_ok, formed}
use Rattle.tree.specs.Inner.Heads.{Head}
use Rattle.tree.specs.Calls.{refusal, undo_ends, step_taken_back, undo_to, answer_values, ChangeGiven}
use Rattle.tree.proofs.History.{undo, settled, after, undone as undone-by}
use Rattle.tree.proofs.Replay.{Blocks, Undo, back, undo_in, when, work, rules, shown, Tree}
use Rattle.tree.proofs.Played.{call_to, accepted}
use Rattle.tree.specs.Model as Model
use Rattle.tree.specs.Shown.{settings_in, object_in, objects_in, objects_back, change_meant, change_with}
use Rattle.tree.proofs.Applied.{upd, upd_same, upd_other, Adds, Again}
use Rattle.tree.proofs.Tab.{length-tab, get_d-tab, tab-first}
use Rattle.tree.proofs.Machine.{less-tab, set-tab}
use Rattle.tree.proofs.Turns.{Owned, owned-off, owned-put, owned-ordered, latest}
use Rattle.tree.proofs.Keeps.{Formed, facts-formed}
use Rattle.tree.proofs.Plays.{call_ends}
use Rattle.tree.proofs.Reaches.{undo-0}
use Rattle.tree.proofs.Likeness.{set-map, Good, objects_from, earlier-in}
use Rattle.tree.proofs.NoRoom.{Earlier, TooLong, Over, earlier_tests, listed-or-long, long-unlisted, change-exact}
use Rattle.tree.proofs.Modelled.{said, objects-shown, own-long, good-shown, works-like, change-as}

module _ (r : List ℕ) (F : Formed r) where
  pub earlier-shown : Earlier (objects_in r)
  earlier-shown = subst (λ (os : List Model.Object). Earlier os) (objects-shown r) (earlier-in (shown r).own (good-shown r F))

  -- a change whose earlier tests were passed
  pub no-room-exact : (c : ChangeGiven) → earlier_tests (settings_in r) (objects_in r) (change_meant c) ≡ true
      → ((said (change_with c r)).number ≡ 8 → Over (settings_in r) (objects_in r) (change_meant c))
      × (Over (settings_in r) (objects_in r) (change_meant c) → said (change_with c r) ≡ refused 8 0 0)
  no-room-exact c h = rw (change-as r F c) (change-exact (settings_in r) (objects_in r) earlier-shown (change_meant c) h)

-- ---- undo

-- own data of n objects, by number
good-tab : (n : ℕ) (f : ℕ → List ℕ) → Owned n f → ((i : ℕ) → i < n → length (f i) ≡ 1184) → Good (tab n f)
good-tab n f O l =
    record {
      sound = λ i h. let k = rw (length-tab n f) at h in rw (get_d-tab n f i [] k) (O i k).0;
      long = λ i h. let k = rw (length-tab n f) at h in rw (get_d-tab n f i [] k) (l i k);
      ordered = λ i h. let k = rw (length-tab n f) at h in rw (get_d-tab n f i [] k) (owned-ordered n f O i k);
    }

map-take : {A B : Type 0} (f : A → B) (k : ℕ) (l : List A) → map f (take k l) ≡ take k (map f l)
map-take f zero l = refl
map-take f (suc k) [] = refl
map-take f (suc k) (x ∷ l) = ap (λ (r : List _). f x ∷ r) (map-take f k l)

-- what is there is accepted
settled-as : (N S : ℕ) (e : List ℕ) (d : Blocks) (us : List Undo) (W : Option (List MaybeList)) (b : Bool) (x : Tree)
    → settled (rules N e) S d us W ≡ when b x → is_some W ≡ b
unfolding settled is_some
settled-as N S e d us none true x h = let z : ◌≡◌ {A = ℕ} 0 1 = cc in absurd (omega arith)
settled-as N S e d us none false x h = refl
settled-as N S e d us (some l) true x h = refl
settled-as N S e d us (some l) false x h = let z : ◌≡◌ {A = ℕ} 0 1 = cc in absurd (omega arith)

undo-told : (r : List ℕ) → formed r ≡ true
    → after (rules (object_limit r) (settings r)) (step_limit r) (shown r) undo ≡ when (accepted (undo_to r).answer) (shown (undo_to r).bytes)
unfolding call_to
undo-told r f = (call_ends r f undo).told

needs : {l : Bool} (b : Bool) → l ≡ b → need l (refused 8 0 0) (done 0 0 0 0) ≡ cond b (done 0 0 0 0) (refused 8 0 0)
unfolding need
needs true e = rw e refl
needs false e = rw e refl

module _ (r : List ℕ) (F : Formed r) (p : 0 < kept_steps r) where
  abbrev u : List ℕ
  u = step (object_limit r) 0 r

  abbrev t : Model.Settings
  t = settings_in r

  first : (shown r).kept ≡ undo_in u ∷ tab (kept_steps r - 1) (λ j. undo_in (step (object_limit r) (suc j) r))
  unfolding shown
  first = tab-first (kept_steps r) (λ j. undo_in (step (object_limit r) j r)) p

  undo-refused : accepted (undo_to r).answer ≡ false → (undo_to r).answer ≡ refusal Why.Room 0 0
  unfolding undo_to need undo_ends
  undo-refused a = rw (facts-formed r F, lt-ltb 0 (kept_steps r) p) (by (step_taken_back (area r)) (rw (facts-formed r F, lt-ltb 0 (kept_steps r) p) at a))
    where
      by : (o : Option (List ℕ)) → accepted (undo_ends r o).answer ≡ false → (undo_ends r o).answer ≡ refusal Why.Room 0 0
      by none b = refl
      by (some w) b = let z : ◌≡◌ {A = ℕ} 0 1 = cc in absurd (omega arith)

  machine-is : (d : Blocks) → back (undo_in u) (shown r).own ≡ d
      → after (rules (object_limit r) (settings r)) (step_limit r) (shown r) undo
      ≡ settled (rules (object_limit r) (settings r)) (step_limit r) d (tab (kept_steps r - 1) (λ j. undo_in (step (object_limit r) (suc j) r))) (work (settings r) d)
  unfolding after undone-by rules
  machine-is d e = rw (first, e) refl

  ends_as : (d : Blocks) → back (undo_in u) (shown r).own ≡ d → Good d → said (undo_to r) ≡ need (Model.listed t (objects_from d)) (refused 8 0 0) (done 0 0 0 0)
  ends_as d e G = by (accepted (undo_to r).answer) refl listed-is
    where
      told : after (rules (object_limit r) (settings r)) (step_limit r) (shown r) undo ≡ when (accepted (undo_to r).answer) (shown (undo_to r).bytes)
      told = undo-told r (facts-formed r F)

      listed-is : Model.listed t (objects_from d) ≡ accepted (undo_to r).answer
      listed-is = sym (works-like r F d G) ∙ settled-as _ _ _ d _ (work (settings r) d) _ _ (sym (machine-is d e) ∙ told)

      by : (b : Bool) → accepted (undo_to r).answer ≡ b → Model.listed t (objects_from d) ≡ b → said (undo_to r) ≡ need (Model.listed t (objects_from d)) (refused 8 0 0) (done 0 0 0 0)
      by true a l = ap answer_values (undo-0 r (facts-formed r F) p a) ∙ sym (needs true l)
      by false a l = ap answer_values (undo-refused a) ∙ sym (needs false l)

  abbrev f : ℕ → List ℕ
  f j = own_data j r

  saved-long : length (step_data u) ≡ 1184
  unfolding step
  saved-long =
      let H : Head r = F.head in
      let l : length u ≡ 1186 = length_part _ 1186 r (omega (arith, H.room-enough, H.kept-within)) in
      length_part 2 1184 u (omega arith)

  own-long-below : (i : ℕ) → i < objects r → length (f i) ≡ 1184
  own-long-below i h = own-long r F.head i h

  steps-are : steps_ok f (λ j. step (object_limit r) j r) (suc (kept_steps r - 1)) 0 (objects r) ≡ true
  steps-are = let e : kept_steps r ≡ suc (kept_steps r - 1) = omega arith in rw (← e) F.steps

  -- own data as undo leaves it: good, and the objects that it shows
  record Back : Type 0 where
    blocks : Blocks
    is : back (undo_in u) (shown r).own ≡ blocks
    good : Good blocks
    shows : objects_from blocks ≡ objects_back r

  off-back : Adds (objects r) u → Back
  unfolding back undo_in shown objects_back
  off-back a =
      let n = objects r in
      let e : take (length (tab n f) - 1) (tab n f) ≡ tab (n - 1) (upd (n - 1) (step_data u) f) = rw (length-tab n f) (less-tab n (step_data u) f) in
      let same : (j : ℕ) → j < n - 1 → f j ≡ upd (n - 1) (step_data u) f j = λ j q. sym (upd_other (n - 1) (step_data u) f j (λ z. absurd (omega arith))) in
      record {
        blocks = tab (n - 1) (upd (n - 1) (step_data u) f);
        is = rw a.tag e;
        good = good-tab (n - 1) (upd (n - 1) (step_data u) f) (owned-off n (n - 1) f (upd (n - 1) (step_data u) f) F.owned (omega arith) same)
            (λ i h. rw (← same i h) (own-long-below i (omega arith)));
        shows = rw a.tag (ap objects_from (sym (less-tab n (step_data u) f)) ∙ map-take object_in (n - 1) (tab n f) ∙ ap (take (n - 1)) (objects-shown r));
      }

  again-back : Again f (objects r) u → Back
  unfolding back undo_in shown objects_back
  again-back a =
      let n = objects r in
      let i = step_object u in
      record {
        blocks = tab n (upd i (step_data u) f);
        is = rw a.tag (set-tab n i (step_data u) f a.number);
        good = good-tab n (upd i (step_data u) f) (owned-put n i (step_data u) f F.owned a.number a.block a.same) long;
        shows = rw a.tag
            (ap objects_from (sym (set-tab n i (step_data u) f a.number)) ∙ set-map object_in (tab n f) i (step_data u)
            ∙ ap (λ (os : List Model.Object). set os i (object_in (step_data u))) (objects-shown r));
      }
    where
      long : (j : ℕ) → j < objects r → length (upd (step_object u) (step_data u) f j) ≡ 1184
      long j h = elim (ℕ_discrete j (step_object u)) [
        | yes q ↦ rw (q, upd_same (step_object u) (step_data u) f) saved-long
        | no q ↦ rw (upd_other (step_object u) (step_data u) f j q) (own-long-below j h)
      ]

  taken : Back
  taken = ⊎_elim off-back again-back (latest (objects r) (kept_steps r - 1) f (λ j. step (object_limit r) j r) steps-are)

  -- what an undo answers in any well-formed room in which a step is kept
  pub undo-as : said (undo_to r) ≡ need (Model.listed t (objects_back r)) (refused 8 0 0) (done 0 0 0 0)
  undo-as =
      subst (λ (os : List Model.Object). said (undo_to r) ≡ need (Model.listed t os) (refused 8 0 0) (done 0 0 0 0)) taken.shows
      (ends_as taken.blocks taken.is taken.good)

  earlier-back : Earlier (objects_back r)
  earlier-back = subst (λ (os : List Model.Object). Earlier os) taken.shows (earlier-in taken.blocks taken.good)

  pub undo-room-exact : ((said (undo_to r)).number ≡ 8 → (j : ℕ) × TooLong t (objects_back r) j) × ((j : ℕ) → TooLong t (objects_back r) j → said (undo_to r) ≡ refused 8 0 0)
  undo-room-exact = rw undo-as (λ h. to (Model.listed t (objects_back r)) refl h, λ j l. needs false (long-unlisted t (objects_back r) earlier-back j l))
    where
      to : (b : Bool) → Model.listed t (objects_back r) ≡ b → (need b (refused 8 0 0) (done 0 0 0 0)).number ≡ 8 → (j : ℕ) × TooLong t (objects_back r) j
      to true e h = let z = ap (λ (v : Values). v.number) (sym (needs true refl)) ∙ h in absurd (omega arith)
      to false e h = listed-or-long t (objects_back r) earlier-back e
