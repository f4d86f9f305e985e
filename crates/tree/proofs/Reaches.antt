-- Demand 3, for every sequence of calls on a started tree. After any mixture of changes, undos and refused calls: the room is well formed; every object's own
-- data is what a replay of the accepted changes not since undone gives; every computed list is the one worked out afresh from the root (Replay's from_root, up
-- the parents); as many steps are kept as RULES 3.8 says; the next call is accepted exactly where the past says so, and where it is refused no byte
-- changes; undo answers 11 exactly where no kept step is left, else it is done.
-- Besides, for any well-formed room, reached by calls or not: a call leaves it well formed, and an accepted one leaves every list fresh.
use mathlib.Core.Path.{◌≡◌, refl, sym, ap, ◌∙◌, subst}
use mathlib.Core.Bool.{Bool, true, false, ◌&&◌}
use mathlib.Core.List.{List, [], ◌∷◌, ◌++◌, append_assoc}
use mathlib.Core.Option.{Option, none, some}
use Prim.Native.Nat.{ℕ, zero, suc, ◌+◌, ◌*◌, ◌≤◌, ◌<◌}
use native.Mathlib.Omega.{arith}
use lib.ListN.{length, get_or, drop, replicate, length-append, length-drop, length-replicate}
use lib.Seq.{take_at}
use lib.Dec.{leb}
use borrow.Author.Tests.{leb-true, lt-ltb}
use Rattle.octets.specs.Bytes.{front, part}
use Rattle.octets.proofs.Tests.{both_true, off}
use Rattle.inherit.specs.Compute.{rule_ok}
use Rattle.refusal.specs.declared.Refusal.TheVariants as Why
use Rattle.tree.specs.Model.{Settings, short_if, limits_ok}
use Rattle.tree.specs.General.{is_some, tab}
use Rattle.tree.specs.Inner.Else.{or_else}
use Rattle.tree.specs.Held.{held, own_list}
use Rattle.tree.specs.Room.{object_limit, step_limit, objects, kept_steps, room_for, settings, settings_for, own_data, slot, area, empty_room}
use Rattle.tree.specs.Formed.{steps_ok, formed}
use Rattle.octets.specs.Order.{need}
use Rattle.tree.specs.Calls.{tells, refusal, Outcome, on_object, told_as, list_bytes, data_of, copied, start_ok, undo_ends, step_taken_back, start_to, undo_to, list_to, ChangeGiven}
use Rattle.tree.specs.Calls.{own_to, data_to}
use Rattle.tree.proofs.History.{State, Call, edit, undo, Rules, settled, edited, undone as machine-undone, after, start, run, replay, afresh}
use Rattle.tree.proofs.History.{remains, accepts, positive}
use Rattle.tree.proofs.Replay.{Tree, reads, when, work, rules, shown}
use Rattle.tree.proofs.Played.{call_to, accepted, played}
use Rattle.tree.proofs.Tab.{length-tab, get_d-tab}
use Rattle.tree.proofs.Lays.{length-settings}
use Rattle.tree.proofs.Settings.{settings-good}
use Rattle.tree.proofs.Histories.{history}
use Rattle.tree.proofs.Lawful.{lawful}
use Rattle.tree.proofs.Keeps.{facts-formed}
use Rattle.tree.proofs.Plays.{Passes, on, stop, then, need-first, reads_first, call_ends}

-- ---- any well-formed room

-- the machine's next state has fresh lists
module _ {C D L U : Type 0} (R : Rules C D L U) (S : ℕ) (t t' : State D L U) where
  settled-fresh : (d : D) (us : List U) (w : Option L) → R.work d ≡ w → settled R S d us w ≡ some t' → R.work t'.own ≡ some t'.lists
  unfolding settled
  settled-fresh d us none e h = let z : ◌≡◌ {A = ℕ} 0 1 = cc in absurd (omega arith)
  settled-fresh d us (some l) e h = let q : record { own = d; lists = l; kept = us } ≡ t' = cc in rw (← q) e

  edited-fresh : (c : C) (o : Option D) → edited R S t c o ≡ some t' → R.work t'.own ≡ some t'.lists
  unfolding edited
  edited-fresh c none h = let z : ◌≡◌ {A = ℕ} 0 1 = cc in absurd (omega arith)
  edited-fresh c (some d) h = settled-fresh d _ (R.work d) refl h

  undone-fresh : (us : List U) → machine-undone R S t us ≡ some t' → R.work t'.own ≡ some t'.lists
  unfolding machine-undone
  undone-fresh [] h = let z : ◌≡◌ {A = ℕ} 0 1 = cc in absurd (omega arith)
  undone-fresh (u ∷ us) h = settled-fresh _ us (R.work (R.back u t.own)) refl h

  after-fresh : (q : Call C) → after R S t q ≡ some t' → R.work t'.own ≡ some t'.lists
  unfolding after
  after-fresh (edit c) h = edited-fresh c (R.change c t.own) h
  after-fresh undo h = undone-fresh t.kept h

pub record Keeps (r : List ℕ) (q : Call ChangeGiven) : Type 0 where
  pub well : formed (call_to q r).bytes ≡ true
  pub refused-stays : accepted (call_to q r).answer ≡ false → (call_to q r).bytes ≡ r
  pub lists-fresh : accepted (call_to q r).answer ≡ true → work (settings r) (shown (call_to q r).bytes).own ≡ some (shown (call_to q r).bytes).lists

pub keeps : (r : List ℕ) → formed r ≡ true → (q : Call ChangeGiven) → Keeps r q
unfolding rules
keeps r h q =
    let E = call_ends r h q in
    record {
      well = facts-formed (call_to q r).bytes E.well;
      refused-stays = E.stays;
      lists-fresh = λ a. after-fresh (rules (object_limit r) (settings r)) (step_limit r) (shown r) (shown (call_to q r).bytes) q (E.told ∙ rw a refl);
    }

-- ---- a started tree

-- its settings in their bytes
abbrev pub settings_bytes : Settings → List ℕ
settings_bytes t = settings_for t.rule t.mapping t.default

module _ (t : Settings) (r : List ℕ) (ok : start_ok t.object-limit t.step-limit t.rule (length r) ≡ true) (good : reads t.default ≡ true)
    (few : short_if t.default ≡ true) where
  first : List ℕ
  first = front (empty_room t) r

  limits : ((1 ≤ t.object-limit) × ((t.object-limit ≤ 64) × (t.step-limit ≤ 64))) × ((rule_ok t.rule ≡ true) × (room_for t.object-limit t.step-limit ≤ length r))
  unfolding start_ok limits_ok
  limits =
      let a = both_true (limits_ok t.object-limit t.step-limit) (rule_ok t.rule && leb (room_for t.object-limit t.step-limit) (length r)) ok in
      let b = both_true (leb 1 t.object-limit) (leb t.object-limit 64 && leb t.step-limit 64) a.0 in
      let c = both_true (leb t.object-limit 64) (leb t.step-limit 64) b.1 in
      let d = both_true (rule_ok t.rule) (leb (room_for t.object-limit t.step-limit) (length r)) a.1 in
      ((leb-true 1 t.object-limit b.0, (leb-true t.object-limit 64 c.0, leb-true t.step-limit 64 c.1)), (d.0, leb-true (room_for t.object-limit t.step-limit) (length r) d.1))

  empty-length : length (empty_room t) ≡ room_for t.object-limit t.step-limit
  unfolding empty_room
  empty-length = simp (length-append, length-replicate, length-settings t.rule t.mapping t.default few) (omega arith)

  first-length : length first ≡ length r
  unfolding first
  first-length = simp (length-append, length-drop) (omega (arith, empty-length, limits.1.1))

  first-limit : object_limit first ≡ t.object-limit
  unfolding first empty_room
  first-limit = refl

  first-step-limit : step_limit first ≡ t.step-limit
  unfolding first empty_room
  first-step-limit = refl

  first-objects : objects first ≡ 0
  unfolding first empty_room
  first-objects = refl

  first-kept : kept_steps first ≡ 0
  unfolding first empty_room
  first-kept = refl

  first-settings : settings first ≡ settings_bytes t
  unfolding first empty_room settings part
  first-settings =
      let z : List ℕ = replicate (t.object-limit * 2211 + t.step-limit * 1186) 0 in
      let w : List ℕ = (t.object-limit ∷ t.step-limit ∷ 0 ∷ 0 ∷ []) ++ (settings_bytes t ++ z) in
      rw (append_assoc (settings_bytes t) z (drop (length w) r))
      (take_at (settings_bytes t) (z ++ drop (length w) r) 1044 (length-settings t.rule t.mapping t.default few))

  first-formed : formed first ≡ true
  unfolding steps_ok
  first-formed =
      let l = limits in
      facts-formed first
      (record {
        head =
            record {
              long = omega (arith, first-length, l.1.1);
              some-limit = omega (arith, first-limit, l.0.0);
              limit-64 = omega (arith, first-limit, l.0.1.0);
              steps-64 = omega (arith, first-step-limit, l.0.1.1);
              within = omega (arith, first-objects);
              kept-within = omega (arith, first-kept);
              room-enough = rw (first-limit, first-step-limit, first-length) l.1.1;
            };
        settings-ok = rw first-settings (settings-good t.rule t.mapping t.default few l.1.0 good);
        owned = λ i q. absurd (omega (arith, first-objects));
        slots = λ i q. absurd (omega (arith, first-objects));
        steps = rw first-kept refl;
      })

  first-shown : shown first ≡ start (rules t.object-limit (settings_bytes t)) t.step-limit
  unfolding shown tab start rules
  first-shown = rw (first-objects, first-kept) refl

-- ---- every sequence of calls

module _ (n s : ℕ) (e : List ℕ) where
  record Good (r : List ℕ) (t : Tree) : Type 0 where
    well : formed r ≡ true
    limits-are : object_limit r ≡ n
    step-limit-is : step_limit r ≡ s
    settings-are : settings r ≡ e
    shows : shown r ≡ t

  -- one more call
  call_by : (r r' : List ℕ) (t : Tree) (m : Option Tree) (b : Bool) → shown r ≡ t → m ≡ when b (shown r') → (b ≡ false → r' ≡ r)
      → (shown r' ≡ or_else t m) × (b ≡ is_some m)
  unfolding or_else is_some
  call_by r r' t m true e h stays = rw h (refl, refl)
  call_by r r' t m false e h stays = rw h (rw (stays refl) e, refl)

  call-good : (r : List ℕ) (t : Tree) (q : Call ChangeGiven) → Good r t
      → Good (call_to q r).bytes (or_else t (after (rules n e) s t q)) × (accepted (call_to q r).answer ≡ is_some (after (rules n e) s t q))
  call-good r t q g =
      let X = call_ends r g.well q in
      let a : after (rules n e) s t q ≡ when (accepted (call_to q r).answer) (shown (call_to q r).bytes) =
      rw (← g.shows, ← g.limits-are, ← g.step-limit-is, ← g.settings-are) X.told in
      let c = call_by r (call_to q r).bytes t (after (rules n e) s t q) (accepted (call_to q r).answer) g.shows a X.stays in (
        record {
          well = facts-formed (call_to q r).bytes X.well;
          limits-are = X.limits ∙ g.limits-are;
          step-limit-is = X.step-limits ∙ g.step-limit-is;
          settings-are = X.same-settings ∙ g.settings-are;
          shows = c.0;
        },
        c.1,
      )

  all-good : (r : List ℕ) → Good r (start (rules n e) s) → (qs : List (Call ChangeGiven)) → Good (played qs r) (run (rules n e) s qs)
  unfolding played run
  all-good r g [] = g
  all-good r g (q ∷ qs) = (call-good (played qs r) (run (rules n e) s qs) q (all-good r g qs)).0

past-undo : (n s : ℕ) (e : List ℕ) (qs : List (Call ChangeGiven)) → 0 < (remains (rules n e) s qs).left → accepts (rules n e) s (remains (rules n e) s qs) undo ≡ true
unfolding accepts positive
past-undo n s e qs h = by (remains (rules n e) s qs).left h
  where
    by : (k : ℕ) → 0 < k → positive (rules n e) s k ≡ true
    by zero q = absurd (omega arith)
    by (suc k) q = refl

-- an undo's answer: 11 where no step is kept; done where it is accepted
undo-11 : (r : List ℕ) → formed r ≡ true → kept_steps r ≡ 0 → (undo_to r).answer ≡ refusal Why.NoStep 0 0
unfolding undo_to need
undo-11 r h k = rw (h, k) refl

pub undo-0 : (r : List ℕ) → formed r ≡ true → 0 < kept_steps r → accepted (undo_to r).answer ≡ true → (undo_to r).answer ≡ tells 0 false 0
unfolding undo_to need undo_ends
undo-0 r h k a = rw (h, lt-ltb 0 (kept_steps r) k) (by (step_taken_back (area r)) (rw (h, lt-ltb 0 (kept_steps r) k) at a))
  where
    by : (o : Option (List ℕ)) → accepted (undo_ends r o).answer ≡ true → (undo_ends r o).answer ≡ tells 0 false 0
    by none b = let z : ◌≡◌ {A = ℕ} 0 1 = cc in absurd (omega arith)
    by (some w) b = refl

shown-kept : (r : List ℕ) → length (shown r).kept ≡ kept_steps r
unfolding shown
shown-kept r = length-tab (kept_steps r) _

-- what is read back is what the room shows: a computed list, an own list, own data
pub record ReadBack (r out : List ℕ) (i : ℕ) : Type 0 where
  pub computed-list : list_to i r out ≡ copied (told_as (get_or (shown r).lists i none)) (list_bytes (get_or (shown r).lists i none)) out
  pub own-list : own_to i r out ≡ copied (told_as (own_list (get_or (shown r).own i []))) (list_bytes (own_list (get_or (shown r).own i []))) out
  pub own-data : data_to i r out ≡ copied (tells (length (data_of (get_or (shown r).own i []))) true 0) (data_of (get_or (shown r).own i [])) out

read-shown : (r out : List ℕ) (i : ℕ) → formed r ≡ true → i < objects r → ReadBack r out i
unfolding list_to own_to data_to on_object need shown
read-shown r out i h k =
    let l = get_d-tab (objects r) (λ j. held (slot j r)) i none k in
    let o = get_d-tab (objects r) (λ j. own_data j r) i [] k in
    let t = lt-ltb i (objects r) k in
    record { computed-list = rw (h, t, l) refl; own-list = rw (h, t, o) refl; own-data = rw (h, t, o) refl }

-- what holds after the calls qs, the latest first, on the room r
pub record Reached (n s : ℕ) (e r : List ℕ) (qs : List (Call ChangeGiven)) : Type 0 where
  pub well : formed (played qs r) ≡ true
  pub limit_is : object_limit (played qs r) ≡ n
  pub step-limit-is : step_limit (played qs r) ≡ s
  pub settings-are : settings (played qs r) ≡ e
  pub data-replayed : replay (rules n e) s (remains (rules n e) s qs).done ≡ some (shown (played qs r)).own
  pub lists-afresh : afresh (rules n e) s (remains (rules n e) s qs).done ≡ some (shown (played qs r)).lists
  pub steps-left : kept_steps (played qs r) ≡ (remains (rules n e) s qs).left
  pub answered : (q : Call ChangeGiven) → accepted (call_to q (played qs r)).answer ≡ accepts (rules n e) s (remains (rules n e) s qs) q
  pub refused-stays : (q : Call ChangeGiven) → accepted (call_to q (played qs r)).answer ≡ false → (call_to q (played qs r)).bytes ≡ played qs r
  pub undo-refused : (remains (rules n e) s qs).left ≡ 0 → (undo_to (played qs r)).answer ≡ refusal Why.NoStep 0 0
  pub undo-done : 0 < (remains (rules n e) s qs).left → (undo_to (played qs r)).answer ≡ tells 0 false 0
  pub read_back : (i : ℕ) (out : List ℕ) → i < objects (played qs r) → ReadBack (played qs r) out i

module _ (t : Settings) (r : List ℕ) where
  reached : start_ok t.object-limit t.step-limit t.rule (length r) ≡ true → reads t.default ≡ true → short_if t.default ≡ true → (qs : List (Call ChangeGiven))
      → Reached t.object-limit t.step-limit (settings_bytes t) (front (empty_room t) r) qs
  unfolding first call_to
  reached ok good few qs =
      let g₀ : Good t.object-limit t.step-limit (settings_bytes t) (front (empty_room t) r) (start (rules t.object-limit (settings_bytes t)) t.step-limit) = record {
        well = first-formed t r ok good few;
        limits-are = first-limit t r ok good few;
        step-limit-is = first-step-limit t r ok good few;
        settings-are = first-settings t r ok good few;
        shows = first-shown t r ok good few;
      } in
      let g = all-good t.object-limit t.step-limit (settings_bytes t) (front (empty_room t) r) g₀ qs in
      let H = history (rules t.object-limit (settings_bytes t)) (lawful t.object-limit (settings_bytes t)) t.step-limit qs in
      let left : kept_steps (played qs (front (empty_room t) r)) ≡ (remains (rules t.object-limit (settings_bytes t)) t.step-limit qs).left =
      sym (shown-kept (played qs (front (empty_room t) r))) ∙ ap (λ (x : Tree). length x.kept) g.shows ∙ H.steps-left in
      let accepted-as : (q : Call ChangeGiven) → accepted (call_to q (played qs (front (empty_room t) r))).answer
      ≡ accepts (rules t.object-limit (settings_bytes t)) t.step-limit (remains (rules t.object-limit (settings_bytes t)) t.step-limit qs) q =
      λ q. (call-good t.object-limit t.step-limit (settings_bytes t) _ _ q g).1 ∙ H.told q in
      record {
        well = g.well;
        limit_is = g.limits-are;
        step-limit-is = g.step-limit-is;
        settings-are = g.settings-are;
        data-replayed = rw g.shows H.data-replayed;
        lists-afresh = rw g.shows H.lists-afresh;
        steps-left = left;
        answered = accepted-as;
        refused-stays = λ q. (call_ends _ g.well q).stays;
        undo-refused = λ z. undo-11 _ g.well (left ∙ z);
        undo-done = λ z. undo-0 _ g.well (omega (arith, left)) (accepted-as undo ∙ past-undo t.object-limit t.step-limit (settings_bytes t) qs z);
        read_back = λ i out k. read-shown _ out i g.well k;
      }

  -- a start that is accepted has passed its tests
  started : (o go : Outcome) (b : Bool) → Passes r o go b → accepted o.answer ≡ true → (b ≡ true) × (o ≡ go)
  started o go true (on e) h = (refl, e)
  started o go false (stop x) h = absurd (off h (ap (λ (y : Outcome). accepted y.answer) x.is))

  -- what an accepted start is given, and what it leaves
  pub record Begun : Type 0 where
    pub in-range : start_ok t.object-limit t.step-limit t.rule (length r) ≡ true
    pub reads-default : reads t.default ≡ true
    pub short-default : short_if t.default ≡ true
    pub bytes-are : (start_to t r).bytes ≡ front (empty_room t) r
    pub size_is : length (start_to t r).bytes ≡ length r

  abbrev pub empty_tree : Outcome
  empty_tree = record { answer = tells 0 false 0; bytes = front (empty_room t) r }

  pub start-passes : Passes r (start_to t r) empty_tree (start_ok t.object-limit t.step-limit t.rule (length r) && (reads t.default && short_if t.default))
  unfolding start_to
  start-passes =
      then r _ _ empty_tree (start_ok t.object-limit t.step-limit t.rule (length r)) _ (need-first (start_ok t.object-limit t.step-limit t.rule (length r)) Why.Rule r _)
      (then r _ _ empty_tree (reads t.default) (short_if t.default) (reads_first t.default 3 r _) (need-first (short_if t.default) Why.Room r empty_tree))

  pub begun : accepted (start_to t r).answer ≡ true → Begun
  unfolding first
  begun h =
      let p = started (start_to t r) empty_tree _ start-passes h in
      let a = both_true (start_ok t.object-limit t.step-limit t.rule (length r)) (reads t.default && short_if t.default) p.0 in
      let b = both_true (reads t.default) (short_if t.default) a.1 in
      record {
        in-range = a.0;
        reads-default = b.0;
        short-default = b.1;
        bytes-are = ap (λ (o : Outcome). o.bytes) p.1;
        size_is = ap (λ (o : Outcome). length o.bytes) p.1 ∙ first-length t r a.0 b.0 b.1;
      }

  -- a start that is refused leaves the room
  pub start-stays : accepted (start_to t r).answer ≡ false → (start_to t r).bytes ≡ r
  start-stays h = by _ _ start-passes h
    where
      by : (o : Outcome) (b : Bool) → Passes r o empty_tree b → accepted o.answer ≡ false → o.bytes ≡ r
      by o true (on e) k = absurd (off (ap (λ (y : Outcome). accepted y.answer) e) k)
      by o false (stop x) k = ap (λ (y : Outcome). y.bytes) x.is

  -- whatever tree a start gives, and whatever changes and undos follow
  pub reaches : accepted (start_to t r).answer ≡ true → (qs : List (Call ChangeGiven))
      → Reached t.object-limit t.step-limit (settings_bytes t) (start_to t r).bytes qs
  reaches h qs =
      let b = begun h in
      subst (λ (x : List ℕ). Reached t.object-limit t.step-limit (settings_bytes t) x qs) (sym b.bytes-are) (reached b.in-range b.reads-default b.short-default qs)
