-- Demand 3. For any start that is accepted and any calls that follow, in any order, refused ones, reading ones and further starts among them: the room shows
-- what the model says of those calls, and each call answers what the model answers.
use mathlib.Core.Path.{◌≡◌, refl, sym, ap, ◌∙◌, subst}
use mathlib.Core.Bool.{Bool, true, false, cond, ◌&&◌}
use mathlib.Core.List.{List, [], ◌∷◌, map}
use mathlib.Core.Option.{Option, none, some}
use Prim.Native.Nat.{ℕ, zero, suc, ◌<◌}
use native.Mathlib.Omega.{arith}
use lib.ListN.{length}
use lib.Dec.{leb}
use Rattle.list.specs.List.{MaybeList}
use Rattle.octets.specs.Order.{need}
use Rattle.list.specs.Answer.{Values, done, refused}
use Rattle.inherit.specs.Spare.{NoSpare}
use Rattle.inherit.specs.Said.{NoGeneric}
use Rattle.refusal.specs.declared.Refusal.TheVariants as Why
use Rattle.tree.specs.Model.{Settings, short_if, limits_ok}
use Rattle.tree.specs.General.{is_some, bind}
use Rattle.tree.specs.Held.{held}
use Rattle.tree.specs.Room.{objects, kept_steps, room_for, settings, slot}
use Rattle.tree.specs.Formed.{formed}
use Rattle.tree.specs.Work.{computed}
use Rattle.tree.specs.Calls.{Outcome, refuse, start_ok, start_to, undo_to, answer_values, counts_to, ChangeGiven, add, alter}
use Rattle.tree.proofs.History.{Call as Step, edit, undo as take_back, Past, remains, next, noted, unnoted, accepts, afresh}
use Rattle.tree.proofs.Replay.{rules, work, shown}
use Rattle.tree.proofs.Played.{call_to, accepted, played}
use Rattle.tree.specs.Model as Model
use Rattle.tree.specs.Shown.{settings_in, settings_from, objects_in, change_meant, Request, start, change, undo, read, counts, meant, change_with, read_with, call_on, answer_to, played_on}
use Rattle.tree.proofs.Tab.{get_d-tab}
use Rattle.tree.proofs.Settings.{rule-of, mapping-of, default-of}
use Rattle.tree.proofs.Keeps.{Formed, formed-facts}
use Rattle.tree.proofs.Answered.{start-facts}
use Rattle.tree.proofs.Plays.{call_ends}
use Rattle.tree.proofs.Reaches.{settings_bytes, Reached, Begun, begun, start-stays, reaches, keeps}
use Rattle.tree.proofs.Computed.{computed-exact, computed-mended}
use Rattle.tree.proofs.Likeness.{rest-map, Good, objects_from, replay-like, lists-computed}
use Rattle.tree.proofs.Modelled.{said, settings-facts, readable-as, test-as, short-is, objects-shown, shown-length, lists-like, change-as}
use Rattle.tree.proofs.Reading.{ReadAs, part-as, counts-as}
use Rattle.tree.proofs.Numbers.{accepted-number}

-- ---- a start

three-needs : (a b c : Bool) (r : List ℕ) (o : Outcome) (v : Values) → said o ≡ v
    → said (need (a && (b && c)) (refuse Why.Rule 0 0 r) o) ≡ need a (refused 12 0 0) (need b (refused 12 0 0) (need c (refused 12 0 0) v))
unfolding need
three-needs true true true r o v e = e
three-needs true true false r o v e = refl
three-needs true false c r o v e = refl
three-needs false b c r o v e = refl

-- on any bytes, a start answers what the model answers
pub start-as : (b : Settings) (r : List ℕ) → said (start_to b r) ≡ Model.start_answer (settings_from b) (leb (room_for b.object-limit b.step-limit) (length r))
unfolding start_to start_ok Model.start_answer Model.limits_ok
start-as b r =
    three-needs _ _ _ r _ _
    (readable-as 3 r _ _ b.default (λ g.
    test-as (short_if b.default) _ Why.Room r _ _ (short-is b.default) (λ f. refl)))

-- ---- what a room shows of the model's tree, and what calls on it answer

-- the room r, of `long` bytes, and the model's tree s
pub record Shows (long : ℕ) (r : List ℕ) (s : Model.Tree) : Type 0 where
  -- r is well formed; its settings and objects, read as records, are those of s
  pub long-is : length r ≡ long
  pub well : formed r ≡ true
  pub settings-are : settings_in r ≡ s.settings
  pub objects-are : objects_in r ≡ Model.objects_of s
  -- each computed list in it is the one that following parents up to the root gives, has no spare bytes and, under rule 2, no generic bit in its masks; as
  -- many steps are kept
  pub lists-are : (i : ℕ) → i < objects r → Model.list_of s.settings (Model.objects_of s) i ≡ some (held (slot i r))
  pub exact : (i : ℕ) → i < objects r → NoSpare (held (slot i r))
  pub mended-masks : s.settings.rule ≡ 2 → (i : ℕ) → i < objects r → NoGeneric (held (slot i r))
  pub kept-are : kept_steps r ≡ s.kept
  -- each call answers the model's number and values; one that is refused leaves every byte of the room; what is read back is the model's
  pub answers : (q : Request) → answer_to q r ≡ Model.answer s (meant long q)
  pub refused-stays : (q : Request) → Model.accepted (answer_to q r) ≡ false → (call_on q r).bytes ≡ r
  pub read_back : (x : Model.Part) (i : ℕ) (out : List ℕ) → (read_with x i r out).bytes ≡ Model.read_into s.settings (Model.objects_of s) x i out

-- ---- a start, and the changes and undos since

call-change : (c : ChangeGiven) (r : List ℕ) → call_to (edit c) r ≡ change_with c r
unfolding call_to change_with
call-change (add new) r = refl
call-change (alter i x) r = refl

abbrev tree_of : Settings → Past ChangeGiven → Model.Tree
tree_of b p = record { settings = settings_from b; changes = map change_meant p.done; kept = p.left }

module _ (b : Settings) (r : List ℕ) (h : accepted (start_to b r).answer ≡ true) where
  abbrev e : List ℕ
  e = settings_bytes b

  abbrev room : List (Step ChangeGiven) → List ℕ
  room qs = played qs (start_to b r).bytes

  past : List (Step ChangeGiven) → Past ChangeGiven
  past qs = remains (rules b.object-limit e) b.step-limit qs

  abbrev tree : List (Step ChangeGiven) → Model.Tree
  tree qs = tree_of b (past qs)

  H : (qs : List (Step ChangeGiven)) → Reached b.object-limit b.step-limit e (start_to b r).bytes qs
  H qs = reaches b r h qs

  B : Begun b r
  B = begun b r h

  F : (qs : List (Step ChangeGiven)) → Formed (room qs)
  F qs = formed-facts (room qs) (H qs).well

  settings-as : (qs : List (Step ChangeGiven)) → settings_in (room qs) ≡ settings_from b
  settings-as qs =
      rw (
        (H qs).limit_is,
        (H qs).step-limit-is,
        (H qs).settings-are,
        mapping-of b.rule b.mapping b.default,
        default-of b.rule b.mapping b.default B.short-default,
      )
      (rw (rule-of b.rule b.mapping b.default) refl)

  replayed-as : (qs : List (Step ChangeGiven)) → Good (shown (room qs)).own × (objects_from (shown (room qs)).own ≡ Model.objects_of (tree qs))
  unfolding past
  replayed-as qs =
      replay-like b.object-limit b.step-limit e (start-facts b.object-limit b.step-limit b.rule (length r) B.in-range).objects-64
      (past qs).done (shown (room qs)).own (H qs).data-replayed

  objects-as : (qs : List (Step ChangeGiven)) → objects_in (room qs) ≡ Model.objects_of (tree qs)
  objects-as qs = sym (objects-shown (room qs)) ∙ (replayed-as qs).1

  work-as : (qs : List (Step ChangeGiven)) → work (settings (room qs)) (shown (room qs)).own ≡ some (shown (room qs)).lists
  unfolding afresh bind rules
  work-as qs = rw (H qs).settings-are (rw (H qs).data-replayed at (H qs).lists-afresh)

  lists-as : (qs : List (Step ChangeGiven)) (i : ℕ) → i < objects (room qs) → Model.list_of (settings_from b) (Model.objects_of (tree qs)) i ≡ some (held (slot i (room qs)))
  unfolding shown
  lists-as qs i k =
      rw (← settings-as qs, ← (replayed-as qs).1)
      (lists-like (room qs) (F qs) (shown (room qs)).own (replayed-as qs).0 (shown (room qs)).lists (work-as qs) i
      (omega (arith, k, shown-length (room qs)))
      ∙ ap some (get_d-tab (objects (room qs)) (λ j. held (slot j (room qs))) i none k))

  -- what holds of each computed list holds of those in the room
  each-as : (qs : List (Step ChangeGiven)) (P : MaybeList → Type 0)
      → ((p : MaybeList) (x : List ℕ) (o : MaybeList) → computed (settings (room qs)) p x ≡ some o → P o)
      → (i : ℕ) → i < objects (room qs) → P (held (slot i (room qs)))
  unfolding shown
  each-as qs P f i k =
      subst P (get_d-tab (objects (room qs)) (λ j. held (slot j (room qs))) i none k)
      (lists-computed b.object-limit b.step-limit (settings (room qs)) (settings-facts (settings (room qs)) (F qs).settings-ok).0
      (settings-facts (settings (room qs)) (F qs).settings-ok).1 P f (shown (room qs)).own (shown (room qs)).lists (work-as qs) i
      (omega (arith, k, shown-length (room qs))))

  -- each call's answer
  change-said : (qs : List (Step ChangeGiven)) (c : ChangeGiven) → said (change_with c (room qs)) ≡ Model.change_answer (settings_from b) (Model.objects_of (tree qs)) (change_meant c)
  change-said qs c = rw (← settings-as qs, ← objects-as qs) (change-as (room qs) (F qs) c)

  undo-said : (qs : List (Step ChangeGiven)) → said (undo_to (room qs)) ≡ Model.undo_answer (past qs).left
  unfolding past Model.undo_answer
  undo-said qs = by (past qs).left refl
    where
      by : (k : ℕ) → (past qs).left ≡ k → said (undo_to (room qs)) ≡ Model.undo_answer k
      by zero z = ap answer_values ((H qs).undo-refused z)
      by (suc k) z = ap answer_values ((H qs).undo-done (omega arith))

  read-said : (qs : List (Step ChangeGiven)) (x : Model.Part) (i : ℕ) (out : List ℕ)
      → ReadAs (read_with x i (room qs) out) (Model.read_answer (settings_from b) (Model.objects_of (tree qs)) x i (length out))
      (Model.read_into (settings_from b) (Model.objects_of (tree qs)) x i out)
  read-said qs x i out =
      rw (← objects-as qs)
      (part-as (room qs) (F qs) (settings_from b) (λ j k. ap (λ (os : List Model.Object). Model.list_of (settings_from b) os j) (objects-as qs) ∙ lists-as qs j k) x i out)

  counts-said : (qs : List (Step ChangeGiven)) → answer_values (counts_to (room qs)) ≡ done (length (Model.objects_of (tree qs))) 1 (past qs).left 0
  unfolding past
  counts-said qs = counts-as (room qs) (F qs) ∙ rw (objects-as qs, (H qs).steps-left) refl

  all_said : (qs : List (Step ChangeGiven)) (q : Request) → answer_to q (room qs) ≡ Model.answer (tree qs) (meant (length (room qs)) q)
  unfolding call_on Model.answer meant
  all_said qs (start c) = start-as c (room qs)
  all_said qs (change c) = change-said qs c
  all_said qs undo = undo-said qs
  all_said qs (read x i out) = (read-said qs x i out).answer-is
  all_said qs counts = counts-said qs

  all-stays : (qs : List (Step ChangeGiven)) (q : Request) → Model.accepted (answer_to q (room qs)) ≡ false → (call_on q (room qs)).bytes ≡ room qs
  unfolding call_on call_to
  all-stays qs (start c) z =
      start-stays c (room qs)
      (sym (accepted-number (start_to c (room qs)).answer) ∙ z)
  all-stays qs (change c) z =
      let e = call-change c (room qs) in
      let n = sym (accepted-number (change_with c (room qs)).answer) ∙ z in
      subst (λ (o : Outcome). o.bytes ≡ room qs) e ((H qs).refused-stays (edit c) (ap (λ (o : Outcome). accepted o.answer) e ∙ n))
  all-stays qs undo z = (H qs).refused-stays take_back (sym (accepted-number (undo_to (room qs)).answer) ∙ z)
  all-stays qs (read x i out) z = refl
  all-stays qs counts z = refl

  shows : (qs : List (Step ChangeGiven)) → Shows (length (room qs)) (room qs) (tree qs)
  unfolding past
  shows qs =
      record {
        long-is = refl;
        well = (H qs).well;
        settings-are = settings-as qs;
        objects-are = objects-as qs;
        lists-are = lists-as qs;
        exact = each-as qs NoSpare (computed-exact (settings (room qs)));
        mended-masks = λ two. each-as qs NoGeneric (λ p x o h. computed-mended (settings (room qs)) p x o h (ap (λ (t : Model.Settings). t.rule) (settings-as qs) ∙ two));
        kept-are = (H qs).steps-left;
        answers = all_said qs;
        refused-stays = all-stays qs;
        read_back = λ x i out. (read-said qs x i out).bytes-are;
      }

  -- one change or undo more
  noted-as : (p : Past ChangeGiven) (c : ChangeGiven) (o : Option (List MaybeList))
      → cond (is_some o) (Model.noted (tree_of b p) (change_meant c)) (tree_of b p) ≡ tree_of b (noted (rules b.object-limit e) b.step-limit p c o)
  unfolding noted is_some
  noted-as p c none = refl
  noted-as p c (some l) = refl

  off-as : (p : Past ChangeGiven) (k : ℕ) → Model.taken_off (tree_of b p) k ≡ tree_of b (unnoted (rules b.object-limit e) b.step-limit p k)
  unfolding Model.taken_off unnoted
  off-as p zero = refl
  off-as p (suc k) = rw (rest-map change_meant p.done) refl

  change-next : (qs : List (Step ChangeGiven)) (c : ChangeGiven) → Model.next (tree qs) (Model.change (change_meant c)) ≡ tree (edit c ∷ qs)
  unfolding Model.next Model.answer past remains next accepts call_to change_with
  change-next qs c =
      let a : Model.accepted (Model.change_answer (settings_from b) (Model.objects_of (tree qs)) (change_meant c))
      ≡ is_some (afresh (rules b.object-limit e) b.step-limit (c ∷ (past qs).done)) =
      ap Model.accepted (sym (change-said qs c)) ∙ accepted-number (change_with c (room qs)).answer ∙ called c in
      ap (λ (x : Bool). cond x (Model.noted (tree qs) (change_meant c)) (tree qs)) a
      ∙ noted-as (past qs) c (afresh (rules b.object-limit e) b.step-limit (c ∷ (past qs).done))
    where
      called : (c : ChangeGiven) → accepted (change_with c (room qs)).answer ≡ is_some (afresh (rules b.object-limit e) b.step-limit (c ∷ (past qs).done))
      called c = ap (λ (o : Outcome). accepted o.answer) (sym (call-change c (room qs))) ∙ (H qs).answered (edit c)

  undo-next : (qs : List (Step ChangeGiven)) → Model.next (tree qs) Model.undo ≡ tree (take_back ∷ qs)
  unfolding Model.next past remains next
  undo-next qs = off-as (past qs) (past qs).left

-- ---- all calls

step_meant : Step ChangeGiven → Model.Call
step_meant (edit c) = Model.change (change_meant c)
step_meant take_back = Model.undo

step-next : (b : Settings) (r : List ℕ) (h : accepted (start_to b r).answer ≡ true) (qs : List (Step ChangeGiven)) (q : Step ChangeGiven)
    → Model.next (tree b r h qs) (step_meant q) ≡ tree b r h (q ∷ qs)
unfolding step_meant
step-next b r h qs (edit c) = change-next b r h qs c
step-next b r h qs take_back = undo-next b r h qs

edit-meant : (s : Model.Tree) (c : ChangeGiven) → Model.next s (step_meant (edit c)) ≡ Model.next s (Model.change (change_meant c))
unfolding step_meant
edit-meant s c = refl

undo-meant : (s : Model.Tree) → Model.next s (step_meant take_back) ≡ Model.next s Model.undo
unfolding step_meant
undo-meant s = refl

call-undo : (r : List ℕ) → call_to take_back r ≡ undo_to r
unfolding call_to
call-undo r = refl

start-said : (s : Model.Tree) (b : Settings) (r : List ℕ)
    → said (start_to b r) ≡ Model.answer s (Model.start (settings_from b) (leb (room_for b.object-limit b.step-limit) (length r)))
unfolding Model.answer
start-said s b r = start-as b r

start-next : (s : Model.Tree) (t : Model.Settings) (enough x : Bool) → Model.accepted (Model.answer s (Model.start t enough)) ≡ x
    → Model.next s (Model.start t enough) ≡ cond x (Model.begun t) s
unfolding Model.next
start-next s t enough x e = rw e refl

read_next : (s : Model.Tree) (x : Model.Part) (i : ℕ) (out : List ℕ) → Model.next s (Model.read x i out) ≡ s
unfolding Model.next
read_next s x i out = refl

counts-next : (s : Model.Tree) → Model.next s Model.counts ≡ s
unfolding Model.next
counts-next s = refl

-- a room of `long` bytes, and the model's tree, after a start that was accepted and calls since
record Follows (long : ℕ) (r : List ℕ) (s : Model.Tree) : Type 0 where
  given : Settings
  before : List ℕ
  accepts-it : accepted (start_to given before).answer ≡ true
  steps : List (Step ChangeGiven)
  room-is : r ≡ room given before accepts-it steps
  tree_is : s ≡ tree given before accepts-it steps
  long-is : length r ≡ long

follows-start : (b : Settings) (r : List ℕ) → accepted (start_to b r).answer ≡ true → Follows (length r) (start_to b r).bytes (Model.begun (settings_from b))
unfolding played past remains
follows-start b r h =
    let B = begun b r h in
    record { given = b; before = r; accepts-it = h; steps = []; room-is = refl; tree_is = refl; long-is = B.size_is }

module _ {long : ℕ} {r : List ℕ} {s : Model.Tree} (f : Follows long r s) where
  abbrev R : List ℕ
  R = room f.given f.before f.accepts-it f.steps

  T : Shows long r s
  T =
      subst (λ (n : ℕ). Shows n r s) f.long-is
      (subst (λ (x : List ℕ). Shows (length x) x s) (sym f.room-is)
      (subst (λ (x : Model.Tree). Shows (length R) R x) (sym f.tree_is) (shows f.given f.before f.accepts-it f.steps)))

  -- a change or an undo
  follows-step : (q : Step ChangeGiven) (s' : Model.Tree) → Model.next s (step_meant q) ≡ s' → Follows long (call_to q r).bytes s'
  unfolding played
  follows-step q s' e =
      record {
        given = f.given;
        before = f.before;
        accepts-it = f.accepts-it;
        steps = q ∷ f.steps;
        room-is = ap (λ (x : List ℕ). (call_to q x).bytes) f.room-is;
        tree_is = sym e ∙ ap (λ (x : Model.Tree). Model.next x (step_meant q)) f.tree_is ∙ step-next f.given f.before f.accepts-it f.steps q;
        long-is = (call_ends r T.well q).size ∙ f.long-is;
      }

  -- a start, accepted or not
  follows-begin : (b : Settings) (x : Bool) → accepted (start_to b r).answer ≡ x
      → Follows long (start_to b r).bytes (cond x (Model.begun (settings_from b)) s)
  follows-begin b true h = subst (λ (n : ℕ). Follows n (start_to b r).bytes (Model.begun (settings_from b))) f.long-is (follows-start b r h)
  follows-begin b false h =
      subst (λ (x : List ℕ). Follows long x s) (sym (start-stays b r h)) f

  start-accepted : (b : Settings)
      → Model.accepted (Model.answer s (Model.start (settings_from b) (leb (room_for b.object-limit b.step-limit) long))) ≡ accepted (start_to b r).answer
  start-accepted b = rw (← f.long-is) (ap Model.accepted (sym (start-said s b r)) ∙ accepted-number (start_to b r).answer)

  follows-call : (q : Request) → Follows long (call_on q r).bytes (Model.next s (meant long q))
  unfolding call_on meant
  follows-call (start b) =
      subst (λ (x : Model.Tree). Follows long (start_to b r).bytes x) (sym (start-next s (settings_from b) _ _ (start-accepted b))) (follows-begin b _ refl)
  follows-call (change c) =
      subst (λ (o : Outcome). Follows long o.bytes (Model.next s (Model.change (change_meant c)))) (call-change c r) (follows-step (edit c) _ (edit-meant s c))
  follows-call undo = subst (λ (o : Outcome). Follows long o.bytes (Model.next s Model.undo)) (call-undo r) (follows-step take_back _ (undo-meant s))
  follows-call (read x i out) = subst (Follows long r) (sym (read_next s x i out)) f
  follows-call counts = subst (Follows long r) (sym (counts-next s)) f

follows-all : (b : Settings) (r : List ℕ) → accepted (start_to b r).answer ≡ true → (qs : List Request)
    → Follows (length r) (played_on qs (start_to b r).bytes) (Model.after (Model.begun (settings_from b)) (map (meant (length r)) qs))
unfolding played_on Model.after
follows-all b r h [] = follows-start b r h
follows-all b r h (q ∷ qs) = follows-call (follows-all b r h qs) q

-- the theorem
pub demand3 : (t : Settings) (r : List ℕ) → Model.accepted (answer_values (start_to t r).answer) ≡ true → (qs : List Request)
    → Shows (length r) (played_on qs (start_to t r).bytes) (Model.after (Model.begun (settings_from t)) (map (meant (length r)) qs))
demand3 t r h qs = T (follows-all t r (sym (accepted-number (start_to t r).answer) ∙ h) qs)

-- every call leaves a well-formed room well formed, reached by calls or not
pub call-keeps : (r : List ℕ) → formed r ≡ true → (q : Request) → formed (call_on q r).bytes ≡ true
unfolding call_on played_on call_to
call-keeps r f (start b) = by (accepted (start_to b r).answer) refl
  where
    by : (x : Bool) → accepted (start_to b r).answer ≡ x → formed (start_to b r).bytes ≡ true
    by true h = (T (follows-all b r h [])).well
    by false h = rw (start-stays b r h) f
call-keeps r f (change c) = subst (λ (o : Outcome). formed o.bytes ≡ true) (call-change c r) (keeps r f (edit c)).well
call-keeps r f undo = (keeps r f take_back).well
call-keeps r f (read x i out) = f
call-keeps r f counts = f
