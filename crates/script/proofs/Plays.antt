-- A script in its room: the tree is a started one, every record leaves it well formed, and a listing is of the lists worked out afresh.
use mathlib.Core.Path.{◌≡◌, refl, sym, ap, ◌∙◌, subst}
use mathlib.Core.Bool.{Bool, true, false, cond}
use mathlib.Core.List.{List, [], ◌∷◌, map}
use mathlib.Core.Option.{some, none}
use Prim.Native.Nat.{ℕ, zero, suc, ◌+◌, ◌-◌, ◌≤◌, ◌<◌}
use native.Mathlib.Nat.{zero-add}
use native.Mathlib.Omega.{arith}
use lib.ListN.{length, get_or, take, drop, replicate, length-append, length-drop, length-replicate}
use lib.Seq.{take_all}
use lib.Dec.{eqb, leb}
use borrow.Author.Tests.{leb-true, eq-eqb, ne_eqb}
use Rattle.list.specs.List.{MaybeList}
use Rattle.octets.proofs.Places.{split}
use Rattle.octets.proofs.Tests.{both_true}
use Rattle.octets.proofs.Writes.{front-all}
use Rattle.inherit.specs.Compute.{rule_ok}
use Rattle.tree.specs.Model.{Object, Tree, list_of, objects_of, begun as begun-tree, after, accepted, short_if, limits_ok}
use Rattle.tree.specs.Shown.{Request, settings_from, meant, lists_in, played_on}
use Rattle.tree.specs.Room.{empty_room}
use Rattle.tree.specs.Formed.{formed}
use Rattle.octets.specs.Order.{need}
use Rattle.tree.specs.Calls.{Answer, Promised, answer_values, readable_to, start_ok, start_to}
use Rattle.tree.proofs.Lays.{length-settings}
use Rattle.tree.proofs.Modelled.{objects-length}
use Rattle.tree.proofs.Demand3.{Shows, demand3, call-keeps}
use Rattle.script.proofs.Listings.{lists_length, lists_at}
use Rattle.std.specs.Prelude.{Result, Ok, Err}
use Rattle.script.specs.declared.records.Flaw.{Flaw}
use Rattle.script.specs.declared.records.Flaw.TheVariants.{Cut, Bad}
use Rattle.script.specs.declared.records.Record.{Record}
use Rattle.script.specs.Record.{record_asks, step_of}
use Rattle.script.specs.Fold.{Run, past, carried, on_step, run_by, run_of, on_call, calls_by, calls_of, ahead, in_pieces, all_pieces}
use Rattle.script.proofs.Folds.{run-used, pieces-same}
use Rattle.script.specs.Play.{mapping, began, begin_to, fresh, Ending, Listed, BadAt, script_head_ok, ending_after, ending_of, end_of_pieces, text_to, listing_to, play_to}

-- ---- the room

-- the start of a script's tree is accepted
start-done : (r : List ℕ) → length r ≡ 55400 → accepted (answer_values (start_to began r).answer) ≡ true
unfolding start_to need readable_to short_if start_ok limits_ok rule_ok
start-done r h = rw h refl

pub begun : accepted (answer_values (begin_to (replicate 55400 0)).answer) ≡ true
unfolding begin_to
begun = start-done (replicate 55400 0) (length-replicate {A = ℕ} 55400 0)

-- whatever the room held
begin-empty : (r : List ℕ) → length r ≡ 55400 → (begin_to r).bytes ≡ empty_room began
unfolding begin_to start_to need readable_to short_if start_ok limits_ok rule_ok empty_room
begin-empty r h =
    rw h
    (front-all (empty_room began) r
    (rw h (simp (length-append, length-replicate, length-settings 2 mapping none refl) (omega arith))))

pub begin-any : (r : List ℕ) → length r ≡ 55400 → (begin_to r).bytes ≡ fresh
unfolding fresh
begin-any r h = begin-empty r h ∙ sym (begin-empty (replicate 55400 0) (length-replicate {A = ℕ} 55400 0))

-- every mixture of calls on it is demand 3's
pub script-shows : (qs : List Request) → Shows 55400 (played_on qs fresh) (after (begun-tree (settings_from began)) (map (meant 55400) qs))
unfolding begin_to fresh
script-shows qs =
    subst (λ (n : ℕ). Shows n (played_on qs fresh) (after (begun-tree (settings_from began)) (map (meant n) qs))) (length-replicate {A = ℕ} 55400 0)
    (demand3 began (replicate 55400 0) begun qs)

pub fresh-formed : formed fresh ≡ true
unfolding played_on
fresh-formed = (script-shows []).well

-- ---- records leave a room well formed

step-formed : (x : Result Record Flaw) (r : List ℕ) (next : ℕ → Run) → formed r ≡ true → ((n : ℕ) → formed (next n).room ≡ true) → formed (on_step x r next).room ≡ true
unfolding on_step past
step-formed (Err Cut) r next h f = h
step-formed (Err Bad) r next h f = h
step-formed (Ok a) r next h f = f a.length

formed-by : (more : ℕ) (t r : List ℕ) → formed r ≡ true → formed (run_by more t r).room ≡ true
unfolding run_by carried
formed-by zero t r h = h
formed-by (suc more) t r h =
    step-formed (step_of t) r (λ n. run_by more (drop n t) (carried n t r)) h
    (λ n. formed-by more (drop n t) (carried n t r) (call-keeps r h (record_asks (take n t))))

pub run-formed : (t r : List ℕ) → formed r ≡ true → formed (run_of t r).room ≡ true
unfolding run_of
run-formed t r h = formed-by (suc (length t)) t r h

-- ---- the room after a script is the room after the calls that it asks

step-played : (x : Result Record Flaw) (r₀ : List ℕ) (qs : List Request) (next : ℕ → Run) (calls : ℕ → List Request)
    → ((n : ℕ) → (next n).room ≡ played_on (calls n) r₀) → (on_step x (played_on qs r₀) next).room ≡ played_on (on_call x qs calls) r₀
unfolding on_step on_call past
step-played (Err Cut) r₀ qs next calls f = refl
step-played (Err Bad) r₀ qs next calls f = refl
step-played (Ok a) r₀ qs next calls f = f a.length

played-by : (more : ℕ) (t r₀ : List ℕ) (qs : List Request) → (run_by more t (played_on qs r₀)).room ≡ played_on (calls_by more t qs) r₀
unfolding run_by calls_by carried played_on
played-by zero t r₀ qs = refl
played-by (suc more) t r₀ qs =
    step-played (step_of t) r₀ qs (λ n. run_by more (drop n t) (carried n t (played_on qs r₀))) (λ n. calls_by more (drop n t) (record_asks (take n t) ∷ qs))
    (λ n. played-by more (drop n t) r₀ (record_asks (take n t) ∷ qs))

pub run-played : (t r : List ℕ) → (run_of t r).room ≡ played_on (calls_of t) r
unfolding run_of calls_of played_on
run-played t r = played-by (suc (length t)) t r []

-- ---- how a script ends

pub head-long : (s : List ℕ) → script_head_ok s ≡ true → 5 ≤ length s
unfolding script_head_ok
head-long s h = leb-true 5 (length s) (both_true (leb 5 (length s)) _ h).0

-- what is written for the ending is what the script writes
plays : (s : List ℕ) (e : Ending) (out : List ℕ) (a : Answer) (done : List ℕ) → ending_of s ≡ e → Promised (text_to e out) a done → Promised (play_to s out) a done
unfolding play_to
plays s e out a done h w = rw h w

-- a wrong head
pub plays-head : (s out : List ℕ) (a : Answer) (done : List ℕ) → script_head_ok s ≡ false → Promised (text_to (BadAt 0) out) a done → Promised (play_to s out) a done
unfolding ending_of
plays-head s out a done h w = plays s (BadAt 0) out a done (rw h refl) w

-- the records of s were played: so many bytes of them were whole, and left the room so
pub record Ran (s : List ℕ) (used : ℕ) (room : List ℕ) : Type 0 where
  pub head : script_head_ok s ≡ true
  pub bytes : used ≡ (run_of (drop 5 s) fresh).used
  pub rooms : room ≡ (run_of (drop 5 s) fresh).room

-- as the code has it, whatever r the room held
pub ran : (s r w t : List ℕ) (used : ℕ) (room : List ℕ) → script_head_ok s ≡ true → length r ≡ 55400 → w ≡ (begin_to r).bytes → t ≡ take (length s - 5) (drop 5 s)
    → used ≡ (run_of t w).used → room ≡ (run_of t w).room → Ran s used room
ran s r w t used room h l b e u m =
    let k : t ≡ drop 5 s = e ∙ take_all (length s - 5) (drop 5 s) (rw length-drop (omega arith)) in
    let f : w ≡ fresh = b ∙ begin-any r l in
    record { head = h; bytes = rw (k, f) at u; rooms = rw (k, f) at m }

module _ (s : List ℕ) (used : ℕ) (room : List ℕ) (x : Ran s used room) where
  pub ran-within : 5 + used ≤ length s
  ran-within = omega (arith, x.bytes, run-used (drop 5 s) fresh, length-drop 5 s, head-long s x.head)

  module _ (out : List ℕ) (a : Answer) (done : List ℕ) where
    pub plays-bad : 5 + used < length s → Promised (text_to (BadAt (5 + used)) out) a done → Promised (play_to s out) a done
    unfolding ending_after ending_of
    plays-bad l w = plays s (BadAt (5 + used)) out a done (rw (x.head, ← x.bytes, ne_eqb (5 + used) (length s) (λ q. omega arith)) refl) w

    pub plays-whole : length s ≤ 5 + used → Promised (listing_to room out) a done → Promised (play_to s out) a done
    unfolding ending_after ending_of listing_to need
    plays-whole l w =
        let q : 5 + used ≡ length s = omega (arith, ran-within) in
        let f : formed room ≡ true = rw x.rooms (run-formed (drop 5 s) fresh fresh-formed) in
        plays s (Listed (lists_in room)) out a done (rw (x.head, ← x.bytes, ← x.rooms, eq-eqb (5 + used) (length s) q) refl) (rw f at w)

-- ---- a script in pieces

ends_by : (n used : ℕ) (t r : List ℕ) (b : Bool) → n ≡ 5 + length t → used ≤ length t
    → end_of_pieces (ahead 0 t (record { used = used; bad = b; room = r })) ≡ ending_after n (record { used = used; bad = b; room = r })
unfolding end_of_pieces ahead ending_after
ends_by n used t r b e h =
    split (length t) used
    (λ l. rw (eq-eqb (length (drop used t)) 0 (rw length-drop (omega arith)), eq-eqb (5 + used) n (omega arith)) refl)
    (λ l. rw (ne_eqb (length (drop used t)) 0 (rw length-drop (λ q. omega arith)), ne_eqb (5 + used) n (λ q. omega arith))
    (ap (λ (k : ℕ). BadAt (5 + k)) (zero-add used)))

-- however its records are cut into pieces, a script ends as it does whole
pub pieces_end : (s : List ℕ) (ps : List (List ℕ)) → script_head_ok s ≡ true → all_pieces ps ≡ drop 5 s
    → end_of_pieces (in_pieces (record { at = 0; left = []; bad = false; room = fresh }) ps) ≡ ending_of s
unfolding ending_of
pieces_end s ps h e =
    let f = run_of (drop 5 s) fresh in
    let l : length s ≡ 5 + length (drop 5 s) = omega (arith, length-drop 5 s, head-long s h) in
    ap end_of_pieces (pieces-same ps fresh)
    ∙ rw (e, h) (ends_by (length s) f.used (drop 5 s) f.room f.bad l (run-used (drop 5 s) fresh))

-- ---- the listing

listed_by : (b : Bool) (f os : List MaybeList) (n : ℕ) → cond b (Listed f) (BadAt n) ≡ Listed os → f ≡ os
listed_by true f os n h = let e : f ≡ os = cc in e
listed_by false f os n h = let z : ◌≡◌ {A = ℕ} 0 1 = cc in absurd (omega arith)

ends-listed : (n : ℕ) (f : Run) (os : List MaybeList) → ending_after n f ≡ Listed os → lists_in f.room ≡ os
unfolding ending_after
ends-listed n f os h = listed_by (eqb (5 + f.used) n) (lists_in f.room) os (5 + f.used) h

head-listed : (b : Bool) (e : Ending) (os : List MaybeList) → cond b e (BadAt 0) ≡ Listed os → e ≡ Listed os
head-listed true e os h = h
head-listed false e os h = let z : ◌≡◌ {A = ℕ} 0 1 = cc in absurd (omega arith)

-- the model's tree after what a script asks
abbrev pub tree_of : List ℕ → Tree
tree_of s = after (begun-tree (settings_from began)) (map (meant 55400) (calls_of (drop 5 s)))

-- os are the computed lists of the model's objects, each worked out by following parents up to the root
pub record Lists (s : Tree) (os : List MaybeList) : Type 0 where
  pub all : length os ≡ length (objects_of s)
  pub each : (i : ℕ) → i < length os → list_of s.settings (objects_of s) i ≡ some (get_or os i none)

room-lists : (qs : List Request) → Lists (after (begun-tree (settings_from began)) (map (meant 55400) qs)) (lists_in (played_on qs fresh))
room-lists qs =
    let S = script-shows qs in
    let r = played_on qs fresh in
    record {
      all = lists_length r ∙ sym (objects-length r) ∙ ap (λ (os : List Object). length os) S.objects-are;
      each = λ i h. let k = rw (lists_length r) at h in S.lists-are i k ∙ ap some (sym (lists_at r i k));
    }

-- what a script lists are the model's lists after what it asks
pub listed-afresh : (s : List ℕ) (os : List MaybeList) → ending_of s ≡ Listed os → Lists (tree_of s) os
unfolding ending_of
listed-afresh s os h =
    let e = ends-listed (length s) (run_of (drop 5 s) fresh) os (head-listed (script_head_ok s) (ending_after (length s) (run_of (drop 5 s) fresh)) os h) in
    subst (Lists (tree_of s)) (ap lists_in (sym (run-played (drop 5 s) fresh)) ∙ e) (room-lists (calls_of (drop 5 s)))
