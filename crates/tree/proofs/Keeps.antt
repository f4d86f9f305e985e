-- A well-formed room as facts; and what becomes of one where a change or an undo ends: it is well formed again and shows what the replay has.
use mathlib.Core.Path.{◌≡◌, refl, sym, ap, ◌∙◌, subst}
use mathlib.Core.Bool.{true}
use mathlib.Core.List.{List, []}
use Prim.Native.Nat.{ℕ, ◌≤◌, ◌<◌}
use native.Mathlib.Nat.{zero-add}
use native.Mathlib.Omega.{arith}
use lib.ListN.{length, get_or}
use Rattle.octets.specs.Bytes.{front}
use Rattle.octets.proofs.Tests.{both_true}
use Rattle.tree.specs.General.{tab}
use Rattle.tree.specs.Held.{held, block_ok, slot_ok, parent_of}
use Rattle.tree.specs.Room.{object_limit, step_limit, objects, kept_steps, room_for, settings, own_data, slot, step, area}
use Rattle.tree.specs.Formed.{settings_ok, placed_in, object_ok, steps_ok, formed}
use Rattle.tree.specs.Inner.Heads.{Head}
use Rattle.tree.proofs.Replay.{work, undo_in, shown}
use Rattle.tree.proofs.Tested.{head-says, head-said, formed-parts, formed-from}
use Rattle.tree.proofs.Applied.{every-at, every-all, alike_same, steps-same, steps-shift}
use Rattle.tree.proofs.Turns.{Owned, owned-off, owned-ordered}
use Rattle.tree.proofs.Tab.{length-tab, get_d-tab}
use Rattle.tree.proofs.Paths.{Ordered, in_order, in_order-is}
use Rattle.tree.proofs.Areas.{tab-as, area_byte, area-length, area-settings, area-own, area-slot, area-step, front-byte, front_length, area-front}
use Rattle.tree.proofs.Became.{Became}

-- ---- a well-formed room

pub record Formed (r : List ℕ) : Type 0 where
  pub head : Head r
  pub settings-ok : settings_ok (settings r) ≡ true
  pub owned : Owned (objects r) (λ j. own_data j r)
  pub slots : (i : ℕ) → i < objects r → slot_ok (slot i r) ≡ true
  pub steps : steps_ok (λ i. own_data i r) (λ j. step (object_limit r) j r) (kept_steps r) 0 (objects r) ≡ true

object-facts : (r : List ℕ) (i : ℕ) → object_ok r i ≡ true
    → (block_ok (own_data i r) ≡ true) × ((placed_in (λ j. own_data j r) i (parent_of (own_data i r)) ≡ true) × (slot_ok (slot i r) ≡ true))
unfolding object_ok
object-facts r i h =
    let a = both_true (block_ok (own_data i r)) _ h in
    (a.0, both_true (placed_in (λ j. own_data j r) i (parent_of (own_data i r))) (slot_ok (slot i r)) a.1)

object-from : (r : List ℕ) (i : ℕ) → block_ok (own_data i r) ≡ true → placed_in (λ j. own_data j r) i (parent_of (own_data i r)) ≡ true → slot_ok (slot i r) ≡ true
    → object_ok r i ≡ true
unfolding object_ok
object-from r i a b c = rw (a, b) c

pub formed-facts : (r : List ℕ) → formed r ≡ true → Formed r
formed-facts r h =
    let p = formed-parts r h in
    let at : (i : ℕ) → i < objects r → object_ok r i ≡ true = every-at (object_ok r) (objects r) p.objects-ok in
    record {
      head = head-says r p.head_ok;
      settings-ok = p.settings-ok;
      owned = λ i k. let f = object-facts r i (at i k) in (f.0, f.1.0);
      slots = λ i k. (object-facts r i (at i k)).1.1;
      steps = p.steps-ok;
    }

pub facts-formed : (r : List ℕ) → Formed r → formed r ≡ true
facts-formed r f =
    formed-from r
    (record {
      head_ok = head-said r f.head;
      settings-ok = f.settings-ok;
      objects-ok = every-all (object_ok r) (objects r) (λ i k. let o = f.owned i k in object-from r i o.0 o.1 (f.slots i k));
      steps-ok = f.steps;
    })

-- steps that are given by other functions, alike below what they look at
pub steps-as : (f f' g g' : ℕ → List ℕ) (k n : ℕ) → ((j : ℕ) → j < n → f j ≡ f' j) → ((j : ℕ) → j < k → g j ≡ g' j)
    → steps_ok f g k 0 n ≡ true → steps_ok f' g' k 0 n ≡ true
steps-as f f' g g' k n ef eg h =
    sym (steps-shift f' g g' k 0 0 n (λ j q. rw zero-add (eg j q)))
    ∙ steps-same f f' g k 0 n (λ j q. alike_same (ef j q)) h

-- ---- working out afresh, for own data whose parents come first

pub work-as : (e : List ℕ) (n : ℕ) (f : ℕ → List ℕ) → Owned n f → n ≤ 64 → in_order e (tab n f) n ≡ work e (tab n f)
work-as e n f o h =
    let l = length-tab n f in
    let ordered : Ordered (tab n f) =
    λ i k.
    let q : i < n = rw l at k in
    rw (get_d-tab n f i [] q) (owned-ordered n f o i q) in
    subst (λ (m : ℕ). in_order e (tab n f) m ≡ work e (tab n f)) l (in_order-is e (tab n f) ordered (omega (arith, l)))

-- ---- the room after a change or an undo

module _ (r : List ℕ) (F : Formed r) (w : List ℕ) (n : ℕ) (f : ℕ → List ℕ) (k : ℕ) (g : ℕ → List ℕ)
    (B : Became (area r) w n f k g) (hn : n ≤ object_limit r) (hk : k ≤ step_limit r) (O : Owned n f) (T : steps_ok f g k 0 n ≡ true) where
  h : Head r
  h = F.head

  long : length w ≡ room_for (object_limit r) (step_limit r)
  long = B.size ∙ area-length r h

  w-limit : object_limit w ≡ object_limit r
  w-limit = B.limits ∙ area_byte r 0 (omega arith)

  w-step-limit : step_limit w ≡ step_limit r
  w-step-limit = B.step-limits ∙ area_byte r 1 (omega arith)

  byte : (i : ℕ) → i < room_for (object_limit r) (step_limit r) → get_or (front w r) i 0 ≡ get_or w i 0
  byte = front-byte r h w long

  pub new-limit : object_limit (front w r) ≡ object_limit r
  new-limit = byte 0 (omega arith) ∙ w-limit

  pub new-step-limit : step_limit (front w r) ≡ step_limit r
  new-step-limit = byte 1 (omega arith) ∙ w-step-limit

  new-objects : objects (front w r) ≡ n
  new-objects = byte 2 (omega arith) ∙ B.count

  new-kept : kept_steps (front w r) ≡ k
  new-kept = byte 3 (omega arith) ∙ B.steps

  pub new-length : length (front w r) ≡ length r
  new-length = front_length r h w long

  new-head : Head (front w r)
  new-head =
      record {
        long = omega (arith, new-length, h.long);
        some-limit = omega (arith, new-limit, h.some-limit);
        limit-64 = omega (arith, new-limit, h.limit-64);
        steps-64 = omega (arith, new-step-limit, h.steps-64);
        within = omega (arith, new-limit, new-objects);
        kept-within = omega (arith, new-step-limit, new-kept);
        room-enough = rw (new-limit, new-step-limit, new-length) h.room-enough;
      }

  is-area : area (front w r) ≡ w
  is-area = area-front r h w long w-limit w-step-limit

  pub new-settings : settings (front w r) ≡ settings r
  new-settings = sym (area-settings (front w r)) ∙ ap settings is-area ∙ B.same-settings ∙ area-settings r

  new-own : (j : ℕ) → j < n → own_data j (front w r) ≡ f j
  new-own j q = sym (area-own (front w r) j (omega (arith, new-limit))) ∙ ap (own_data j) is-area ∙ B.owns j q

  new-slot : (j : ℕ) → j < n → slot j (front w r) ≡ slot j w
  new-slot j q = sym (area-slot (front w r) j (omega (arith, new-limit))) ∙ ap (slot j) is-area

  new-step : (j : ℕ) → j < k → step (object_limit (front w r)) j (front w r) ≡ g j
  new-step j q =
      sym (area-step (front w r) j (omega (arith, new-step-limit)))
      ∙ ap (λ (x : List ℕ). step (object_limit (front w r)) j x) is-area
      ∙ ap (λ (m : ℕ). step m j w) (new-limit ∙ sym (area_byte r 0 (omega arith)))
      ∙ B.stepped j q

  pub new-formed : Formed (front w r)
  new-formed =
      record {
        head = new-head;
        settings-ok = rw new-settings F.settings-ok;
        owned = subst (λ (m : ℕ). Owned m (λ j. own_data j (front w r))) (sym new-objects)
            (owned-off n n f (λ j. own_data j (front w r)) O (omega arith) (λ j q. sym (new-own j q)));
        slots = λ i q. let z : i < n = omega (arith, new-objects) in rw (new-slot i z) (B.slots i z);
        steps = rw (new-objects, new-kept)
            (steps-as f (λ j. own_data j (front w r)) g (λ j. step (object_limit (front w r)) j (front w r)) k n (λ j q. sym (new-own j q)) (λ j q. sym (new-step j q)) T);
      }

  pub new-shown : shown (front w r) ≡ record { own = tab n f; lists = tab n (λ j. held (slot j w)); kept = tab k (λ j. undo_in (g j)) }
  unfolding shown
  new-shown =
      let a : tab (objects (front w r)) (λ i. own_data i (front w r)) ≡ tab n f = tab-as _ n _ f new-objects new-own in
      let b : tab (objects (front w r)) (λ i. held (slot i (front w r))) ≡ tab n (λ j. held (slot j w)) =
      tab-as _ n _ (λ j. held (slot j w)) new-objects (λ j q. ap held (new-slot j q)) in
      let c : tab (kept_steps (front w r)) (λ j. undo_in (step (object_limit (front w r)) j (front w r))) ≡ tab k (λ j. undo_in (g j)) =
      tab-as _ k _ (λ j. undo_in (g j)) new-kept (λ j q. ap undo_in (new-step j q)) in
      rw (a, b, c) refl
