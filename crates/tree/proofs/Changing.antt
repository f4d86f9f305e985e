-- How changes and undo go on the copy of a room's area, and what a call answers once every test was passed.
use mathlib.Core.Path.{◌≡◌, refl, sym, ap, ◌∙◌}
use mathlib.Core.Bool.{Bool, true, false}
use mathlib.Core.List.{List}
use mathlib.Core.Option.{Option, some}
use mathlib.Core.Logic.{◌⊎◌, inl, inr}
use Rattle.std.specs.Prelude.{Ok, Err}
use Prim.Native.Nat.{ℕ, suc, ◌+◌, ◌-◌, ◌≤◌, ◌<◌, min}
use native.Mathlib.Omega.{arith}
use lib.ListN.{length}
use borrow.Author.Tests.{lt-ltb, le-ltb}
use Rattle.list.specs.List.{MaybeList}
use Rattle.octets.specs.Bytes.{part, put_at, put_on}
use Rattle.octets.proofs.Places.{part-most, put_whole}
use Rattle.octets.proofs.Writes.{put_all}
use Rattle.refusal.specs.Faults.{plain}
use Rattle.refusal.specs.declared.Refusal.{Refusal}
use Rattle.refusal.specs.declared.Refusal.TheVariants as Why
use Rattle.tree.specs.Model.{Object, parent_byte}
use Rattle.tree.specs.Held.{held, parent_in, block_for}
use Rattle.tree.specs.Room.{object_limit, objects, kept_steps, own_at, own_data, slot, step, step_object, area}
use Rattle.tree.specs.Formed.{standing, formed}
use Rattle.tree.specs.Inner.Heads.{Head}
use Rattle.tree.specs.Calls.{Answer, tells, Promised, Outcome, told_as, step_gone, reworked_with, latest, step_taken_back, change_ends, undo_ends, change_to, Put, Edit}
use Rattle.tree.specs.Calls.{nobody, list, mark, owners, edit_at, edit_bytes, edit_put, add_put, tested, add_to, alter_to, undo_to}
use Rattle.tree.specs.Inner.Faults.{test_object, test_add, test_list, test_owners, test_short}
use Rattle.tree.proofs.Tested.{head-says, Forms, formed-parts, standing-most}
use Rattle.tree.proofs.Applied.{Adds, Again, step-facts, steps-off}
use Rattle.tree.proofs.Turns.{placed-byte}
use Rattle.tree.specs.Inner.Else.{worked_out}
use Rattle.tree.proofs.Numbers.{promised}
use Rattle.tree.proofs.Works.{not_there}
use Rattle.tree.proofs.Answered.{settle, need-yes, need-no, formed-head, after_test, plainly, readable-is, short-is, owners-are, on-object-is, object-facts, add-is, add-facts}
use Rattle.tree.proofs.Areas.{area_byte, area-step}

-- ---- the end of a change, and of an undo

pub finish-some : (i : ℕ) (r w r₁ s : List ℕ) (o : Option (List ℕ)) (a : Answer) → length w ≤ length r → o ≡ some w → r₁ ≡ put_on w r → s ≡ slot i w
    → a ≡ told_as (held s)
    → (a ≡ (change_ends i r o).answer) × (r₁ ≡ (change_ends i r o).bytes)
unfolding change_ends
finish-some i r w r₁ s o a l e f q t = rw e (t ∙ ap (λ (x : List ℕ). told_as (held x)) q, f ∙ put_all w r l)

pub finish-none : (i : ℕ) (r : List ℕ) (o : Option (List ℕ)) (a : Answer) (k : Refusal) → worked_out o ≡ Err k → a ≡ Err (plain k)
    → (a ≡ (change_ends i r o).answer) × (r ≡ (change_ends i r o).bytes)
unfolding change_ends
finish-none i r o a k h q = let t = not_there o k h in rw (t.0, ← t.1) (q, refl)

pub undo-some : (r w r₁ : List ℕ) (o : Option (List ℕ)) → length w ≤ length r → o ≡ some w → r₁ ≡ put_on w r
    → (tells 0 false 0 ≡ (undo_ends r o).answer) × (r₁ ≡ (undo_ends r o).bytes)
unfolding undo_ends
undo-some r w r₁ o l e f = rw e (refl, f ∙ put_all w r l)

pub undo-none : (r : List ℕ) (o : Option (List ℕ)) (a : Answer) (k : Refusal) → worked_out o ≡ Err k → a ≡ Err (plain k)
    → (a ≡ (undo_ends r o).answer) × (r ≡ (undo_ends r o).bytes)
unfolding undo_ends
undo-none r o a k h q = let t = not_there o k h in rw (t.0, ← t.1) (q, refl)

-- ---- the latest step

-- it lies in the area
latest-area : (r : List ℕ) → Head r → 0 < kept_steps r → latest (area r) ≡ latest r
latest-area r h k = rw (area_byte r 0 (omega arith)) (area-step r 0 (omega arith))

-- as the code finds it: the object's number, what it puts back, and how many objects stand then
module _ (r : List ℕ) (h : Head r) (n c j m : ℕ) (u b : List ℕ) (en : n ≡ object_limit r) (eu : u ≡ step n 0 r) (ej : j ≡ step_object u) (eb : b ≡ part 2 1184 u)
    (ec : c ≡ objects r)
    (em : m ≡ standing c u) where
  latest-is : latest r ≡ u
  latest-is = rw (← en) (sym eu)

  pub undo-fits : step_object (latest r) < object_limit r → (m ≤ object_limit r) × ((j < object_limit r) × (length b ≤ 1184))
  undo-fits k =
      let q : j < object_limit r = rw (ej, ← latest-is) k in
      let p : m ≤ c = rw em (standing-most c u) in
      let l : length b ≤ 1184 = rw eb (part-most 2 1184 u) in
      (omega arith, (q, l))

  pub undone-is : (w : List ℕ) → 0 < kept_steps r → w ≡ step_gone (area r) → reworked_with (own_at j) b m w ≡ step_taken_back (area r)
  unfolding step_taken_back
  undone-is w k e =
      let z : latest (area r) ≡ u = latest-area r h k ∙ latest-is in
      let o : objects (area r) ≡ c = area_byte r 2 (omega arith) ∙ sym ec in
      rw (z, o, e, ej, eb, em)

-- in a well-formed room it is of an object within the limit
pub latest-within : (r : List ℕ) → formed r ≡ true → 0 < kept_steps r → step_object (latest r) < object_limit r
latest-within r f k =
    by (step-facts (λ i. own_data i r) (objects r) (latest r)
    (steps-off (λ i. own_data i r) (λ j. step (object_limit r) j r) (kept_steps r - 1) (objects r) (rw (← e) p.steps-ok)).0)
  where
    p : Forms r
    p = formed-parts r f

    h : Head r
    h = head-says r p.head_ok

    e : kept_steps r ≡ suc (kept_steps r - 1)
    e = omega arith

    by : Adds (objects r) (latest r) ⊎ Again (λ i. own_data i r) (objects r) (latest r) → step_object (latest r) < object_limit r
    by (inl a) = omega (arith, a.number, a.some, h.within)
    by (inr a) = omega (arith, a.number, h.within)

-- ---- bytes written over a whole buffer

pub filled : (n : ℕ) (x z b : List ℕ) → length x ≡ n → length z ≡ n → b ≡ put_at 0 x z → b ≡ x
filled n x z b lx lz e = e ∙ put_whole x z (lx ∙ sym lz)

-- ---- a change of an object's own data: the tests of what is given

pub mark-passes : (m : Bool) (r : List ℕ) (rest : Outcome) → tested (mark m) r rest ≡ rest
unfolding tested
mark-passes m r rest = refl

pub owners-tested : (o g r : List ℕ) (rest : Outcome) → tested (owners o g) r rest ≡ after_test (plainly (test_owners o g)) r rest
unfolding tested
owners-tested o g r rest = owners-are o g r rest

pub list-tested : (o : MaybeList) (r : List ℕ) (rest : Outcome) → tested (list o) r rest ≡ after_test (test_list o 2) r (after_test (plainly (test_short o)) r rest)
unfolding tested
list-tested o r rest = readable-is o 2 r _ ∙ ap (after_test (test_list o 2) r) (short-is o r rest)

-- ---- what such a change answers

module _ (i : ℕ) (e : Edit) (r : List ℕ) where
  pub alter-is : alter_to i e r ≡ after_test (plainly (test_object r i)) r (tested e r (change_to (edit_put i e (objects r)) r))
  unfolding alter_to
  alter-is = on-object-is r i r _

  pub alter-done : alter_to i e r ≡ change_to (edit_put i e (objects r)) r → (n at : ℕ) (b r₁ : List ℕ) (a : Answer) → n ≡ objects r → at ≡ edit_at e → b ≡ edit_bytes e
      → let p : Put = record { tag = 2; object = i; place = at; bytes = b; standing = n } in (a ≡ (change_to p r).answer) × (r₁ ≡ (change_to p r).bytes)
      → Promised (alter_to i e r) a r₁
  alter-done q n at b r₁ a en ea eb h = promised (alter_to i e r) (settle (q ∙ rw (en, ea, eb)) h.0 h.1)

-- what the change asks of the room
pub alter-asks : (r : List ℕ) (i n : ℕ) → test_object r i ≡ Ok tt → n ≡ objects r → Head r × ((i < object_limit r) × (n ≤ object_limit r))
alter-asks r i n q e =
    let f = object-facts r i q in
    let h = formed-head r f.0 in
    (h, (omega arith, omega arith))

-- ---- what add answers

module _ (o : Object) (r : List ℕ) where
  pub add-first : add_to o r
      ≡ after_test (plainly (test_add r o.parent)) r
      (after_test (test_list o.list 2) r
      (after_test (plainly (test_owners o.owner o.group)) r
      (after_test (plainly (test_short o.list)) r
      (change_to (add_put o (objects r)) r))))
  unfolding add_to
  add-first =
      add-is r o.parent r _
      ∙ ap (after_test (plainly (test_add r o.parent)) r)
      (readable-is o.list 2 r _
      ∙ ap (after_test (test_list o.list 2) r)
      (owners-are o.owner o.group r _
      ∙ ap (after_test (plainly (test_owners o.owner o.group)) r) (short-is o.list r _)))

  pub add_done : add_to o r ≡ change_to (add_put o (objects r)) r → (n : ℕ) (b r₁ : List ℕ) (a : Answer) → n ≡ objects r → b ≡ block_for o
      → let p : Put = record { tag = 1; object = n; place = 0; bytes = b; standing = n + 1 } in (a ≡ (change_to p r).answer) × (r₁ ≡ (change_to p r).bytes)
      → Promised (add_to o r) a r₁
  add_done q n b r₁ a en eb t = promised (add_to o r) (settle (q ∙ rw (en, eb)) t.0 t.1)

-- what the change asks of the room
pub add-asks : (r : List ℕ) (p : Option ℕ) (n : ℕ) → test_add r p ≡ Ok tt → n ≡ objects r → Head r × ((n < object_limit r) × (n + 1 ≤ object_limit r))
add-asks r p n q e =
    let f = add-facts r p q in
    (formed-head r f.is-formed, (omega (arith, f.below), omega (arith, f.below)))

-- the parent's number as own data has it
pub add-parent : (r : List ℕ) (p : ℕ) → test_add r (parent_in nobody p) ≡ Ok tt → parent_byte (parent_in nobody p) ≡ min 255 p
add-parent r p q =
    let f = add-facts r (parent_in nobody p) q in
    placed-byte (λ j. own_data j r) (objects r) nobody p (omega arith) (omega (arith, f.below, f.limit-64)) f.is-placed

-- ---- what undo answers

pub undo-13 : (r : List ℕ) (a : Answer) → formed r ≡ false → a ≡ Err (plain Why.Tree) → Promised (undo_to r) a r
unfolding undo_to
undo-13 r a f t = promised (undo_to r) (settle (need-no Why.Tree r _ f) t refl)

module _ (r : List ℕ) (k : ℕ) (f : formed r ≡ true) (q : k ≡ kept_steps r) where
  pub undo-11 : (a : Answer) → k ≡ 0 → a ≡ Err (plain Why.NoStep) → Promised (undo_to r) a r
  unfolding undo_to
  undo-11 a z t = promised (undo_to r) (settle (need-yes Why.Tree r _ f ∙ need-no Why.NoStep r _ (le-ltb 0 (kept_steps r) (omega arith))) t refl)

  module _ (z : k ≡ 0 → ⊥) where
    some-kept : 0 < kept_steps r
    some-kept = omega arith

    pub undo-asks : Head r × ((0 < kept_steps r) × (step_object (latest r) < object_limit r))
    undo-asks = (formed-head r f, (some-kept, latest-within r f some-kept))

    pub undo-done : (r₁ : List ℕ) (a : Answer) → (a ≡ (undo_ends r (step_taken_back (area r))).answer) × (r₁ ≡ (undo_ends r (step_taken_back (area r))).bytes)
        → Promised (undo_to r) a r₁
    unfolding undo_to
    undo-done r₁ a h = promised (undo_to r) (settle (need-yes Why.Tree r _ f ∙ need-yes Why.NoStep r _ (lt-ltb 0 (kept_steps r) some-kept)) h.0 h.1)
