-- Reading back: in a well-formed room what is read of an object is what the model reads of the objects that the room shows; of a computed list, where it
-- is the fresh one.
use mathlib.Core.Path.{◌≡◌, refl, sym, ap, ◌∙◌, subst}
use mathlib.Core.Bool.{Bool, true, false, cond}
use mathlib.Core.List.{List, [], ◌∷◌, ◌++◌, append_assoc}
use mathlib.Core.Option.{none, some}
use Prim.Native.Nat.{ℕ, ◌≤◌, ◌<◌}
use native.Mathlib.Omega.{arith}
use lib.ListN.{length}
use lib.Dec.{eqb, leb, ltb}
use borrow.Author.Tests.{ltb-true, eqb-true, eqb-false, leb-true}
use Rattle.list.specs.List.{MaybeList}
use Rattle.octets.specs.Order.{need}
use Rattle.octets.specs.Bytes.{front, part}
use Rattle.list.specs.Answer.{Values, done, refused}
use Rattle.refusal.specs.declared.Refusal.TheVariants as Why
use Rattle.tree.specs.Held.{held, block_ok, parent_byte_in, parent_in, kind_byte, mark_byte, type_of, owner_of, group_of, own_list}
use Rattle.tree.specs.Room.{objects, kept_steps, own_data, slot}
use Rattle.tree.specs.Calls.{tells, Answer, Outcome, refuse, told_as, on_object, answer_values, list_bytes, copied, data_of, list_to, own_to, data_to, counts_to}
use Rattle.tree.specs.Model as Model
use Rattle.tree.specs.Shown.{object_in, objects_in, read_with}
use Rattle.tree.proofs.Blocks.{type-part, block-sound}
use Rattle.tree.proofs.Answered.{need-yes}
use Rattle.tree.proofs.Keeps.{Formed, facts-formed}
use Rattle.tree.proofs.Modelled.{said, told_is, objects-length, object-at, own-long}

bytes-is : (o : MaybeList) → list_bytes o ≡ Model.bytes_if (some o)
unfolding list_bytes Model.bytes_if
bytes-is none = refl
bytes-is (some s) = refl

told-number : (o : MaybeList) → (answer_values (told_as o)).number ≡ 0
unfolding told_as
told-number none = refl
told-number (some s) = refl

-- ---- own data

-- its first bytes
first-parts : (b : List ℕ) → 19 ≤ length b → part 0 19 b ≡ (parent_byte_in b ∷ kind_byte b ∷ mark_byte b ∷ []) ++ part 3 16 b
unfolding part
first-parts [] h = absurd (omega arith)
first-parts (x ∷ []) h = absurd (omega arith)
first-parts (x ∷ y ∷ []) h = absurd (omega arith)
first-parts (x ∷ y ∷ z ∷ b) h = refl

bit_is : (k : ℕ) → leb k 1 ≡ true → cond (eqb k 1) 1 0 ≡ k
bit_is k h = by (eqb k 1) refl
  where
    by : (b : Bool) → eqb k 1 ≡ b → cond b 1 0 ≡ k
    by true e = sym (eqb-true k 1 e)
    by false e =
        let n = eqb-false k 1 e in
        let l = leb-true k 1 h in
        omega arith

parent-byte : (p : ℕ) → Model.parent_byte (parent_in 255 p) ≡ p
unfolding Model.parent_byte
parent-byte p = by (eqb p 255) refl
  where
    by : (b : Bool) → eqb p 255 ≡ b → Model.parent_byte (cond b none (some p)) ≡ p
    by true e = sym (eqb-true p 255 e)
    by false e = refl

pub data_is : (b : List ℕ) → length b ≡ 1184 → block_ok b ≡ true → data_of b ≡ Model.data_bytes (object_in b)
unfolding data_of Model.data_bytes
data_is b n h =
    let s = block-sound b h in
    rw (first-parts b (omega arith), ← type-part b (omega arith), parent-byte (parent_byte_in b), bit_is (kind_byte b) s.kind, bit_is (mark_byte b) s.mark)
    (append_assoc (parent_byte_in b ∷ kind_byte b ∷ mark_byte b ∷ []) (type_of b) ((length (owner_of b) ∷ owner_of b) ++ (length (group_of b) ∷ group_of b)))

-- ---- the answer and the lent bytes of a reading

pub record ReadAs (o : Outcome) (v : Values) (after : List ℕ) : Type 0 where
  pub answer-is : said o ≡ v
  pub bytes-are : o.bytes ≡ after

-- what the model answers and leaves, by the two tests
abbrev answered : Bool → Bool → Values → Values
answered b c v = need b (refused 9 0 0) (need c (refused 8 0 0) v)

module _ (r : List ℕ) (F : Formed r) (i : ℕ) (a : Answer) (v : Values) (b b' out : List ℕ) (d : (answer_values a).number ≡ 0)
    (same : i < objects r → (answer_values a ≡ v) × (b ≡ b')) where
  by_tests : (x y : Bool) → answer_values a ≡ v → b ≡ b'
      → ReadAs (need x (refuse Why.Object 0 0 out) (need y (refuse Why.Room 0 0 out) (record { answer = a; bytes = front b out })))
      (answered x y v) (cond (Model.accepted (answered x y v)) (front b' out) out)
  unfolding need
  by_tests true true ev eb =
      let z : v.number ≡ 0 = ap (λ (x : Values). x.number) (sym ev) ∙ d in
      record { answer-is = ev; bytes-are = rw (z, eb) refl }
  by_tests true false ev eb = record { answer-is = refl; bytes-are = refl }
  by_tests false y ev eb = record { answer-is = refl; bytes-are = refl }

  no-object : (y : Bool) (o : Outcome) → ReadAs (need false (refuse Why.Object 0 0 out) o) (answered false y v) (cond (Model.accepted (answered false y v)) (front b' out) out)
  unfolding need
  no-object y o = record { answer-is = refl; bytes-are = refl }

  object-by : (x : Bool) → ltb i (objects r) ≡ x → let w = answered x (leb (length b') (length out)) v in
      ReadAs (need x (refuse Why.Object 0 0 out) (copied a b out)) w (cond (Model.accepted w) (front b' out) out)
  unfolding copied
  object-by true e =
      let s = same (ltb-true i (objects r) e) in
      subst (λ (z : List ℕ). let w = answered true (leb (length z) (length out)) v in
      ReadAs (need true (refuse Why.Object 0 0 out) (copied a b out)) w (cond (Model.accepted w) (front b' out) out)) s.1
      (by_tests true (leb (length b) (length out)) s.0 s.1)
  object-by false e = no-object (leb (length b') (length out)) (copied a b out)

  read_as : let w = answered (ltb i (length (objects_in r))) (leb (length b') (length out)) v in
      ReadAs (on_object r i out (copied a b out)) w (cond (Model.accepted w) (front b' out) out)
  unfolding on_object
  read_as = rw (need-yes Why.Tree out (need (ltb i (objects r)) (refuse Why.Object 0 0 out) (copied a b out)) (facts-formed r F), objects-length r) (object-by (ltb i (objects r)) refl)

-- each part, where the room's lists are the fresh ones
module _ (r : List ℕ) (F : Formed r) (t : Model.Settings)
    (fresh : (i : ℕ) → i < objects r → Model.list_of t (objects_in r) i ≡ some (held (slot i r))) where
  pub part-as : (x : Model.Part) (i : ℕ) (out : List ℕ)
      → ReadAs (read_with x i r out) (Model.read_answer t (objects_in r) x i (length out)) (Model.read_into t (objects_in r) x i out)
  unfolding read_with Model.read_answer Model.read_into Model.part_bytes Model.part_told list_to own_to data_to
  part-as Model.computed-list i out =
      let o = held (slot i r) in
      let l = Model.list_of t (objects_in r) i in
      read_as r F i (told_as o) (Model.told l) (list_bytes o) (Model.bytes_if l) out (told-number o)
      (λ h. (told_is o ∙ ap Model.told (sym (fresh i h)), bytes-is o ∙ ap Model.bytes_if (sym (fresh i h))))
  part-as Model.own-list i out =
      let o = own_list (own_data i r) in
      let l = (Model.object (objects_in r) i).list in
      read_as r F i (told_as o) (Model.told (some l)) (list_bytes o) (Model.bytes_if (some l)) out (told-number o)
      (λ h. (rw (object-at r i h) (told_is o), rw (object-at r i h) (bytes-is o)))
  part-as Model.other-data i out =
      let b = own_data i r in
      let m = Model.data_bytes (Model.object (objects_in r) i) in
      read_as r F i (tells (length (data_of b)) true 0) (done (length m) 1 0 0) (data_of b) m out refl
      (λ h.
      let e : data_of b ≡ Model.data_bytes (Model.object (objects_in r) i) = rw (object-at r i h) (data_is b (own-long r F.head i h) (F.owned i h).0) in
      (rw e refl, e))

-- the counts
pub counts-as : (r : List ℕ) → Formed r → answer_values (counts_to r) ≡ done (length (objects_in r)) 1 (kept_steps r) 0
unfolding counts_to
counts-as r F = rw (facts-formed r F, objects-length r) refl
