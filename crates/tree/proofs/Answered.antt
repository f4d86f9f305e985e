-- What a call answers, by its tests: each refuses by its number, or the call goes on; and what the tests that passed say.
use mathlib.Core.Path.{◌≡◌, refl, sym, ap, ◌∙◌}
use mathlib.Core.Bool.{Bool, true, false, cond}
use mathlib.Core.List.{List, [], ◌∷◌, ◌++◌, append_assoc}
use mathlib.Core.Option.{Option, none, some}
use Rattle.std.specs.Prelude.{Result, Ok, Err, Some, None}
use Rattle.octets.specs.Absent.{unless_zero}
use Rattle.octets.proofs.Absent.{some-unless_zero, none-unless_zero}
use Rattle.std.specs.Result.{IsErrAnd}
use Rattle.std.proofs.lemmas.Result.{err_from_is_err_and}
use Prim.Native.Nat.{ℕ, ◌+◌, ◌*◌, ◌≤◌, ◌<◌}
use native.Mathlib.Nat.{zero-add}
use native.Mathlib.Omega.{arith}
use lib.ListN.{length, set, replicate, length-append, length-take, length-drop, length-replicate}
use lib.Dec.{ltb}
use borrow.Author.Tests.{ltb-true, leb-true, le-leb, lt-leb, ne_eqb}
use Rattle.octets.specs.Bytes.{part, put_at, front}
use Rattle.list.specs.Entry.{access}
use Rattle.list.specs.List.{check_of, MaybeList}
use Rattle.list.specs.declared.readings.Read.{Read}
use Rattle.octets.proofs.Places.{length_part}
use Rattle.octets.proofs.Tests.{both_true, le-or, off}
use Rattle.inherit.specs.Compute.{ordinary, rule_ok}
use Rattle.refusal.specs.Faults.{plain}
use Rattle.refusal.specs.declared.Fault.{Fault}
use Rattle.refusal.specs.declared.Refusal.{Refusal}
use Rattle.refusal.specs.declared.Refusal.TheVariants as Why
use Rattle.tree.specs.Model.{Settings, short_if, limits_ok}
use Rattle.tree.specs.Held.{id_in, owner_of, group_of}
use Rattle.tree.specs.Room.{object_limit, objects, own_data, room_for, room_of, settings_for, empty_room}
use Rattle.tree.specs.Formed.{placed_in, formed}
use Rattle.tree.specs.Inner.Heads.{Head}
use Rattle.octets.specs.Order.{need}
use Rattle.tree.specs.Calls.{Answer, Outcome, Promised, refuse, on_reading_to, readable_to, on_object, told_as, start_ok, list_bytes, copied, data_of}
use Rattle.tree.specs.Inner.Faults.{test_object, test_add, test_reading, test_list, test_owners, test_short}
use Rattle.tree.proofs.Numbers.{promised}
use Rattle.tree.proofs.Tested.{head-says, formed-parts}
use Rattle.tree.proofs.Lays.{Written, write-one, write-next, write-more, length-settings}

-- ---- an outcome, and one test

-- what a contract says of an outcome, from the case that it is
pub settle : {o p : Outcome} {a : Answer} {b : List ℕ} → o ≡ p → a ≡ p.answer → b ≡ p.bytes → (a ≡ o.answer) × (b ≡ o.bytes)
settle e f g = (f ∙ sym (ap (λ (x : Outcome). x.answer) e), g ∙ sym (ap (λ (x : Outcome). x.bytes) e))

pub need-yes : {b : Bool} (k : Refusal) (r : List ℕ) (rest : Outcome) → b ≡ true → need b (refuse k 0 0 r) rest ≡ rest
unfolding need
need-yes k r rest e = rw e

pub need-no : {b : Bool} (k : Refusal) (r : List ℕ) (rest : Outcome) → b ≡ false → need b (refuse k 0 0 r) rest ≡ refuse k 0 0 r
unfolding need
need-no k r rest e = rw e

pub formed-head : (r : List ℕ) → formed r ≡ true → Head r
formed-head r e = head-says r (formed-parts r e).head_ok

-- ---- the tests of what a call is given, as the code makes them

-- a test is passed, and the call goes on; or it refuses, and the bytes stay
unfoldable pub after_test : Result Unit Fault → List ℕ → Outcome → Outcome
after_test (Ok u) r rest = rest
after_test (Err f) r rest = record { answer = Err f; bytes = r }

-- a test whose refusal concerns no list
unfoldable pub plainly : Result Unit Refusal → Result Unit Fault
plainly (Ok u) = Ok u
plainly (Err k) = Err (plain k)

pub goes_on : {o : Outcome} {t : Result Unit Fault} (r : List ℕ) (rest : Outcome) → o ≡ after_test t r rest → t ≡ Ok tt → o ≡ rest
unfolding after_test
goes_on r rest e h = e ∙ rw h refl

pub stops_at : {o : Outcome} {t : Result Unit Fault} {f : Fault} {a : Answer} (r : List ℕ) (rest : Outcome) → o ≡ after_test t r rest → t ≡ Err f → a ≡ Err f → Promised o a r
unfolding after_test
stops_at {o} {f = f} r rest e h q = promised o (settle {p = record { answer = Err f; bytes = r }} (e ∙ rw h refl) q refl)

-- what a `?` answers: the fault of a refusal, or the fault as it was
pub exits_by : {x : Answer} {f : Fault} → IsErrAnd x (λ g. g ≡ f) → x ≡ Err f
exits_by {x} h = let e = err_from_is_err_and x h in e.1 ∙ ap Err e.2

-- passed, or refused, from the result that the code has
pub passes : {t x : Result Unit Refusal} → x ≡ t → x ≡ Ok tt → plainly t ≡ Ok tt
unfolding plainly
passes e h = rw (sym e ∙ h) refl

pub refuses : {t x : Result Unit Refusal} {k : Refusal} → x ≡ t → x ≡ Err k → plainly t ≡ Err (plain k)
unfolding plainly
refuses e h = rw (sym e ∙ h) refl

one_test : (b : Bool) (k : Refusal) (t : Result Unit Refusal) (r : List ℕ) (o rest : Outcome) → o ≡ after_test (plainly t) r rest
    → need b (refuse k 0 0 r) o ≡ after_test (plainly (need b (Err k) t)) r rest
unfolding need plainly after_test
one_test true k t r o rest h = h
one_test false k t r o rest h = refl

-- what a passed test says
need-passed : (b : Bool) (k : Refusal) (t : Result Unit Refusal) → need b (Err k) t ≡ Ok tt → (b ≡ true) × (t ≡ Ok tt)
unfolding need
need-passed true k t h = (refl, h)
need-passed false k t h = let z : ◌≡◌ {A = ℕ} 0 1 = cc in absurd (omega arith)

-- ---- a list that is given

reading-is : (d : Result Read Fault) (which : ℕ) (r : List ℕ) (rest : Outcome) → on_reading_to d which r rest ≡ after_test (test_reading d which) r rest
unfolding on_reading_to test_reading after_test
reading-is (Ok read) which r rest = refl
reading-is (Err fault) which r rest = refl

pub readable-is : (o : MaybeList) (which : ℕ) (r : List ℕ) (rest : Outcome) → readable_to o which r rest ≡ after_test (test_list o which) r rest
unfolding readable_to test_list after_test
readable-is none which r rest = refl
readable-is (some s) which r rest = reading-is (check_of access s) which r rest

pub short-is : (o : MaybeList) (r : List ℕ) (rest : Outcome) → need (short_if o) (refuse Why.Room 0 0 r) rest ≡ after_test (plainly (test_short o)) r rest
unfolding test_short after_test plainly
short-is o r rest = one_test (short_if o) Why.Room (Ok tt) r rest rest refl

pub short-passed : (o : MaybeList) → test_short o ≡ Ok tt → short_if o ≡ true
unfolding test_short
short-passed o h = (need-passed (short_if o) Why.Room (Ok tt) h).0

-- ---- an owner and a group

module _ (o g : List ℕ) where
  pub owners-are : (r : List ℕ) (rest : Outcome) → need (ordinary o) (refuse Why.Identity 0 0 r) (need (ordinary g) (refuse Why.Identity 0 0 r) rest)
      ≡ after_test (plainly (test_owners o g)) r rest
  unfolding test_owners after_test plainly
  owners-are r rest =
      one_test (ordinary o) Why.Identity (need (ordinary g) (Err Why.Identity) (Ok tt)) r _ rest
      (one_test (ordinary g) Why.Identity (Ok tt) r rest rest refl)

  pub owners-passed : test_owners o g ≡ Ok tt → (ordinary o ≡ true) × (ordinary g ≡ true)
  unfolding test_owners
  owners-passed h =
      let p = need-passed (ordinary o) Why.Identity (need (ordinary g) (Err Why.Identity) (Ok tt)) h in
      (p.0, (need-passed (ordinary g) Why.Identity (Ok tt) p.1).0)

-- ---- the calls that name an object

module _ (r : List ℕ) (i : ℕ) where
  pub on-object-is : (x : List ℕ) (rest : Outcome) → on_object r i x rest ≡ after_test (plainly (test_object r i)) x rest
  unfolding test_object on_object after_test plainly
  on-object-is x rest =
      one_test (formed r) Why.Tree (need (ltb i (objects r)) (Err Why.Object) (Ok tt)) x _ rest
      (one_test (ltb i (objects r)) Why.Object (Ok tt) x rest rest refl)

  pub object-facts : test_object r i ≡ Ok tt → (formed r ≡ true) × (i < objects r)
  unfolding test_object
  object-facts h =
      let p = need-passed (formed r) Why.Tree (need (ltb i (objects r)) (Err Why.Object) (Ok tt)) h in
      (p.0, ltb-true i (objects r) (need-passed (ltb i (objects r)) Why.Object (Ok tt) p.1).0)

  pub object-small : test_object r i ≡ Ok tt → i < 256
  object-small h =
      let f = object-facts h in
      omega (arith, formed-head r f.0)

  pub own-long : test_object r i ≡ Ok tt → length (own_data i r) ≡ 1184
  unfolding own_data
  own-long h =
      let f = object-facts h in
      let d = formed-head r f.0 in
      length_part (1048 + i * 2211) 1184 r (omega arith)

-- ---- add: the room, the parent, and place for one object more

-- what the three tests say
pub record Addable (r : List ℕ) (p : Option ℕ) : Type 0 where
  pub is-formed : formed r ≡ true
  pub is-placed : placed_in (λ j. own_data j r) (objects r) p ≡ true
  pub below : objects r < object_limit r
  pub limit-64 : object_limit r ≤ 64

module _ (r : List ℕ) (p : Option ℕ) where
  abbrev is_placed : Bool
  is_placed = placed_in (λ j. own_data j r) (objects r) p

  abbrev has_place : Bool
  has_place = ltb (objects r) (object_limit r)

  pub add-is : (x : List ℕ) (rest : Outcome)
      → need (formed r) (refuse Why.Tree 0 0 x) (need is_placed (refuse Why.Object 0 0 x) (need has_place (refuse Why.Full 0 0 x) rest))
      ≡ after_test (plainly (test_add r p)) x rest
  unfolding test_add after_test plainly
  add-is x rest =
      one_test (formed r) Why.Tree (need is_placed (Err Why.Object) (need has_place (Err Why.Full) (Ok tt))) x _ rest
      (one_test is_placed Why.Object (need has_place (Err Why.Full) (Ok tt)) x _ rest
      (one_test has_place Why.Full (Ok tt) x rest rest refl))

  pub add-facts : test_add r p ≡ Ok tt → Addable r p
  unfolding test_add
  add-facts h =
      let a = need-passed (formed r) Why.Tree (need is_placed (Err Why.Object) (need has_place (Err Why.Full) (Ok tt))) h in
      let b = need-passed is_placed Why.Object (need has_place (Err Why.Full) (Ok tt)) a.1 in
      let c = need-passed has_place Why.Full (Ok tt) b.1 in
      record { is-formed = a.0; is-placed = b.0; below = ltb-true (objects r) (object_limit r) c.0; limit-64 = (formed-head r a.0).limit-64 }

-- ---- start

pub room-none : (n s : ℕ) → None ≡ unless_zero (room_of n s) → limits_ok n s ≡ false
unfolding room_of
room-none n s h = by (limits_ok n s) (none-unless_zero _ (sym h))
  where
    by : (b : Bool) → cond b (room_for n s) 0 ≡ 0 → b ≡ false
    by true e = absurd (omega arith)
    by false e = refl

pub room-some : (n s k : ℕ) → Some k ≡ unless_zero (room_of n s) → (limits_ok n s ≡ true) × (k ≡ room_for n s)
unfolding room_of
room-some n s k h = by (limits_ok n s) (some-unless_zero _ k (sym h)).0 (some-unless_zero _ k (sym h)).1
  where
    by : (b : Bool) → cond b (room_for n s) 0 ≡ k → 0 < k → (b ≡ true) × (k ≡ room_for n s)
    by true e p = (refl, sym e)
    by false e p = absurd (omega arith)

pub record Startable (n s rule room : ℕ) : Type 0 where
  pub some-objects : 1 ≤ n
  pub objects-64 : n ≤ 64
  pub steps-64 : s ≤ 64
  pub rule-small : rule < 256
  pub enough : room_for n s ≤ room

rule-most : (rule : ℕ) → rule_ok rule ≡ true → rule < 256
unfolding rule_ok
rule-most rule h =
    let k : rule ≤ 2 = le-or rule 2 (λ k. off h (rw (ne_eqb rule 1 (λ e. omega arith), ne_eqb rule 2 (λ e. omega arith)))) in
    omega arith

pub start-facts : (n s rule room : ℕ) → start_ok n s rule room ≡ true → Startable n s rule room
unfolding start_ok limits_ok
start-facts n s rule room h =
    let a = both_true _ _ h in
    let b = both_true _ _ a.0 in
    let c = both_true _ _ b.1 in
    let d = both_true _ _ a.1 in
    record {
      some-objects = leb-true _ _ b.0;
      objects-64 = leb-true _ _ c.0;
      steps-64 = leb-true _ _ c.1;
      rule-small = rule-most rule d.0;
      enough = leb-true _ _ d.1;
    }

pub put_front : (b d : List ℕ) → put_at 0 b d ≡ front b d
unfolding put_at
put_front b d = rw zero-add

-- an empty room, as the code lays it
pub empty-laid : (t : Settings) (r l₁ l₂ : List ℕ) → short_if t.default ≡ true → room_for t.object-limit t.step-limit ≤ length r
    → l₁ ≡ put_at 4 (settings_for t.rule t.mapping t.default) (set (set (set (set r 0 t.object-limit) 1 t.step-limit) 2 0) 3 0)
    → l₂ ≡ put_at 1048 (replicate (t.object-limit * 2211 + t.step-limit * 1186) 0) l₁
    → l₂ ≡ front (empty_room t) r
unfolding empty_room
empty-laid t r l₁ l₂ h k e₁ e₂ =
    let n = t.object-limit in
    let s = t.step-limit in
    let x : List ℕ = settings_for t.rule t.mapping t.default in
    let z : List ℕ = replicate (n * 2211 + s * 1186) 0 in
    let w = write-next 0 (write-next 0 (write-next s (write-one 0 n r (omega arith)) (omega arith)) (omega arith)) (omega arith) in
    let w₁ = write-more 1044 x l₁ w (length-settings t.rule t.mapping t.default h) (omega arith) e₁ in
    let w₂ = write-more (n * 2211 + s * 1186) z l₂ w₁ (length-replicate (n * 2211 + s * 1186) 0) (omega arith) e₂ in
    w₂.is ∙ ap (λ (b : List ℕ). put_at 0 b r) (append_assoc (n ∷ s ∷ 0 ∷ 0 ∷ []) x z) ∙ put_front _ r

-- ---- reading back

module _ (a : Answer) (b out : List ℕ) where
  pub copied_all : length b ≤ length out → copied a b out ≡ record { answer = a; bytes = front b out }
  unfolding copied
  copied_all h = need-yes Why.Room out _ (le-leb (length b) (length out) h)

  pub copied_none : length out < length b → copied a b out ≡ refuse Why.Room 0 0 out
  unfolding copied
  copied_none h = need-no Why.Room out _ (lt-leb (length b) (length out) h)

pub absent-copied : (out : List ℕ) → copied (told_as none) (list_bytes none) out ≡ record { answer = told_as none; bytes = out }
unfolding list_bytes
absent-copied out = copied_all (told_as none) [] out (omega arith)

-- own data but for the list: how long it is, and how the code lays it
pub id-most : (f : List ℕ) → length (id_in f) ≤ 68
unfolding id_in part
id-most f = simp (length-take, length-drop) (omega arith)

regroup : (n m : ℕ) (p o g : List ℕ) → (((p ++ (n ∷ [])) ++ o) ++ (m ∷ [])) ++ g ≡ p ++ ((n ∷ o) ++ (m ∷ g))
regroup n m p o g = simp append_assoc

module _ (b p o g : List ℕ) (h : 19 ≤ length b) (ep : p ≡ part 0 19 b) (eo : o ≡ owner_of b) (eg : g ≡ group_of b) where
  data_is : data_of b ≡ p ++ ((length o ∷ o) ++ (length g ∷ g))
  unfolding data_of
  data_is = rw (ep, eo, eg)

  first-long : length p ≡ 19
  first-long = ap length ep ∙ length_part 0 19 b h

  pub data-length : 21 + length o + length g ≡ length (data_of b)
  data-length = rw data_is (simp length-append (omega (arith, first-long)))

  pub data-laid : (d l₁ l₂ l₃ : List ℕ) → 21 + length o + length g ≤ length d
      → l₁ ≡ put_at 0 p d
      → l₂ ≡ put_at 20 o (set l₁ 19 (length o))
      → l₃ ≡ put_at (21 + length o) g (set l₂ (20 + length o) (length g))
      → l₃ ≡ front (data_of b) d
  data-laid d l₁ l₂ l₃ k e₁ e₂ e₃ =
      let i : 0 + (20 + length o) ≡ 20 + length o = omega arith in
      let j : 0 + (20 + length o + 1) ≡ 21 + length o = omega arith in
      let f₃ : l₃ ≡ put_at (0 + (20 + length o + 1)) g (set l₂ (0 + (20 + length o)) (length g)) = rw (i, j) e₃ in
      let w₁ : Written 0 19 p d l₁ = record { long = first-long; is = e₁ } in
      let w₂ = write-more (length o) o l₂ (write-next (length o) w₁ (omega arith)) refl (omega arith) e₂ in
      let w₃ = write-more (length g) g l₃ (write-next (length g) w₂ (omega arith)) refl (omega arith) f₃ in
      w₃.is ∙ put_front _ d ∙ ap (λ (x : List ℕ). front x d) (regroup (length o) (length g) p o g ∙ sym data_is)
