-- What each call answers, and what the lent bytes hold afterwards, for any bytes handed in.
use Rattle.std.specs.Prelude.{ℕ, ◌+◌, ◌-◌, ◌*◌, min, ◌≡◌, List, [], ◌∷◌, ◌++◌, Bool, true, false, not, cond, ◌&&◌, length, take, drop, set, eqb, leb, ltb, Result, Ok, Err}
use Rattle.std.proofs.Math.Option.{Option, none, some}
use Rattle.octets.specs.Order.{need}
use Rattle.octets.specs.Bytes.{part, put_at, front, guid_at}
use Rattle.list.specs.Entry.{access}
use Rattle.list.specs.List.{check_of, count_of, MaybeList}
use Rattle.list.specs.Answer.{Values, done, refused}
use Rattle.list.specs.declared.readings.Read.{Read}
use Rattle.inherit.specs.Compute.{ordinary, rule_ok}
use Rattle.refusal.specs.Numbers.{number_of}
use Rattle.refusal.specs.declared.Fault.{Fault}
use Rattle.refusal.specs.declared.Refusal.{Refusal}
use Rattle.refusal.specs.declared.Refusal.TheVariants as Why
use Rattle.tree.specs.declared.Done.{Done}
use Rattle.tree.specs.Model.{Settings, Object, short_if, limits_ok}
use Rattle.tree.specs.Held.{held, slot_for, id_for, parent_in, block_for, yes, owner_of, group_of, own_list}
use Rattle.tree.specs.Room.{object_limit, step_limit, objects, kept_steps, own_at, steps_at, room_for, own_data, slot, step, step_object, step_data, area, empty_room}
use Rattle.tree.specs.Formed.{placed_in, standing, formed}
use Rattle.tree.specs.Work.{reworked}

-- what a call answers: done, with what it tells, or a refusal
abbrev pub Answer : Type 0
Answer = Result Done Fault

abbrev pub tells : ℕ → Bool → ℕ → Answer
tells len is n = Ok (record { length = len; present = is; count = n })

abbrev pub refusal : Refusal → ℕ → ℕ → Answer
refusal why which at = Err (record { why = why; list = which; at = at })

-- the number and values (RULES 4.2) for each case
abbrev pub answer_values : Answer → Values
answer_values (Ok d) = done d.length (yes d.present) d.count 0
answer_values (Err f) = refused (number_of f.why) f.list f.at

-- a refusal, and no answer that is done
abbrev pub is_refused : Answer → Bool
is_refused (Ok d) = false
is_refused (Err f) = true

-- the answer a has the values v: it is a refusal where their number isn't 0
pub record Says (a : Answer) (v : Values) : Type 0 where
  pub values : answer_values a ≡ v
  pub refuses : is_refused a ≡ not (eqb v.number 0)

-- the answer, and what the lent bytes hold afterwards
pub record Outcome : Type 0 where
  pub answer : Answer
  pub bytes : List ℕ

-- the promise of a call that comes to o: the values of its answer, and the lent bytes afterwards
pub record Promised (o : Outcome) (a : Answer) (after : List ℕ) : Type 0 where
  pub answer : Says a (answer_values o.answer)
  pub bytes : after ≡ o.bytes

-- a refusal leaves the bytes as they were
abbrev pub refuse : Refusal → ℕ → ℕ → List ℕ → Outcome
refuse why which at r = record { answer = refusal why which at; bytes = r }

-- a list that is present reads as done, or its refusal concerns list `which`
unfoldable pub on_reading_to : Result Read Fault → ℕ → List ℕ → Outcome → Outcome
on_reading_to (Ok read) which r rest = rest
on_reading_to (Err fault) which r rest = refuse fault.why which fault.at r

unfoldable pub readable_to : MaybeList → ℕ → List ℕ → Outcome → Outcome
readable_to none which r rest = rest
readable_to (some s) which r rest = on_reading_to (check_of access s) which r rest

-- a list, possibly absent, in an answer
unfoldable pub told_as : MaybeList → Answer
told_as none = tells 0 false 0
told_as (some s) = tells (length s) true (count_of s)

-- the calls that name an object: 13, 9; x is what is lent to be changed, which a refusal leaves
unfoldable pub on_object : List ℕ → ℕ → List ℕ → Outcome → Outcome
on_object r i x rest = need (formed r) (refuse Why.Tree 0 0 x) (need (ltb i (objects r)) (refuse Why.Object 0 0 x) rest)

-- ---- the steps, the latest first

-- the bytes that they lie in, as many steps as the limit allows; and the room with other bytes on the front of these, and k steps kept
abbrev pub steps_in : List ℕ → List ℕ
steps_in w = part (steps_at (object_limit w)) (step_limit w * 1186) w

abbrev pub with_steps : List ℕ → ℕ → List ℕ → List ℕ
with_steps t k w = set (put_at (steps_at (object_limit w)) t w) 3 k

-- a step u kept in front of the others: past the limit the oldest is forgotten
unfoldable pub step_kept : List ℕ → List ℕ → List ℕ
step_kept u w = with_steps (take (step_limit w * 1186) (u ++ steps_in w)) (min (step_limit w) (kept_steps w + 1)) w

-- the latest step taken off
unfoldable pub step_gone : List ℕ → List ℕ
step_gone w = with_steps (drop 1186 (steps_in w)) (kept_steps w - 1) w

-- ---- changes and undo, on the room's area: none where a list would pass 1,024 bytes

-- b put at `at`, n objects stand, and every list is worked out again
unfoldable pub reworked_with : ℕ → List ℕ → ℕ → List ℕ → Option (List ℕ)
reworked_with at b n w = reworked n (set (put_at at b w) 2 n)

-- what a change puts: the tag of its step; of which object; bytes, and their place in its own data; how many objects stand then
pub record Put : Type 0 where
  pub tag : ℕ
  pub object : ℕ
  pub place : ℕ
  pub bytes : List ℕ
  pub standing : ℕ

-- a step is kept with the object's own data as it stood, and the bytes are put there
unfoldable pub changed : Put → List ℕ → Option (List ℕ)
changed p w =
    reworked_with (own_at p.object + p.place) p.bytes p.standing (step_kept (p.tag ∷ p.object ∷ own_data p.object w) w)

-- undo: what the latest step holds is put back; the object of an add is gone
abbrev pub latest : List ℕ → List ℕ
latest w = step (object_limit w) 0 w

abbrev pub standing_after : List ℕ → ℕ
standing_after w = standing (objects w) (latest w)

unfoldable pub step_taken_back : List ℕ → Option (List ℕ)
step_taken_back w = reworked_with (own_at (step_object (latest w))) (step_data (latest w)) (standing_after w) (step_gone w)

-- the end of a change of object i: its computed list; of an undo: zeros
unfoldable pub change_ends : ℕ → List ℕ → Option (List ℕ) → Outcome
change_ends i r none = refuse Why.Room 0 0 r
change_ends i r (some w) = record { answer = told_as (held (slot i w)); bytes = front w r }

unfoldable pub undo_ends : List ℕ → Option (List ℕ) → Outcome
undo_ends r none = refuse Why.Room 0 0 r
undo_ends r (some w) = record { answer = tells 0 false 0; bytes = front w r }

-- both, on a room whose tests are passed
abbrev pub change_to : Put → List ℕ → Outcome
change_to p r = change_ends p.object r (changed p (area r))

abbrev pub take_back_to : List ℕ → Outcome
take_back_to r = undo_ends r (step_taken_back (area r))

-- ---- the calls

-- limits and rule in range, and room enough
unfoldable pub start_ok : ℕ → ℕ → ℕ → ℕ → Bool
start_ok n s rule room = limits_ok n s && (rule_ok rule && leb (room_for n s) room)

-- start: 12, then the default list by 1 to 5 or 15, then 8
unfoldable pub start_to : Settings → List ℕ → Outcome
start_to t r =
    need (start_ok t.object-limit t.step-limit t.rule (length r)) (refuse Why.Rule 0 0 r)
    (readable_to t.default 3 r
    (need (short_if t.default) (refuse Why.Room 0 0 r)
    (record { answer = tells 0 false 0; bytes = front (empty_room t) r })))

-- what an add is given, and the object that it means: FFFFFFFF is no parent, and a type has sixteen bytes
pub record New : Type 0 where
  pub parent : ℕ
  pub container : Bool
  pub mark : Bool
  pub type : List ℕ
  pub owner : List ℕ
  pub group : List ℕ
  pub list : MaybeList

abbrev pub nobody : ℕ
nobody = 0xFFFFFFFF

abbrev pub object_for : New → Object
object_for n =
    record {
      parent = parent_in nobody n.parent;
      container = n.container;
      mark = n.mark;
      type = guid_at n.type 0;
      owner = n.owner;
      group = n.group;
      list = n.list;
    }

-- an add puts all of own data, behind the n objects that stand
abbrev pub add_put : Object → ℕ → Put
add_put o n = record { tag = 1; object = n; place = 0; bytes = block_for o; standing = n + 1 }

-- add: 13, 9, 10, 1 to 5 or 15, 6, 8
unfoldable pub add_to : Object → List ℕ → Outcome
add_to o r =
    need (formed r) (refuse Why.Tree 0 0 r)
    (need (placed_in (λ j. own_data j r) (objects r) o.parent) (refuse Why.Object 0 0 r)
    (need (ltb (objects r) (object_limit r)) (refuse Why.Full 0 0 r)
    (readable_to o.list 2 r
    (need (ordinary o.owner) (refuse Why.Identity 0 0 r)
    (need (ordinary o.group) (refuse Why.Identity 0 0 r)
    (need (short_if o.list) (refuse Why.Room 0 0 r)
    (change_to (add_put o (objects r)) r)))))))

-- what a change alters in an object's own data: its list, its mark, or its owner and group
pub data Edit : Type 0 where
  list : MaybeList → Edit
  mark : Bool → Edit
  owners : List ℕ → List ℕ → Edit

-- the changes, as they are asked for: add, and whatever alters object i
pub data ChangeGiven : Type 0 where
  add : New → ChangeGiven
  alter : ℕ → Edit → ChangeGiven

-- where the altered bytes lie in own data, and what they are
unfoldable pub edit_at : Edit → ℕ
edit_at (list o) = 157
edit_at (mark m) = 2
edit_at (owners o g) = 19

unfoldable pub edit_bytes : Edit → List ℕ
edit_bytes (list o) = slot_for o
edit_bytes (mark m) = yes m ∷ []
edit_bytes (owners o g) = id_for o ++ id_for g

-- what such a change of object i puts, where n objects stand
abbrev pub edit_put : ℕ → Edit → ℕ → Put
edit_put i e n = record { tag = 2; object = i; place = edit_at e; bytes = edit_bytes e; standing = n }

-- the tests of what is given: 1 to 5 or 15, 6, 8
unfoldable pub tested : Edit → List ℕ → Outcome → Outcome
tested (list o) r rest = readable_to o 2 r (need (short_if o) (refuse Why.Room 0 0 r) rest)
tested (mark m) r rest = rest
tested (owners o g) r rest = need (ordinary o) (refuse Why.Identity 0 0 r) (need (ordinary g) (refuse Why.Identity 0 0 r) rest)

-- any other change: 13, 9, 1 to 5 or 15, 6, 8
unfoldable pub alter_to : ℕ → Edit → List ℕ → Outcome
alter_to i e r = on_object r i r (tested e r (change_to (edit_put i e (objects r)) r))

-- undo: 13, 11, 8
unfoldable pub undo_to : List ℕ → Outcome
undo_to r = need (formed r) (refuse Why.Tree 0 0 r) (need (ltb 0 (kept_steps r)) (refuse Why.NoStep 0 0 r) (take_back_to r))

-- ---- reading back: 13, 9, 8

-- an absent list has no bytes
unfoldable pub list_bytes : MaybeList → List ℕ
list_bytes none = []
list_bytes (some s) = s

-- bytes on the front of what is lent for them
unfoldable pub copied : Answer → List ℕ → List ℕ → Outcome
copied a b out = need (leb (length b) (length out)) (refuse Why.Room 0 0 out) (record { answer = a; bytes = front b out })

-- a computed list, and an own list
unfoldable pub list_to : ℕ → List ℕ → List ℕ → Outcome
list_to i r out = on_object r i out (copied (told_as (held (slot i r))) (list_bytes (held (slot i r))) out)

unfoldable pub own_to : ℕ → List ℕ → List ℕ → Outcome
own_to i r out = on_object r i out (copied (told_as (own_list (own_data i r))) (list_bytes (own_list (own_data i r))) out)

-- own data but for the list: parent, kind, mark, type; owner and group, each of the two with its length in front
unfoldable pub data_of : List ℕ → List ℕ
data_of b = part 0 19 b ++ ((length (owner_of b) ∷ owner_of b) ++ (length (group_of b) ∷ group_of b))

unfoldable pub data_to : ℕ → List ℕ → List ℕ → Outcome
data_to i r out = on_object r i out (copied (tells (length (data_of (own_data i r))) true 0) (data_of (own_data i r)) out)

-- how many objects stand and how many steps are kept
unfoldable pub counts_to : List ℕ → Answer
counts_to r = cond (formed r) (tells (objects r) true (kept_steps r)) (refusal Why.Tree 0 0)
