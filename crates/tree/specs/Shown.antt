-- How the bytes of a room, and the arguments of a call, are read as the model's objects, settings and calls.
use Rattle.std.specs.Prelude.{ℕ, ◌-◌, ◌%◌, cond, List, [], ◌∷◌, take, set, eqb, leb}
use Rattle.list.specs.List.{MaybeList}
use Rattle.list.specs.Answer.{Values}
use Rattle.tree.specs.General.{tab}
use Rattle.tree.specs.Held.{held, parent_of, kind_byte, mark_byte, type_of, owner_of, group_of, own_list}
use Rattle.tree.specs.Room.{object_limit, step_limit, objects, settings, rule_of, mapping_of, default_of, own_data, slot, step, step_tag, step_object, step_data, room_for}
use Rattle.tree.specs.Calls.{Edit, list, mark, owners, Outcome, answer_values, object_for, start_to, add_to, alter_to, undo_to, list_to, own_to, data_to, counts_to, ChangeGiven, add, alter}
use Rattle.tree.specs.Model as Model
use Rattle.tree.specs.Model.{Settings, Object, Part, computed-list, own-list, other-data}

-- ---- a room

-- an object's own data: FF for no parent; 1 for a container; 1 for a mark
abbrev pub object_in : List ℕ → Object
object_in b =
    record {
      parent = parent_of b;
      container = eqb (kind_byte b) 1;
      mark = eqb (mark_byte b) 1;
      type = type_of b;
      owner = owner_of b;
      group = group_of b;
      list = own_list b;
    }

-- the objects of a room
unfoldable pub objects_in : List ℕ → List Object
objects_in r = tab (objects r) (λ i. object_in (own_data i r))

-- their computed lists, as they lie in the room
unfoldable pub lists_in : List ℕ → List MaybeList
lists_in r = tab (objects r) (λ i. held (slot i r))

-- where a step is kept, the objects that stand once the latest is taken back: that of an add is gone, any other has its own data as it was before
unfoldable pub objects_back : List ℕ → List Object
objects_back r = let u = step (object_limit r) 0 r in
    cond (eqb (step_tag u) 1) (take (objects r - 1) (objects_in r)) (set (objects_in r) (step_object u) (object_in (step_data u)))

-- its settings: the two limits, and what lies in the bytes e
abbrev pub settings_at : ℕ → ℕ → List ℕ → Settings
settings_at n s e = record { object-limit = n; step-limit = s; rule = rule_of e; mapping = mapping_of e; default = default_of e }

abbrev pub settings_in : List ℕ → Settings
settings_in r = settings_at (object_limit r) (step_limit r) (settings r)

-- ---- the calls as they are made

unfoldable pub alteration : ℕ → Edit → Model.Change
alteration i (list o) = Model.set_list i o
alteration i (mark m) = Model.set_mark i m
alteration i (owners o g) = Model.set_owners i o g

unfoldable pub change_meant : ChangeGiven → Model.Change
change_meant (add new) = Model.add (object_for new)
change_meant (alter i e) = alteration i e

-- the settings that a start means; its masks are 32-bit numbers by the language, so that `word` changes none: it stands here so that demand 3 asks nothing of its calls
abbrev pub word : ℕ → ℕ
word m = m % 0x100000000

abbrev pub settings_from : Settings → Settings
settings_from t = let m = t.mapping in
    record {
      object-limit = t.object-limit;
      step-limit = t.step-limit;
      rule = t.rule;
      mapping = record { read = word m.read; write = word m.write; execute = word m.execute; all = word m.all };
      default = t.default;
    }

-- the calls
pub data Request : Type 0 where
  start : Settings → Request
  change : ChangeGiven → Request
  undo : Request
  read : Part → ℕ → List ℕ → Request
  counts : Request

-- what a call asks of the model, in a room of so many bytes
unfoldable pub meant : ℕ → Request → Model.Call
meant long (start t) = Model.start (settings_from t) (leb (room_for t.object-limit t.step-limit) long)
meant long (change c) = Model.change (change_meant c)
meant long undo = Model.undo
meant long (read x i out) = Model.read x i out
meant long counts = Model.counts

-- the promise of a change on the room r
unfoldable pub change_with : ChangeGiven → List ℕ → Outcome
change_with (add new) r = add_to (object_for new) r
change_with (alter i e) r = alter_to i e r

-- and what reads a part of an object back, on lent bytes
unfoldable pub read_with : Part → ℕ → List ℕ → List ℕ → Outcome
read_with computed-list i r out = list_to i r out
read_with own-list i r out = own_to i r out
read_with other-data i r out = data_to i r out

-- what each answers, and what it leaves of the room: a call that only reads leaves it as it was
unfoldable pub call_on : Request → List ℕ → Outcome
call_on (start t) r = start_to t r
call_on (change c) r = change_with c r
call_on undo r = undo_to r
call_on (read x i out) r = record { answer = (read_with x i r out).answer; bytes = r }
call_on counts r = record { answer = counts_to r; bytes = r }

abbrev pub answer_to : Request → List ℕ → Values
answer_to q r = answer_values (call_on q r).answer

-- the room after calls, the latest first
unfoldable pub played_on : List Request → List ℕ → List ℕ
played_on [] r = r
played_on (q ∷ qs) r = (call_on q (played_on qs r)).bytes

-- and what they answer
unfoldable pub answers_on : List Request → List ℕ → List Values
answers_on [] r = []
answers_on (q ∷ qs) r = answer_to q (played_on qs r) ∷ answers_on qs r
