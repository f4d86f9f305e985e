-- Where the parts of a room lie (docs/ROOM.md): four numbers, the settings, the objects, the kept steps.
use Rattle.std.specs.Prelude.{ℕ, ◌+◌, ◌*◌, List, [], ◌∷◌, ◌++◌, cond, get_or, take, drop, replicate}
use Rattle.list.specs.List.{MaybeList}
use Rattle.octets.specs.Bytes.{le, spell, part}
use Rattle.inherit.specs.declared.Mapping.{Mapping}
use Rattle.tree.specs.Model.{Settings, limits_ok}
use Rattle.tree.specs.Held.{held, slot_for}

-- object limit, step limit, objects that stand, kept steps
abbrev pub object_limit : List ℕ → ℕ
object_limit r = get_or r 0 0

abbrev pub step_limit : List ℕ → ℕ
step_limit r = get_or r 1 0

abbrev pub objects : List ℕ → ℕ
objects r = get_or r 2 0

abbrev pub kept_steps : List ℕ → ℕ
kept_steps r = get_or r 3 0

-- own data and computed list of object i; the steps behind n objects
abbrev pub own_at : ℕ → ℕ
own_at i = 1048 + i * 2211

abbrev pub slot_at : ℕ → ℕ
slot_at i = 2232 + i * 2211

abbrev pub steps_at : ℕ → ℕ
steps_at n = 1048 + n * 2211

-- the formula: bytes of room for n objects and s steps
abbrev pub room_for : ℕ → ℕ → ℕ
room_for n s = 1048 + n * 2211 + s * 1186

-- what the public call gives: the formula, 0 where a limit is out of range
unfoldable pub room_of : ℕ → ℕ → ℕ
room_of n s = cond (limits_ok n s) (room_for n s) 0

-- the settings: rule, mapping, default list
unfoldable pub settings : List ℕ → List ℕ
settings r = part 4 1044 r

abbrev pub rule_of : List ℕ → ℕ
rule_of e = get_or e 0 0

abbrev pub mapping_of : List ℕ → Mapping
mapping_of e = record { read = le 4 (drop 1 e); write = le 4 (drop 5 e); execute = le 4 (drop 9 e); all = le 4 (drop 13 e) }

abbrev pub default_slot : List ℕ → List ℕ
default_slot e = part 17 1027 e

abbrev pub default_of : List ℕ → MaybeList
default_of e = held (default_slot e)

-- the settings of a tree that is started
unfoldable pub settings_for : ℕ → Mapping → MaybeList → List ℕ
settings_for rule m default =
    (rule ∷ [])
    ++ (spell 4 m.read ++ (spell 4 m.write ++ (spell 4 m.execute ++ (spell 4 m.all ++ slot_for default))))

-- own data and computed list of object i, and step j, the latest first, behind n objects
unfoldable pub own_data : ℕ → List ℕ → List ℕ
own_data i r = part (own_at i) 1184 r

unfoldable pub slot : ℕ → List ℕ → List ℕ
slot i r = part (slot_at i) 1027 r

unfoldable pub step : ℕ → ℕ → List ℕ → List ℕ
step n j r = part (steps_at n + j * 1186) 1186 r

-- a step: 1 for an add and 2 for any other change, the object's number, and what undo puts back in the place of its own data
abbrev pub step_tag : List ℕ → ℕ
step_tag u = get_or u 0 0

abbrev pub step_object : List ℕ → ℕ
step_object u = get_or u 1 0

abbrev pub step_data : List ℕ → List ℕ
step_data u = part 2 1184 u

-- the part of a room that its limits take up: no call reads or changes what lies behind it
abbrev pub area : List ℕ → List ℕ
area r = take (room_for (object_limit r) (step_limit r)) r

-- an empty tree
unfoldable pub empty_room : Settings → List ℕ
empty_room t =
    (t.object-limit ∷ t.step-limit ∷ 0 ∷ 0 ∷ [])
    ++ (settings_for t.rule t.mapping t.default ++ replicate (t.object-limit * 2211 + t.step-limit * 1186) 0)
