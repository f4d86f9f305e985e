-- The tree (RULES 3): its objects, their computed lists, changes and undo, and what each call answers (RULES 4.5). Nothing here is about the bytes of a room:
-- proofs/Demand3 shows that a room reached by calls holds what is here, and that each call answers what is here.
use Rattle.std.specs.Prelude.{ℕ, zero, suc, min, Bool, true, false, cond, ◌&&◌, List, [], ◌∷◌, ◌++◌, length, get_or, set, eqb, leb, ltb}
use Rattle.std.proofs.Math.Option.{Option, none, some}
use Rattle.octets.specs.Order.{need}
use Rattle.octets.specs.Bytes.{front}
use Rattle.list.specs.Entry.{access}
use Rattle.list.specs.List.{count_of, MaybeList}
use Rattle.list.specs.Answer.{Values, done, refused}
use Rattle.inherit.specs.declared.Mapping.{Mapping}
use Rattle.inherit.specs.Asked.{Asked}
use Rattle.inherit.specs.Branch.{Result, absent, holds, result_of}
use Rattle.inherit.specs.Compute.{bytes_for, readable, ordinary, rule_ok}
use Rattle.tree.specs.General.{bind, is_some, every, rest}

-- ---- what there is

-- what a tree is started with
pub record Settings : Type 0 where
  pub object-limit : ℕ
  pub step-limit : ℕ
  pub rule : ℕ
  pub mapping : Mapping
  pub default : MaybeList

-- an object: its parent's number or none, its kind, its protected mark, its type (a GUID), owner, group, and own list or none
pub record Object : Type 0 where
  pub parent : Option ℕ
  pub container : Bool
  pub mark : Bool
  pub type : List ℕ
  pub owner : List ℕ
  pub group : List ℕ
  pub list : MaybeList

-- in the place of an object that doesn't stand; a call that names one has tested that it stands, so that this is never seen
abbrev pub no-object : Object
no-object = record { parent = none; container = false; mark = false; type = []; owner = []; group = []; list = none }

-- object i, numbered from 0 in order of adding
abbrev pub object : List Object → ℕ → Object
object os i = get_or os i no-object

-- ---- computed lists

-- what the computation is asked for an object: its parent's computed list; its own list as the creator's; auto inherit yes, default descriptor no,
-- protected by its mark
abbrev pub asked : Settings → MaybeList → Object → Asked
asked t above o =
    record {
      rule = t.rule;
      parent = above;
      creator = o.list;
      default = t.default;
      container = o.container;
      types = o.type;
      owner = o.owner;
      group = o.group;
      mapping = t.mapping;
      auto-inherit = true;
      default-descriptor = false;
      protected = o.mark;
    }

-- at most 1,024 bytes
abbrev pub short : List ℕ → Bool
short s = leb (length s) 1024

-- a result as a list of so many bytes, or an absent one; none where it is longer
unfoldable pub fitting : Result → Option MaybeList
fitting absent = some none
fitting (holds es control) = cond (short (bytes_for (holds es control))) (some (some (bytes_for (holds es control)))) none

abbrev pub list_below : Settings → Object → MaybeList → Option MaybeList
list_below t o above = fitting (result_of access (asked t above o))

-- what an object finds above it, f giving each object's computed list: nothing where it has no parent
abbrev pub above : Option ℕ → (ℕ → Option MaybeList) → Option MaybeList
above none f = some none
above (some p) f = f p

-- object i's computed list, by following parents up to the root, over at most `more` objects; none where one of these lists is too long (that
-- the root is reached is sure: a parent has a smaller number)
unfoldable pub list_from : Settings → List Object → ℕ → ℕ → Option MaybeList
list_from t os zero i = none
list_from t os (suc more) i = bind (above (object os i).parent (list_from t os more)) (list_below t (object os i))

abbrev pub list_of : Settings → List Object → ℕ → Option MaybeList
list_of t os i = list_from t os (length os) i

-- no object's list is too long
unfoldable pub listed : Settings → List Object → Bool
listed t os = every (λ i. is_some (list_of t os i)) (length os)

-- ---- changes

pub data Change : Type 0 where
  add : Object → Change
  set_list : ℕ → MaybeList → Change
  set_mark : ℕ → Bool → Change
  set_owners : ℕ → List ℕ → List ℕ → Change

abbrev pub with_list : MaybeList → Object → Object
with_list l o =
    record { parent = o.parent; container = o.container; mark = o.mark; type = o.type; owner = o.owner; group = o.group; list = l }

abbrev pub with_mark : Bool → Object → Object
with_mark m o =
    record { parent = o.parent; container = o.container; mark = m; type = o.type; owner = o.owner; group = o.group; list = o.list }

abbrev pub with_owners : List ℕ → List ℕ → Object → Object
with_owners owner group o =
    record { parent = o.parent; container = o.container; mark = o.mark; type = o.type; owner = owner; group = group; list = o.list }

-- the objects after a change
unfoldable pub apply : Change → List Object → List Object
apply (add o) os = os ++ (o ∷ [])
apply (set_list i l) os = set os i (with_list l (object os i))
apply (set_mark i m) os = set os i (with_mark m (object os i))
apply (set_owners i owner group) os = set os i (with_owners owner group (object os i))

-- after changes from none, the latest first
unfoldable pub objects_after : List Change → List Object
objects_after [] = []
objects_after (c ∷ cs) = apply c (objects_after cs)

-- ---- what a change answers

-- the first has no parent; each later one names an existing container
unfoldable pub placed : List Object → Option ℕ → Bool
placed os none = eqb (length os) 0
placed os (some p) = ltb p (length os) && (object os p).container

-- a list that is given has at most 1,024 bytes
unfoldable pub short_if : MaybeList → Bool
short_if none = true
short_if (some s) = short s

-- a list, possibly absent: its length, present or absent, entry count; 8 where it is too long, which after calls none is
unfoldable pub told : Option MaybeList → Values
told none = refused 8 0 0
told (some none) = done 0 0 0 0
told (some (some s)) = done (length s) 1 (count_of s) 0

-- 8 where any list would be too long, else object i's computed list
unfoldable pub outcome : Settings → List Object → ℕ → Values
outcome t os i = need (listed t os) (refused 8 0 0) (told (list_of t os i))

-- 9, 10, 1 to 5 or 15, 6, 8
unfoldable pub change_answer : Settings → List Object → Change → Values
change_answer t os (add o) =
    need (placed os o.parent) (refused 9 0 0)
    (need (ltb (length os) t.object-limit) (refused 10 0 0)
    (readable o.list 2
    (need (ordinary o.owner) (refused 6 0 0)
    (need (ordinary o.group) (refused 6 0 0)
    (need (short_if o.list) (refused 8 0 0)
    (outcome t (apply (add o) os) (length os)))))))
change_answer t os (set_list i l) =
    need (ltb i (length os)) (refused 9 0 0)
    (readable l 2
    (need (short_if l) (refused 8 0 0)
    (outcome t (apply (set_list i l) os) i)))
change_answer t os (set_mark i m) =
    need (ltb i (length os)) (refused 9 0 0)
    (outcome t (apply (set_mark i m) os) i)
change_answer t os (set_owners i owner group) =
    need (ltb i (length os)) (refused 9 0 0)
    (need (ordinary owner) (refused 6 0 0)
    (need (ordinary group) (refused 6 0 0)
    (outcome t (apply (set_owners i owner group) os) i)))

-- ---- start: 12, where limits or rule are out of range or the lent room isn't enough; then the default list by 1 to 5 or 15, then 8; else zeros

unfoldable pub limits_ok : ℕ → ℕ → Bool
limits_ok objects steps = leb 1 objects && (leb objects 64 && leb steps 64)

unfoldable pub start_answer : Settings → Bool → Values
start_answer t enough =
    need (limits_ok t.object-limit t.step-limit) (refused 12 0 0)
    (need (rule_ok t.rule) (refused 12 0 0)
    (need enough (refused 12 0 0)
    (readable t.default 3
    (need (short_if t.default) (refused 8 0 0)
    (done 0 0 0 0)))))

-- ---- reading back, on the front of lent bytes

-- what is read of an object: its computed list, its own list, its other data
pub data Part : Type 0 where
  computed-list : Part
  own-list : Part
  other-data : Part

-- a list's bytes, none of an absent one
unfoldable pub bytes_if : Option MaybeList → List ℕ
bytes_if none = []
bytes_if (some none) = []
bytes_if (some (some s)) = s

-- FF for no parent
unfoldable pub parent_byte : Option ℕ → ℕ
parent_byte none = 0xFF
parent_byte (some p) = p

-- parent, kind, mark, type, then owner and group, each with its length in front
unfoldable pub data_bytes : Object → List ℕ
data_bytes o =
    (parent_byte o.parent ∷ cond o.container 1 0 ∷ cond o.mark 1 0 ∷ [])
    ++ (o.type ++ ((length o.owner ∷ o.owner) ++ (length o.group ∷ o.group)))

unfoldable pub part_bytes : Settings → List Object → Part → ℕ → List ℕ
part_bytes t os computed-list i = bytes_if (list_of t os i)
part_bytes t os own-list i = bytes_if (some (object os i).list)
part_bytes t os other-data i = data_bytes (object os i)

-- a list by its length, presence and count; other data by its length
unfoldable pub part_told : Settings → List Object → Part → ℕ → Values
part_told t os computed-list i = told (list_of t os i)
part_told t os own-list i = told (some (object os i).list)
part_told t os other-data i = done (length (data_bytes (object os i))) 1 0 0

-- 9 where there is no such object, 8 where there is too little room
unfoldable pub read_answer : Settings → List Object → Part → ℕ → ℕ → Values
read_answer t os x i room =
    need (ltb i (length os)) (refused 9 0 0)
    (need (leb (length (part_bytes t os x i)) room) (refused 8 0 0)
    (part_told t os x i))

-- done
abbrev pub accepted : Values → Bool
accepted v = eqb v.number 0

-- the lent bytes afterwards: as they were where it is refused
unfoldable pub read_into : Settings → List Object → Part → ℕ → List ℕ → List ℕ
read_into t os x i out = cond (accepted (read_answer t os x i (length out))) (front (part_bytes t os x i) out) out

-- ---- calls one after another

-- a start, and whether the lent room is enough; a change; undo; what is read back, with the bytes lent for it; the counts
pub data Call : Type 0 where
  start : Settings → Bool → Call
  change : Change → Call
  undo : Call
  read : Part → ℕ → List ℕ → Call
  counts : Call

-- what the calls before come to: the settings, the accepted changes not since undone, the latest first, and how many of these, from the latest on, are kept steps
pub record Tree : Type 0 where
  pub settings : Settings
  pub changes : List Change
  pub kept : ℕ

abbrev pub objects_of : Tree → List Object
objects_of s = objects_after s.changes

-- undo is refused where no step is kept
unfoldable pub undo_answer : ℕ → Values
undo_answer zero = refused 11 0 0
undo_answer (suc k) = done 0 0 0 0

unfoldable pub answer : Tree → Call → Values
answer s (start t enough) = start_answer t enough
answer s (change c) = change_answer s.settings (objects_of s) c
answer s undo = undo_answer s.kept
answer s (read x i out) = read_answer s.settings (objects_of s) x i (length out)
answer s counts = done (length (objects_of s)) 1 s.kept 0

-- a tree as it is started
abbrev pub begun : Settings → Tree
begun t = record { settings = t; changes = []; kept = 0 }

-- an accepted change is one kept step; past S the oldest is forgotten and can't be undone
abbrev pub noted : Tree → Change → Tree
noted s c = record { settings = s.settings; changes = c ∷ s.changes; kept = min s.settings.step-limit (suc s.kept) }

-- undo takes off the latest change not yet undone, where k steps are kept
unfoldable pub taken_off : Tree → ℕ → Tree
taken_off s zero = s
taken_off s (suc k) = record { settings = s.settings; changes = rest s.changes; kept = k }

unfoldable pub next : Tree → Call → Tree
next s (start t enough) = cond (accepted (answer s (start t enough))) (begun t) s
next s (change c) = cond (accepted (answer s (change c))) (noted s c) s
next s undo = taken_off s s.kept
next s (read x i out) = s
next s counts = s

-- after calls, the latest first
unfoldable pub after : Tree → List Call → Tree
after s [] = s
after s (q ∷ qs) = next (after s qs) q
