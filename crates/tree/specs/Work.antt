-- How the room's computed lists are worked out again: each from its parent's computed list, by the computation's own definition.
use Rattle.std.specs.Prelude.{ℕ, zero, suc, List, true, false, cond, eqb, ltb}
use Rattle.std.proofs.Math.Option.{Option, none, some}
use Rattle.list.specs.List.{MaybeList, lent}
use Rattle.octets.specs.Bytes.{put_at}
use Rattle.list.specs.Entry.{access}
use Rattle.list.specs.Answer.{Values}
use Rattle.inherit.specs.Asked.{Asked}
use Rattle.inherit.specs.Branch.{result_of}
use Rattle.inherit.specs.Compute.{compute_of, bytes_for}
use Rattle.tree.specs.General.{bind}
use Rattle.tree.specs.Held.{held, slot_for, parent_of, kind_byte, mark_byte, type_of, owner_of, group_of, own_list}
use Rattle.tree.specs.Room.{slot_at, settings, rule_of, mapping_of, default_of, own_data, slot}

-- what the computation is asked for an object, from the settings e, its parent's computed list and its own data: auto inherit yes, default
-- descriptor no, protected by the mark
abbrev pub asked_in : List ℕ → MaybeList → List ℕ → Asked
asked_in e p b =
    record {
      rule = rule_of e;
      parent = p;
      creator = own_list b;
      default = default_of e;
      container = eqb (kind_byte b) 1;
      types = type_of b;
      owner = owner_of b;
      group = group_of b;
      mapping = mapping_of e;
      auto-inherit = true;
      default-descriptor = false;
      protected = eqb (mark_byte b) 1;
    }

-- a list of at most 1,024 bytes, or an absent one; none where the computation refuses
abbrev pub taken : Values → List ℕ → Option MaybeList
taken v bytes = cond (eqb v.number 0) (some (lent (eqb v.present 1) bytes)) none

unfoldable pub computed : List ℕ → MaybeList → List ℕ → Option MaybeList
computed e p b = taken (compute_of (asked_in e p b) 1024) (bytes_for (result_of access (asked_in e p b)))

-- what object i finds above it: its parent's computed list, nothing where it has none; in a well-formed room a parent has a smaller number
unfoldable pub above_in : Option ℕ → ℕ → List ℕ → MaybeList
above_in none i r = none
above_in (some p) i r = cond (ltb p i) (held (slot p r)) none

unfoldable pub laid : ℕ → List ℕ → Option MaybeList → Option (List ℕ)
laid i r none = none
laid i r (some o) = some (put_at (slot_at i) (slot_for o) r)

-- the room with object i's list worked out again; with those of the first n objects, parents first
unfoldable pub rework : ℕ → List ℕ → Option (List ℕ)
rework i r = laid i r (computed (settings r) (above_in (parent_of (own_data i r)) i r) (own_data i r))

unfoldable pub reworked : ℕ → List ℕ → Option (List ℕ)
reworked zero r = some r
reworked (suc n) r = bind (reworked n r) (rework n)
