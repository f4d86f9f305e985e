-- The definitions, computed: the formula and its bound, and the tree of RULES 6.7's script, where the worked parent is the root's own list and one
-- container stands below it.
use mathlib.Core.Path.{◌≡◌, refl}
use mathlib.Core.Bool.{true, false}
use mathlib.Core.List.{List, [], ◌∷◌, flatten}
use mathlib.Core.Option.{Option, some, none}
use Prim.Native.Nat.{ℕ, ◌+◌, ◌*◌, ◌≤◌}
use native.Mathlib.Omega.{arith}
use lib.ListN.{replicate}
use Rattle.octets.specs.Order.{need}
use Rattle.octets.specs.Bytes.{le, spell, same_bytes, guid_at, part, among}
use Rattle.list.specs.Identity.{length_of_sid, is_sid, placeholder_of, identity_of}
use Rattle.list.specs.Entry.{plain_of, object_of, object_kind, kind_ok, flags_ok, head_of, word_after, entry_bytes, conditional_of, conditional_kind, expression_ok, tail_long, size_ok, entry_of}
use Rattle.list.specs.List.{rev_ok, header_ok, cut, entries_of, head_bytes, render, on_good, walk_of, finish, check_of, MaybeList, lent}
use Rattle.inherit.specs.Asked.{Asked, entries_if, types_ok, types_of}
use Rattle.inherit.specs.Inner.Source.{given}
use Rattle.inherit.specs.Copies.{any_heritable, type_applies, pass, kept_flags, takes_first, first_part, takes_second, second_part, from_parent, own_entries, from_creator}
use Rattle.inherit.specs.Last.{in_place, mapped, mends, mended, last_mask, resolved, last_of, last_step}
use Rattle.inherit.specs.Branch.{inherited_bit, with_creator, from_default, branch, result_of}
use Rattle.inherit.specs.Compute.{any_object, with_room, on_reading, readable, rule_ok, compute_of, bytes_for, asked_by}
use Rattle.inherit.proofs.Worked.{mapping, system, parent_with, inherited, listed}
use Rattle.tree.specs.Model.{Object, parent_byte, limits_ok}
use Rattle.tree.specs.General.{bind}
use Rattle.tree.specs.Held.{bytes_in, id_in, id_for, slot_for, block_for}
use Rattle.tree.specs.Room.{room_for, room_of, settings_for}
use Rattle.tree.specs.Calls.{list_bytes}
use Rattle.tree.specs.Formed.{formed, counts_ok}
use Rattle.tree.specs.Work.{computed}
use Rattle.tree.specs.Inner.Asking.{settings_asked}
use Rattle.tree.proofs.Replay.{from_root, gather, work}

-- ---- what a computation of a tree opens, layer by layer: to unfold a name here is to unfold what its line names

unfoldable pub bytes_open : Unit {0}
unfolding le spell same_bytes guid_at part length_of_sid is_sid placeholder_of identity_of flatten
bytes_open = tt

unfoldable pub entries_open : Unit {0}
unfolding plain_of object_of object_kind kind_ok flags_ok head_of word_after entry_bytes size_ok tail_long expression_ok conditional_kind conditional_of need entry_of
entries_open = tt

unfoldable pub lists_open : Unit {0}
unfolding rev_ok header_ok cut entries_of head_bytes render on_good walk_of finish check_of entries_if types_ok types_of
lists_open = tt

unfoldable pub copies_open : Unit {0}
unfolding any_heritable among type_applies pass kept_flags takes_first first_part takes_second second_part from_parent own_entries from_creator
copies_open = tt

unfoldable pub last_open : Unit {0}
unfolding in_place mapped mends mended last_mask resolved last_of last_step inherited_bit with_creator from_default branch result_of
last_open = tt

unfoldable pub compute-open : Unit {0}
unfolding any_object with_room on_reading readable rule_ok compute_of bytes_for
compute-open = tt

unfoldable pub tree_open : Unit {0}
unfolding bytes_in id_in id_for slot_for parent_byte block_for settings_for computed bind from_root gather work
tree_open = tt

-- ---- a room's length

-- the formula keeps the bound of RULES 3.2
pub bound : (n s : ℕ) → room_for n s ≤ 2048 + 2400 * n + 1280 * s
bound n s = omega arith

pub rooms : (room_of 16 16 ≡ 55400) × ((room_of 64 64 ≡ 218456) × ((room_of 1 0 ≡ 3259) × ((room_of 0 16 ≡ 0) × ((room_of 65 16 ≡ 0) × (room_of 1 65 ≡ 0)))))
unfolding room_of limits_ok
rooms = (refl, (refl, (refl, (refl, (refl, refl)))))

-- no room is no tree
pub nothing : formed [] ≡ false
unfolding formed counts_ok
nothing = refl

-- ---- the computation's settings

lent_back : (p : MaybeList) → lent (given p) (list_bytes p) ≡ p
unfolding list_bytes
lent_back none = refl
lent_back (some s) = refl

-- what is asked, taken apart into whether each list is given and its bytes, as C's call takes it, is asked again
pub asked-again : (a : Asked)
    → asked_by a.rule (settings_asked a) a.mapping (lent (given a.parent) (list_bytes a.parent)) (lent (given a.creator) (list_bytes a.creator))
    (lent (given a.default) (list_bytes a.default)) a.types a.owner a.group ≡ a
asked-again a = rw (lent_back a.parent, lent_back a.creator, lent_back a.default) refl

-- ---- the tree of RULES 6.7's script

abbrev container : Option ℕ → MaybeList → Object
container parent list =
    record { parent = parent; container = true; mark = false; type = replicate 16 0; owner = system; group = system; list = list }

abbrev script : List ℕ
script = settings_for 2 mapping none

-- 28 bytes with one entry for the root, 48 with two for the container below it
abbrev pub lists : List MaybeList
lists = some (listed 0x1C 1 (inherited 0x03 ∷ [])) ∷ some (listed 0x30 2 (inherited 0x10 ∷ inherited 0x1B ∷ [])) ∷ []

pub script-tree : work script (block_for (container none (some (parent_with 0x03))) ∷ block_for (container (some 0) none) ∷ []) ≡ some lists
unfolding bytes_open entries_open lists_open copies_open last_open compute-open tree_open
script-tree = refl
