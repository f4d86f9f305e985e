-- A room laid out by hand, byte by byte as docs/ROOM.md has it, and what it shows: its settings, its objects and their lists; whether it is a well-formed tree, with
-- a few bytes of it changed; and what calls answer and make of it, byte by byte.
use mathlib.Core.Path.{◌≡◌, refl}
use mathlib.Core.Bool.{Bool, true, false}
use mathlib.Core.List.{List, [], ◌∷◌, ◌++◌, map}
use mathlib.Core.Option.{Option, none, some}
use Prim.Native.Nat.{ℕ}
use lib.ListN.{take, set, replicate}
use Rattle.list.specs.List.{MaybeList}
use Rattle.octets.specs.Bytes.{put_at}
use Rattle.list.specs.Identity.{creator}
use Rattle.inherit.proofs.Worked.{mapping, system, parent_with, inherited, listed}
use Rattle.refusal.specs.declared.Refusal.TheVariants as Why
use Rattle.tree.specs.General.{every, tab}
use Rattle.tree.specs.Model.{Settings, Object, short_if, limits_ok}
use Rattle.tree.specs.Held.{bytes_in, slot_ok, id_in, id_ok, block_ok, alike}
use Rattle.tree.specs.Room.{settings, own_data, slot, step, empty_room}
use Rattle.tree.specs.Formed.{counts_ok, settings_ok, placed_in, object_ok, again_ok, step_ok, steps_ok, formed}
use Rattle.octets.specs.Order.{need}
use Rattle.tree.specs.Work as Work
use Rattle.tree.specs.Work.{above_in, rework, reworked}
use Rattle.tree.specs.Calls.{tells, refusal, step_kept, step_gone, on_reading_to, readable_to, told_as, on_object, reworked_with, changed, step_taken_back, change_ends, undo_ends, start_ok, start_to, list as Edit·list, mark as Edit·mark}
use Rattle.tree.specs.Calls.{owners, edit_at, edit_bytes, tested, object_for, add_to, alter_to, undo_to, refuse, list_bytes, copied, list_to, own_to, data_of, data_to, counts_to}
use Rattle.tree.specs.Shown.{settings_in, settings_from, objects_in, lists_in, objects_back}
use Rattle.tree.proofs.Trees.{plain, plain_list, long_list}
use Rattle.tree.proofs.Worked.{bytes_open, entries_open, lists_open, copies_open, last_open, compute-open, tree_open}

-- S-1-5-19; an identity of 12 bytes in its 69; no list, and the worked parent's list, in a slot's 1,027
abbrev pub service : List ℕ
service = 0x01 ∷ 0x01 ∷ 0 ∷ 0 ∷ 0 ∷ 0 ∷ 0 ∷ 0x05 ∷ 0x13 ∷ 0 ∷ 0 ∷ 0 ∷ []

pub name : List ℕ → List ℕ
name sid = 12 ∷ (sid ++ replicate 56 0)

pub no-list : List ℕ
no-list = replicate 1027 0

pub one_list : List ℕ
one_list = 1 ∷ 28 ∷ 0 ∷ (parent_with 0x03 ++ replicate 996 0)

-- the mapping's four masks
pub masks : List ℕ
masks = 0x89 ∷ 0x00 ∷ 0x12 ∷ 0x00 ∷ 0x16 ∷ 0x01 ∷ 0x12 ∷ 0x00 ∷ 0xA0 ∷ 0x00 ∷ 0x12 ∷ 0x00 ∷ 0xFF ∷ 0x01 ∷ 0x1F ∷ 0x00 ∷ []

-- own data: parent, kind, mark, the type's bytes, owner, group, own list
pub owned : List ℕ → List ℕ → ℕ → ℕ → ℕ → List ℕ → List ℕ
owned owner group parent mark type list = (parent ∷ 1 ∷ mark ∷ []) ++ (replicate 16 type ++ (name owner ++ (name group ++ list)))

abbrev pub own : ℕ → ℕ → ℕ → List ℕ → List ℕ
own = owned system service

-- object limit 2, step limit 2, how many objects and steps; rule 2, the mapping, no default list; the root with the worked parent as its own list, and a container
-- below it; their computed lists; the steps
pub laid : ℕ → ℕ → List ℕ → List ℕ → List ℕ → List ℕ → List ℕ
laid objects kept first child second steps =
    (2 ∷ 2 ∷ objects ∷ kept ∷ 2 ∷ [])
    ++ (masks
    ++ (no-list ++ (own 0xFF 0 7 one_list ++ (first ++ (child ++ (second ++ steps))))))

-- a step that added the container, and one that changed it, which had this mark
pub added : List ℕ
added = 1 ∷ 1 ∷ replicate 1184 0

pub altered : ℕ → List ℕ
altered mark = 2 ∷ 1 ∷ own 0 mark 8 no-list

-- the container was added, then marked; the lists aren't the fresh ones
pub room : List ℕ
room = laid 2 2 one_list (own 0 1 8 no-list) no-list (altered 0 ++ added)

-- one step kept, which put the root's list in the place of this one, of 1,024 bytes
pub room-before : List ℕ → List ℕ
room-before list = laid 2 1 one_list (own 0 1 8 no-list) no-list ((2 ∷ 0 ∷ own 0xFF 0 7 (1 ∷ 0 ∷ 4 ∷ list)) ++ added)

-- the root alone, with no step kept, and other bytes in the places of steps
pub root-alone : List ℕ
root-alone = laid 1 0 one_list (replicate 1184 0) no-list (replicate 2372 6)

-- what it shows, and what undo of its latest step would show
pub folder : Option ℕ → Bool → ℕ → MaybeList → Object
folder parent mark type list =
    record { parent = parent; container = true; mark = mark; type = replicate 16 type; owner = system; group = service; list = list }

pub record RoomShows : Type 0 where
  pub settings-shown : settings_in room ≡ record { object-limit = 2; step-limit = 2; rule = 2; mapping = mapping; default = none }
  pub objects-shown : objects_in room ≡ folder none false 7 (some (parent_with 0x03)) ∷ folder (some 0) true 8 none ∷ []
  pub lists-shown : lists_in room ≡ some (parent_with 0x03) ∷ none ∷ []
  pub added-back : objects_back (put_at 3 (1 ∷ []) (put_at 5470 (1 ∷ []) room)) ≡ folder none false 7 (some (parent_with 0x03)) ∷ []
  pub back-shown : objects_back room ≡ folder none false 7 (some (parent_with 0x03)) ∷ folder (some 0) false 8 none ∷ []

pub room-shows : RoomShows
unfolding bytes_open put_at room laid masks added altered name no-list one_list owned folder tab settings own_data slot step bytes_in id_in objects_in lists_in objects_back
room-shows = record { settings-shown = refl; objects-shown = refl; lists-shown = refl; added-back = refl; back-shown = refl }

-- the room with some bytes put at a place, and whether it is well formed then
pub record Row : Type 0 where
  pub at : ℕ
  pub bytes : List ℕ
  pub well : Bool

row : ℕ → List ℕ → Bool → Row
row at bytes well = record { at = at; bytes = bytes; well = well }

pub table : List Row
table =
    row 0 [] true
    -- an object limit of 0, with no objects; one below the objects, with no steps; one that asks for more room
    ∷ row 0 (0 ∷ 2 ∷ 0 ∷ 0 ∷ []) false
    ∷ row 0 (1 ∷ 2 ∷ 2 ∷ 0 ∷ []) false
    ∷ row 0 (3 ∷ []) false
    -- a step limit below the steps, one that asks for more room
    ∷ row 1 (1 ∷ []) false
    ∷ row 1 (3 ∷ []) false
    -- one object, so that the one step is of none; three steps; one, none
    ∷ row 2 (1 ∷ 1 ∷ []) false
    ∷ row 3 (3 ∷ []) false
    ∷ row 3 (1 ∷ []) true
    ∷ row 3 (0 ∷ []) true
    -- rules 0, 1 and 3
    ∷ row 4 (0 ∷ []) false
    ∷ row 4 (1 ∷ []) true
    ∷ row 4 (3 ∷ []) false
    -- a default list: neither present nor absent; of no bytes; the least one; with three spare bytes; one of 1,024 bytes, and with a length of 1,025
    ∷ row 21 (2 ∷ []) false
    ∷ row 21 (1 ∷ []) false
    ∷ row 21 (1 ∷ 8 ∷ 0 ∷ 2 ∷ 0 ∷ 8 ∷ 0 ∷ []) true
    ∷ row 21 (1 ∷ 11 ∷ 0 ∷ 2 ∷ 0 ∷ 11 ∷ 0 ∷ []) true
    ∷ row 21 (1 ∷ 0 ∷ 4 ∷ long_list 3) true
    ∷ row 21 (1 ∷ 1 ∷ 4 ∷ long_list 3) false
    -- object 0: a parent; no container; mark 1 and 2
    ∷ row 1048 (0 ∷ []) false
    ∷ row 1049 (0 ∷ []) false
    ∷ row 1050 (1 ∷ []) true
    ∷ row 1050 (2 ∷ []) false
    -- its owner and its group: of 11 bytes, of 68 and of 69, S-1-3-0; its own list: neither present nor absent, cut, with a spare byte
    ∷ row 1067 (11 ∷ []) false
    ∷ row 1067 (68 ∷ 1 ∷ 15 ∷ []) true
    ∷ row 1067 (69 ∷ 1 ∷ 15 ∷ []) false
    ∷ row 1075 (3 ∷ 0 ∷ []) false
    ∷ row 1136 (11 ∷ []) false
    ∷ row 1136 (68 ∷ 1 ∷ 15 ∷ []) true
    ∷ row 1136 (69 ∷ 1 ∷ 15 ∷ []) false
    ∷ row 1144 (3 ∷ 0 ∷ []) false
    ∷ row 1205 (2 ∷ []) false
    ∷ row 1206 (27 ∷ []) false
    ∷ row 1206 (29 ∷ 0 ∷ 2 ∷ 0 ∷ 29 ∷ []) true
    -- its computed list likewise; bytes behind a list aren't looked at
    ∷ row 2232 (2 ∷ []) false
    ∷ row 2233 (27 ∷ []) false
    ∷ row 2233 (29 ∷ 0 ∷ 2 ∷ 0 ∷ 29 ∷ []) true
    ∷ row 2263 (9 ∷ []) true
    -- the latest step: of no kind; of an add, where the next one is none of the object before it; of no object, of another one
    ∷ row 5470 (0 ∷ []) false
    ∷ row 5470 (3 ∷ []) false
    ∷ row 5470 (1 ∷ []) false
    ∷ row 5471 (2 ∷ []) false
    ∷ row 5471 (0 ∷ []) false
    -- what it puts back: another parent, kind and type, and a mark that is none
    ∷ row 5472 (0xFF ∷ []) false
    ∷ row 5473 (0 ∷ []) false
    ∷ row 5474 (1 ∷ []) true
    ∷ row 5474 (2 ∷ []) false
    ∷ row 5475 (9 ∷ []) false
    -- the step before: of an object that wasn't the last
    ∷ row 6657 (0 ∷ []) false
    ∷ []

formed_open : Unit {0}
unfolding formed counts_ok settings_ok every object_ok placed_in steps_ok step_ok again_ok block_ok slot_ok id_ok alike settings own_data slot step bytes_in id_in
formed_open = tt

pub formings : map (λ x. formed (put_at x.at x.bytes room)) table ≡ map (λ x. x.well) table
unfolding bytes_open entries_open lists_open compute-open room laid masks added altered name no-list one_list owned table row put_at formed_open
formings = refl

-- the root alone, and kind 2 for it; with a container below it, no step kept: below the root, below nothing, below itself
pub kinds-worked : (formed root-alone ≡ true) × (formed (put_at 1049 (2 ∷ []) root-alone) ≡ false)
unfolding bytes_open entries_open lists_open compute-open room root-alone laid masks added altered name no-list one_list owned put_at formed_open
kinds-worked = (refl, refl)

pub parents-worked : map (λ p. formed (laid 2 0 one_list (own p 1 8 no-list) no-list (replicate 2372 6))) (0 ∷ 0xFF ∷ 1 ∷ []) ≡ true ∷ false ∷ false ∷ []
unfolding bytes_open entries_open lists_open compute-open room root-alone laid masks added altered name no-list one_list owned put_at formed_open
parents-worked = refl

-- no object, and the step of an add
pub none-added : formed (put_at 2 (0 ∷ 1 ∷ []) (put_at 5470 (1 ∷ 0 ∷ []) room)) ≡ false
unfolding bytes_open entries_open lists_open compute-open room root-alone laid masks added altered name no-list one_list owned put_at formed_open
none-added = refl

-- an empty tree: object limit, step limit, and what lies behind the mapping
pub limits : ℕ → ℕ → List ℕ → List ℕ
limits objects steps behind = (objects ∷ steps ∷ 0 ∷ 0 ∷ 2 ∷ []) ++ (masks ++ behind)

-- a byte short, and a byte more
pub lengths : (formed (take 7841 room) ≡ false) × (formed (room ++ (9 ∷ [])) ≡ true)
unfolding bytes_open entries_open lists_open compute-open room laid masks added altered name no-list one_list owned formed_open
lengths = (refl, refl)

-- ---- the steps: one more in front of the others, past the limit the oldest forgotten; and one less

pub steps : ℕ → List ℕ → List ℕ → List ℕ
steps kept first second = (0 ∷ 2 ∷ 0 ∷ kept ∷ []) ++ (replicate 1044 9 ++ (first ++ second))

pub stepping : (step_kept (replicate 1186 3) (steps 1 (replicate 1186 1) (replicate 1186 2)) ≡ steps 2 (replicate 1186 3) (replicate 1186 1))
    × ((step_kept (replicate 1186 3) (steps 2 (replicate 1186 1) (replicate 1186 2)) ≡ steps 2 (replicate 1186 3) (replicate 1186 1))
    × (step_gone (steps 2 (replicate 1186 1) (replicate 1186 2)) ≡ steps 1 (replicate 1186 2) (replicate 1186 2)))
unfolding bytes_open steps step_kept step_gone put_at
stepping = (refl, (refl, refl))

-- ---- calls: the room afterwards, byte by byte

calls-open : Unit {0}
unfolding need on_reading_to readable_to short_if limits_ok start_ok told_as on_object start_to add_to alter_to undo_to list_bytes copied list_to own_to data_of data_to counts_to tested edit_at edit_bytes changed
    reworked_with step_taken_back change_ends undo_ends empty_room above_in Work.laid rework reworked
calls-open = tt

-- a list of so many bytes in its slot, and zeros behind it; the fresh lists: K1's for the container; K9's
pub slot_of : ℕ → List ℕ → ℕ → List ℕ
slot_of length list zeros = 1 ∷ length ∷ 0 ∷ (list ++ replicate zeros 0)

abbrev pub fresh_first : List ℕ
fresh_first = slot_of 28 (listed 0x1C 1 (inherited 0x03 ∷ [])) 996

abbrev pub fresh_second : List ℕ
fresh_second = slot_of 48 (listed 0x30 2 (inherited 0x10 ∷ inherited 0x1B ∷ [])) 976

abbrev pub K9_list : List ℕ
K9_list = listed 0x44 3 (plain ∷ inherited 0x10 ∷ inherited 0x1B ∷ [])

pub record CallsWorked : Type 0 where
  -- undo takes the mark off again; the step that is left lies in front, and where it lay
  pub undone : undo_to room ≡ record { answer = tells 0 false 0; bytes = laid 2 1 fresh_first (own 0 0 8 no-list) fresh_second (added ++ added) }
  -- the mark taken off by a change: the step that added the container is forgotten
  pub unmarked : alter_to 1 (Edit·mark false) room ≡ record { answer = tells 48 true 2; bytes = laid 2 2 fresh_first (own 0 0 8 no-list) fresh_second (altered 1 ++ altered 0) }
  -- the container added to the root alone, its place empty before; a third object is one too many
  pub another :
      add_to (folder (some 0) true 8 none) root-alone
      ≡ record { answer = tells 48 true 2; bytes = laid 2 1 fresh_first (own 0 1 8 no-list) fresh_second (added ++ replicate 1186 6) }
  pub too_many : add_to (folder (some 0) true 8 none) room ≡ refuse Why.Full 0 0 room
  -- undo of an add: its object is gone, and what lies in the place of its list stays; a room with no kept step
  pub taken-off :
      undo_to (laid 2 1 one_list (own 0 1 8 no-list) one_list (added ++ replicate 1186 6))
      ≡ record { answer = tells 0 false 0; bytes = laid 1 0 fresh_first (replicate 1184 0) one_list (replicate 2372 6) }
  pub no_step : undo_to root-alone ≡ refuse Why.NoStep 0 0 root-alone
  -- owner and group in each other's place; a placeholder for either
  pub exchanged :
      alter_to 1 (owners service system) room
      ≡ record { answer = tells 48 true 2; bytes = laid 2 2 fresh_first (owned service system 0 1 8 no-list) fresh_second (altered 1 ++ altered 0) }
  pub no-owner : alter_to 1 (owners (creator 0) system) room ≡ refuse Why.Identity 0 0 room
  pub no-group : alter_to 1 (owners system (creator 1)) room ≡ refuse Why.Identity 0 0 room
  -- below the root: what is no container (K2); an own list with the mark (K8) and without (K9)
  pub leaf :
      add_to (record { parent = some 0; container = false; mark = false; type = replicate 16 8; owner = system; group = service; list = none }) root-alone
      ≡ record { answer = tells 28 true 1; bytes = laid 2 1 fresh_first (set (own 0 0 8 no-list) 1 0) (slot_of 28 (listed 0x1C 1 (inherited 0x10 ∷ [])) 996) (added ++ replicate 1186 6) }
  pub closed :
      add_to (folder (some 0) true 8 (some plain_list)) root-alone
      ≡ record { answer = tells 28 true 1; bytes = laid 2 1 fresh_first (own 0 1 8 (slot_of 28 plain_list 996)) (slot_of 28 plain_list 996) (added ++ replicate 1186 6) }
  pub opened :
      add_to (folder (some 0) false 8 (some plain_list)) root-alone
      ≡ record { answer = tells 68 true 3; bytes = laid 2 1 fresh_first (own 0 0 8 (slot_of 28 plain_list 996)) (slot_of 68 K9_list 956) (added ++ replicate 1186 6) }
  -- a room that isn't well formed, and an object that doesn't stand
  pub no-tree : undo_to (take 7841 room) ≡ refuse Why.Tree 0 0 (take 7841 room)
  pub no-tree-changed : alter_to 1 (Edit·mark true) (take 7841 room) ≡ refuse Why.Tree 0 0 (take 7841 room)
  pub no-object : alter_to 2 (Edit·mark true) room ≡ refuse Why.Object 0 0 room
  -- 8: the root's list of 1,024 bytes would give the container one of 2,040; and so would undo of a step that had it
  pub over : alter_to 0 (Edit·list (some (long_list 3))) room ≡ refuse Why.Room 0 0 room
  pub undo-over : undo_to (room-before (long_list 3)) ≡ refuse Why.Room 0 0 (room-before (long_list 3))
  -- what is read back, and where there is no room for it
  pub own_read : own_to 0 room (replicate 29 9) ≡ record { answer = tells 28 true 1; bytes = parent_with 0x03 ++ (9 ∷ []) }
  pub list_read : list_to 1 room (replicate 2 9) ≡ record { answer = tells 0 false 0; bytes = replicate 2 9 }
  pub list-short : list_to 0 room (replicate 27 9) ≡ refuse Why.Room 0 0 (replicate 27 9)
  pub data-read :
      data_to 1 room (replicate 46 9)
      ≡ record { answer = tells 45 true 0; bytes = (0 ∷ 1 ∷ 1 ∷ []) ++ (replicate 16 8 ++ ((12 ∷ system) ++ ((12 ∷ service) ++ (9 ∷ [])))) }
  pub counted : (counts_to room ≡ tells 2 true 2) × (counts_to (take 7841 room) ≡ refusal Why.Tree 0 0)

pub calls-worked : CallsWorked
unfolding bytes_open entries_open lists_open copies_open last_open compute-open tree_open room room-before root-alone laid masks added altered name no-list one_list owned slot_of folder formed_open put_at step_kept step_gone calls-open
calls-worked =
    record {
      undone = refl;
      unmarked = refl;
      another = refl;
      too_many = refl;
      taken-off = refl;
      no_step = refl;
      exchanged = refl;
      no-owner = refl;
      no-group = refl;
      leaf = refl;
      closed = refl;
      opened = refl;
      no-tree = refl;
      no-tree-changed = refl;
      no-object = refl;
      over = refl;
      undo-over = refl;
      own_read = refl;
      list_read = refl;
      list-short = refl;
      data-read = refl;
      counted = (refl, refl);
    }

-- what an add is given, as the object that it means
pub given-worked : map (λ p. object_for (record { parent = p; container = true; mark = false; type = replicate 16 8; owner = system; group = service; list = none }))
    (0xFFFFFFFF ∷ 0 ∷ 0xFF ∷ [])
    ≡ folder none false 8 none ∷ folder (some 0) false 8 none ∷ folder (some 0xFF) false 8 none ∷ []
unfolding bytes_open folder
given-worked = refl

-- the largest limits, and one past them
pub limits-worked : (formed (limits 64 0 (replicate 142531 0)) ≡ true) × ((formed (limits 65 0 (replicate 144742 0)) ≡ false)
    × ((formed (limits 1 64 (replicate 79142 0)) ≡ true) × (formed (limits 1 65 (replicate 80328 0)) ≡ false)))
unfolding bytes_open entries_open lists_open compute-open masks limits formed_open
limits-worked = (refl, (refl, (refl, refl)))

-- a start, in a room of other bytes
pub begun : start_to (record { object-limit = 1; step-limit = 1; rule = 1; mapping = mapping; default = some (parent_with 0x03) }) (replicate 4446 9)
    ≡ record { answer = tells 0 false 0; bytes = (1 ∷ 1 ∷ 0 ∷ 0 ∷ 1 ∷ []) ++ (masks ++ (one_list ++ (replicate 3397 0 ++ (9 ∷ [])))) }
unfolding bytes_open entries_open tree_open compute-open lists_open calls-open masks one_list
begun = refl

-- masks of 32 bits are the masks that are meant
abbrev widest : MaybeList → Settings
widest d =
    record { object-limit = 1; step-limit = 1; rule = 1; mapping = record { read = 0xFFFFFFFF; write = 0x80000000; execute = 1; all = 0xFFFFFFFE }; default = d }

pub masks-meant : (d : MaybeList) → settings_from (widest d) ≡ widest d
masks-meant d = refl
