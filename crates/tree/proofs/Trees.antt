-- Trees worked by hand: the script of RULES 6.7, K7 to K10, a default list, undo, forgotten steps and refusals, computed over the model; and, by demand 3, what the
-- calls answer in any room.
use mathlib.Core.Path.{◌≡◌, refl, ap, ap₂, ◌∙◌}
use mathlib.Core.Bool.{Bool, true, false}
use mathlib.Core.List.{List, [], ◌∷◌, ◌++◌, map, flatten}
use mathlib.Core.Option.{Option, none, some}
use Prim.Native.Nat.{ℕ, ◌+◌, ◌-◌, ◌*◌, ◌≤◌}
use lib.ListN.{length, drop, replicate}
use lib.Dec.{leb}
use borrow.Author.Tests.{le-leb}
use Rattle.list.specs.List.{MaybeList}
use Rattle.list.specs.Identity.{creator}
use Rattle.list.specs.Answer.{Values, done, refused}
use Rattle.inherit.proofs.Worked.{mapping, system, parent_with, inherited, listed as bytes}
use Rattle.tree.specs.General.{bind, is_some, every, rest}
use Rattle.tree.specs.Room.{room_for}
use Rattle.tree.specs.Calls.{mark as Edit·mark, add as Change·add, alter, start_to, answer_values}
use Rattle.tree.specs.Model.{Settings, fitting, list_from, list_of, listed, add, set_list, set_mark, set_owners, apply, objects_after, placed, short_if, told, outcome, change_answer, limits_ok, start_answer, computed-list}
use Rattle.tree.specs.Model.{own-list, other-data, bytes_if, parent_byte, data_bytes, part_bytes, part_told, read_answer, accepted, read_into, Call, start, change, undo, read, counts, Tree, begun, objects_of, undo_answer, answer, taken_off, next, after}
use Rattle.tree.specs.Shown as Shown
use Rattle.tree.specs.Shown.{settings_from, meant, alteration, change_meant, played_on, answers_on}
use Rattle.tree.proofs.Demand3.{start-as, demand3}
use Rattle.tree.proofs.Worked.{bytes_open, entries_open, lists_open, copies_open, last_open, compute-open}

-- ---- over the model

abbrev tree : ℕ → ℕ → MaybeList → Tree
tree rule steps default = begun (record { object-limit = 3; step-limit = steps; rule = rule; mapping = mapping; default = default })

abbrev folder : Option ℕ → Bool → MaybeList → Call
folder parent mark list =
    change (add (record { parent = parent; container = true; mark = mark; type = replicate 16 0; owner = system; group = system; list = list }))

-- the worked parent as the root's own list; a container below it
abbrev root : Call
root = folder none false (some (parent_with 0x03))

abbrev child : Bool → MaybeList → Call
child mark list = folder (some 0) mark list

-- allow, flags 0, mask 1, S-1-5-18, and its list
abbrev pub plain : List ℕ
plain = 0x00 ∷ 0x00 ∷ 0x14 ∷ 0 ∷ 0x01 ∷ 0 ∷ 0 ∷ 0 ∷ system

abbrev pub plain_list : List ℕ
plain_list = bytes 0x1C 1 (plain ∷ [])

-- a root of such an owner and group; a group of 16 bytes, and an entry that names one of 12
abbrev owned : List ℕ → List ℕ → Call
owned owner group =
    change (add (record { parent = none; container = true; mark = false; type = replicate 16 0; owner = owner; group = group; list = none }))

abbrev group_16 : List ℕ
group_16 = 0x01 ∷ 0x02 ∷ 0 ∷ 0 ∷ 0 ∷ 0 ∷ 0 ∷ 0x05 ∷ replicate 8 1

abbrev group_entry : List ℕ → List ℕ
group_entry sid = 0x00 ∷ 0x00 ∷ 0x14 ∷ 0 ∷ 0x01 ∷ 0 ∷ 0 ∷ 0 ∷ sid

-- thirteen entries of 76 bytes and one for a SID of n numbers, all handed down: with n = 3 a list of 1,024 bytes
abbrev entry_for : ℕ → ℕ → List ℕ
entry_for flags n = (0x00 ∷ flags ∷ (16 + 4 * n) ∷ 0 ∷ 0x01 ∷ 0 ∷ 0 ∷ 0 ∷ 0x01 ∷ n ∷ []) ++ replicate (6 + 4 * n) 0

abbrev list_with : ℕ → ℕ → List ℕ
list_with flags n = (0x02 ∷ 0 ∷ (4 * n - 12) ∷ 0x04 ∷ 14 ∷ 0 ∷ 0 ∷ 0 ∷ []) ++ (flatten (replicate 13 (entry_for flags 15)) ++ entry_for flags n)

abbrev pub long_list : ℕ → List ℕ
long_list n = list_with 0x03 n

-- the same, all inherited
abbrev inherited_list : ℕ → List ℕ
inherited_list n = list_with 0x10 n

-- no entry and spare bytes, of n bytes in all, n from 1,024 to 1,279; the worked parent's entry twice, and a count of 1
abbrev spare_list : ℕ → List ℕ
spare_list n = (0x02 ∷ 0 ∷ (n - 1024) ∷ 0x04 ∷ 0 ∷ 0 ∷ 0 ∷ 0 ∷ []) ++ replicate (n - 8) 7

abbrev hidden_list : List ℕ
hidden_list = bytes 0x30 1 (drop 8 (parent_with 0x03) ∷ drop 8 (parent_with 0x03) ∷ [])

-- a root of such an owner, with such a list
abbrev changed_root : List ℕ → List ℕ → Call
changed_root owner list =
    change (add (record { parent = none; container = true; mark = false; type = replicate 16 0; owner = owner; group = system; list = some list }))

abbrev settings : ℕ → ℕ → ℕ → MaybeList → Settings
settings objects steps rule default = record { object-limit = objects; step-limit = steps; rule = rule; mapping = mapping; default = default }

-- what calls answer, the latest first, and object i's list after them
unfoldable pub answers : Tree → List Call → List Values
answers s [] = []
answers s (q ∷ qs) = answer (after s qs) q ∷ answers s qs

abbrev list_after : Tree → List Call → ℕ → Option MaybeList
list_after s qs i = let x = after s qs in list_of x.settings (objects_of x) i

unfoldable pub model_open : Unit {0}
unfolding fitting list_from listed apply objects_after placed short_if told outcome change_answer limits_ok start_answer bytes_if parent_byte data_bytes part_bytes part_told read_answer read_into undo_answer answer taken_off next after bind is_some every rest answers
model_open = tt

pub record Worked : Type 0 where
  -- the listing of RULES 6.7: 0 28 1, then 1 48 2; and the lists' bytes
  pub script-answers : answers (tree 2 16 none) (child false none ∷ root ∷ []) ≡ done 48 1 2 0 ∷ done 28 1 1 0 ∷ []
  pub script-first : list_after (tree 2 16 none) (child false none ∷ root ∷ []) 0 ≡ some (some (bytes 0x1C 1 (inherited 0x03 ∷ [])))
  pub script-second : list_after (tree 2 16 none) (child false none ∷ root ∷ []) 1 ≡ some (some (bytes 0x30 2 (inherited 0x10 ∷ inherited 0x1B ∷ [])))
  -- K7, under rule 1 a marked child whose own list is one plain entry: an empty list; K8, under rule 2: that entry alone; K9, without the mark: that
  -- entry, then K1's two
  pub K7 : list_after (tree 1 16 none) (child true (some plain_list) ∷ root ∷ []) 1 ≡ some (some (bytes 0x08 0 []))
  pub K8 : list_after (tree 2 16 none) (child true (some plain_list) ∷ root ∷ []) 1 ≡ some (some plain_list)
  pub K9 : list_after (tree 2 16 none) (child false (some plain_list) ∷ root ∷ []) 1 ≡ some (some (bytes 0x44 3 (plain ∷ inherited 0x10 ∷ inherited 0x1B ∷ [])))
  -- K10, a marked child with no own list: K1's list all the same
  pub K10 : list_after (tree 2 16 none) (child true none ∷ root ∷ []) 1 ≡ some (some (bytes 0x30 2 (inherited 0x10 ∷ inherited 0x1B ∷ [])))
  -- with a default list, a root without an own list has it; so has a child below a parent that hands nothing down
  pub default-root : list_after (tree 2 16 (some plain_list)) (folder none false none ∷ []) 0 ≡ some (some plain_list)
  pub default-child : list_after (tree 2 16 (some plain_list)) (child false none ∷ folder none false none ∷ []) 1 ≡ some (some plain_list)
  pub no_default : list_after (tree 2 16 none) (folder none false none ∷ []) 0 ≡ some none
  -- K8 with its mark taken off is K9; undo puts the mark back, takes the child off, then the root; then there is nothing to undo
  pub undo-answers :
      answers (tree 2 16 none) (undo ∷ undo ∷ undo ∷ undo ∷ change (set_mark 1 false) ∷ child true (some plain_list) ∷ root ∷ [])
      ≡ refused 11 0 0 ∷ done 0 0 0 0 ∷ done 0 0 0 0 ∷ done 0 0 0 0 ∷ done 68 1 3 0 ∷ done 28 1 1 0 ∷ done 28 1 1 0 ∷ []
  pub undo-mark : list_after (tree 2 16 none) (undo ∷ change (set_mark 1 false) ∷ child true (some plain_list) ∷ root ∷ []) 1 ≡ some (some plain_list)
  pub undo-all : objects_of (after (tree 2 16 none) (undo ∷ undo ∷ child true (some plain_list) ∷ root ∷ [])) ≡ []
  -- with S = 1 the first of two changes is forgotten; with S = 0 nothing can be undone
  pub forgotten : answers (tree 2 1 none) (undo ∷ undo ∷ child true none ∷ root ∷ []) ≡ refused 11 0 0 ∷ done 0 0 0 0 ∷ done 48 1 2 0 ∷ done 28 1 1 0 ∷ []
  pub never-kept : answers (tree 2 0 none) (undo ∷ root ∷ []) ≡ refused 11 0 0 ∷ done 28 1 1 0 ∷ []
  -- refusals in the order of RULES 4.5: a second root, a first object with a parent, no such object 9; the limit reached 10, even with a bad list; a list cut
  -- short 1, of list 2; a placeholder for owner 6
  pub two-roots : answers (tree 2 16 none) (root ∷ root ∷ []) ≡ refused 9 0 0 ∷ done 28 1 1 0 ∷ []
  pub no-root : answers (tree 2 16 none) (child false none ∷ []) ≡ refused 9 0 0 ∷ []
  pub no-object :
      answers (tree 2 16 none) (change (set_owners 1 system system) ∷ change (set_list 1 none) ∷ change (set_mark 1 true) ∷ root ∷ [])
      ≡ refused 9 0 0 ∷ refused 9 0 0 ∷ refused 9 0 0 ∷ done 28 1 1 0 ∷ []
  pub limit-reached :
      answers (tree 2 16 none) (child false (some []) ∷ child false none ∷ child false none ∷ root ∷ [])
      ≡ refused 10 0 0 ∷ done 48 1 2 0 ∷ done 48 1 2 0 ∷ done 28 1 1 0 ∷ []
  pub bad-list : answers (tree 2 16 none) (change (set_list 0 (some [])) ∷ root ∷ []) ≡ refused 1 2 0 ∷ done 28 1 1 0 ∷ []
  pub bad-owner :
      answers (tree 2 16 none) (change (set_owners 0 system (creator 1)) ∷ change (set_owners 0 (creator 0) system) ∷ root ∷ owned (creator 0) system ∷ owned system (creator 1) ∷ [])
      ≡ refused 6 0 0 ∷ refused 6 0 0 ∷ done 28 1 1 0 ∷ refused 6 0 0 ∷ refused 6 0 0 ∷ []
  -- a new group, of 16 bytes, in the place of creator group
  pub group-set :
      answers (tree 2 16 none) (change (set_owners 0 system group_16) ∷ folder none false (some (bytes 0x1C 1 (group_entry (creator 1) ∷ []))) ∷ [])
      ≡ done 32 1 1 0 ∷ done 28 1 1 0 ∷ []
  -- 8: a list given of 1,024 bytes is done and one of 1,028 refused, also where all its entries have ID, so that none would be in the computed list; a container below
  -- would have a list of over 1,024
  pub given-long : answers (tree 2 16 none) (folder none false (some (long_list 4)) ∷ []) ≡ refused 8 0 0 ∷ []
  pub given-inherited :
      answers (tree 2 16 none) (change (set_list 0 (some (inherited_list 4))) ∷ folder none false (some (inherited_list 3)) ∷ folder none false (some (inherited_list 4)) ∷ [])
      ≡ refused 8 0 0 ∷ done 8 1 0 0 ∷ refused 8 0 0 ∷ []
  -- spare bytes count for that; an own list is given back with them, and an entry behind the count is handed down to nobody
  pub given-spare :
      answers (tree 2 16 none) (change (set_list 0 (some (spare_list 1025))) ∷ folder none false (some (spare_list 1024)) ∷ folder none false (some (spare_list 1025)) ∷ [])
      ≡ refused 8 0 0 ∷ done 8 1 0 0 ∷ refused 8 0 0 ∷ []
  pub kept-spare :
      answers (tree 2 16 none) (read own-list 0 (replicate 48 0) ∷ read own-list 0 (replicate 47 0) ∷ child false none ∷ folder none false (some hidden_list) ∷ [])
      ≡ done 48 1 1 0 ∷ refused 8 0 0 ∷ done 48 1 2 0 ∷ done 28 1 1 0 ∷ []
  pub computed-long : answers (tree 2 16 none) (child false none ∷ folder none false (some (long_list 3)) ∷ []) ≡ refused 8 0 0 ∷ done 1024 1 14 0 ∷ []
  pub told-long : told none ≡ refused 8 0 0
  -- the order: a list cut short before a placeholder, a placeholder before a list of over 1,024 bytes
  pub in_order :
      answers (tree 2 16 none) (changed_root (creator 0) [] ∷ changed_root (creator 0) (long_list 4) ∷ [])
      ≡ refused 1 2 0 ∷ refused 6 0 0 ∷ []
  -- no object stands below what is no container; reading one that doesn't stand
  pub no-container :
      answers (tree 2 16 none) (child false none ∷ change (add (record { parent = none; container = false; mark = false; type = replicate 16 0; owner = system; group = system; list = none })) ∷ [])
      ≡ refused 9 0 0 ∷ done 0 0 0 0 ∷ []
  pub no-reading : answers (tree 2 16 none) (read own-list 1 [] ∷ read computed-list 0 [] ∷ root ∷ []) ≡ refused 9 0 0 ∷ refused 8 0 0 ∷ done 28 1 1 0 ∷ []
  -- starts: limits of 0, 65 and 64, rule 3, too little room, a default list cut short, ones of 1,028, 1,024 and 1,025 bytes
  pub starts :
      map (λ (x : Settings × Bool). start_answer x.0 x.1)
      ((settings 0 0 2 none, true) ∷ (settings 65 0 2 none, true) ∷ (settings 64 65 2 none, true) ∷ (settings 64 64 2 none, true) ∷ (settings 1 0 3 none, true) ∷ (settings 1 0 2 none, false)
      ∷ (settings 1 0 2 (some []), true) ∷ (settings 1 0 2 (some (long_list 4)), true) ∷ (settings 1 0 2 (some (long_list 3)), true) ∷ (settings 1 0 2 (some (spare_list 1025)), true) ∷ [])
      ≡ refused 12 0 0 ∷ refused 12 0 0 ∷ refused 12 0 0 ∷ done 0 0 0 0 ∷ refused 12 0 0 ∷ refused 12 0 0 ∷ refused 1 3 0 ∷ refused 8 0 0 ∷ done 0 0 0 0 ∷ refused 8 0 0 ∷ []
  -- what is read back of the root: its own list, its other data; and how many objects and steps there are
  pub own_read : answers (tree 2 16 none) (read own-list 0 (replicate 28 0) ∷ read own-list 0 (replicate 27 0) ∷ root ∷ []) ≡ done 28 1 1 0 ∷ refused 8 0 0 ∷ done 28 1 1 0 ∷ []
  pub data-read :
      read_into (after (tree 2 16 none) (root ∷ [])).settings (objects_of (after (tree 2 16 none) (root ∷ []))) other-data 0 (replicate 46 7)
      ≡ 0xFF ∷ 1 ∷ 0 ∷ (replicate 16 0 ++ (12 ∷ (system ++ (12 ∷ (system ++ (7 ∷ []))))))
  -- an object's owner, then its group
  pub data-order :
      data_bytes (record { parent = some 5; container = false; mark = true; type = replicate 16 7; owner = system; group = creator 0; list = none })
      ≡ 5 ∷ 0 ∷ 1 ∷ (replicate 16 7 ++ ((12 ∷ system) ++ (12 ∷ creator 0)))
  pub counted : answers (tree 2 16 none) (counts ∷ child false none ∷ root ∷ []) ≡ done 2 1 2 0 ∷ done 48 1 2 0 ∷ done 28 1 1 0 ∷ []
  -- a start on the standing tree: refused by its limits it changes nothing, accepted it begins anew
  pub start-refused :
      answers (tree 2 16 none) (counts ∷ start (record { object-limit = 65; step-limit = 0; rule = 2; mapping = mapping; default = none }) true ∷ root ∷ [])
      ≡ done 1 1 1 0 ∷ refused 12 0 0 ∷ done 28 1 1 0 ∷ []
  pub start-again :
      answers (tree 2 16 none) (counts ∷ start (record { object-limit = 64; step-limit = 0; rule = 1; mapping = mapping; default = none }) true ∷ root ∷ [])
      ≡ done 0 1 0 0 ∷ done 0 0 0 0 ∷ done 28 1 1 0 ∷ []

pub worked : Worked
unfolding bytes_open entries_open lists_open copies_open last_open compute-open model_open
worked =
    record {
      script-answers = refl;
      script-first = refl;
      script-second = refl;
      K7 = refl;
      K8 = refl;
      K9 = refl;
      K10 = refl;
      default-root = refl;
      default-child = refl;
      no_default = refl;
      undo-answers = refl;
      undo-mark = refl;
      undo-all = refl;
      forgotten = refl;
      never-kept = refl;
      two-roots = refl;
      no-root = refl;
      no-object = refl;
      limit-reached = refl;
      bad-list = refl;
      bad-owner = refl;
      group-set = refl;
      given-long = refl;
      given-spare = refl;
      kept-spare = refl;
      computed-long = refl;
      given-inherited = refl;
      told-long = refl;
      in_order = refl;
      no-container = refl;
      no-reading = refl;
      starts = refl;
      own_read = refl;
      data-read = refl;
      data-order = refl;
      counted = refl;
      start-refused = refl;
      start-again = refl;
    }

-- ---- over the calls, in any room that is large enough

pub all-answered : (b : Settings) (r : List ℕ) → accepted (answer_values (start_to b r).answer) ≡ true → (qs : List Shown.Request)
    → answers_on qs (start_to b r).bytes ≡ answers (begun (settings_from b)) (map (meant (length r)) qs)
unfolding answers_on answers
all-answered b r h [] = refl
all-answered b r h (q ∷ qs) = ap₂ (λ (v : Values) (vs : List Values). v ∷ vs) ((demand3 b r h qs).answers q) (all-answered b r h qs)

-- rule 2, room for 3 objects and 16 steps, a default list or none
abbrev pub begin : MaybeList → Settings
begin default = record { object-limit = 3; step-limit = 16; rule = 2; mapping = mapping; default = default }

abbrev pub Good : MaybeList → Type 0
Good d = start_answer (settings_from (begin d)) true ≡ done 0 0 0 0

pub begins : (d : MaybeList) (r : List ℕ) → room_for 3 16 ≤ length r → Good d → accepted (answer_values (start_to (begin d) r).answer) ≡ true
begins d r h g = ap (λ (v : Values). accepted v) {y = done 0 0 0 0} (start-as (begin d) r ∙ started-as)
  where
    started-as : start_answer (settings_from (begin d)) (leb (room_for 3 16) (length r)) ≡ done 0 0 0 0
    started-as = rw (le-leb (room_for 3 16) (length r) h) g

abbrev pub made : ℕ → Bool → MaybeList → Shown.Request
made parent mark list =
    Shown.change (Change·add (record { parent = parent; container = true; mark = mark; type = replicate 16 0; owner = system; group = system; list = list }))

unfoldable pub calls-open : Unit {0}
unfolding bytes_open entries_open lists_open copies_open last_open compute-open model_open meant change_meant alteration
calls-open = tt

module _ (r : List ℕ) (h : room_for 3 16 ≤ length r) where
  pub good_none : Good none
  unfolding bytes_open entries_open lists_open compute-open model_open
  good_none = refl

  good-plain : Good (some plain_list)
  unfolding bytes_open entries_open lists_open compute-open model_open
  good-plain = refl

  -- K8 and K9: a container with an own list below the root; the mark taken off, undone; what is read back
  abbrev K8_calls : List Shown.Request
  K8_calls = made 0 true (some plain_list) ∷ made 0xFFFFFFFF false (some (parent_with 0x03)) ∷ []

  pub K8-answers : answers_on (Shown.undo ∷ Shown.change (alter 1 (Edit·mark false)) ∷ K8_calls) (start_to (begin none) r).bytes
      ≡ done 0 0 0 0 ∷ done 68 1 3 0 ∷ done 28 1 1 0 ∷ done 28 1 1 0 ∷ []
  unfolding calls-open
  K8-answers = all-answered (begin none) r (begins none r h good_none) (Shown.undo ∷ Shown.change (alter 1 (Edit·mark false)) ∷ K8_calls)

  pub K8-read : (Shown.read_with computed-list 1 (played_on K8_calls (start_to (begin none) r).bytes) (replicate 28 0)).bytes ≡ plain_list
  unfolding calls-open
  K8-read = (demand3 (begin none) r (begins none r h good_none) K8_calls).read_back computed-list 1 (replicate 28 0)

  pub K9-read : (Shown.read_with computed-list 1 (played_on (Shown.change (alter 1 (Edit·mark false)) ∷ K8_calls) (start_to (begin none) r).bytes) (replicate 68 0)).bytes
      ≡ bytes 0x44 3 (plain ∷ inherited 0x10 ∷ inherited 0x1B ∷ [])
  unfolding calls-open
  K9-read = (demand3 (begin none) r (begins none r h good_none) (Shown.change (alter 1 (Edit·mark false)) ∷ K8_calls)).read_back computed-list 1 (replicate 68 0)

  -- a default list: that of a root without an own list, and of a child below it
  pub default-answers : answers_on (made 0 false none ∷ made 0xFFFFFFFF false none ∷ []) (start_to (begin (some plain_list)) r).bytes
      ≡ done 28 1 1 0 ∷ done 28 1 1 0 ∷ []
  unfolding calls-open
  default-answers = all-answered (begin (some plain_list)) r (begins (some plain_list) r h good-plain) (made 0 false none ∷ made 0xFFFFFFFF false none ∷ [])
