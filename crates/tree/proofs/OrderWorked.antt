-- Document 02, Seven, computed over the calls, in any room that is large enough: two folders side by side, changed in either order and by two people; and where it
-- ends: a folder and what stands below it, where whoever comes second is refused, and undo, which takes back whatever came last.
use mathlib.Core.Path.{◌≡◌, refl, sym, ap, ap₂, ◌∙◌}
use mathlib.Core.Bool.{Bool, true, false}
use mathlib.Core.List.Permᴰ
use mathlib.Core.List.{List, [], ◌∷◌}
use mathlib.Core.Logic.{inl}
use mathlib.Core.Option.{none, some}
use Prim.Native.Nat.{ℕ, ◌≤◌}
use native.Mathlib.Omega.{arith}
use lib.ListN.{length, replicate}
use Rattle.list.specs.Answer.{Values, done, refused}
use Rattle.list.specs.Identity.{creator}
use Rattle.octets.proofs.Tests.{off}
use Rattle.inherit.proofs.Worked.{parent_with, system}
use Rattle.tree.specs.Room.{room_for}
use Rattle.tree.specs.Calls.{Edit, list, mark, owners, start_to, answer_values}
use Rattle.tree.specs.Model.{Object, object, accepted, own-list}
use Rattle.tree.specs.Shown.{objects_in, Request, start, undo, read, counts, answer_to, played_on, answers_on}
use Rattle.tree.specs.Apart.{Above, parent, further, Apart, Alter, alters, altered_by, Turn, turns_of, answers_of}
use Rattle.tree.proofs.Apart.{apart-turned, siblings-apart}
use Rattle.tree.proofs.Demand3.{demand3}
use Rattle.tree.proofs.Trees.{plain_list, long_list, calls-open, all-answered, begin, begins, made, good_none}
use Rattle.tree.proofs.Order.{reached, rooted-reached, AnyOrder, any_order, two-people}

-- the worked parent as the root's own list, and what stands below it: two folders; a folder and one in it; a folder with a list of its own and the mark
abbrev root : Request
root = made 0xFFFFFFFF false (some (parent_with 0x03))

abbrev folders : List Request
folders = made 0 false none ∷ made 0 false none ∷ root ∷ []

abbrev nested : List Request
nested = made 1 false none ∷ made 0 false none ∷ root ∷ []

abbrev closed : List Request
closed = made 0 true (some plain_list) ∷ root ∷ []

abbrev set : ℕ → Edit → Alter
set i e = record { object = i; edit = e }

-- a list for the one folder, the mark for the other
abbrev lists_one : Alter
lists_one = set 1 (list (some plain_list))

abbrev marks_other : Alter
marks_other = set 2 (mark true)

-- a long list for the root; the mark of the folder in it taken off
abbrev widens : Alter
widens = set 0 (list (some (long_list 3)))

abbrev opens : Alter
opens = set 1 (mark false)

-- two people's turns, the latest first: the second's mark, the first's list, and before them a placeholder as the second's owner
abbrev turn : Bool → Alter → Turn
turn first c = record { first = first; change = c }

abbrev bad-owner : Alter
bad-owner = set 2 (owners (creator 0) system)

abbrev mixed : List Turn
mixed = turn false marks_other ∷ turn true lists_one ∷ turn false bad-owner ∷ []

pub turns : (turns_of true mixed ≡ lists_one ∷ []) × (turns_of false mixed ≡ marks_other ∷ bad-owner ∷ [])
unfolding turns_of
turns = (refl, refl)

module _ (r : List ℕ) (h : room_for 3 16 ≤ length r) where
  starts : accepted (answer_values (start_to (begin none) r).answer) ≡ true
  starts = begins none r h (good_none r h)

  abbrev room : List Request → List ℕ
  room qs = reached (begin none) r qs

  -- the folders are apart, and the root is above each; it is above what stands in a folder too
  parents-are : ((object (objects_in (room folders)) 1).parent ≡ some 0) × (((object (objects_in (room folders)) 2).parent ≡ some 0)
      × (((object (objects_in (room nested)) 1).parent ≡ some 0) × ((object (objects_in (room nested)) 2).parent ≡ some 1)))
  unfolding calls-open
  parents-are =
      let e = (demand3 (begin none) r starts folders).objects-are in
      let f = (demand3 (begin none) r starts nested).objects-are in (
        ap (λ (os : List Object). (object os 1).parent) e,
        (
          ap (λ (os : List Object). (object os 2).parent) e,
          (ap (λ (os : List Object). (object os 1).parent) f, ap (λ (os : List Object). (object os 2).parent) f),
        ),
      )

  pub side_by_side : Apart (objects_in (room folders)) 1 2
  side_by_side = siblings-apart _ (rooted-reached (begin none) r starts folders) 1 2 (λ e. omega arith) (parents-are.0 ∙ sym parents-are.1.0)

  pub root-above : Above (objects_in (room folders)) 0 1
  root-above = parent parents-are.0

  pub far-above : Above (objects_in (room nested)) 0 2
  far-above = further parents-are.1.1.1 (parent parents-are.1.1.0)

  -- in either order the same two answers
  pub list-first : answers_on (alters marks_other ∷ alters lists_one ∷ folders) (room []) ≡ done 48 1 2 0 ∷ done 68 1 3 0 ∷ done 48 1 2 0 ∷ done 48 1 2 0 ∷ done 28 1 1 0 ∷ []
  unfolding calls-open played_on
  list-first = all-answered (begin none) r starts (alters marks_other ∷ alters lists_one ∷ folders)

  pub mark-first : answers_on (alters lists_one ∷ alters marks_other ∷ folders) (room []) ≡ done 68 1 3 0 ∷ done 48 1 2 0 ∷ done 48 1 2 0 ∷ done 48 1 2 0 ∷ done 28 1 1 0 ∷ []
  unfolding calls-open played_on
  mark-first = all-answered (begin none) r starts (alters lists_one ∷ alters marks_other ∷ folders)

  -- and so by `any_order`
  pub either_way : AnyOrder (room folders) (marks_other ∷ lists_one ∷ []) (lists_one ∷ marks_other ∷ [])
  either_way = any_order (begin none) r starts folders _ _ (Permᴰ.swap refl refl) ((apart-turned _ 1 2 side_by_side, tt), (tt, tt))

  -- and so are further calls: a placeholder for an owner, a list that is read, the counts, another start
  abbrev further_calls : List Request
  further_calls = start (begin none) ∷ counts ∷ read own-list 1 (replicate 28 0) ∷ alters bad-owner ∷ []

  pub later-too : answers_on further_calls (altered_by (marks_other ∷ lists_one ∷ []) (room folders)) ≡ answers_on further_calls (altered_by (lists_one ∷ marks_other ∷ []) (room folders))
  later-too = either_way.rooms.later further_calls tt

  -- what each of the two is answered
  pub first-answered : answers_of true mixed (room folders) ≡ done 68 1 3 0 ∷ []
  unfolding calls-open turns_of answers_on played_on
  first-answered =
      (two-people (begin none) r starts folders 1 2 side_by_side mixed (inl refl, (inl refl, (inl refl, tt)))).0.answers
      ∙ ap (λ (v : Values). v ∷ []) ((demand3 (begin none) r starts folders).answers (alters lists_one))

  pub second-answered : answers_of false mixed (room folders) ≡ done 48 1 2 0 ∷ refused 6 0 0 ∷ []
  unfolding calls-open turns_of answers_on played_on
  second-answered =
      (two-people (begin none) r starts folders 1 2 side_by_side mixed (inl refl, (inl refl, (inl refl, tt)))).1.answers
      ∙ ap₂ (λ (v w : Values). v ∷ w ∷ []) ((demand3 (begin none) r starts (alters bad-owner ∷ folders)).answers (alters marks_other))
      ((demand3 (begin none) r starts folders).answers (alters bad-owner))

  -- where one is above the other each is done as the first, and 8 as the second
  pub root-first : answers_on (alters opens ∷ alters widens ∷ closed) (room []) ≡ refused 8 0 0 ∷ done 1024 1 14 0 ∷ done 28 1 1 0 ∷ done 28 1 1 0 ∷ []
  unfolding calls-open played_on
  root-first = all-answered (begin none) r starts (alters opens ∷ alters widens ∷ closed)

  pub folder-first : answers_on (alters widens ∷ alters opens ∷ closed) (room []) ≡ refused 8 0 0 ∷ done 68 1 3 0 ∷ done 28 1 1 0 ∷ done 28 1 1 0 ∷ []
  unfolding calls-open played_on
  folder-first = all-answered (begin none) r starts (alters widens ∷ alters opens ∷ closed)

  -- undo takes back what came last: the mark, so that the list is still there, or the list
  abbrev back_mark : List Request
  back_mark = undo ∷ alters marks_other ∷ alters lists_one ∷ folders

  abbrev back_list : List Request
  back_list = undo ∷ alters lists_one ∷ alters marks_other ∷ folders

  pub list-there : answer_to (read own-list 1 (replicate 28 0)) (room back_mark) ≡ done 28 1 1 0
  unfolding calls-open
  list-there = (demand3 (begin none) r starts back_mark).answers (read own-list 1 (replicate 28 0))

  pub list-gone : answer_to (read own-list 1 (replicate 28 0)) (room back_list) ≡ done 0 0 0 0
  unfolding calls-open
  list-gone = (demand3 (begin none) r starts back_list).answers (read own-list 1 (replicate 28 0))

  pub undo-differs : objects_in (room back_mark) ≡ objects_in (room back_list) → ⊥
  unfolding calls-open
  undo-differs e =
      let marked : List Object → Bool = λ os. (object os 2).mark in
      let x : marked (objects_in (room back_mark)) ≡ false = ap marked (demand3 (begin none) r starts back_mark).objects-are in
      let y : marked (objects_in (room back_list)) ≡ true = ap marked (demand3 (begin none) r starts back_list).objects-are in
      off y (sym (ap marked e) ∙ x)
