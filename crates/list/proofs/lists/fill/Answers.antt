-- As many offsets as turns stand in the row, and the next entry lies at `at` (`Filled`). Assumes nothing.
use native.Mathlib.Omega.{arith}
use mathlib.Core.Path.{◌≡◌, ap, ◌∙◌}
use mathlib.Core.List.{List, [], ◌++◌, append-nil}
use Prim.Native.Nat.{ℕ, ◌+◌}
use lib.ListN.{take, drop, length-drop, drop_of_length-le}
use lib.Seq.{get_or-drop, length-take-le}
use Rattle.list.specs.Entry.{access}
use Rattle.list.specs.List.{offsets}
use Rattle.octets.proofs.Little.{le-lt}
use Rattle.list.proofs.Rows.{filled_none, filled_more, filled-all, next}
use Rattle.list.proofs.lists.fill.Goals as goal

pub loop-slot-init : goal.loop-slot-init
loop-slot-init c = filled_none access _ _ _ c.requires.0

pub overflow_cast-slot : goal.overflow_cast-slot
overflow_cast-slot c = omega (arith, c.requires.0.head.size, le-lt 2 (drop 2 c.args.list.now) (λ i. rw get_or-drop (c.type_inv.list (2 + i)).fits))

pub size_at-requires : goal.size_at-requires
size_at-requires c =
    let z = length-take-le c.args.count c.args.row.now c.requires.1 in
    omega (arith, (next access _ _ _ _ _ _ c.loop-slot.invariant (omega arith)).0.four, length-drop c.loop-slot.at c.args.list.now)

pub loop-slot-preserved : goal.loop-slot-preserved
loop-slot-preserved c =
    let z = length-take-le c.args.count c.args.row.now c.requires.1 in
    rw c.size_at.ensures (filled_more access _ _ _ _ _ _ c.loop-slot.invariant (omega arith) (omega arith))

pub returns : goal.returns
returns c =
    let n = c.args.count in
    let r = c.args.row.now in
    let z = length-take-le n r c.requires.1 in
    let f = filled-all access _ _ _ _ _ _ c.loop-slot.invariant (omega arith) in
    let e : drop n (take n r) ≡ [] = drop_of_length-le (take n r) (omega arith) in
    ap (λ (l : List ℕ). l ++ drop n r) (f ∙ ap (λ (l : List ℕ). offsets n 8 (drop 8 c.args.list.now) ++ l) e ∙ append-nil _)
