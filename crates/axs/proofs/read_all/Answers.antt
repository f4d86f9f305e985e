-- The place stays one, and there are reads after which the run stands where the code has it; each read brings it on. Assumes nothing.
use borrow.Author.Rules.{rules}
use native.Mathlib.Omega.{arith}
use Prim.Native.Nat.{◌+◌, ◌≤◌}
use lib.ListN.{take}
use lib.Seq.{take_at, length-take-le}
use Rattle.axs.proofs.Courses.{bound-most, bound_some, on-onward, on-course, over-course}
use Rattle.axs.proofs.Turns.{stands-none, stands-more, stands-over}
use Rattle.axs.proofs.read_all.Goals as goal

pub loop-next-init : goal.loop-next-init
loop-next-init c = (bound_some 0, omega arith, stands-none _ _)

pub slice_bounds-read-end : goal.slice_bounds-read-end
slice_bounds-read-end c =
    let m : c.bound-most.result ≤ 66112 = rw c.bound-most.ensures (bound-most c.loop-next.place.0) in search rules

pub loop-next-smaller : goal.loop-next-smaller
loop-next-smaller c =
    let l = c.loop-next in
    let n = c.in-Ok.next in
    let o = on-onward c.in-Ok.is l.place.0 (l.place.1.0 + 1) c.go_on.ensures.onward in
    omega (arith, o, n.room_for_more, n.in_range, bound-most n.at)

pub loop-next-preserved : goal.loop-next-preserved
loop-next-preserved c =
    let l = c.loop-next in
    let n = c.in-Ok.next in
    let kept = take_at (take l.place.1.0 l.buffer) _ l.place.1.0 (length-take-le l.place.1.0 l.buffer (omega (arith, bound-most l.place.0))) in
    (n.room_for_more, n.in_range, stands-more l.invariant.2 _ kept _ (on-course c.in-Ok.is _ _ c.go_on.ensures.room_after))

pub returns-in-Err : goal.returns-in-Err
returns-in-Err c =
    let l = c.loop-next in
    let kept = take_at (take l.place.1.0 l.buffer) _ l.place.1.0 (length-take-le l.place.1.0 l.buffer (omega (arith, bound-most l.place.0))) in
    stands-over l.invariant.2 _ kept _ (over-course c.in-Err.is _ _ c.go_on.ensures.room_after)
