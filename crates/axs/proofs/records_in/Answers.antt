-- The three cases of records. Assumes nothing.
use borrow.Author.Rules.{rules}
use native.Mathlib.Omega.{arith}
use Prim.Native.Nat.{◌≤◌}
use lib.ListN.{length}
use Rattle.axs.specs.Inner.Buffered.{course_at}
use Rattle.axs.proofs.Courses.{used-most, records-far, records-bad, records-on, records-room}
use Rattle.axs.proofs.records_in.Goals as goal

pub overflow_add-next : goal.overflow_add-next
overflow_add-next c =
    let a = c.args in
    let e = c.advance-run.ensures.used_value in
    let u = used-most a.at a.held a.buffer.now a.room.now _ _ _ e.0 e.1.0 e.1.1 in
    omega arith

pub returns-then-next-gt-MOST-clause-room_after : goal.returns-then-next-gt-MOST-clause-room_after
unfolding course_at
returns-then-next-gt-MOST-clause-room_after c =
    let a = c.args in
    let e = c.advance-run.ensures.used_value in
    records-far a.at a.held a.buffer.now a.room.now _ _ _ e.0 e.1.0 e.1.1 (omega arith)

pub returns-then-run-clause-room_after : goal.returns-then-run-clause-room_after
unfolding course_at
returns-then-run-clause-room_after c =
    let a = c.args in
    let e = c.advance-run.ensures.used_value in
    records-bad a.at a.held a.buffer.now a.room.now _ _ _ e.0 e.1.0 e.1.1 (omega arith) c.if-run.true

pub overflow_sub-result : goal.overflow_sub-result
overflow_sub-result c =
    let a = c.args in
    let e = c.advance-run.ensures.used_value in
    let u = used-most a.at a.held a.buffer.now a.room.now _ _ _ e.0 e.1.0 e.1.1 in
    omega arith

pub invariant_of-result-clause-room_for_more : goal.invariant_of-result-clause-room_for_more
invariant_of-result-clause-room_for_more c =
    let a = c.args in
    let e = c.advance-run.ensures.used_value in
    let l : a.held ≤ length a.buffer.now = omega arith in
    records-room a.at a.held a.buffer.now a.room.now _ _ _ e.0 e.1.0 e.1.1 l (omega arith) c.if-run.false (search rules) (omega arith)

pub returns-else-run-clause-room_after : goal.returns-else-run-clause-room_after
unfolding course_at
returns-else-run-clause-room_after c =
    let a = c.args in
    let e = c.advance-run.ensures in
    let u = e.used_value in
    let l : a.held ≤ length a.buffer.now = omega arith in
    rw e.buffer_after (records-on a.at a.held a.buffer.now a.room.now _ _ _ u.0 u.1.0 u.1.1 l (omega arith) c.if-run.false)
