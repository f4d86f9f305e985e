-- The four cases: a read that failed, the end of the input, the head and records. Assumes nothing.
use borrow.Author.Rules.{rules}
use native.Mathlib.Omega.{arith}
use mathlib.Core.Path.{sym, subst}
use Prim.Native.Nat.{ℕ, ◌+◌}
use Rattle.axs.specs.Inner.Buffered.{course_at, Onward}
use Rattle.axs.proofs.Courses.{bound-head, bound-most, onward-from, came, came-most, read-fails, read-ends, read_head, read-records}
use Rattle.axs.proofs.go_on.Goals as goal

pub returns-in_default-clause-room_after : goal.returns-in_default-clause-room_after
unfolding course_at
returns-in_default-clause-room_after c = rw c.in_default.is (read-fails _ _ _ _)

pub returns-then-n-eq0-clause-room_after : goal.returns-then-n-eq0-clause-room_after
unfolding course_at
returns-then-n-eq0-clause-room_after c =
    let a = c.args in
    let k = came a.place.at a.place.held c.in-Ok.n c.min-n.result c.bound.result a.buffer.now (search rules) a.place.room_for_more c.bound.ensures c.min-n.ensures in
    rw c.in-Ok.is (read-ends k a.room.now c.if-n-eq0.true c.end.ensures)

pub head_in-requires : goal.head_in-requires
head_in-requires c =
    let a = c.args in
    let k = came a.place.at a.place.held c.in-Ok.n c.min-n.result c.bound.result a.buffer.now (search rules) a.place.room_for_more c.bound.ensures c.min-n.ensures in
    omega (arith, came-most k a.room.now, bound-head _ c.if-place-eq0.true)

pub records_in-requires : goal.records_in-requires
records_in-requires c =
    let a = c.args in
    let k = came a.place.at a.place.held c.in-Ok.n c.min-n.result c.bound.result a.buffer.now (search rules) a.place.room_for_more c.bound.ensures c.min-n.ensures in
    (omega (arith, c.if-place-eq0.false), (a.place.in_range, omega (arith, came-most k a.room.now, bound-most a.place.at)))

pub returns-then-place-eq0-clause-room_after : goal.returns-then-place-eq0-clause-room_after
returns-then-place-eq0-clause-room_after c =
    let a = c.args in
    let k = came a.place.at a.place.held c.in-Ok.n c.min-n.result c.bound.result a.buffer.now (search rules) a.place.room_for_more c.bound.ensures c.min-n.ensures in
    rw c.in-Ok.is (read_head k a.room.now c.if-n-eq0.false c.if-place-eq0.true _ c.head_in.ensures.room_after)

pub returns-then-place-eq0-clause-onward : goal.returns-then-place-eq0-clause-onward
returns-then-place-eq0-clause-onward c =
    let a = c.args in
    let n = a.place.held + c.min-n.result in
    onward-from a.place.at _ n _ (omega (arith, c.if-n-eq0.false))
    (subst (λ (at : ℕ). Onward at n c.head_in.result) (sym c.if-place-eq0.true) c.head_in.ensures.onward)

pub returns-else-place-eq0-clause-room_after : goal.returns-else-place-eq0-clause-room_after
returns-else-place-eq0-clause-room_after c =
    let a = c.args in
    let k = came a.place.at a.place.held c.in-Ok.n c.min-n.result c.bound.result a.buffer.now (search rules) a.place.room_for_more c.bound.ensures c.min-n.ensures in
    rw c.in-Ok.is (read-records k a.room.now c.if-n-eq0.false c.if-place-eq0.false _ c.records_in.ensures.room_after)

pub returns-else-place-eq0-clause-onward : goal.returns-else-place-eq0-clause-onward
returns-else-place-eq0-clause-onward c =
    let a = c.args in
    onward-from a.place.at _ (a.place.held + c.min-n.result) _ (omega (arith, c.if-n-eq0.false)) c.records_in.ensures.onward
