-- The three cases of the head. Assumes nothing.
use mathlib.Core.Path.{sym, ◌∙◌}
use native.Mathlib.Omega.{arith}
use Prim.Native.Nat.{◌≤◌}
use lib.ListN.{length}
use Rattle.axs.specs.Inner.Buffered.{course_at}
use Rattle.axs.proofs.Courses.{head-short, head-bad, head-good}
use Rattle.axs.proofs.head_in.Goals as goal

pub returns-then-held-lt5-clause-room_after : goal.returns-then-held-lt5-clause-room_after
unfolding course_at
returns-then-held-lt5-clause-room_after c =
    let a = c.args in
    head-short a.held a.buffer.now a.room.now (omega arith) (omega arith)

pub returns-then-not-head_ok-clause-room_after : goal.returns-then-not-head_ok-clause-room_after
unfolding course_at
returns-then-not-head_ok-clause-room_after c =
    let a = c.args in
    let l : a.held ≤ length a.buffer.now = omega arith in
    head-bad a.held a.buffer.now a.room.now l (omega arith)
    (sym c.head_ok.ensures ∙ c.if-not-head_ok.true)

pub returns-clause-room_after : goal.returns-clause-room_after
unfolding course_at
returns-clause-room_after c =
    let a = c.args in
    let l : a.held ≤ length a.buffer.now = omega arith in
    head-good a.held a.buffer.now a.room.now l (omega arith)
    (sym c.head_ok.ensures ∙ c.if-not-head_ok.false)
    (omega arith) _ c.begin.ensures.bytes
