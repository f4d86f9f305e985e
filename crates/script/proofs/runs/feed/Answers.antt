-- The loop goes record by record: the run of all bytes is that of the bytes from `at` on, `at` bytes further. Assumes nothing.
use borrow.Author.Rules.{rules}
use native.Mathlib.Omega.{arith}
use mathlib.Core.Path.{refl, sym, ◌∙◌}
use Rattle.script.proofs.Feeds.{fed-none, fed-within, fed-more, fed-stops, fed-all, parts-of}
use Rattle.script.proofs.Steps.{record-some}
use Rattle.script.proofs.runs.feed.Goals as goal

pub loop-at-init : goal.loop-at-init
loop-at-init c = (search rules, search rules, fed-none _ _)

pub returns-in-Err : goal.returns-in-Err
returns-in-Err c =
    let a = c.args in
    let l = c.loop-at in
    parts-of
    (fed-stops a.s.now a.room.now l.at _ _ l.invariant.2 refl c.in-Err.flaw (sym c.in-Err.ensures) _
    (λ e. c.eq.ensures ∙ rw e refl) (λ e. c.eq.ensures ∙ rw e refl))

pub overflow_add-at : goal.overflow_add-at
overflow_add-at c =
    let a = c.args in
    let l = c.loop-at in
    omega (arith, fed-within a.s.now a.room.now l.at _ _ l.invariant.2 refl c.in-Ok.whole (sym c.in-Ok.ensures) (omega arith))

pub loop-at-smaller : goal.loop-at-smaller
loop-at-smaller c = omega (arith, record-some _ c.in-Ok.whole (sym c.in-Ok.ensures))

pub loop-at-preserved : goal.loop-at-preserved
loop-at-preserved c =
    let a = c.args in
    let l = c.loop-at in
    let w = c.in-Ok.whole in (
      fed-within a.s.now a.room.now l.at _ _ l.invariant.2 refl w (sym c.in-Ok.ensures) (omega arith),
      search rules,
      fed-more a.s.now a.room.now l.at _ _ l.invariant.2 refl w (sym c.in-Ok.ensures) _ c.pass.ensures,
    )

pub returns : goal.returns
returns c =
    let a = c.args in
    let l = c.loop-at in
    parts-of (fed-all a.s.now a.room.now l.at _ l.invariant.2 (omega arith))
