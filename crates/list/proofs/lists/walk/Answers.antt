-- The loop has passed good entries up to `at`: the whole walk is what is left of it. Assumes nothing.
use native.Mathlib.Omega.{arith}
use mathlib.Core.Path.{◌≡◌, refl, sym, ◌∙◌}
use Prim.Native.Nat.{◌+◌, ◌-◌}
use lib.ListN.{length, drop, length-drop}
use lib.Seq.{drop-drop}
use Rattle.std.proofs.lemmas.Result.{err_from_is_err_and}
use Rattle.list.specs.Entry.{access}
use Rattle.list.specs.List.{finish}
use Rattle.list.proofs.Walks.{walk_end, walk-stops, walk-goes}
use Rattle.list.proofs.lists.walk.Goals as goal

pub entry_size-requires : goal.entry_size-requires
entry_size-requires c = (c.loop.invariant.0, c.requires.1)

pub returns-in_err-at : goal.returns-in_err-at
returns-in_err-at c =
    let a = c.args in
    let p = err_from_is_err_and c.from_residual.result c.from_residual.ensures.1 in
    let w = walk-stops access a.rev (a.count - c.loop.counter) c.loop.at (drop c.loop.at a.list.now) (finish (length a.list.now) a.count) (omega arith) _ (sym c.entry_size.ensures ∙ c.in_err-at.was) in
    rw (p.1, p.2) (sym (c.loop.invariant.1 ∙ w))

pub overflow_add-at : goal.overflow_add-at
overflow_add-at c =
    let a = c.args in
    let w = walk-goes access a.rev (a.count - c.loop.counter) c.loop.at (drop c.loop.at a.list.now) (finish (length a.list.now) a.count) (omega arith) _ (sym c.entry_size.ensures ∙ c.in_ok-at.was) in
    omega (arith, w.0.within, w.1, length-drop c.loop.at a.list.now, c.loop.invariant.0, c.requires.1)

pub loop-preserved : goal.loop-preserved
loop-preserved c =
    let a = c.args in
    let w = walk-goes access a.rev (a.count - c.loop.counter) c.loop.at (drop c.loop.at a.list.now) (finish (length a.list.now) a.count) (omega arith) _ (sym c.entry_size.ensures ∙ c.in_ok-at.was) in
    let n : a.count - (c.loop.counter + 1) ≡ a.count - c.loop.counter - 1 = omega arith in (
      omega (arith, w.0.within, w.1, length-drop c.loop.at a.list.now, c.loop.invariant.0),
      c.loop.invariant.1 ∙ w.2 ∙ rw (n, drop-drop c.in_ok-at.field-0 c.loop.at a.list.now) refl,
    )

pub returns : goal.returns
unfolding finish
returns c =
    let a = c.args in
    sym (c.loop.invariant.1 ∙ walk_end access a.rev (a.count - c.loop.counter) c.loop.at (drop c.loop.at a.list.now) _ (omega arith))
