-- The invariant: the room is what working out the first i objects gives. Assumes nothing.
use native.Mathlib.Omega.{arith}
use mathlib.Core.Path.{refl, sym, ap, ◌∙◌}
use Rattle.std.specs.Prelude.{Err}
use Rattle.std.proofs.lemmas.Result.{err_from_is_err_and}
use Rattle.tree.proofs.Works.{none_made, turn-some, turn-none, turns-done}
use Rattle.tree.proofs.work.rework_all.Goals as goal

pub loop-i-init : goal.loop-i-init
loop-i-init c = (omega arith, (none_made _, refl))

pub returns-in_err-rework_one : goal.returns-in_err-rework_one
returns-in_err-rework_one c =
    let p = err_from_is_err_and c.from_residual.result c.from_residual.ensures.1 in
    turn-none _ _ _ _ _ _ _ c.loop-i-test.true c.loop-i.invariant.1.0 (sym c.rework_one.ensures.0 ∙ c.in_err-rework_one.was) (p.1 ∙ ap Err p.2)

pub loop-i-preserved : goal.loop-i-preserved
loop-i-preserved c =
    let o = c.rework_one in
    let made = turn-some _ _ _ _ c.loop-i.invariant.1.0 (sym o.ensures.0 ∙ c.in_ok-rework_one.was) o.ensures.1 in
    (omega arith, (made, omega (arith, o.auto.w)))

pub returns : goal.returns
returns c = turns-done _ _ _ _ (omega arith) c.loop-i.invariant.1.0
