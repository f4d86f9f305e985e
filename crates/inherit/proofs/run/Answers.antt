-- No plan, or the plan's parts; what they give is the result's. Assumes nothing.
use mathlib.Core.Path.{sym, ◌∙◌}
use Rattle.inherit.specs.Inner.Plan.{planned, result_by}
use Rattle.inherit.proofs.Fills.{ends-absent}
use Rattle.inherit.proofs.run.Goals as goal

pub returns-in_default : goal.returns-in_default
unfolding result_by
returns-in_default c =
    let e = sym c.plan_for.ensures ∙ c.in_default.is in
    let h = rw (c.any_heritable-heritable.ensures, c.part_of.ensures, c.is_some-creator.ensures, c.is_some-default.ensures) at e in
    rw h (ends-absent c.args.out.now)

pub returns : goal.returns
unfolding result_by planned
returns c =
    let e = sym c.plan_for.ensures ∙ c.in-Some.is in
    let h = rw (c.any_heritable-heritable.ensures, c.part_of.ensures, c.is_some-creator.ensures, c.is_some-default.ensures) at e in
    let f = rw (c.part_of-2.ensures, c.part_of-3.ensures, c.part_of-4.ensures) at c.fill.ensures in
    rw h f
