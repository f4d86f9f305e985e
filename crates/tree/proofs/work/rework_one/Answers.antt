-- The list on its way to the slot, zeros there, or nothing, by what the computation answers: the laws of Works. Assumes nothing.
use borrow.Author.Rules.{rules}
use native.Mathlib.Omega.{arith}
use mathlib.Core.Path.{refl, ap, ◌∙◌}
use Rattle.std.specs.Prelude.{Ok}
use Rattle.tree.specs.Held.{slot_for}
use Rattle.tree.proofs.Kept.{inside}
use Rattle.tree.proofs.Works.{rework-present, rework-absent, rework-refused}
use Rattle.tree.proofs.work.rework_one.Goals as goal

pub lay_list-requires : goal.lay_list-requires
lay_list-requires c =
    omega (arith, inside _ _ _ _ c.part_of.ensures, c.compute_in.auto.out)

pub returns-in-Ok-Some : goal.returns-in-Ok-Some
returns-in-Ok-Some c =
    rework-present c.args.i c.args.w.now c.args.out.now _ _ _ _ _
    c.above.ensures c.settings.ensures c.own.ensures
    (search rules) c.compute_in.ensures c.in-Ok-Some.found _ (c.in-Ok-Some.is ∙ ap Ok c.in-Ok-Some.field-0-is)
    (c.lay_list.ensures ∙ rw (c.part_of.ensures, c.from.ensures) refl)

pub returns-in-Ok-None : goal.returns-in-Ok-None
unfolding slot_for
returns-in-Ok-None c =
    rework-absent c.args.i c.args.w.now c.args.out.now _ _ _ _ _
    c.above.ensures c.settings.ensures c.own.ensures
    (search rules) c.compute_in.ensures _ (c.in-Ok-None.is ∙ ap Ok c.in-Ok-None.field-0-is) c.zero.ensures

pub returns-in-Err : goal.returns-in-Err
returns-in-Err c =
    rework-refused c.args.i c.args.w.now c.args.out.now _ _ _ _ _
    c.above.ensures c.settings.ensures c.own.ensures
    (search rules) c.compute_in.ensures _ c.in-Err.is
