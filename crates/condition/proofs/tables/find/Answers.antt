-- The name is found in the rest as in all. Assumes nothing.
use mathlib.Core.Path.{sym, ap, ◌∙◌}
use Rattle.std.proofs.Common.{Some}
use Rattle.condition.specs.Inner.Cells.{found_by}
use Rattle.condition.proofs.Records.{lies-there, found-nothing, found-here, found-behind}
use Rattle.condition.proofs.tables.find.Goals as goal

pub returns-then-is_called : goal.returns-then-is_called
unfolding found_by
returns-then-is_called c =
    let t = c.loop-long.rest.now in
    let i = lies-there t c.in-Some.long c.in-Some.ensures.long in
    ap Some c.key_in.ensures
    ∙ sym (ap found_by (c.loop-long.invariant ∙ found-here t c.args.name.now c.in-Some.long i (sym c.is_called.ensures ∙ c.if-is_called.true)))

pub loop-long-preserved : goal.loop-long-preserved
loop-long-preserved c =
    let t = c.loop-long.rest.now in
    let i = lies-there t c.in-Some.long c.in-Some.ensures.long in
    c.loop-long.invariant ∙ found-behind t c.args.name.now c.in-Some.long i (sym c.is_called.ensures ∙ c.if-is_called.false)

pub returns : goal.returns
unfolding found_by
returns c =
    sym (ap found_by (c.loop-long.invariant ∙ found-nothing c.loop-long.rest.now c.args.name.now c.in_default.ensures.long))
