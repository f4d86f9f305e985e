-- The bytes handed on are the record's. Assumes nothing.
use mathlib.Core.Path.{◌∙◌}
use Rattle.script.proofs.Steps.{asked_own}
use Rattle.script.proofs.runs.pass.Goals as goal

pub returns : goal.returns
returns c =
    let a = c.args in
    c.carry_out.ensures.bytes ∙ asked_own a.t.now a.room.now _ a.whole c.requires c.part_of.ensures
