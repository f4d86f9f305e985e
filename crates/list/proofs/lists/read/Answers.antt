-- What `check` found decides, then the room in the row. Assumes nothing.
use mathlib.Core.Path.{sym, ap, ◌∙◌}
use Rattle.std.proofs.lemmas.Result.{err_from_is_err_and}
use Rattle.list.specs.Entry.{access}
use Rattle.list.specs.Answer.{reading_values}
use Rattle.list.proofs.Answers.{checked}
use Rattle.list.proofs.Told.{told, read-refused, read_short, read_done}
use Rattle.list.proofs.lists.read.Goals as goal

pub returns-in_err-read : goal.returns-in_err-read
returns-in_err-read c =
    let h = read-refused access _ _ _ (sym (checked _ _ c.check.ensures) ∙ c.in_err-read.was) in
    let p = err_from_is_err_and c.from_residual.result c.from_residual.ensures.1 in
    rw (p.1, p.2) (record { answer = ap reading_values h.answer; index = h.index })

pub returns-then-row-read : goal.returns-then-row-read
returns-then-row-read c =
    let h = read_short access _ _ _ _ _ (sym (checked _ _ c.check.ensures) ∙ c.in_ok-read.was) c.if-row-read.true in
    rw c.from.ensures (record { answer = ap reading_values h.answer; index = h.index })

pub fill-requires : goal.fill-requires
fill-requires c = ((told access _ _ _ _ (sym (checked _ _ c.check.ensures) ∙ c.in_ok-read.was)).listed, c.if-row-read.false)

pub returns : goal.returns
returns c =
    let h = read_done access _ _ _ _ _ (sym (checked _ _ c.check.ensures) ∙ c.in_ok-read.was) c.if-row-read.false in
    record { answer = ap reading_values h.answer; index = c.fill.ensures ∙ h.index }
