-- What is taken is the list up to its end; of nothing, nothing. Assumes nothing.
use mathlib.Core.Path.{◌≡◌, sym, ap, ◌∙◌}
use lib.Seq.{length-take-le}
use Rattle.std.specs.Prelude.{Result, Ok}
use Rattle.refusal.specs.declared.Fault.{Fault}
use Rattle.list.specs.Entry.{access}
use Rattle.list.specs.List.{check_of}
use Rattle.list.specs.declared.readings.Read.{Read}
use Rattle.list.proofs.Answers.{checked}
use Rattle.access.specs.Walk.{walked_by}
use Rattle.access.proofs.Walks.{end-inside}
use Rattle.access.proofs.steps.walked.Goals as goal
use Rattle.access.proofs.steps.walked.Goals.{In-Ok}

reads : (c : In-Ok) → check_of access c.args.list.now ≡ Ok c.in-Ok.read
reads c = sym (checked _ c.args.list.now c.check.ensures) ∙ c.in-Ok.is

pub slice_bounds-result-end : goal.slice_bounds-result-end
slice_bounds-result-end c =
    sym (length-take-le c.in-Ok.read.end c.args.list.now (end-inside _ _ _ _ (reads (goal.at.slice_bounds-result-end c).In-Ok)))

pub returns-in-Ok : goal.returns-in-Ok
unfolding walked_by
returns-in-Ok c = ap (λ (r : Result Read Fault). walked_by r c.args.list.now) (sym (reads (goal.at.returns-in-Ok c).In-Ok))

pub returns-in-Err : goal.returns-in-Err
unfolding walked_by
returns-in-Err c =
    ap (λ (r : Result Read Fault). walked_by r c.args.list.now) (sym c.in-Err.is ∙ checked _ c.args.list.now c.check.ensures)
