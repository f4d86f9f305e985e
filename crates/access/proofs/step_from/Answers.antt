-- The list's own check says whether it reads as done; then the entry is sought up to where the entries end. Assumes nothing.
use mathlib.Core.Path.{◌≡◌, sym, ap, ◌∙◌}
use lib.ListN.{take}
use lib.Seq.{length-take-le}
use Rattle.std.specs.Prelude.{Ok}
use Rattle.std.proofs.lemmas.Result.{err_from_is_err_and}
use Rattle.list.specs.Entry.{access}
use Rattle.list.specs.List.{check_of}
use Rattle.list.proofs.Answers.{checked}
use Rattle.access.specs.Walk.{step_at}
use Rattle.access.proofs.Walks.{end-inside, walking-first}
use Rattle.access.proofs.Opens.{sought, pointed, stopped}
use Rattle.access.proofs.step_from.Goals as goal
use Rattle.access.proofs.step_from.Goals.{In_ok-read}

pub returns-in_err-read : goal.returns-in_err-read
returns-in_err-read c =
    let p = err_from_is_err_and c.from_residual.result c.from_residual.ensures.1 in
    rw (p.1, p.2) (sym (stopped c.args.list.now _ c.args.place (sym (checked _ c.args.list.now c.check.ensures) ∙ c.in_err-read.was)))

-- a list that reads as done
reads : (c : In_ok-read) → check_of access c.args.list.now ≡ Ok c.in_ok-read.read
reads c = sym (checked _ c.args.list.now c.check.ensures) ∙ c.in_ok-read.was

pub slice_bounds-entries-end : goal.slice_bounds-entries-end
slice_bounds-entries-end c =
    sym (length-take-le c.in_ok-read.read.end c.args.list.now (end-inside _ _ _ _ (reads (goal.at.slice_bounds-entries-end c).In_ok-read)))

pub seek-requires : goal.seek-requires
seek-requires c = walking-first _ _ _ _ (reads (goal.at.seek-requires c).In_ok-read)

pub returns : goal.returns
returns c =
    let r = reads (goal.at.returns c).In_ok-read in
    ap Ok (c.step_at.ensures ∙ ap (step_at (take c.in_ok-read.read.end c.args.list.now)) c.seek.ensures ∙ sought _ _ _ _ r c.args.place)
    ∙ sym (pointed _ _ _ _ r c.args.place)
