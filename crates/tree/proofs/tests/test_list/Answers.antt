-- The reading of a list that is given, else nothing. Assumes nothing.
use mathlib.Core.Path.{refl, sym, ◌∙◌}
use Rattle.list.proofs.Answers.{checked}
use Rattle.tree.specs.Inner.Faults.{test_reading, test_list}
use Rattle.tree.proofs.tests.test_list.Goals as goal

pub returns-in_default : goal.returns-in_default
unfolding test_list
returns-in_default c = rw c.in_default.is refl

pub returns-in-Ok : goal.returns-in-Ok
unfolding test_list test_reading
returns-in-Ok c =
    let e = sym (checked _ _ c.check.ensures) ∙ c.in-Ok.is in
    rw (c.in-Some.is, e) refl

pub returns-in-Err : goal.returns-in-Err
unfolding test_list test_reading
returns-in-Err c =
    let e = sym (checked _ _ c.check.ensures) ∙ c.in-Err.is in
    rw (c.in-Some.is, e, c.in_list.ensures) refl
