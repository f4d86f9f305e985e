-- By cases. Assumes nothing.
use Rattle.std.proofs.Common.{sym, ap}
use Rattle.capi.specs.Places.{truth_number}
use Rattle.capi.proofs.truth_number.Goals as goal

pub returns-in-False : goal.returns-in-False
unfolding truth_number
returns-in-False c = sym (ap truth_number c.in-False.is)

pub returns-in-True : goal.returns-in-True
unfolding truth_number
returns-in-True c = sym (ap truth_number c.in-True.is)

pub returns-in-Unknown : goal.returns-in-Unknown
unfolding truth_number
returns-in-Unknown c = sym (ap truth_number c.in-Unknown.is)
