-- By the two settings. Assumes nothing.
use Rattle.inherit.specs.Branch.{inherited_bit}
use Rattle.inherit.proofs.branch.merged.Goals as goal

pub returns-then-not-protect : goal.returns-then-not-protect
unfolding inherited_bit
returns-then-not-protect c = rw (c.if-auto.true, c.if-not-protect.true)
