-- What was measured, with what is still to come, is the measure of all (`Measuring`). Assumes nothing.
use Rattle.inherit.specs.Inner.Still.{still}
use Rattle.inherit.specs.Inner.Emit.{given_by}
use Rattle.inherit.proofs.Loops.{Measuring}
use Rattle.inherit.proofs.passes.measure_pass.Given as goal

abbrev pub invariant-loop-entry : goal.invariant-loop-entry
invariant-loop-entry l = Measuring (given_by l.terms) l.origin (still l.fn.entries) l.total (still l.entry-iterator)
