-- What was written stands on the front, and with what is still to come it is all (`Writing`). Assumes nothing.
use Rattle.inherit.specs.Inner.Still.{still}
use Rattle.inherit.specs.Inner.Emit.{given_by}
use Rattle.inherit.proofs.Loops.{Writing}
use Rattle.inherit.proofs.passes.write_pass.Given as goal

abbrev pub invariant-loop-entry : goal.invariant-loop-entry
invariant-loop-entry l = Writing (given_by l.terms) l.pass (still l.fn.entries) l.initial.out l.out l.to (still l.entry-iterator)
