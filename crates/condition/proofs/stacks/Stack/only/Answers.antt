-- One place is taken, or another number of them. Assumes nothing.
use native.Mathlib.Omega.{arith}
use mathlib.Core.Path.{sym, ◌∙◌}
use Rattle.condition.proofs.Loops.{only-is, only-none}
use Rattle.condition.proofs.stacks.Stack.only.Goals as goal

pub returns-then-self-ne15 : goal.returns-then-self-ne15
returns-then-self-ne15 c =
    let s = c.args.self.now in
    sym (only-none s.cells s.top s.room (omega arith) c.if-self-ne15.true)

pub returns : goal.returns
returns c =
    let s = c.args.self.now in
    c.truth.ensures ∙ sym (only-is s.cells s.top s.room (omega arith) c.if-self-ne15.false)
