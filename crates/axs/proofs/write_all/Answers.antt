-- There are writes after which what is left is left. Assumes nothing.
use borrow.Author.Rules.{rules}
use Rattle.axs.proofs.Writes.{taken_none, taken-all, taken-on, taken-stops}
use Rattle.axs.proofs.write_all.Goals as goal

pub loop-left-init : goal.loop-left-init
loop-left-init c = taken_none _

pub loop-left-preserved : goal.loop-left-preserved
loop-left-preserved c =
    taken-on c.loop-left.left.now (search rules) c.loop-left.invariant _ c.write_some.ensures _ c.unwrap_or-n.ensures c.if-n-eq0.false (search rules)

pub returns-then-n-eq0 : goal.returns-then-n-eq0
returns-then-n-eq0 c =
    taken-stops c.loop-left.left.now (search rules) c.loop-left.invariant _ c.write_some.ensures _ c.unwrap_or-n.ensures c.if-n-eq0.true

pub returns : goal.returns
returns c = taken-all c.loop-left.invariant (search rules)
