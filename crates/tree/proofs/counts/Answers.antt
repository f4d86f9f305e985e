-- By whether the room is well-formed. Assumes nothing.
use mathlib.Core.Path.{ap}
use Rattle.std.specs.Prelude.{Err}
use Rattle.tree.specs.Calls.{counts_to}
use Rattle.tree.proofs.Numbers.{says_is}
use Rattle.tree.proofs.Tested.{refused, passed}
use Rattle.tree.proofs.counts.Goals as goal

pub returns-then-not-formed : goal.returns-then-not-formed
unfolding counts_to
returns-then-not-formed c = says_is _ (counts_to c.args.room.now) (simp (refused c.formed.ensures c.if-not-formed.true) (ap Err c.into.ensures))

pub returns : goal.returns
unfolding counts_to
returns c = says_is _ (counts_to c.args.room.now) (simp (passed c.formed.ensures c.if-not-formed.false) (cc))
