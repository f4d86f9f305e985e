-- With some entries gone past, what is found from there on is what is found from the first on. Assumes nothing.
use native.Mathlib.Omega.{arith}
use mathlib.Core.Path.{◌≡◌, ◌∙◌}
use lib.ListN.{drop}
use lib.Seq.{drop-drop}
use Rattle.list.specs.Entry.{size_of}
use Rattle.access.proofs.Seeks.{seeking-end, seeking-here, seeking-more}
use Rattle.access.proofs.seek.Goals as goal
use Rattle.access.proofs.seek.Goals.{After-half_in}

-- the size that was read, as the definition has it
size_is : (c : After-half_in) → c.half_in.result ≡ size_of (drop c.loop.at c.args.entries.now)
size_is c = c.half_in.ensures ∙ simp drop-drop

pub returns-then-place-at : goal.returns-then-place-at
returns-then-place-at c = seeking-here _ _ _ _ _ c.loop.invariant c.loop-test.true c.if-place-at.true

pub loop-preserved : goal.loop-preserved
loop-preserved c =
    rw (size_is (goal.at.loop-preserved c).After-half_in) (seeking-more _ _ _ _ _ c.loop.invariant c.loop-test.true (omega arith))

pub returns : goal.returns
returns c = seeking-end _ _ _ _ _ c.loop.invariant (omega arith)
