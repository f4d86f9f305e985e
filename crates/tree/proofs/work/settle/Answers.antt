-- The bytes put at their place, the number of objects, and the lists worked out again, as settled says. Assumes nothing.
use mathlib.Core.Path.{subst}
use mathlib.Core.List.{List}
use Prim.Native.Nat.{ℕ}
use lib.ListN.{set}
use Rattle.tree.specs.Work.{reworked}
use Rattle.tree.specs.Calls.{reworked_with}
use Rattle.tree.proofs.Works.{Gives}
use Rattle.tree.proofs.work.settle.Goals as goal

pub returns : goal.returns
unfolding reworked_with
returns c =
    let n = c.args.n in
    subst (λ (x : List ℕ). Gives c.rework_all.result (reworked n (set x 2 n)) c.rework_all.new.w) c.lay.ensures c.rework_all.ensures
