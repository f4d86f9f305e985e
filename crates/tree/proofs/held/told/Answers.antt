-- A list is told by its length and count, an absent one by zeros. Assumes nothing.
use native.Mathlib.Omega.{arith}
use mathlib.Core.Path.{◌≡◌, refl}
use mathlib.Core.Option.{some}
use Rattle.tree.specs.Held.{held}
use Rattle.tree.specs.Calls.{told_as}
use Rattle.tree.proofs.Tested.{held-most}
use Rattle.tree.proofs.held.told.Goals as goal

pub overflow_cast-result : goal.overflow_cast-result
overflow_cast-result c = omega (arith, held-most c.args.s.now c.in-Some.list.now c.in-Some.ensures)

pub returns-in-Some : goal.returns-in-Some
unfolding told_as
returns-in-Some c =
    let e : some c.in-Some.list.now ≡ held c.args.s.now = c.in-Some.ensures in
    rw (← e) (rw c.half_in.ensures refl)

pub returns-in-None : goal.returns-in-None
unfolding told_as
returns-in-None c = rw (← c.in-None.ensures) refl
