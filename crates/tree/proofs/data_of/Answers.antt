-- The room and the object are tested, then its own data is given. Assumes nothing.
use native.Mathlib.Omega.{arith}
use mathlib.Core.Path.{sym, ap, ◌∙◌}
use mathlib.Core.List.{List}
use Prim.Native.Nat.{ℕ}
use mathlib.Core.Bool.{true}
use lib.ListN.{length}
use Rattle.tree.specs.Calls.{tells, copied, data_of, data_to}
use Rattle.tree.proofs.Numbers.{promised}
use Rattle.tree.proofs.Answered.{settle, exits_by, passes, refuses, goes_on, stops_at, on-object-is, object-small, own-long}
use Rattle.tree.proofs.data_of.Goals as goal

pub returns-in_err-test_object : goal.returns-in_err-test_object
unfolding data_to
returns-in_err-test_object c =
    let a = c.args in
    stops_at a.out.now _ (on-object-is a.room.now a.object a.out.now _) (refuses c.test_object.ensures c.in_err-test_object.was) (exits_by c.from_residual.ensures.1)

pub own-requires : goal.own-requires
own-requires c = object-small _ _ (sym c.test_object.ensures ∙ c.in_ok-test_object.was)

pub give_data-requires : goal.give_data-requires
give_data-requires c = omega (arith, ap length c.own.ensures, own-long _ _ (sym c.test_object.ensures ∙ c.in_ok-test_object.was))

pub returns : goal.returns
unfolding data_to
returns c =
    let a = c.args in
    promised (data_to a.object a.room.now a.out.now)
    (settle
    (goes_on a.out.now _ (on-object-is a.room.now a.object a.out.now _) (passes c.test_object.ensures c.in_ok-test_object.was)
    ∙ ap (λ (x : List ℕ). copied (tells (length (data_of x)) true 0) (data_of x) a.out.now) (sym c.own.ensures))
    c.give_data.ensures.0 c.give_data.ensures.1)
