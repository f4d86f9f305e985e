-- The room and the object are tested, then the list in its own data is given. Assumes nothing.
use mathlib.Core.Path.{sym, ap, ◌∙◌}
use mathlib.Core.List.{List}
use Prim.Native.Nat.{ℕ}
use Rattle.octets.specs.Bytes.{part}
use Rattle.tree.specs.Held.{held}
use Rattle.tree.specs.Calls.{told_as, list_bytes, copied, own_to}
use Rattle.tree.proofs.Numbers.{promised}
use Rattle.tree.proofs.Answered.{settle, exits_by, passes, refuses, goes_on, stops_at, on-object-is, object-small}
use Rattle.tree.proofs.own_of.Goals as goal

pub returns-in_err-test_object : goal.returns-in_err-test_object
unfolding own_to
returns-in_err-test_object c =
    let a = c.args in
    stops_at a.out.now _ (on-object-is a.room.now a.object a.out.now _) (refuses c.test_object.ensures c.in_err-test_object.was) (exits_by c.from_residual.ensures.1)

pub own-requires : goal.own-requires
own-requires c = object-small _ _ (sym c.test_object.ensures ∙ c.in_ok-test_object.was)

pub returns : goal.returns
unfolding own_to
returns c =
    let a = c.args in
    promised (own_to a.object a.room.now a.out.now)
    (settle
    (goes_on a.out.now _ (on-object-is a.room.now a.object a.out.now _) (passes c.test_object.ensures c.in_ok-test_object.was)
    ∙ ap (λ (x : List ℕ). copied (told_as (held x)) (list_bytes (held x)) a.out.now) (sym (c.part_of.ensures ∙ ap (part 157 1027) c.own.ensures)))
    c.give_list.ensures.0 c.give_list.ensures.1)
