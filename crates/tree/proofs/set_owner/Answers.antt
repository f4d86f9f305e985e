-- Refused by the room, the object, the owner or the group, else the change of both: the laws of Changing. Assumes nothing.
use native.Mathlib.Omega.{arith}
use mathlib.Core.Path.{refl, sym, ◌∙◌}
use Rattle.tree.specs.Calls.{edit_at, edit_bytes}
use Rattle.tree.proofs.Lays.{length_ids}
use Rattle.tree.proofs.Slots.{ordinary-most}
use Rattle.tree.proofs.Answered.{exits_by, passes, refuses, goes_on, stops_at, owners-passed}
use Rattle.tree.proofs.Changing.{filled, owners-tested, alter-is, alter-done, alter-asks}
use Rattle.tree.proofs.set_owner.Goals as goal

pub returns-in_err-test_object : goal.returns-in_err-test_object
returns-in_err-test_object c =
    stops_at _ _ (alter-is _ _ _) (refuses c.test_object.ensures c.in_err-test_object.was) (exits_by c.from_residual.ensures.1)

pub returns-in_err-test_owners : goal.returns-in_err-test_owners
returns-in_err-test_owners c =
    let q = goes_on _ _ (alter-is _ _ _) (passes c.test_object.ensures c.in_ok-test_object.was) in
    stops_at _ _ (q ∙ owners-tested _ _ _ _) (refuses c.test_owners.ensures c.in_err-test_owners.was) (exits_by c.from_residual-in_err-test_owners.ensures.1)

pub lay_owners-requires : goal.lay_owners-requires
lay_owners-requires c =
    let o = owners-passed _ _ (sym c.test_owners.ensures ∙ c.in_ok-test_owners.was) in
    (ordinary-most _ o.0, (ordinary-most _ o.1, omega arith))

pub change-requires : goal.change-requires
change-requires c =
    let f = alter-asks _ _ _ (sym c.test_object.ensures ∙ c.in_ok-test_object.was) c.number_in-n.ensures.0 in
    record { head = f.0; within = f.1 }

pub returns : goal.returns
unfolding edit_at edit_bytes
returns c =
    let o = owners-passed _ _ (sym c.test_owners.ensures ∙ c.in_ok-test_owners.was) in
    let q = goes_on _ _ (alter-is _ _ _) (passes c.test_object.ensures c.in_ok-test_object.was) in
    let p = goes_on _ _ (q ∙ owners-tested _ _ _ _) (passes c.test_owners.ensures c.in_ok-test_owners.was) in
    alter-done _ _ _ p _ _ _ _ _ c.number_in-n.ensures.0 refl
    (filled 138 _ _ _ (length_ids _ _ (ordinary-most _ o.0) (ordinary-most _ o.1)) refl c.lay_owners.ensures)
    c.change.ensures
