-- Refused by the room, the object or the list, else the change of its slot: the laws of Changing. Assumes nothing.
use native.Mathlib.Omega.{arith}
use mathlib.Core.Path.{refl, sym, ◌∙◌}
use Rattle.tree.specs.Calls.{edit_at, edit_bytes}
use Rattle.tree.proofs.Lays.{length-slot}
use Rattle.tree.proofs.Answered.{exits_by, passes, refuses, goes_on, stops_at, short-passed}
use Rattle.tree.proofs.Changing.{filled, list-tested, alter-is, alter-done, alter-asks}
use Rattle.tree.proofs.set_list.Goals as goal

pub returns-in_err-test_object : goal.returns-in_err-test_object
returns-in_err-test_object c =
    stops_at _ _ (alter-is _ _ _) (refuses c.test_object.ensures c.in_err-test_object.was) (exits_by c.from_residual.ensures.1)

pub returns-in_err-test_list : goal.returns-in_err-test_list
returns-in_err-test_list c =
    let q = goes_on _ _ (alter-is _ _ _) (passes c.test_object.ensures c.in_ok-test_object.was) in
    stops_at _ _ (q ∙ list-tested _ _ _) (sym c.test_list.ensures ∙ c.in_err-test_list.was) (exits_by c.from_residual-in_err-test_list.ensures.1)

pub returns-in_err-test_short : goal.returns-in_err-test_short
returns-in_err-test_short c =
    let q = goes_on _ _ (alter-is _ _ _) (passes c.test_object.ensures c.in_ok-test_object.was) in
    let p = goes_on _ _ (q ∙ list-tested _ _ _) (sym c.test_list.ensures ∙ c.in_ok-test_list.was) in
    stops_at _ _ p (refuses c.test_short.ensures c.in_err-test_short.was) (exits_by c.from_residual-in_err-test_short.ensures.1)

pub lay_slot-requires : goal.lay_slot-requires
lay_slot-requires c = (short-passed _ (sym c.test_short.ensures ∙ c.in_ok-test_short.was), omega arith)

pub change-requires : goal.change-requires
change-requires c =
    let f = alter-asks _ _ _ (sym c.test_object.ensures ∙ c.in_ok-test_object.was) c.number_in-n.ensures.0 in
    record { head = f.0; within = f.1 }

pub returns : goal.returns
unfolding edit_at edit_bytes
returns c =
    let s = short-passed _ (sym c.test_short.ensures ∙ c.in_ok-test_short.was) in
    let q = goes_on _ _ (alter-is _ _ _) (passes c.test_object.ensures c.in_ok-test_object.was) in
    let p = goes_on _ _ (q ∙ list-tested _ _ _) (sym c.test_list.ensures ∙ c.in_ok-test_list.was) in
    let t = goes_on _ _ p (passes c.test_short.ensures c.in_ok-test_short.was) in
    alter-done _ _ _ t _ _ _ _ _ c.number_in-n.ensures.0 refl
    (filled 1027 _ _ _ (length-slot _ s) refl c.lay_slot.ensures) c.change.ensures
