-- Refused by the room or the object, else the change of one byte: the laws of Changing. Assumes nothing.
use mathlib.Core.Path.{refl, sym, ap, ◌∙◌}
use mathlib.Core.List.{[], ◌∷◌}
use Prim.Native.Nat.{ℕ}
use Rattle.tree.proofs.Lays.{byte-yes}
use Rattle.tree.specs.Calls.{edit_at, edit_bytes}
use Rattle.tree.proofs.Answered.{exits_by, passes, refuses, goes_on, stops_at}
use Rattle.tree.proofs.Changing.{mark-passes, alter-is, alter-done, alter-asks}
use Rattle.tree.proofs.set_mark.Goals as goal

pub returns-in_err-test_object : goal.returns-in_err-test_object
returns-in_err-test_object c =
    stops_at _ _ (alter-is _ _ _) (refuses c.test_object.ensures c.in_err-test_object.was) (exits_by c.from_residual.ensures.1)

pub change-requires : goal.change-requires
change-requires c =
    let f = alter-asks _ _ _ (sym c.test_object.ensures ∙ c.in_ok-test_object.was) c.number_in-n.ensures.0 in
    record { head = f.0; within = f.1 }

pub returns : goal.returns
unfolding edit_at edit_bytes
returns c =
    let q = goes_on _ _ (alter-is _ _ _) (passes c.test_object.ensures c.in_ok-test_object.was) in
    alter-done _ _ _ (q ∙ mark-passes _ _ _) _ _ _ _ _ c.number_in-n.ensures.0 refl (ap (λ (x : ℕ). x ∷ []) (c.from.ensures ∙ byte-yes _)) c.change.ensures
