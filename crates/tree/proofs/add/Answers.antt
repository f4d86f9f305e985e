-- Refused by the room, the parent, the limit, the list, the owner or the group, else the change that adds it: the laws of Changing. Assumes nothing.
use mathlib.Core.Path.{refl, sym, ◌∙◌}
use Rattle.tree.proofs.Slots.{ordinary-most}
use Rattle.tree.proofs.Answered.{exits_by, passes, refuses, goes_on, stops_at, owners-passed, short-passed}
use Rattle.tree.proofs.Changing.{add-first, add_done, add-asks, add-parent}
use Rattle.tree.proofs.add.Goals as goal

pub returns-in_err-test_add : goal.returns-in_err-test_add
returns-in_err-test_add c =
    stops_at _ _ (add-first _ _) (refuses c.test_add.ensures c.in_err-test_add.was) (exits_by c.from_residual.ensures.1)

pub returns-in_err-test_list : goal.returns-in_err-test_list
returns-in_err-test_list c =
    let p = goes_on _ _ (add-first _ _) (passes c.test_add.ensures c.in_ok-test_add.was) in
    stops_at _ _ p (sym c.test_list.ensures ∙ c.in_err-test_list.was) (exits_by c.from_residual-in_err-test_list.ensures.1)

pub returns-in_err-test_owners : goal.returns-in_err-test_owners
returns-in_err-test_owners c =
    let p = goes_on _ _ (add-first _ _) (passes c.test_add.ensures c.in_ok-test_add.was) in
    let q = goes_on _ _ p (sym c.test_list.ensures ∙ c.in_ok-test_list.was) in
    stops_at _ _ q (refuses c.test_owners.ensures c.in_err-test_owners.was) (exits_by c.from_residual-in_err-test_owners.ensures.1)

pub returns-in_err-test_short : goal.returns-in_err-test_short
returns-in_err-test_short c =
    let p = goes_on _ _ (add-first _ _) (passes c.test_add.ensures c.in_ok-test_add.was) in
    let q = goes_on _ _ p (sym c.test_list.ensures ∙ c.in_ok-test_list.was) in
    let o = goes_on _ _ q (passes c.test_owners.ensures c.in_ok-test_owners.was) in
    stops_at _ _ o (refuses c.test_short.ensures c.in_err-test_short.was) (exits_by c.from_residual-in_err-test_short.ensures.1)

pub lay_new-requires : goal.lay_new-requires
lay_new-requires c =
    let o = owners-passed _ _ (sym c.test_owners.ensures ∙ c.in_ok-test_owners.was) in
    let s = short-passed _ (sym c.test_short.ensures ∙ c.in_ok-test_short.was) in
    record {
      parent_value = add-parent _ _ (sym c.test_add.ensures ∙ c.in_ok-test_add.was);
      owner_len_bound = (ordinary-most _ o.0, (ordinary-most _ o.1, (s, refl)));
    }

pub change-requires : goal.change-requires
change-requires c =
    let f = add-asks _ _ _ (sym c.test_add.ensures ∙ c.in_ok-test_add.was) c.number_in-n.ensures.0 in
    record { head = f.0; within = f.1 }

pub returns : goal.returns
returns c =
    let p = goes_on _ _ (add-first _ _) (passes c.test_add.ensures c.in_ok-test_add.was) in
    let q = goes_on _ _ p (sym c.test_list.ensures ∙ c.in_ok-test_list.was) in
    let o = goes_on _ _ q (passes c.test_owners.ensures c.in_ok-test_owners.was) in
    let s = goes_on _ _ o (passes c.test_short.ensures c.in_ok-test_short.was) in
    add_done _ _ s _ _ _ _ c.number_in-n.ensures.0 c.lay_new.ensures c.change.ensures
