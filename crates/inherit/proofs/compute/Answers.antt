-- Each return is a case of `compute_of`, by the tests that led there. Assumes nothing.
use native.Mathlib.Omega.{arith}
use mathlib.Core.Path.{sym, ap, ◌∙◌}
use mathlib.Core.List.{List}
use Prim.Native.Nat.{ℕ}
use lib.ListN.{length}
use lib.Seq.{length-take-le}
use Rattle.std.proofs.lemmas.Result.{err_from_is_err_and}
use Rattle.inherit.specs.Asked.{lent_list}
use Rattle.inherit.specs.Compute.{asked_by}
use Rattle.inherit.proofs.Refusals.{bad-rule, bad-parent, bad-creator, bad-default, bad-owner, bad-group, bad-types, all-good}
use Rattle.inherit.proofs.Runs.{short-sid-of}
use Rattle.inherit.proofs.Ended.{settle, ran, rule-named, rule-unnamed, four-most, ends-asked}
use Rattle.inherit.proofs.compute.Goals as goal
use Rattle.inherit.proofs.compute.Goals.{then-not-ordinary-via-then-not-ordinary, then-not-ordinary-via-else-not-ordinary+then-not-ordinary-2}

pub returns-in_err-rule : goal.returns-in_err-rule
returns-in_err-rule c =
    let a = c.args in
    let q = asked_by a.rule a.settings a.mapping (lent_list a.parent) (lent_list a.creator) (lent_list a.default) a.types.now a.owner.now a.group.now in
    let p = err_from_is_err_and c.from_residual.result c.from_residual.ensures.1 in
    let u = rule-unnamed a.rule c.in_err-rule.field-0.0 (sym c.try_from.ensures ∙ c.in_err-rule.was) in
    rw (p.1, p.2, u.is) (settle q a.out.now _ (bad-rule q (length a.out.now) u.bad))

pub returns-in_err-inherited : goal.returns-in_err-inherited
returns-in_err-inherited c =
    let a = c.args in
    let q = asked_by a.rule a.settings a.mapping (lent_list a.parent) (lent_list a.creator) (lent_list a.default) a.types.now a.owner.now a.group.now in
    let p = err_from_is_err_and c.from_residual-in_err-inherited.result c.from_residual-in_err-inherited.ensures.1 in
    let r = rule-named a.rule c.in_ok-rule.rule (sym c.try_from.ensures ∙ c.in_ok-rule.was) in
    rw (p.1, p.2) (settle q a.out.now c.in_err-inherited.field-0.0 (bad-parent q (length a.out.now) r.good _ c.in_err-inherited.ensures))

pub returns-in_err-own : goal.returns-in_err-own
returns-in_err-own c =
    let a = c.args in
    let q = asked_by a.rule a.settings a.mapping (lent_list a.parent) (lent_list a.creator) (lent_list a.default) a.types.now a.owner.now a.group.now in
    let p = err_from_is_err_and c.from_residual-in_err-own.result c.from_residual-in_err-own.ensures.1 in
    let r = rule-named a.rule c.in_ok-rule.rule (sym c.try_from.ensures ∙ c.in_ok-rule.was) in
    rw (p.1, p.2) (settle q a.out.now c.in_err-own.field-0.0 (bad-creator q (length a.out.now) r.good c.in_ok-inherited.ensures.over _ c.in_err-own.ensures))

pub returns-in_err-all : goal.returns-in_err-all
returns-in_err-all c =
    let a = c.args in
    let q = asked_by a.rule a.settings a.mapping (lent_list a.parent) (lent_list a.creator) (lent_list a.default) a.types.now a.owner.now a.group.now in
    let p = err_from_is_err_and c.from_residual-in_err-all.result c.from_residual-in_err-all.ensures.1 in
    let r = rule-named a.rule c.in_ok-rule.rule (sym c.try_from.ensures ∙ c.in_ok-rule.was) in
    rw (p.1, p.2) (settle q a.out.now c.in_err-all.field-0.0 (bad-default q (length a.out.now) r.good c.in_ok-inherited.ensures.over c.in_ok-own.ensures.over _ c.in_err-all.ensures))

pub returns-then-not-ordinary : goal.returns-then-not-ordinary
returns-then-not-ordinary c =
    let a = c.args in
    let q = asked_by a.rule a.settings a.mapping (lent_list a.parent) (lent_list a.creator) (lent_list a.default) a.types.now a.owner.now a.group.now in
    let r = rule-named a.rule c.in_ok-rule.rule (sym c.try_from.ensures ∙ c.in_ok-rule.was) in
    let p = c.in_ok-inherited.ensures.over in
    let o = c.in_ok-own.ensures.over in
    let d = c.in_ok-all.ensures.over in
    rw c.from.ensures
    (elim c.then-not-ordinary.branch [
      | then-not-ordinary-via-then-not-ordinary w ↦ settle q a.out.now _ (bad-owner q (length a.out.now) r.good p o d (sym c.ordinary.ensures ∙ w.if-not-ordinary.true))
      | then-not-ordinary-via-else-not-ordinary+then-not-ordinary-2 w ↦ settle q a.out.now _
          (bad-group q (length a.out.now) r.good p o d (sym c.ordinary.ensures ∙ w.if-not-ordinary.false) (sym w.ordinary-else-not-ordinary.ensures ∙ w.if-not-ordinary-2.true))
    ])

pub returns-then-not-types_ok : goal.returns-then-not-types_ok
returns-then-not-types_ok c =
    let a = c.args in
    let q = asked_by a.rule a.settings a.mapping (lent_list a.parent) (lent_list a.creator) (lent_list a.default) a.types.now a.owner.now a.group.now in
    let r = rule-named a.rule c.in_ok-rule.rule (sym c.try_from.ensures ∙ c.in_ok-rule.was) in
    rw c.from-then-not-types_ok.ensures
    (settle q a.out.now _
    (bad-types q (length a.out.now) r.good c.in_ok-inherited.ensures.over c.in_ok-own.ensures.over c.in_ok-all.ensures.over
    (sym c.ordinary.ensures ∙ c.if-not-ordinary.false) (sym c.ordinary-else-not-ordinary.ensures ∙ c.if-not-ordinary-2.false)
    (sym c.types_ok.ensures ∙ c.if-not-types_ok.true)))

pub slice_bounds-four-end : goal.slice_bounds-four-end
slice_bounds-four-end c =
    omega (arith, four-most c.args.types.now (sym c.types_ok.ensures ∙ c.if-not-types_ok.false), ap (λ (x : List (List ℕ)). length x) c.four_of-four.ensures)

pub slice_bounds-terms-end : goal.slice_bounds-terms-end
slice_bounds-terms-end c =
    sym
    (length-take-le _ c.four_of-four.result
    (omega (arith, four-most c.args.types.now (sym c.types_ok.ensures ∙ c.if-not-types_ok.false), ap (λ (x : List (List ℕ)). length x) c.four_of-four.ensures)))

pub invariant_of-terms : goal.invariant_of-terms
invariant_of-terms c =
    record {
      owner_short = short-sid-of c.args.owner.now (sym c.ordinary.ensures ∙ c.if-not-ordinary.false);
      group_short = short-sid-of c.args.group.now (sym c.ordinary-else-not-ordinary.ensures ∙ c.if-not-ordinary-2.false);
    }

pub returns : goal.returns
returns c =
    let a = c.args in
    let q = asked_by a.rule a.settings a.mapping (lent_list a.parent) (lent_list a.creator) (lent_list a.default) a.types.now a.owner.now a.group.now in
    let r = rule-named a.rule c.in_ok-rule.rule (sym c.try_from.ensures ∙ c.in_ok-rule.was) in
    let g = all-good q (length a.out.now) r.good c.in_ok-inherited.ensures.over c.in_ok-own.ensures.over c.in_ok-all.ensures.over
    (sym c.ordinary.ensures ∙ c.if-not-ordinary.false) (sym c.ordinary-else-not-ordinary.ensures ∙ c.if-not-ordinary-2.false)
    (sym c.types_ok.ensures ∙ c.if-not-types_ok.false) in
    ran q a.out.now g
    (ends-asked a.rule a.settings a.mapping (lent_list a.parent) (lent_list a.creator) (lent_list a.default) a.types.now a.owner.now a.group.now
    c.in_ok-rule.rule c.four_of-four.result r.is c.four_of-four.ensures c.in_ok-inherited.inherited c.in_ok-own.own c.in_ok-all.all
    c.in_ok-inherited.ensures.entries c.in_ok-own.ensures.entries c.in_ok-all.ensures.entries c.in_ok-own.ensures.present c.in_ok-all.ensures.present
    _ _ _ c.run.ensures)
