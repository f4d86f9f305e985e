-- Each return is a case of `start_to`, by the tests that led there. Assumes nothing.
use native.Mathlib.Omega.{arith}
use mathlib.Core.Path.{refl, sym, ap, ◌∙◌}
use mathlib.Core.List.{List}
use Prim.Native.Nat.{ℕ}
use lib.ListN.{length}
use mathlib.Core.Bool.{true, false}
use mathlib.Core.Path.{◌≡◌}
use Rattle.octets.specs.Bytes.{front}
use Rattle.refusal.specs.declared.Refusal.TheVariants as Why
use Rattle.std.specs.Prelude.{Err}
use Rattle.tree.specs.Model.{Settings}
use Rattle.tree.specs.Room.{empty_room}
use Rattle.tree.specs.Calls.{tells, start_ok, start_to}
use Rattle.tree.specs.Inner.Faults.{test_list, test_short}
use Rattle.tree.proofs.Numbers.{promised}
use Rattle.tree.proofs.Tested.{refused, passed}
use Rattle.tree.proofs.Answered.{settle, exits_by, passes, refuses, goes_on, stops_at, after_test, plainly, need-yes, need-no, readable-is, short-is, short-passed, start-facts}
use Rattle.tree.proofs.start.Goals as goal

-- a start whose limits, rule and room are good
started : (t : Settings) (r : List ℕ) → start_ok t.object-limit t.step-limit t.rule (length r) ≡ true
    → start_to t r ≡ after_test (test_list t.default 3) r (after_test (plainly (test_short t.default)) r (record { answer = tells 0 false 0; bytes = front (empty_room t) r }))
unfolding start_to
started t r h = need-yes Why.Rule r _ h ∙ readable-is t.default 3 r _ ∙ ap (after_test (test_list t.default 3) r) (short-is t.default r _)

pub returns-then-not-start_ok : goal.returns-then-not-start_ok
unfolding start_to
returns-then-not-start_ok c =
    promised (start_to _ _) (settle (need-no Why.Rule _ _ (refused c.start_ok.ensures c.if-not-start_ok.true)) (ap Err c.into.ensures) refl)

pub returns-in_err-test_list : goal.returns-in_err-test_list
returns-in_err-test_list c =
    stops_at _ _ (started _ _ (passed c.start_ok.ensures c.if-not-start_ok.false)) (sym c.test_list.ensures ∙ c.in_err-test_list.was) (exits_by c.from_residual.ensures.1)

pub returns-in_err-test_short : goal.returns-in_err-test_short
returns-in_err-test_short c =
    let p = goes_on _ _ (started _ _ (passed c.start_ok.ensures c.if-not-start_ok.false)) (sym c.test_list.ensures ∙ c.in_ok-test_list.was) in
    stops_at _ _ p (refuses c.test_short.ensures c.in_err-test_short.was) (exits_by c.from_residual-in_err-test_short.ensures.1)

pub overflow_cast-rule : goal.overflow_cast-rule
overflow_cast-rule c = omega (arith, start-facts _ _ _ _ (passed c.start_ok.ensures c.if-not-start_ok.false))

pub empty-requires : goal.empty-requires
empty-requires c =
    let f = start-facts _ _ _ _ (passed c.start_ok.ensures c.if-not-start_ok.false) in
    (f.objects-64, (f.steps-64, (short-passed _ (sym c.test_short.ensures ∙ c.in_ok-test_short.was), f.enough)))

pub returns : goal.returns
returns c =
    let p = goes_on _ _ (started _ _ (passed c.start_ok.ensures c.if-not-start_ok.false)) (sym c.test_list.ensures ∙ c.in_ok-test_list.was) in
    let q = goes_on _ _ p (passes c.test_short.ensures c.in_ok-test_short.was) in
    promised (start_to _ _) (settle q refl c.empty.ensures)
