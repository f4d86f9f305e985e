-- Each return is a case of `evaluate_of`; one run tells where the tokens end, and what they say. Assumes nothing.
use mathlib.Core.Path.{◌≡◌, sym, ap, ◌∙◌}
use mathlib.Core.Bool.{true, false}
use Rattle.std.specs.Prelude.{Option as Maybe, Ok, Err, ok_or}
use Rattle.std.proofs.lemmas.Result.{err_from_is_err_and}
use Rattle.refusal.specs.declared.Refusal.TheVariants.{Expression}
use Rattle.octets.specs.Order.{need}
use Rattle.condition.specs.declared.runs.Ran.{Ran}
use Rattle.condition.specs.Kind.{stored_alone}
use Rattle.condition.specs.Table.{attributes_of, table_ok}
use Rattle.condition.specs.Meaning.{evaluate_of}
use Rattle.condition.proofs.Turns.{run-found, not-alone}
use Rattle.condition.proofs.evaluate.Goals as goal

pub returns-in_err-ran : goal.returns-in_err-ran
unfolding evaluate_of need
returns-in_err-ran c =
    let p = err_from_is_err_and c.from_residual.result c.from_residual.ensures.1 in
    let a = not-alone (attributes_of c.args.table.now) c.args.expression.now (sym c.in_err-ran.ensures.ok_part ∙ c.run.ensures) in
    let e : Err c.in_err-ran.field-0.0 ≡ Err Expression = c.in_err-ran.ensures.value ∙ ap (λ (m : Maybe Ran). ok_or m Expression) c.in_err-ran.ensures.ok_part in
    let q : c.in_err-ran.field-0.0 ≡ Expression = cc in
    simp a (p.1 ∙ ap Err (p.2 ∙ q))

pub is_alone-requires : goal.is_alone-requires
is_alone-requires c =
    let f = run-found (attributes_of c.args.table.now) c.args.expression.now c.in_ok-ran.ran (sym c.in_ok-ran.ensures.ok_part ∙ c.run.ensures) in (f.0, f.1)

pub returns-then-not-is_alone : goal.returns-then-not-is_alone
unfolding evaluate_of need
returns-then-not-is_alone c =
    let a : stored_alone c.args.expression.now ≡ false = sym c.is_alone.ensures ∙ c.if-not-is_alone.true in
    simp a

pub returns-then-not-table_ok : goal.returns-then-not-table_ok
unfolding evaluate_of need
returns-then-not-table_ok c =
    let a : stored_alone c.args.expression.now ≡ true = sym c.is_alone.ensures ∙ c.if-not-is_alone.false in
    let t : table_ok c.args.table.now ≡ false = sym c.table_ok.ensures ∙ c.if-not-table_ok.true in
    simp (a, t)

pub returns : goal.returns
unfolding evaluate_of need
returns c =
    let a : stored_alone c.args.expression.now ≡ true = sym c.is_alone.ensures ∙ c.if-not-is_alone.false in
    let t : table_ok c.args.table.now ≡ true = sym c.table_ok.ensures ∙ c.if-not-table_ok.false in
    let f = run-found (attributes_of c.args.table.now) c.args.expression.now c.in_ok-ran.ran (sym c.in_ok-ran.ensures.ok_part ∙ c.run.ensures) in
    simp (a, t) (ap Ok f.2)
