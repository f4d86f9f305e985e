-- Each return is a case of `read_comparison`: by the first operand, the sign, the second operand. Assumes nothing.
use Rattle.std.proofs.lemmas.Result.{err_from_is_err_and}
use Rattle.wording.proofs.Compare.{comparison-bad, comparison-not, comparison-bad-2, comparison-all}
use Rattle.wording.proofs.conditions.read_comparison.Goals as goal

pub returns-in_err-left : goal.returns-in_err-left
returns-in_err-left c =
    let a = c.args in
    let p = err_from_is_err_and c.from_residual.result c.from_residual.ensures.1 in
    rw (p.1, p.2) (comparison-bad a.s.now.bytes.now a.at c.requires a.tally.now a.out.now _ _ c.take_operand.ensures _ c.in_err-left.was)

pub returns-in_err-comparison : goal.returns-in_err-comparison
returns-in_err-comparison c =
    let a = c.args in
    let p = err_from_is_err_and c.from_residual-in_err-comparison.result c.from_residual-in_err-comparison.ensures.1 in
    rw (p.1, p.2) (comparison-not a.s.now.bytes.now a.at c.requires a.tally.now a.out.now _ _ c.take_operand.ensures _ _ c.in_ok-left.was _ c.read_sign.ensures _ c.in_err-comparison.was)

pub returns-in_err-right : goal.returns-in_err-right
returns-in_err-right c =
    let a = c.args in
    let p = err_from_is_err_and c.from_residual-in_err-right.result c.from_residual-in_err-right.ensures.1 in
    rw (p.1, p.2)
    (comparison-bad-2 a.s.now.bytes.now a.at c.requires a.tally.now a.out.now _ _ c.take_operand.ensures _ _ c.in_ok-left.was _ c.read_sign.ensures
    _ _ c.in_ok-comparison.was _ _ c.take_operand-2.ensures _ c.in_err-right.was)

pub returns : goal.returns
returns c =
    let a = c.args in
    comparison-all a.s.now.bytes.now a.at c.requires a.tally.now a.out.now _ _ c.take_operand.ensures _ _ c.in_ok-left.was _ c.read_sign.ensures
    _ _ c.in_ok-comparison.was _ _ c.take_operand-2.ensures _ _ c.in_ok-right.was _ _ c.emit_op.ensures
