-- What was found says that a name lies inside the text and that a number is in the range; then its token is laid. Assumes nothing.
use native.Mathlib.Omega.{arith}
use mathlib.Core.Path.{ap, ◌∙◌}
use Rattle.std.specs.Prelude.{Ok}
use Rattle.std.proofs.lemmas.Result.{err_from_is_err_and}
use Rattle.wording.proofs.Taken.{took-name, took_number, operand-name, operand-number, operand-wrong}
use Rattle.wording.proofs.conditions.take_operand.Goals as goal

pub returns-in_err-end : goal.returns-in_err-end
returns-in_err-end c =
    let a = c.args in
    let p = err_from_is_err_and c.from_residual.result c.from_residual.ensures.1 in
    rw (p.1, p.2) (operand-wrong a.s.now.bytes.now a.at _ c.requires c.read_operand.ensures _ c.in_err-end.was a.tally.now _ _)

pub slice_bounds-emit_name-count : goal.slice_bounds-emit_name-count
slice_bounds-emit_name-count c =
    let a = c.args in
    let k = took-name a.s.now.bytes.now a.at _ c.requires c.read_operand.ensures _ (c.in_ok-end.was ∙ ap Ok c.in-Name.is) in
    omega (arith, k.low)

pub slice_bounds-emit_name-start : goal.slice_bounds-emit_name-start
slice_bounds-emit_name-start c =
    let a = c.args in
    let k = took-name a.s.now.bytes.now a.at _ c.requires c.read_operand.ensures _ (c.in_ok-end.was ∙ ap Ok c.in-Name.is) in
    omega (arith, k.low)

pub emit_name-requires : goal.emit_name-requires
emit_name-requires c =
    let a = c.args in
    let k = took-name a.s.now.bytes.now a.at _ c.requires c.read_operand.ensures _ (c.in_ok-end.was ∙ ap Ok c.in-Name.is) in
    omega (arith, k.low, k.top, a.s.now.short)

pub emit_number-requires : goal.emit_number-requires
emit_number-requires c =
    let a = c.args in
    (took_number a.s.now.bytes.now a.at _ c.requires c.read_operand.ensures _ _ _ (c.in_ok-end.was ∙ ap Ok c.in-Number.is)).fits

pub returns-in-Name : goal.returns-in-Name
returns-in-Name c =
    let a = c.args in
    let k = took-name a.s.now.bytes.now a.at _ c.requires c.read_operand.ensures _ (c.in_ok-end.was ∙ ap Ok c.in-Name.is) in
    operand-name a.s.now.bytes.now a.at _ a.tally.now _ a.out.now _ k c.emit_name.ensures

pub returns-in-Number : goal.returns-in-Number
returns-in-Number c =
    let a = c.args in
    let k = took_number a.s.now.bytes.now a.at _ c.requires c.read_operand.ensures _ _ _ (c.in_ok-end.was ∙ ap Ok c.in-Number.is) in
    operand-number a.s.now.bytes.now a.at _ _ _ a.tally.now _ a.out.now _ k c.emit_number.ensures
