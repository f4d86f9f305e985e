-- Each way to end has its law in Cycle.
use mathlib.Core.Path.{sym, ◌∙◌}
use mathlib.Core.Bool.{false}
use borrow.Author.Tests.{eq-eqb, ne_eqb}
use native.Mathlib.Omega.{arith}
use Rattle.std.proofs.lemmas.Result.{err_from_is_err_and}
use Rattle.wording.specs.Inner.Rows.{part_of}
use Rattle.wording.proofs.Cycle.{placed, row_bad, row_end, row_half, row_goes}
use Rattle.wording.proofs.Cycle.{factor-not-bad, factor-not, factor-compare, factor-deep, factor-bad, factor-shut, factor-left}
use Rattle.wording.proofs.conditions.+read_condition_read_factor_read_term.Goals as goal

pub read_row-returns-in_err-part : goal.read_row-returns-in_err-part
read_row-returns-in_err-part t c =
    let a = c.args in
    let p = err_from_is_err_and c.from_residual.result c.from_residual.ensures.1 in
    rw (p.1, p.2) (row_bad a.s.now.bytes.now a.at a.depth c.requires a.joined a.tally.now a.out.now _ _ a.row c.read_part.ensures _ c.in_err-part.was)

pub read_row-returns-then-not-byte_is : goal.read_row-returns-then-not-byte_is
read_row-returns-then-not-byte_is t c =
    let a = c.args in
    let n = rw c.operator.ensures at c.join-tally.ensures in
    let b = rw c.sign.ensures.value at c.byte_is.ensures.is in
    row_end a.s.now.bytes.now a.at a.depth c.requires a.joined a.tally.now a.out.now _ _ _ _ c.in_ok-part.was _ _ a.row c.read_part.ensures n
    (sym b ∙ c.if-not-byte_is.true)

pub read_row-returns-then-not-byte_is-2 : goal.read_row-returns-then-not-byte_is-2
read_row-returns-then-not-byte_is-2 t c =
    let a = c.args in
    let n = rw c.operator.ensures at c.join-tally.ensures in
    let b = rw c.sign.ensures.value at c.byte_is.ensures.is in
    let b2 = rw c.sign-2.ensures.value at c.byte_is-2.ensures.is in
    row_half a.s.now.bytes.now a.at a.depth c.requires a.joined a.tally.now a.out.now _ _ _ _ c.in_ok-part.was _ _ a.row c.read_part.ensures n
    (sym b ∙ c.if-not-byte_is.false) (c.byte_is.ensures.inside c.if-not-byte_is.false) (sym b2 ∙ c.if-not-byte_is-2.true)

pub read_row-read_row-requires : goal.read_row-read_row-requires
read_row-read_row-requires t c =
    let a = c.args in
    let p = placed (part_of a.row) false a.s.now.bytes.now a.at a.depth a.tally.now a.out.now _ _ _ _ c.requires c.in_ok-part.was c.read_part.ensures in
    let inside = c.byte_is-2.ensures.inside c.if-not-byte_is-2.false in
    omega (arith, inside, p)

pub read_row-returns : goal.read_row-returns
read_row-returns t c =
    let a = c.args in
    let n = rw c.operator.ensures at c.join-tally.ensures in
    let b = rw c.sign.ensures.value at c.byte_is.ensures.is in
    let b2 = rw c.sign-2.ensures.value at c.byte_is-2.ensures.is in
    row_goes a.s.now.bytes.now a.at a.depth c.requires a.joined a.tally.now a.out.now _ _ _ _ c.in_ok-part.was _ _ a.row c.read_part.ensures n
    (sym b ∙ c.if-not-byte_is.false) (c.byte_is.ensures.inside c.if-not-byte_is.false)
    (sym b2 ∙ c.if-not-byte_is-2.false) (c.byte_is-2.ensures.inside c.if-not-byte_is-2.false)
    _ _ c.read_row.ensures

pub read_factor-returns-in_err-inner : goal.read_factor-returns-in_err-inner
read_factor-returns-in_err-inner t c =
    let a = c.args in
    let s = a.s.now.bytes.now in
    let p = err_from_is_err_and c.from_residual.result c.from_residual.ensures.1 in
    rw (p.1, p.2)
    (factor-not-bad s a.at a.depth c.requires a.tally.now a.out.now
    (sym c.byte_is.ensures.is ∙ c.if-byte_is.true) (c.byte_is.ensures.inside c.if-byte_is.true)
    _ _ c.read_factor.ensures _ c.in_err-inner.was)

pub read_factor-returns-then-byte_is : goal.read_factor-returns-then-byte_is
read_factor-returns-then-byte_is t c =
    let a = c.args in
    let s = a.s.now.bytes.now in
    factor-not s a.at a.depth c.requires a.tally.now a.out.now
    (sym c.byte_is.ensures.is ∙ c.if-byte_is.true) (c.byte_is.ensures.inside c.if-byte_is.true)
    _ _ c.read_factor.ensures _ _ c.in_ok-inner.was _ _ c.emit_op.ensures

pub read_factor-returns-then-not-byte_is : goal.read_factor-returns-then-not-byte_is
read_factor-returns-then-not-byte_is t c =
    let a = c.args in
    let s = a.s.now.bytes.now in
    factor-compare s a.at a.depth c.requires a.tally.now a.out.now
    (sym c.byte_is.ensures.is ∙ c.if-byte_is.false)
    (sym c.byte_is-2.ensures.is ∙ c.if-not-byte_is.true) _ _ c.read_comparison.ensures

pub read_factor-returns-then-depth-eq0 : goal.read_factor-returns-then-depth-eq0
read_factor-returns-then-depth-eq0 t c =
    let a = c.args in
    let s = a.s.now.bytes.now in
    factor-deep s a.at a.depth c.requires a.tally.now a.out.now
    (sym c.byte_is.ensures.is ∙ c.if-byte_is.false) (sym c.byte_is-2.ensures.is ∙ c.if-not-byte_is.false)
    (eq-eqb _ _ c.if-depth-eq0.true) _

pub read_factor-returns-in_err-inner-2 : goal.read_factor-returns-in_err-inner-2
read_factor-returns-in_err-inner-2 t c =
    let a = c.args in
    let s = a.s.now.bytes.now in
    let p = err_from_is_err_and c.from_residual-in_err-inner-2.result c.from_residual-in_err-inner-2.ensures.1 in
    rw (p.1, p.2)
    (factor-bad s a.at a.depth c.requires a.tally.now a.out.now
    (sym c.byte_is.ensures.is ∙ c.if-byte_is.false) (sym c.byte_is-2.ensures.is ∙ c.if-not-byte_is.false)
    (ne_eqb _ _ c.if-depth-eq0.false) (c.byte_is-2.ensures.inside (c.if-not-byte_is.false)) _ _ c.read_condition.ensures _ c.in_err-inner-2.was)

pub read_factor-returns : goal.read_factor-returns
read_factor-returns t c =
    let a = c.args in
    let s = a.s.now.bytes.now in
    factor-shut s a.at a.depth c.requires a.tally.now a.out.now
    (sym c.byte_is.ensures.is ∙ c.if-byte_is.false) (sym c.byte_is-2.ensures.is ∙ c.if-not-byte_is.false)
    (ne_eqb _ _ c.if-depth-eq0.false) (c.byte_is-2.ensures.inside (c.if-not-byte_is.false)) _ _ c.read_condition.ensures
    _ _ c.in_ok-inner-2.was (sym c.byte_is-3.ensures.is ∙ c.if-not-byte_is-2.false) (c.byte_is-3.ensures.inside c.if-not-byte_is-2.false)

pub read_factor-returns-then-not-byte_is-2 : goal.read_factor-returns-then-not-byte_is-2
read_factor-returns-then-not-byte_is-2 t c =
    let a = c.args in
    let s = a.s.now.bytes.now in
    factor-left s a.at a.depth c.requires a.tally.now a.out.now
    (sym c.byte_is.ensures.is ∙ c.if-byte_is.false) (sym c.byte_is-2.ensures.is ∙ c.if-not-byte_is.false)
    (ne_eqb _ _ c.if-depth-eq0.false) (c.byte_is-2.ensures.inside (c.if-not-byte_is.false)) _ _ c.read_condition.ensures
    _ _ c.in_ok-inner-2.was (sym c.byte_is-3.ensures.is ∙ c.if-not-byte_is-2.true)
