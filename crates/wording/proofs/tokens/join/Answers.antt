-- The operator, or nothing. Assumes nothing.
use Rattle.wording.proofs.Taken.{join-yes, join-no}
use Rattle.wording.proofs.tokens.join.Goals as goal

pub returns-then-joined : goal.returns-then-joined
returns-then-joined c =
    let a = c.args in
    join-yes a.joined _ a.w a.out.now _ _ c.if-joined.true c.emit_op.ensures

pub returns-else-joined : goal.returns-else-joined
returns-else-joined c =
    let a = c.args in
    join-no a.joined _ a.w a.out.now c.if-joined.false
