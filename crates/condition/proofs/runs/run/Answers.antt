-- What is run of the rest is what is run of all (`Running`). Assumes nothing.
use native.Mathlib.Omega.{arith}
use mathlib.Core.Path.{◌∙◌}
use Rattle.condition.specs.Table.{attributes_of}
use Rattle.condition.specs.Inner.Cells.{live}
use Rattle.condition.proofs.Loops.{running-start, running-never, ends, ends_last, no_token, no_effect, turn}
use Rattle.condition.proofs.runs.run.Goals as goal
use Rattle.condition.proofs.runs.run.Goals.{else-loop-test, then-loop-test+then-byte_in-eq0}

pub returns-in_err-rest : goal.returns-in_err-rest
returns-in_err-rest c =
    c.from_residual.ensures ∙ running-never (attributes_of c.args.table.now) c.args.s.now c.in_err-rest.ensures.cases

pub loop-init : goal.loop-init
loop-init c =
    let h = c.in_ok-rest.ensures.cases in
    running-start (attributes_of c.args.table.now) c.args.s.now c.in_ok-rest.rest.now (live c.new-stack.result.cells c.new-stack.result.top) h.0 h.1 h.2 c.new-stack.ensures

pub returns-in_err-long : goal.returns-in_err-long
returns-in_err-long c =
    c.from_residual-in_err-long.ensures ∙ no_token c.loop.invariant c.byte_in.ensures c.if-byte_in-eq0.false c.loop-test.true c.in_err-long.ensures

pub returns-in_err-effect : goal.returns-in_err-effect
returns-in_err-effect c =
    c.from_residual-in_err-effect.ensures ∙ no_effect c.loop.invariant c.byte_in.ensures c.if-byte_in-eq0.false c.loop-test.true c.in_err-effect.ensures

pub apply-requires-clause-there : goal.apply-requires-clause-there
apply-requires-clause-there c =
    (turn c.loop.invariant c.byte_in.ensures c.if-byte_in-eq0.false c.loop-test.true c.in_ok-long.ensures c.in_ok-effect.ensures).lives.within

pub apply-requires-clause-fits : goal.apply-requires-clause-fits
apply-requires-clause-fits c =
    (turn c.loop.invariant c.byte_in.ensures c.if-byte_in-eq0.false c.loop-test.true c.in_ok-long.ensures c.in_ok-effect.ensures).lives.room

pub slice_bounds-rest-count : goal.slice_bounds-rest-count
slice_bounds-rest-count c =
    (turn c.loop.invariant c.byte_in.ensures c.if-byte_in-eq0.false c.loop-test.true c.in_ok-long.ensures c.in_ok-effect.ensures).inside

pub slice_bounds-rest-start : goal.slice_bounds-rest-start
slice_bounds-rest-start c =
    (turn c.loop.invariant c.byte_in.ensures c.if-byte_in-eq0.false c.loop-test.true c.in_ok-long.ensures c.in_ok-effect.ensures).inside

pub loop-preserved : goal.loop-preserved
loop-preserved c =
    (turn c.loop.invariant c.byte_in.ensures c.if-byte_in-eq0.false c.loop-test.true c.in_ok-long.ensures c.in_ok-effect.ensures).next
    (live c.apply.new.self.cells c.apply.new.self.top) c.apply.ensures

pub returns : goal.returns
returns c =
    elim c.loop-test.branch [
      | else-loop-test w ↦ c.ended.ensures ∙ ends_last c.loop.invariant (omega arith)
      | then-loop-test+then-byte_in-eq0 w ↦ c.ended.ensures ∙ ends c.loop.invariant w.byte_in.ensures w.if-byte_in-eq0.true
    ]
