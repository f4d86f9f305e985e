-- What was measured, with what is still to come, is the measure of all (`Measuring`). Assumes nothing.
use native.Mathlib.Omega.{arith}
use mathlib.Core.Path.{ap, subst}
use Rattle.inherit.specs.declared.passes.Measure.{Measure}
use Rattle.inherit.specs.Inner.Still.{still}
use Rattle.inherit.specs.Inner.Emit.{given_by}
use Rattle.inherit.proofs.Loops.{Measuring, measuring-more, measured-all, few-bytes, few-count, most-bytes, most-count}
use Rattle.inherit.proofs.passes.measure_pass.Goals as goal

pub both-total-requires : goal.both-total-requires
both-total-requires c =
    let a = c.args in
    let g = given_by a.terms.now in
    let l = c.loop-entry in
    let e = c.in-Some.entry in
    let b = ap (λ (m : Measure). m.bytes) c.measure_one.ensures in
    let n = ap (λ (m : Measure). m.count) c.measure_one.ensures in
    omega (arith, b, n, few-bytes e a.terms.now a.origin, few-count e a.terms.now a.origin, most-bytes g a.origin a.entries l.total _ l.invariant, most-count g a.origin a.entries l.total _ l.invariant)

pub loop-entry-preserved : goal.loop-entry-preserved
loop-entry-preserved c =
    let a = c.args in
    let g = given_by a.terms.now in
    let l = c.loop-entry in
    let e = c.in-Some.entry in
    let m = subst (Measuring g a.origin (still a.entries) l.total) c.in-Some.ensures.steps l.invariant in
    let n = measuring-more g a.origin (still a.entries) l.total e.bytes.now _ m (few-bytes e a.terms.now a.origin) (few-count e a.terms.now a.origin) in
    rw (c.both-total.ensures, c.measure_one.ensures) n

pub returns : goal.returns
returns c =
    let a = c.args in
    let g = given_by a.terms.now in
    let l = c.loop-entry in
    let m = subst (Measuring g a.origin (still a.entries) l.total) c.in-None.ensures.steps.0 l.invariant in (
      measured-all g a.origin (still a.entries) l.total m,
      most-bytes g a.origin a.entries l.total _ m,
      most-count g a.origin a.entries l.total _ m,
    )
