-- Three lists, and their measures together. Assumes nothing.
use native.Mathlib.Omega.{arith}
use mathlib.Core.Path.{ap, ap₂, ◌∙◌}
use Rattle.inherit.specs.declared.passes.Measure.{Measure}
use Rattle.inherit.specs.declared.copies.Pass.TheVariants.{First, Second, Own, All}
use Rattle.inherit.specs.Inner.Still.{still}
use Rattle.inherit.specs.Inner.Emit.{given_by, emit_all, both}
use Rattle.inherit.proofs.Measures.{from-own, from-parent, from-default}
use Rattle.inherit.proofs.Gather.{measure-four}
use Rattle.inherit.proofs.whole.measure_all.Goals as goal

pub returns : goal.returns
returns c =
    let n = c.args.parts in
    let g = given_by c.args.terms.now in
    let o = c.measure_pass-own.ensures.0 ∙ from-own g (still n.own) in
    let p = c.measure_pass-inherited.ensures.0 ∙ from-parent g (still n.parent) in
    let d = c.measure_pass-all.ensures.0 ∙ from-default g (still n.default) in
    let three = c.both-2.ensures ∙ ap₂ both o (c.both.ensures ∙ ap₂ both p d) in
    let b = ap (λ (m : Measure). m.bytes) c.both.ensures in
    let a = ap (λ (m : Measure). m.bytes) c.both-2.ensures in (
      three ∙ measure-four (emit_all g Own (still n.own)) (emit_all g First (still n.parent)) (emit_all g Second (still n.parent)) (emit_all g All (still n.default)),
      omega (arith, a, b, c.measure_pass-own.ensures.1, c.measure_pass-inherited.ensures.1, c.measure_pass-all.ensures.1),
    )
