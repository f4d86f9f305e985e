-- Up to `at` the bytes are the same. Assumes nothing.
use native.Mathlib.Omega.{arith}
use mathlib.Core.Path.{refl, sym, ◌∙◌}
use Rattle.octets.proofs.Same.{same_length, next-differs, next-same}
use Rattle.octets.proofs.numbers.same_bytes.Goals as goal

pub returns-then-a-b : goal.returns-then-a-b
returns-then-a-b c =
    let a = c.args in
    sym (same_length a.a.now a.b.now c.if-a-b.true)

pub loop-at-init : goal.loop-at-init
loop-at-init c = (omega arith, c.if-a-b.false, refl)

pub returns-then-word_at : goal.returns-then-word_at
returns-then-word_at c =
    let a = c.args in
    sym (c.loop-at.invariant.2
    ∙ next-differs 4 c.loop-at.at a.a.now a.b.now (omega arith) (omega arith)
    (λ e. c.if-word_at.true (c.word_at.ensures ∙ e ∙ sym c.word_at-in-loop-at.ensures)))

pub loop-at-preserved : goal.loop-at-preserved
loop-at-preserved c =
    let a = c.args in (
      omega arith,
      c.loop-at.invariant.1,
      c.loop-at.invariant.2
          ∙ next-same 4 c.loop-at.at a.a.now a.b.now (omega arith) (omega arith)
          (λ i. (c.type_inv.a i).fits) (λ i. (c.type_inv.b i).fits)
          (sym c.word_at.ensures ∙ c.if-word_at.false ∙ c.word_at-in-loop-at.ensures),
    )

pub returns : goal.returns
returns c = c.same_rest.ensures ∙ sym c.loop-at.invariant.2
