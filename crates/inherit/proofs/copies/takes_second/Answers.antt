-- Each test is one of the definition. Assumes nothing.
use mathlib.Core.Path.{◌≡◌, sym, ◌∙◌}
use mathlib.Core.Bool.{true, false}
use Rattle.inherit.specs.Copies.{takes_second}
use Rattle.inherit.proofs.copies.takes_second.Goals as goal
use Rattle.inherit.proofs.copies.takes_second.Goals.{then-terms, else-terms}

pub returns-then-has : goal.returns-then-has
unfolding takes_second
returns-then-has c =
    let s = c.flags-flags.ensures in
    let stops = rw s at c.has-then-has.ensures in
    elim c.if-terms.branch [
      | then-terms w ↦ let h = rw s at w.has.ensures in rw (w.if-terms.true, sym h ∙ sym w.value-is ∙ c.if-has.true, stops)
      | else-terms w ↦ let z : true ≡ false = sym c.if-has.true ∙ w.value-is ∙ w.if-terms.false in cc
    ]

pub returns-else-has : goal.returns-else-has
unfolding takes_second
returns-else-has c =
    let s = c.flags-flags.ensures in
    let f = c.if-has.false in
    elim c.if-terms.branch [
      | then-terms w ↦ let h = rw s at w.has.ensures in rw (f, w.if-terms.true, sym h ∙ sym w.value-is ∙ f)
      | else-terms w ↦ rw (f, w.if-terms.false)
    ]
