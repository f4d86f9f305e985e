-- Flags, then the type. Assumes nothing.
use mathlib.Core.Path.{sym, ◌∙◌}
use Rattle.inherit.specs.Copies.{takes_first}
use Rattle.inherit.proofs.copies.takes_first.Goals as goal

pub returns-then-inherits : goal.returns-then-inherits
unfolding takes_first
returns-then-inherits c =
    let h = rw c.flags.ensures at c.inherits.ensures in
    rw (sym h ∙ c.if-inherits.true) c.type_applies.ensures

pub returns-else-inherits : goal.returns-else-inherits
unfolding takes_first
returns-else-inherits c =
    let h = rw c.flags.ensures at c.inherits.ensures in
    rw (sym h ∙ c.if-inherits.false) c.if-inherits.false
