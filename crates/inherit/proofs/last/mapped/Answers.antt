-- Three mappings, one after the other. Assumes nothing.
use mathlib.Core.Path.{ap, ◌∙◌}
use Prim.Native.Nat.{ℕ}
use Rattle.inherit.specs.Last.{joined, mapped}
use Rattle.inherit.proofs.last.mapped.Goals as goal

pub returns : goal.returns
unfolding mapped
returns c =
    let a = c.args in
    c.joined.ensures
    ∙ ap (λ (m : ℕ). joined 0x20000000 a.mask m a.mapping.execute)
    (c.joined-write.ensures ∙ ap (λ (m : ℕ). joined 0x40000000 a.mask m a.mapping.write) c.joined-read.ensures)
