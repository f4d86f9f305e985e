-- The length, the identity, and zeros up to the end of the field. Assumes nothing.
use native.Mathlib.Omega.{arith}
use mathlib.Core.Path.{◌∙◌}
use Rattle.tree.proofs.Lays.{id-laid}
use Rattle.tree.proofs.writes.lay_id.Goals as goal

pub returns : goal.returns
returns c =
    let a = c.args in
    c.zero.ensures ∙ id-laid a.at a.s.now a.w.now _ (omega arith) (omega arith) c.lay.ensures
