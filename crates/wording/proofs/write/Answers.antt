-- The four bytes at the front; behind them the walk lays its tokens.
use mathlib.Core.Path.{◌∙◌}
use Rattle.wording.proofs.Decides.{wrote, headed-is}
use Rattle.wording.proofs.write.Goals as goal

pub returns : goal.returns
returns c =
    let a = c.args in
    wrote a.s.now.bytes.now a.out.now _ _ _ _ c.start-front.ensures (c.put.ensures ∙ headed-is a.out.now c.requires) c.read_condition.ensures
