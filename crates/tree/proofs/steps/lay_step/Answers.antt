-- Two stores, and the bytes behind them. Assumes nothing.
use Rattle.tree.proofs.Kept.{step-laid}
use Rattle.tree.proofs.steps.lay_step.Goals as goal

pub returns : goal.returns
returns c =
    let a = c.args in
    step-laid a.at a.tag a.i a.b.now a.w.now _ c.requires c.lay.ensures
