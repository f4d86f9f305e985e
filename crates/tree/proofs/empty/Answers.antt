-- Four numbers, the settings, and zeros. Assumes nothing.
use Rattle.tree.proofs.Answered.{empty-laid}
use Rattle.tree.proofs.empty.Goals as goal

pub returns : goal.returns
returns c =
    let a = c.args in
    empty-laid _ a.r.now _ _ c.requires.1.1.0 c.requires.1.1.1
    c.lay_settings.ensures c.zero.ensures
