-- The rule, four words and a slot, one behind the other. Assumes nothing.
use Rattle.tree.proofs.Lays.{settings-laid}
use Rattle.tree.proofs.writes.lay_settings.Goals as goal

pub returns : goal.returns
returns c =
    let a = c.args in
    settings-laid a.rule a.m _ c.requires.0 a.at a.w.now _ _ _ _ _ c.requires.1
    c.lay_word.ensures c.lay_word-2.ensures c.lay_word-3.ensures c.lay_word-4.ensures c.lay_slot.ensures
