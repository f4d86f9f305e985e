-- One identity, then the other. Assumes nothing.
use Rattle.tree.proofs.Lays.{ids-laid}
use Rattle.tree.proofs.writes.lay_owners.Goals as goal

pub returns : goal.returns
returns c =
    let a = c.args in
    let p = c.requires in
    ids-laid a.at a.owner.now a.group.now a.w.now _ _ p.0 p.1.0 p.1.1 c.lay_id.ensures c.lay_id-2.ensures
