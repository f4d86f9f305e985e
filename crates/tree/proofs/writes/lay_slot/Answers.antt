-- By cases: the slot of a list, or zeros. Assumes nothing.
use Rattle.tree.specs.Held.{slot_for}
use Rattle.tree.proofs.Lays.{short-present}
use Rattle.tree.proofs.writes.lay_slot.Goals as goal

pub lay_list-requires : goal.lay_list-requires
lay_list-requires c =
    let p = c.requires in
    (short-present _ (rw c.in-Some.is at p.0), p.1)

pub returns-in-None : goal.returns-in-None
unfolding slot_for
returns-in-None c = rw c.in-None.is c.zero.ensures
