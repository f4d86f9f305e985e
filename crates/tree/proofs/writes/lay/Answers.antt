-- What `put` leaves on the tail from the place on, by the law of Places. Assumes nothing.
use Rattle.octets.proofs.Places.{put-tail}
use Rattle.tree.proofs.writes.lay.Goals as goal

pub returns : goal.returns
returns c =
    let a = c.args in
    put-tail a.at a.b.now a.w.now _ c.requires c.put.ensures
