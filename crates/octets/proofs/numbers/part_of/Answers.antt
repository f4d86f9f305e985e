-- As much of the part as there is, by the law of Places. Assumes nothing.
use Rattle.octets.proofs.Places.{part-least}
use Rattle.octets.proofs.numbers.part_of.Goals as goal

pub returns : goal.returns
returns c = part-least c.args.s.now c.args.at c.args.n c.min-from.result c.min.result c.min-from.ensures c.min.ensures
