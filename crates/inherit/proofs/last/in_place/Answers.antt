-- One placeholder, the other, or neither. Assumes nothing.
use mathlib.Core.Path.{sym, ap, ◌∙◌}
use Rattle.std.proofs.Common.{Some}
use Rattle.list.proofs.Sids.{neither-in, owner-in, group-in}
use Rattle.inherit.specs.Last.{in_place}
use Rattle.inherit.proofs.last.in_place.Goals as goal

pub returns-in-Some-Owner : goal.returns-in-Some-Owner
unfolding in_place
returns-in-Some-Owner c =
    rw (owner-in c.args.sid.now (sym c.placeholder_of.ensures ∙ c.in-Some-Owner.is ∙ ap Some c.in-Some-Owner.field-0-is))

pub returns-in-Some-Group : goal.returns-in-Some-Group
unfolding in_place
returns-in-Some-Group c =
    rw (group-in c.args.sid.now (sym c.placeholder_of.ensures ∙ c.in-Some-Group.is ∙ ap Some c.in-Some-Group.field-0-is))

pub returns-in-None : goal.returns-in-None
unfolding in_place
returns-in-None c = rw (neither-in c.args.sid.now (sym c.placeholder_of.ensures ∙ c.in-None.is))
