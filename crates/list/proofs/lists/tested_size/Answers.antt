-- What the test finds. Assumes nothing.
use mathlib.Core.Path.{sym, ap, ◌∙◌}
use Rattle.list.specs.Entry.{access, entry_of}
use Rattle.list.specs.Inner.Begins.{sized}
use Rattle.octets.proofs.Places.{rest-is}
use Rattle.list.proofs.lists.tested_size.Goals as goal

pub returns-in-Err : goal.returns-in-Err
unfolding sized
returns-in-Err c =
    let a = c.args in
    let q = sym (ap (entry_of access a.rev) (rest-is a.list.now a.at)) ∙ sym c.entry_of.ensures ∙ c.in-Err.is in
    rw c.at.ensures (sym (ap (sized a.at) q))

pub returns-in-Ok : goal.returns-in-Ok
unfolding sized
returns-in-Ok c =
    let a = c.args in
    let q = sym (ap (entry_of access a.rev) (rest-is a.list.now a.at)) ∙ sym c.entry_of.ensures ∙ c.in-Ok.is in
    sym (ap (sized a.at) q)
