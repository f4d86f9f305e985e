-- Each pass by its own test and with its own flags. Assumes nothing.
use Rattle.inherit.specs.Copies.{kept_flags}
use Rattle.inherit.specs.Inner.Emit.{takes_by, flags_by}
use Rattle.inherit.proofs.copies.pick.Goals as goal

pub returns-in-First : goal.returns-in-First
unfolding takes_by flags_by kept_flags
returns-in-First c = rw (c.in-First.is, c.then_some.ensures, c.takes_first.ensures)

pub returns-in-Second : goal.returns-in-Second
unfolding takes_by flags_by
returns-in-Second c =
    let e = rw c.flags-flags.ensures at c.then_some-in-Second.ensures in
    rw (c.in-Second.is, e, c.takes_second.ensures)

pub returns-in-Own : goal.returns-in-Own
unfolding takes_by flags_by
returns-in-Own c =
    let s = c.flags-flags.ensures in
    let e = rw s at c.then_some-in-Own.ensures in
    let h = rw s at c.has.ensures in
    rw (c.in-Own.is, e, h)

pub returns-in-All : goal.returns-in-All
unfolding takes_by flags_by
returns-in-All c = rw (c.in-All.is, c.flags-flags.ensures)
