-- What is decided from an entry on is what is decided from the first on (`Deciding`). Assumes nothing.
use mathlib.Core.Path.{sym, ap, ◌∙◌}
use Rattle.octets.proofs.Places.{rest-is}
use Rattle.list.specs.declared.looks.Look.{Look}
use Rattle.access.proofs.Weighs.{SidIn}
use Rattle.access.proofs.Turns.{entry-here, decides-yes, decides-end, decides-no, decides-on}
use Rattle.access.proofs.decide.decide.Goals as goal
use Rattle.access.proofs.decide.decide.Goals.{Else-left-eq0}

-- the entry that comes next
here : (c : Else-left-eq0) → SidIn c.entries.rest.now
here c = entry-here _ _ _ _ _ _ _ _ _ _ c.entries.invariant c.if-left-eq0.false c.entries-test.true

pub returns-then-left-eq0 : goal.returns-then-left-eq0
returns-then-left-eq0 c = decides-yes _ _ _ _ _ _ _ _ _ _ c.entries.invariant c.if-left-eq0.true

pub invariant_of-e : goal.invariant_of-e
invariant_of-e c =
    let h = here (goal.at.invariant_of-e c).Else-left-eq0 in
    record { is = c.look_at.ensures; inside = h.inside; whole = h.whole; eight = h.eight }

pub returns-in_default : goal.returns-in_default
returns-in_default c =
    decides-no _ _ _ _ _ _ _ _ _ _ c.entries.invariant c.if-left-eq0.false c.entries-test.true (sym c.leaves.ensures ∙ c.in_default.is)

pub entries-preserved : goal.entries-preserved
entries-preserved c =
    rw (rest-is c.entries.rest.now c.look_at.result.size)
    (rw (ap (λ (x : Look). x.size) c.look_at.ensures)
    (decides-on _ _ _ _ _ _ _ _ _ _ c.entries.invariant c.if-left-eq0.false c.entries-test.true _ (sym c.leaves.ensures ∙ c.in-Some.is)))

pub returns : goal.returns
returns c = decides-end _ _ _ _ _ _ _ _ _ _ c.entries.invariant c.entries-test.false
