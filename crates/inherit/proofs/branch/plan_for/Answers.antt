-- By the table. Assumes nothing.
use mathlib.Core.Path.{◌≡◌, refl, sym, ap, ◌∙◌}
use mathlib.Core.Bool.{Bool, true, false, not}
use lib.Dec.{eqb}
use denote.Enum.Bare.{sameb}
use Rattle.std.proofs.Common.{Some}
use Rattle.inherit.specs.declared.rules.Rule.{Rule}
use Rattle.inherit.specs.declared.rules.Rule.TheVariants.{Printed, Mended}
use Rattle.inherit.specs.contracts.rules.Rule.{the_type}
use Rattle.inherit.specs.Inner.Rules.{number_by}
use Rattle.inherit.specs.Inner.Plan.{merged_of, plan_of}
use Rattle.inherit.proofs.branch.plan_for.Goals as goal
use Rattle.inherit.proofs.branch.plan_for.Goals.{else-heritable-via-then-heritable+then-creator+else-not-s, else-heritable-via-then-heritable+else-creator, else-heritable-via-else-heritable}

-- own entries stay by the rule that mends
own-by : (r : Rule) → sameb the_type r Mended ≡ not (eqb (number_by r) 1)
own-by Printed = refl
own-by Mended = refl

pub returns-then-not-s : goal.returns-then-not-s
unfolding plan_of
returns-then-not-s c =
    rw (c.if-heritable.true, c.if-creator.true, c.if-not-s.true)
    (ap Some (c.merged.ensures ∙ ap (λ (own : Bool). merged_of own c.args.s.auto c.args.s.protect) (c.eq.ensures ∙ own-by c.args.rule)))

pub returns-then-heritable-2 : goal.returns-then-heritable-2
unfolding plan_of
returns-then-heritable-2 c =
    elim c.else-heritable.branch [
      | else-heritable-via-then-heritable+then-creator+else-not-s w ↦ rw (w.if-heritable.true, w.if-creator.true, w.if-not-s.false)
      | else-heritable-via-then-heritable+else-creator w ↦ rw (w.if-heritable.true, w.if-creator.false)
      | else-heritable-via-else-heritable w ↦ let z : true ≡ false = sym c.if-heritable-2.true ∙ w.if-heritable.false in cc
    ]

pub returns-then-creator-2 : goal.returns-then-creator-2
unfolding plan_of
returns-then-creator-2 c = rw (c.if-heritable-2.false, c.if-creator-2.true)

pub returns-else-creator-2 : goal.returns-else-creator-2
unfolding plan_of
returns-else-creator-2 c = rw (c.if-heritable-2.false, c.if-creator-2.false) c.then_some.ensures
