-- The rule that a number names.
use Rattle.std.specs.Prelude.{ℕ, Result, Ok, Err, cond, eqb}
use Rattle.refusal.specs.declared.Refusal.{Refusal}
use Rattle.refusal.specs.declared.Refusal.TheVariants.{Rule as Unknown}
use Rattle.inherit.specs.declared.rules.Rule.{Rule}
use Rattle.inherit.specs.declared.rules.Rule.TheVariants.{Printed, Mended}

abbrev pub rule_of : ℕ → Result Rule Refusal
rule_of number = cond (eqb number 1) (Ok Printed) (cond (eqb number 2) (Ok Mended) (Err Unknown))

abbrev pub number_by : Rule → ℕ
number_by Printed = 1
number_by Mended = 2
