-- A run finds what is said. Assumes nothing.
use mathlib.Core.Path.{◌≡◌, ap, ◌∙◌}
use Rattle.std.proofs.Common.{rules}
use Rattle.std.specs.Option.{option_map_or}
use Rattle.condition.specs.declared.truths.Truth.TheVariants.{Unknown}
use Rattle.condition.specs.declared.runs.Ran.{Ran}
use Rattle.condition.proofs.Turns.{truth-found}
use Rattle.condition.proofs.said.Goals as goal

pub returns : goal.returns
returns c =
    let h : c.map_or.result ≡ option_map_or (λ (r : Ran). r.truth) c.run.result Unknown = search rules in
    h ∙ ap (λ m. option_map_or (λ (r : Ran). r.truth) m Unknown) c.run.ensures ∙ truth-found _ c.args.expression.now
