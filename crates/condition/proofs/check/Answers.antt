-- A run without names finds the end. Assumes nothing.
use mathlib.Core.Path.{◌≡◌, ap, ◌∙◌}
use Rattle.std.proofs.Common.{rules}
use Rattle.std.specs.Prelude.{option_map}
use Rattle.condition.specs.declared.runs.Ran.{Ran}
use Rattle.condition.proofs.Turns.{end-found}
use Rattle.condition.proofs.check.Goals as goal

pub returns : goal.returns
returns c =
    let h : c.map.result ≡ option_map (λ (r : Ran). r.end) c.run.result = search rules in
    h ∙ ap (option_map (λ (r : Ran). r.end)) c.run.ensures ∙ end-found _ c.args.expression.now
