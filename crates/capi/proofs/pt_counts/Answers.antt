-- The tree's call, its answer in the eight places. Assumes nothing.
use mathlib.Core.Path.{ap, ◌∙◌}
use Rattle.capi.specs.Places.{places_of}
use Rattle.capi.proofs.pt_counts.Goals as goal

pub returns : goal.returns
returns c = c.put_answer.ensures ∙ ap places_of c.counts.ensures.values
