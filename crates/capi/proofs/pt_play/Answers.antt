-- The script's call, its answer in the eight places. Assumes nothing.
use mathlib.Core.Path.{ap, ◌∙◌}
use Rattle.capi.specs.Places.{places_of}
use Rattle.capi.proofs.pt_play.Goals as goal

pub returns : goal.returns
returns c = (
  c.put_answer.ensures ∙ ap places_of c.play.ensures.answer.values,
  c.play.ensures.bytes,
)
