-- The tree's call, its answer in the eight places. Assumes nothing.
use mathlib.Core.Path.{ap, ◌∙◌}
use Rattle.capi.specs.Places.{places_of}
use Rattle.capi.proofs.pt_own.Goals as goal

pub returns : goal.returns
returns c = record { answer = c.put_answer.ensures ∙ ap places_of c.own_of.ensures.answer.values; result = c.own_of.ensures.bytes }
