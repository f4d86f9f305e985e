-- The tree's call, its answer in the eight places. Assumes nothing.
use mathlib.Core.Path.{ap, ◌∙◌}
use Rattle.capi.specs.Places.{places_of}
use Rattle.capi.proofs.pt_undo.Goals as goal

pub returns : goal.returns
returns c = record { answer = c.put_answer.ensures ∙ ap places_of c.undo.ensures.answer.values; room = c.undo.ensures.bytes }
