-- The loop stores the digits from the last to the first: what is still to come, and then what stands from `i` on, is all of n. Assumes nothing.
use mathlib.Core.Path.{◌≡◌}
use lib.ListN.{length}
use Rattle.script.proofs.Laid.{Spelt}
use Rattle.script.proofs.texts.decimal.Given as goal

abbrev pub invariant-loop-i : goal.invariant-loop-i
invariant-loop-i l = (length l.text ≡ 20) × Spelt l.n l.rest l.i l.text
