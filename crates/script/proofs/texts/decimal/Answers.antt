-- The loop stores the digits from the last to the first: what is still to come, and then what stands from `i` on, is all of n. Assumes nothing.
use native.Mathlib.Omega.{arith}
use lib.ListN.{length-set}
use Rattle.script.proofs.Laid.{spelt-none, spelt-more, spelt-all}
use Rattle.script.proofs.texts.decimal.Goals as goal

pub loop-i-init : goal.loop-i-init
loop-i-init c = (c.requires, spelt-none _ _ c.requires (omega arith))

pub returns-then-rest-eq0 : goal.returns-then-rest-eq0
returns-then-rest-eq0 c = (omega arith, spelt-all _ _ _ _ c.loop-i.invariant.1 (omega arith))

pub loop-i-preserved : goal.loop-i-preserved
loop-i-preserved c = (simp length-set (omega arith), spelt-more _ _ _ _ c.loop-i.invariant.1 (omega arith))
