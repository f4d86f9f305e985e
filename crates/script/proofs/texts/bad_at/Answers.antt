-- No room by the measured length, else the line on the front. Assumes nothing.
use native.Mathlib.Omega.{arith}
use mathlib.Core.Path.{ap}
use Rattle.std.specs.Prelude.{Err}
use Rattle.script.proofs.Listings.{bad-no, bad-all}
use Rattle.script.proofs.texts.bad_at.Goals as goal

pub returns-then-out-long : goal.returns-then-out-long
returns-then-out-long c = bad-no _ _ c.lay_bad-long.ensures.0 (omega arith) (ap Err c.into.ensures)

pub returns : goal.returns
returns c = bad-all _ _ c.lay_bad-long.ensures.0 (omega arith) c.lay_bad.ensures.1.1
