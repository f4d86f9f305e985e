-- What `wording::translate` tells fits its places. Assumes nothing.
use Rattle.std.proofs.Common.{sym, ◌∙◌, arith}
use Rattle.wording.proofs.Told.{told-done, told-refused}
use Rattle.capi.proofs.pt_condition.Goals as goal

pub overflow_cast-stored : goal.overflow_cast-stored
overflow_cast-stored c = omega (arith, (told-done _ _ _ _ (sym c.in-Ok.is ∙ c.translate.ensures.0)).0)

pub overflow_cast-stored-in-Ok : goal.overflow_cast-stored-in-Ok
overflow_cast-stored-in-Ok c = omega (arith, (told-done _ _ _ _ (sym c.in-Ok.is ∙ c.translate.ensures.0)).1)

pub overflow_cast-fault : goal.overflow_cast-fault
overflow_cast-fault c = omega (arith, told-refused _ _ _ _ (sym c.in-Err.is ∙ c.translate.ensures.0))
