-- Another byte at the mark, or behind it, says that the bytes differ; else they are compared. Assumes nothing.
use mathlib.Core.Path.{sym, ◌∙◌}
use borrow.Author.Tests.{eqb-false}
use Rattle.access.proofs.Holds.{other-byte}
use Rattle.access.proofs.held.HeldSid.is.Goals as goal
use Rattle.access.proofs.held.HeldSid.is.Goals.{then-one-mark, else-one-mark}

pub returns-else-one-sid : goal.returns-else-one-sid
returns-else-one-sid c =
    c.if-one-sid.false
    ∙ sym (elim c.if-one-mark.branch [
      | then-one-mark w ↦ other-byte 3 _ _ (eqb-false _ _ (sym w.value-is ∙ c.if-one-sid.false))
      | else-one-mark w ↦ other-byte 4 _ _ (λ e. w.if-one-mark.false (e ∙ sym c.requires.1))
    ])
