-- Another length, or another byte there, says that the bytes differ; else they are compared. Assumes nothing.
use mathlib.Core.Path.{sym, ap, ◌∙◌}
use mathlib.Core.List.{List}
use Prim.Native.Nat.{ℕ, ◌-◌}
use lib.ListN.{length, get_or}
use borrow.Author.Tests.{eqb-false}
use Rattle.octets.proofs.Same.{same-no, same_length}
use Rattle.condition.proofs.tables.is_called.Goals as goal
use Rattle.condition.proofs.tables.is_called.Goals.{then-named-name, else-named-name}

pub returns-else-named-name-2 : goal.returns-else-named-name-2
returns-else-named-name-2 c =
    let n = c.args.named.now in
    let m = c.args.name.now in
    elim c.if-named-name.branch [
      | then-named-name w ↦
          c.if-named-name-2.false
          ∙ sym (same-no n m (λ e. eqb-false _ _ (sym w.value-is ∙ c.if-named-name-2.false) (ap (λ (b : List ℕ). get_or b (length n - 2) 0) e)))
      | else-named-name w ↦ c.if-named-name-2.false ∙ sym (same_length n m w.if-named-name.false)
    ]
