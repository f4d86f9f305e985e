-- A fault of the held bytes first, then one of the table. Assumes nothing.
use mathlib.Core.Path.{sym, ◌∙◌}
use Rattle.std.proofs.lemmas.Result.{err_from_is_err_and}
use Rattle.access.proofs.Opens.{held_first, table-bad, table-fine}
use Rattle.access.proofs.lent_fault.Goals as goal

pub returns-in_err-held_fault : goal.returns-in_err-held_fault
returns-in_err-held_fault c =
    let p = err_from_is_err_and c.from_residual.result c.from_residual.ensures.1 in
    rw (p.1, p.2) (sym (held_first _ c.args.table.now _ (sym c.held_fault.ensures ∙ c.in_err-held_fault.was)))

pub returns-then-not-table_ok : goal.returns-then-not-table_ok
returns-then-not-table_ok c =
    sym (table-bad _ _ _ (sym c.held_fault.ensures ∙ c.in_ok-held_fault.was) (sym c.table_ok.ensures ∙ c.if-not-table_ok.true))

pub returns : goal.returns
returns c = sym (table-fine _ _ _ (sym c.held_fault.ensures ∙ c.in_ok-held_fault.was) (sym c.table_ok.ensures ∙ c.if-not-table_ok.false))
