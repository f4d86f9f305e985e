-- An expression, or nothing. Assumes nothing.
use native.Mathlib.Omega.{arith}
use mathlib.Core.Bool.{Bool, cond}
use mathlib.Core.Path.{◌≡◌, sym, ap, ◌∙◌}
use Prim.Native.Nat.{ℕ}
use lib.ListN.{length}
use lib.Dec.{eqb}
use Rattle.std.specs.Prelude.{Ok, Err}
use Rattle.std.proofs.lemmas.Result.{err_from_is_err_and}
use Rattle.refusal.specs.declared.Refusal.TheVariants.{Size, Expression}
use Rattle.condition.specs.Kind.{stored_end, up_to_four}
use Rattle.condition.proofs.Ends.{stored-within}
use Rattle.list.specs.Inner.Begins.{tail_check}
use Rattle.list.proofs.Found.{found, missed}
use Rattle.list.proofs.Cases.{tail-missing, tail-some, tail-none}
use Rattle.list.proofs.entries.check_tail.Goals as goal
use Rattle.list.proofs.entries.check_tail.Goals.{then-is_conditional+in_ok-ok_or, else-is_conditional}

pub returns-in_err-ok_or : goal.returns-in_err-ok_or
returns-in_err-ok_or c =
    let e = missed (stored_end c.args.tail.now) Expression c.check.ensures c.ok_or.ensures.value c.in_err-ok_or.was in
    let p = err_from_is_err_and c.from_residual.result c.from_residual.ensures.1 in
    rw (p.1, p.2) (ap Err (sym e.1) ∙ sym (tail-missing c.args.kind c.args.tail.now (sym c.is_conditional.ensures ∙ c.if-is_conditional.true) e.0))

pub is_padded-fits-requires : goal.is_padded-fits-requires
is_padded-fits-requires c =
    let e = found (stored_end c.args.tail.now) Expression c.check.ensures c.ok_or.ensures.value c.in_ok-ok_or.was in
    omega (arith, stored-within c.args.tail.now)

pub returns-then-fits : goal.returns-then-fits
returns-then-fits c =
    let k = c.args.kind in
    let t = c.args.tail.now in
    let q : tail_check k t ≡ cond c.if-is_conditional.fits (Ok tt) (Err Size) =
    elim c.if-is_conditional.branch [
      | then-is_conditional+in_ok-ok_or w ↦
          let e = found (stored_end t) Expression w.check.ensures w.ok_or.ensures.value w.in_ok-ok_or.was in
          tail-some k t c.if-is_conditional.fits (sym c.is_conditional.ensures ∙ w.if-is_conditional.true) (omega arith)
          (w.fits-is ∙ w.is_padded-fits.ensures ∙ ap (λ (n : ℕ). eqb (up_to_four n) (length t)) (sym e.0))
      | else-is_conditional w ↦ tail-none k t c.if-is_conditional.fits (sym c.is_conditional.ensures ∙ w.if-is_conditional.false) (w.fits-is ∙ w.is_empty-fits.ensures)
    ] in
    sym (q ∙ ap (λ (b : Bool). cond b (Ok tt) (Err Size)) c.if-fits.true)

pub returns-else-fits : goal.returns-else-fits
returns-else-fits c =
    let k = c.args.kind in
    let t = c.args.tail.now in
    let q : tail_check k t ≡ cond c.if-is_conditional.fits (Ok tt) (Err Size) =
    elim c.if-is_conditional.branch [
      | then-is_conditional+in_ok-ok_or w ↦
          let e = found (stored_end t) Expression w.check.ensures w.ok_or.ensures.value w.in_ok-ok_or.was in
          tail-some k t c.if-is_conditional.fits (sym c.is_conditional.ensures ∙ w.if-is_conditional.true) (omega arith)
          (w.fits-is ∙ w.is_padded-fits.ensures ∙ ap (λ (n : ℕ). eqb (up_to_four n) (length t)) (sym e.0))
      | else-is_conditional w ↦ tail-none k t c.if-is_conditional.fits (sym c.is_conditional.ensures ∙ w.if-is_conditional.false) (w.fits-is ∙ w.is_empty-fits.ensures)
    ] in
    sym (q ∙ ap (λ (b : Bool). cond b (Ok tt) (Err Size)) c.if-fits.false)
