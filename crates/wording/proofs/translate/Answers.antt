-- The first walk, lent nothing, decides; a refusal leaves what was lent, and the second walk leaves the stored form.
use native.Mathlib.Omega.{arith}
use lib.ListN.{length}
use Prim.Native.Nat.{ℕ}
use mathlib.Core.List.{List, ◌++◌}
use mathlib.Core.Path.{sym, ap, subst, ◌∙◌}
use Rattle.std.specs.Prelude.{Result}
use Rattle.std.proofs.lemmas.Result.{err_from_is_err_and}
use Rattle.refusal.specs.declared.Refusal.TheVariants.{Text}
use Rattle.wording.specs.declared.walk.Place.{Place}
use Rattle.wording.specs.declared.walk.Wrong.{Wrong}
use Rattle.wording.specs.Inner.Walk.{Wrote}
use Rattle.wording.proofs.Decides.{decide_of, first_walk, nothing, too_long, done-room, after-refusal, after-done}
use Rattle.wording.proofs.translate.Goals as goal

pub returns-then-text-gt-MOST_TEXT : goal.returns-then-text-gt-MOST_TEXT
returns-then-text-gt-MOST_TEXT c =
    let a = c.args in
    let e = too_long a.text.now (length a.out.now) c.if-text-gt-MOST_TEXT.true in
    (e, after-refusal a.text.now a.out.now Text 512 e)

pub returns-in-Err : goal.returns-in-Err
returns-in-Err c =
    let a = c.args in
    let s = a.text.now in
    let o = a.out.now in
    let ys = c.read_condition.new.out in
    let empty = c.read_condition.auto.out in
    let e = first_walk s o ys _ _ _ _ c.if-text-gt-MOST_TEXT.false empty c.start-front.ensures c.read_condition.ensures in
    let d = ap (λ (r : Result Place Wrong). decide_of r (length s) (length (ys ++ o))) (sym c.in-Err.is) ∙ e in
    rw c.from.ensures (d, ap (λ (l : List ℕ). l ++ o) (nothing ys empty) ∙ after-refusal s o _ _ d)

pub returns-in_err-stored : goal.returns-in_err-stored
returns-in_err-stored c =
    let a = c.args in
    let s = a.text.now in
    let o = a.out.now in
    let ys = c.read_condition.new.out in
    let empty = c.read_condition.auto.out in
    let e = first_walk s o ys _ _ _ _ c.if-text-gt-MOST_TEXT.false empty c.start-front.ensures c.read_condition.ensures in
    let d = sym c.in_err-stored.was ∙ (c.decide_at.ensures ∙ (ap (λ (r : Result Place Wrong). decide_of r (length s) (length (ys ++ o))) (sym c.in-Ok.is) ∙ e)) in
    let p = err_from_is_err_and c.from_residual.result c.from_residual.ensures.1 in
    rw (p.1, p.2) (d, ap (λ (l : List ℕ). l ++ o) (nothing ys empty) ∙ after-refusal s o _ _ d)

pub write-requires : goal.write-requires
write-requires c =
    let a = c.args in
    let s = a.text.now in
    let o = a.out.now in
    let ys = c.read_condition.new.out in
    let empty = c.read_condition.auto.out in
    let e = first_walk s o ys _ _ _ _ c.if-text-gt-MOST_TEXT.false empty c.start-front.ensures c.read_condition.ensures in
    let d = sym c.in_ok-stored.was ∙ (c.decide_at.ensures ∙ (ap (λ (r : Result Place Wrong). decide_of r (length s) (length (ys ++ o))) (sym c.in-Ok.is) ∙ e)) in
    omega (arith, done-room s (length o) _ _ d, ap (λ (l : List ℕ). length (l ++ o)) (nothing ys empty))

pub returns : goal.returns
returns c =
    let a = c.args in
    let s = a.text.now in
    let o = a.out.now in
    let ys = c.read_condition.new.out in
    let empty = c.read_condition.auto.out in
    let e = first_walk s o ys _ _ _ _ c.if-text-gt-MOST_TEXT.false empty c.start-front.ensures c.read_condition.ensures in
    let d = sym c.in_ok-stored.was ∙ (c.decide_at.ensures ∙ (ap (λ (r : Result Place Wrong). decide_of r (length s) (length (ys ++ o))) (sym c.in-Ok.is) ∙ e)) in
    let q = c.write.new.out in
    (d, after-done s o q _ _ d (subst (λ (l : List ℕ). Wrote s (l ++ o) q) (nothing ys empty) c.write.ensures))
