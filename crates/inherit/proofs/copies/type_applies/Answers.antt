-- Each return is a test of the definition. Assumes nothing.
use mathlib.Core.Path.{sym, ap, ◌∙◌}
use mathlib.Core.List.{List}
use Prim.Native.Nat.{ℕ}
use borrow.Author.Tests.{eq-eqb, ne_eqb}
use Rattle.octets.specs.Bytes.{among}
use Rattle.inherit.specs.Copies.{type_applies}
use Rattle.inherit.proofs.copies.type_applies.Goals as goal

pub returns-then-not-is_object : goal.returns-then-not-is_object
unfolding type_applies
returns-then-not-is_object c =
    let h = rw c.kind.ensures at c.is_object.ensures in
    let f = c.if-not-is_object.true in
    rw (sym h ∙ f, f)

pub returns-then-look-ne0 : goal.returns-then-look-ne0
unfolding type_applies
returns-then-look-ne0 c =
    let h = rw c.kind.ensures at c.is_object.ensures in
    let w = rw c.look.ensures at (ne_eqb _ _ c.if-look-ne0.true) in
    simp (sym h ∙ c.if-not-is_object.false, w)
    (c.among.ensures ∙ ap (λ (x : List ℕ). among x c.args.terms.now.types.now) c.guid_at.ensures)

pub returns-else-look-ne0 : goal.returns-else-look-ne0
unfolding type_applies
returns-else-look-ne0 c =
    let h = rw c.kind.ensures at c.is_object.ensures in
    let w = eq-eqb _ _ c.if-look-ne0.false in
    let v = rw c.look.ensures at w in
    simp (sym h ∙ c.if-not-is_object.false, v, w)
