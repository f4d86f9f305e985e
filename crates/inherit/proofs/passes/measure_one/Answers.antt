-- No copy, or as many as the entry gives, each of the same length. Assumes nothing.
use native.Mathlib.Omega.{arith}
use mathlib.Core.Path.{refl, sym, ap, ap₂, ◌∙◌}
use Prim.Native.Nat.{ℕ, ◌+◌, ◌*◌, ◌≤◌}
use native.Mathlib.Nat.{mul-le-mul}
use borrow.Author.Tests.{ne_eqb}
use Rattle.list.specs.Entry.{object_kind, size_of}
use Rattle.inherit.specs.Inner.Emit.{given_by, copy_length, times_of}
use Rattle.inherit.proofs.Emits.{copy-le}
use Rattle.inherit.proofs.Measures.{measures}
use Rattle.inherit.proofs.One.{times-le, gives-from}
use Rattle.inherit.proofs.passes.measure_one.Goals as goal

pub returns-then-times-eq0 : goal.returns-then-times-eq0
returns-then-times-eq0 c =
    let a = c.args in
    let e = a.entry.now in
    let n = sym c.copies_of-times.ensures ∙ c.if-times-eq0.true in
    sym (gives-from 4 e.bytes.now e.whole.sound (given_by a.terms.now) a.origin ∙ rw n (measures (omega arith) refl refl))

pub overflow_mul-result : goal.overflow_mul-result
overflow_mul-result c =
    let a = c.args in
    let e = a.entry.now in
    let g = given_by a.terms.now in
    let t = times-le g a.origin e.bytes.now in
    let l = copy-le g 4 e.bytes.now e.whole.sound a.terms.now.owner_short a.terms.now.group_short in
    let m : times_of g a.origin e.bytes.now * copy_length e.bytes.now g.owner g.group ≤ 2 * (size_of e.bytes.now + 68) = mul-le-mul t l in
    rw (c.copies_of-times.ensures, c.copy_len.ensures) (omega (arith, m, e.small))

pub returns : goal.returns
returns c =
    let a = c.args in
    let e = a.entry.now in
    let g = given_by a.terms.now in
    let times = c.copies_of-times.ensures in
    let o = c.is_object.ensures ∙ ap object_kind c.kind.ensures in
    let n = ne_eqb (times_of g a.origin e.bytes.now) 0 (λ z. c.if-times-eq0.false (times ∙ z)) in
    measures (ap₂ (λ (x y : ℕ). x * y) times c.copy_len.ensures) times (o ∙ rw n refl) ∙ sym (gives-from 4 e.bytes.now e.whole.sound g a.origin)
