-- No room, or a header and then all entries. Assumes nothing.
use native.Mathlib.Omega.{arith}
use mathlib.Core.Path.{◌≡◌, ap, ◌∙◌}
use mathlib.Core.List.{flatten}
use Prim.Native.Nat.{◌+◌}
use lib.ListN.{length}
use Rattle.list.specs.List.{head_bytes}
use Rattle.octets.proofs.Writes.{tail-front}
use Rattle.list.proofs.Parts.{length-head}
use Rattle.inherit.specs.declared.passes.Measure.{Measure}
use Rattle.inherit.specs.Inner.Emit.{given_by}
use Rattle.inherit.specs.Inner.Plan.{gathered}
use Rattle.inherit.proofs.Fills.{gathered-eight, ends-short, ends-long, ends-measured, header-then}
use Rattle.inherit.proofs.whole.fill.Goals as goal
use Rattle.inherit.proofs.whole.fill.Goals.{then-out-size-via-then-out-size, then-out-size-via-else-out-size+then-size-gt65532}

pub returns-then-out-size : goal.returns-then-out-size
returns-then-out-size c =
    let a = c.args in
    let es = gathered (given_by a.terms.now) a.parts in
    let b = ap (λ (x : Measure). x.bytes) c.measure_all-m.ensures.0 in
    rw c.from.ensures
    (elim c.then-out-size.branch [
      | then-out-size-via-then-out-size w ↦ ends-short es a.control a.out.now (omega (arith, b, w.if-out-size.true))
      | then-out-size-via-else-out-size+then-size-gt65532 w ↦ ends-long es a.control a.out.now (omega (arith, b, w.if-out-size.false)) (omega (arith, b, w.if-size-gt65532.true))
    ])

pub overflow_cast-result-2 : goal.overflow_cast-result-2
overflow_cast-result-2 c =
    let a = c.args in
    let e = gathered-eight (given_by a.terms.now) a.parts in
    let m = c.measure_all-m.ensures.0 in
    omega (arith, e, ap (λ (x : Measure). x.bytes) m, ap (λ (x : Measure). x.count) m)

pub returns : goal.returns
returns c =
    let a = c.args in
    let es = gathered (given_by a.terms.now) a.parts in
    let m = c.measure_all-m.result in
    let e = c.measure_all-m.ensures.0 in
    let b = ap (λ (x : Measure). x.bytes) e in
    let r = c.rev_for in
    let h = head_bytes r.result (8 + m.bytes) m.count in
    let l : length h ≡ 8 = length-head r.result (8 + m.bytes) m.count in
    let t = tail-front h (flatten es) a.out.now c.put_header.new.out c.write_all.new.out 8 c.put_header.ensures c.write_all.ensures l (omega (arith, b, l, c.if-out-size.false)) in
    ends-measured es a.control a.out.now m e (omega (arith, c.if-out-size.false)) (omega (arith, c.if-size-gt65532.false)) _
    (t ∙ header-then es a.out.now m e r.result r.ensures)
