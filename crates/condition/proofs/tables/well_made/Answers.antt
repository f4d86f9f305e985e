-- The rest is well made as all is. Assumes nothing.
use native.Mathlib.Omega.{arith}
use mathlib.Core.Path.{◌≡◌, sym, ap, ◌∙◌}
use Prim.Native.Nat.{ℕ, suc, ◌+◌, ◌-◌}
use Rattle.std.proofs.Common.{is_some}
use Rattle.condition.specs.Table.{well_made}
use Rattle.condition.proofs.Records.{lies-there, made-end, made-stop, made-twice, made-behind}
use Rattle.condition.proofs.tables.well_made.Goals as goal
use Rattle.condition.proofs.tables.well_made.Goals.{else-loop-test, then-loop-test+in_default}

pub returns-then-is_some : goal.returns-then-is_some
returns-then-is_some c =
    let t = c.loop.rest.now in
    let i = lies-there t c.in-Some.long c.in-Some.ensures.long in
    let e : 32 - c.loop.counter ≡ suc (32 - (c.loop.counter + 1)) = omega arith in
    sym (c.loop.invariant ∙ ap (λ (n : ℕ). well_made n t) e
    ∙ made-twice (32 - (c.loop.counter + 1)) t c.in-Some.long i c.is_some.result (c.is_some.ensures ∙ ap is_some c.find.ensures) c.if-is_some.true)

pub loop-preserved : goal.loop-preserved
loop-preserved c =
    let t = c.loop.rest.now in
    let i = lies-there t c.in-Some.long c.in-Some.ensures.long in
    let e : 32 - c.loop.counter ≡ suc (32 - (c.loop.counter + 1)) = omega arith in
    c.loop.invariant
    ∙ ap (λ (n : ℕ). well_made n t) e
    ∙ made-behind (32 - (c.loop.counter + 1)) t c.in-Some.long i c.is_some.result (c.is_some.ensures ∙ ap is_some c.find.ensures) c.if-is_some.false

pub returns : goal.returns
returns c =
    let t = c.loop.rest.now in
    elim c.loop-test.branch [
      | else-loop-test w ↦
          let e : 32 - c.loop.counter ≡ 0 = omega arith in
          c.is_empty.ensures ∙ sym (c.loop.invariant ∙ ap (λ (n : ℕ). well_made n t) e ∙ made-end t)
      | then-loop-test+in_default w ↦ c.is_empty.ensures ∙ sym (c.loop.invariant ∙ made-stop (32 - c.loop.counter) t w.in_default.ensures.long)
    ]
