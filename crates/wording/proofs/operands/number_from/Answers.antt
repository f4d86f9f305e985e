-- At each byte: no digit, one that leaves the range, or one more.
use native.Mathlib.Omega.{arith}
use Rattle.std.proofs.Common.{◌≡◌, ℕ, ◌+◌, ◌-◌, ◌<◌, ◌≤◌, true, false, length, get_or, ap, sym, ◌∙◌}
use Rattle.std.proofs.lemmas.Grind.{common_steps}
use Rattle.std.specs.Char.{is_ascii_digit}
use Rattle.std.specs.Prelude.{Ok}
use Rattle.wording.specs.declared.operands.Operand.TheVariants.{Number}
use Rattle.wording.proofs.Leaf.{number-stop, number-over, number_more}
use Rattle.wording.proofs.operands.number_from.Goals as goal

pub returns-then-not-is_ascii_digit : goal.returns-then-not-is_ascii_digit
returns-then-not-is_ascii_digit c =
    let a = c.args in
    let l = c.loop-i in
    let i : a.at + l.i ≤ length a.s.now = grind (arith, common_steps) in
    let e : is_ascii_digit (get_or a.s.now (a.at + l.i) 0) ≡ false = grind (arith, common_steps) in
    l.invariant _ (number-stop a.s.now (a.at + l.i) a.neg l.v i e)

pub returns-then-v-most : goal.returns-then-v-most
returns-then-v-most c =
    let a = c.args in
    let l = c.loop-i in
    let i : a.at + l.i ≤ length a.s.now = grind (arith, common_steps) in
    let e : is_ascii_digit (get_or a.s.now (a.at + l.i) 0) ≡ true = grind (arith, common_steps) in
    let q : c.from-d.result ≡ get_or a.s.now (a.at + l.i) 0 - 48 = grind (arith, common_steps) in
    l.invariant _ (number-over a.s.now (a.at + l.i) a.neg l.v _ i e q (rw c.limit_of-most.ensures at c.if-v-most.true))

pub loop-i-preserved : goal.loop-i-preserved
loop-i-preserved c =
    let a = c.args in
    let l = c.loop-i in
    let i : a.at + l.i < length a.s.now = grind (arith, common_steps) in
    let e : is_ascii_digit (get_or a.s.now (a.at + l.i) 0) ≡ true = grind (arith, common_steps) in
    let q : c.from-d.result ≡ get_or a.s.now (a.at + l.i) 0 - 48 = grind (arith, common_steps) in
    let k : a.at + (l.i + 1) ≡ a.at + l.i + 1 = omega arith in
    λ r n. l.invariant r (number_more a.s.now (a.at + l.i) a.neg l.v _ i e q (rw c.limit_of-most.ensures at c.if-v-most.false) r (rw k at n))

pub returns : goal.returns
returns c =
    let a = c.args in
    let l = c.loop-i in
    let i : a.at + l.i ≡ length a.s.now = grind (arith, common_steps) in
    let e : is_ascii_digit (get_or a.s.now (a.at + l.i) 0) ≡ false = grind (arith, common_steps) in
    l.invariant _ (ap (λ (n : ℕ). Ok (Number a.neg l.v n)) (sym i) ∙ number-stop a.s.now (a.at + l.i) a.neg l.v (omega arith) e)
