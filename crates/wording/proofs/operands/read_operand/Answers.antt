-- By the first byte: a name, a number behind a minus, or a number. Assumes nothing.
use native.Mathlib.Omega.{arith}
use Rattle.std.proofs.Common.{◌≡◌, ◌<◌, true, false, length, get_or}
use Rattle.std.proofs.lemmas.Grind.{common_steps}
use Rattle.std.specs.Char.{is_ascii_alphabetic}
use Rattle.wording.proofs.Leaf.{name_inside, op-name, op-minus, op-plain}
use Rattle.wording.proofs.operands.read_operand.Goals as goal

pub overflow_add-result-in-Some : goal.overflow_add-result-in-Some
overflow_add-result-in-Some c =
    let a = c.args in
    let i : a.at < length a.s.now = grind (arith, common_steps) in
    omega (arith, name_inside a.s.now a.at _ i c.name_length.ensures)

pub returns-in-Some : goal.returns-in-Some
returns-in-Some c =
    let a = c.args in
    let s = a.s.now in
    let i : a.at < length s = grind (arith, common_steps) in
    let e : is_ascii_alphabetic (get_or s a.at 0) ≡ true = grind (arith, common_steps) in
    op-name s a.at _ i e c.name_length.ensures

pub returns-in-Some-eq45 : goal.returns-in-Some-eq45
returns-in-Some-eq45 c =
    let a = c.args in
    let s = a.s.now in
    let i : a.at < length s = grind (arith, common_steps) in
    let e : is_ascii_alphabetic (get_or s a.at 0) ≡ false = grind (arith, common_steps) in
    let b : get_or s a.at 0 ≡ 45 = grind (arith, common_steps) in
    op-minus s a.at e b i _ c.read_number.ensures

pub returns-in_default : goal.returns-in_default
returns-in_default c =
    let a = c.args in
    let s = a.s.now in
    let e : is_ascii_alphabetic (get_or s a.at 0) ≡ false = grind (arith, common_steps) in
    op-plain s a.at e (λ b. grind (arith, common_steps)) _ c.read_number-in_default.ensures
