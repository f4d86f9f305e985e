-- No digit, or one and what is found behind it. Assumes nothing.
use native.Mathlib.Omega.{arith}
use Rattle.std.proofs.Common.{◌≡◌, ◌-◌, ◌<◌, true, false, length, get_or}
use Rattle.std.proofs.lemmas.Grind.{common_steps}
use Rattle.std.specs.Char.{is_ascii_digit}
use Rattle.wording.proofs.Leaf.{number-none, number-first}
use Rattle.wording.proofs.operands.read_number.Goals as goal

pub returns-in-Some : goal.returns-in-Some
returns-in-Some c =
    let a = c.args in
    let s = a.s.now in
    let i : a.at < length s = grind (arith, common_steps) in
    let e : is_ascii_digit (get_or s a.at 0) ≡ true = grind (arith, common_steps) in
    let q : c.from.result ≡ get_or s a.at 0 - 48 = grind (arith, common_steps) in
    number-first s a.at a.neg _ i e q _ c.number_from.ensures

pub returns-in_default : goal.returns-in_default
returns-in_default c =
    let a = c.args in
    let s = a.s.now in
    let e : is_ascii_digit (get_or s a.at 0) ≡ false = grind (arith, common_steps) in
    number-none s a.at a.neg c.requires e

pub returns-in_default-2 : goal.returns-in_default-2
returns-in_default-2 c =
    let a = c.args in
    let s = a.s.now in
    let e : is_ascii_digit (get_or s a.at 0) ≡ false = grind (arith, common_steps) in
    number-none s a.at a.neg c.requires e
