-- By the first two bytes. Assumes nothing.
use Rattle.std.proofs.Common.{◌≡◌, ℕ, ◌≤◌, List, ◌+◌, drop, length, arith, length-drop}
use Rattle.std.proofs.lemmas.Grind.{common_steps}
use Rattle.wording.proofs.Leaf.{equal_is, unequal_is, at_most_is, at_least_is, below_is, above_is, half_is, no_sign}
use Rattle.wording.proofs.signs.read_sign.Goals as goal

left : (s : List ℕ) (at : ℕ) → at ≤ length s → length (drop at s) + at ≡ length s
left s at h = omega (arith, length-drop at s)

pub returns-in-61 : goal.returns-in-61
returns-in-61 c =
    let a = c.args in
    let s = a.s.now in
    equal_is (length s) a.at (drop a.at s) (left s a.at c.requires) (grind (arith, common_steps)) (grind (arith, common_steps))

pub returns-in-33 : goal.returns-in-33
returns-in-33 c =
    let a = c.args in
    let s = a.s.now in
    unequal_is (length s) a.at (drop a.at s) (left s a.at c.requires) (grind (arith, common_steps)) (grind (arith, common_steps))

pub returns-in-60 : goal.returns-in-60
returns-in-60 c =
    let a = c.args in
    let s = a.s.now in
    at_most_is (length s) a.at (drop a.at s) (left s a.at c.requires) (grind (arith, common_steps)) (grind (arith, common_steps))

pub returns-in-62 : goal.returns-in-62
returns-in-62 c =
    let a = c.args in
    let s = a.s.now in
    at_least_is (length s) a.at (drop a.at s) (left s a.at c.requires) (grind (arith, common_steps)) (grind (arith, common_steps))

pub returns-in-60-2 : goal.returns-in-60-2
returns-in-60-2 c =
    let a = c.args in
    let s = a.s.now in
    below_is (length s) a.at (drop a.at s) (left s a.at c.requires) (grind (arith, common_steps)) (λ e. grind (arith, common_steps))

pub returns-in-62-2 : goal.returns-in-62-2
returns-in-62-2 c =
    let a = c.args in
    let s = a.s.now in
    above_is (length s) a.at (drop a.at s) (left s a.at c.requires) (grind (arith, common_steps)) (λ e. grind (arith, common_steps))

pub returns-in-61-2 : goal.returns-in-61-2
returns-in-61-2 c =
    let a = c.args in
    let s = a.s.now in
    half_is (length s) a.at (drop a.at s) (left s a.at c.requires) (λ e. grind (arith, common_steps)) (λ e. grind (arith, common_steps))

pub returns-in_default : goal.returns-in_default
returns-in_default c =
    let a = c.args in
    let s = a.s.now in
    no_sign (length s) a.at (drop a.at s) (left s a.at c.requires) (λ e. grind (arith, common_steps)) (λ e. grind (arith, common_steps)) (λ e. grind (arith, common_steps)) (λ e. grind (arith, common_steps))

pub returns-in_default-2 : goal.returns-in_default-2
returns-in_default-2 c =
    let a = c.args in
    let s = a.s.now in
    no_sign (length s) a.at (drop a.at s) (left s a.at c.requires) (λ e. grind (arith, common_steps)) (λ e. grind (arith, common_steps)) (λ e. grind (arith, common_steps)) (λ e. grind (arith, common_steps))

pub returns-in_default-3 : goal.returns-in_default-3
returns-in_default-3 c =
    let a = c.args in
    let s = a.s.now in
    no_sign (length s) a.at (drop a.at s) (left s a.at c.requires) (λ e. grind (arith, common_steps)) (λ e. grind (arith, common_steps)) (λ e. grind (arith, common_steps)) (λ e. grind (arith, common_steps))
