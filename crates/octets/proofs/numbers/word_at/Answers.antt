-- Four bytes, by the law of one byte and the rest, four times. Assumes nothing.
use native.Mathlib.Omega.{arith}
use mathlib.Core.Path.{◌≡◌, ap}
use Prim.Native.Nat.{ℕ, ◌+◌}
use lib.ListN.{drop}
use Rattle.octets.specs.Bytes.{le}
use Rattle.octets.proofs.Little.{le-at, le-one}
use Rattle.octets.proofs.numbers.word_at.Goals as goal

pub returns : goal.returns
returns c =
    let s = c.args.s.now in
    let at = c.args.at in
    let two : at + 1 + 1 ≡ at + 2 = omega arith in
    let three : at + 2 + 1 ≡ at + 3 = omega arith in
    omega
    (arith, c.from_le_bytes.ensures, le-at 3 s at, le-at 2 s (at + 1), ap (λ (n : ℕ). le 2 (drop n s)) two, le-at 1 s (at + 2), ap (λ (n : ℕ). le 1 (drop n s)) three, le-one s (at + 3))
