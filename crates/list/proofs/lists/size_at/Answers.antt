-- The two bytes behind type and flags, by the law of one byte and the rest, twice. Assumes nothing.
use native.Mathlib.Omega.{arith}
use mathlib.Core.Path.{◌≡◌, ap}
use Prim.Native.Nat.{ℕ, ◌+◌}
use lib.ListN.{drop}
use lib.Seq.{drop-drop}
use Rattle.octets.specs.Bytes.{le}
use Rattle.octets.proofs.Little.{le-at, le-one}
use Rattle.list.proofs.lists.size_at.Goals as goal

pub returns : goal.returns
returns c =
    let s = c.args.list.now in
    let at = c.args.at in
    let k : at + 2 + 1 ≡ at + 3 = omega arith in
    simp drop-drop (omega (arith, c.from_le_bytes.ensures, le-at 1 s (at + 2), ap (λ (n : ℕ). le 1 (drop n s)) k, le-one s (at + 3)))
