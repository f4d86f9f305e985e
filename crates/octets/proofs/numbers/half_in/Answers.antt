-- Both bytes are there, or the second one is not. Assumes nothing.
use native.Mathlib.Omega.{arith}
use mathlib.Core.Path.{sym, ◌∙◌}
use Prim.Native.Nat.{◌+◌}
use lib.ListN.{length}
use borrow.Author.Tests.{leb-false}
use Rattle.octets.proofs.Little.{le-at, le-one, le-past}
use Rattle.octets.proofs.numbers.half_in.Goals as goal

pub returns-then-holds : goal.returns-then-holds
returns-then-holds c =
    let s = c.args.s.now in
    let at = c.args.at in
    omega (arith, c.from_le_bytes.ensures, le-at 1 s at, le-one s (at + 1))

pub returns : goal.returns
returns c =
    let s = c.args.s.now in
    let at = c.args.at in
    let h = leb-false (at + 2) (length s) (sym c.holds.ensures ∙ c.if-holds.false) in
    omega (arith, c.byte_in.ensures, c.from.ensures, le-at 1 s at, le-past 1 s (at + 1) (omega (arith, h)))
