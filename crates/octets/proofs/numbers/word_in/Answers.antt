-- All four bytes; or the last one is not there, and of the high half at most one; or none. Assumes nothing.
use native.Mathlib.Omega.{arith}
use mathlib.Core.Path.{sym, ap, ◌∙◌}
use Prim.Native.Nat.{◌+◌}
use lib.ListN.{length, drop}
use lib.Seq.{drop-drop}
use borrow.Author.Tests.{leb-false}
use Rattle.octets.specs.Bytes.{le}
use Rattle.octets.proofs.Little.{le-add, le-at, le-past}
use Rattle.octets.proofs.numbers.word_in.Goals as goal

pub returns-then-at-s : goal.returns-then-at-s
returns-then-at-s c =
    let s = c.args.s.now in
    let at = c.args.at in
    let h = leb-false (at + 4) (length s) (sym c.holds.ensures ∙ c.if-holds.false) in
    omega
    (arith, c.half_in.ensures, c.byte_in.ensures, c.from.ensures, le-add 2 2 (drop at s), ap (le 2) (drop-drop 2 at s), le-at 1 s (at + 2), le-past 1 s (at + 2 + 1) (omega (arith, h)))

pub returns : goal.returns
returns c = sym (le-past 4 c.args.s.now c.args.at (omega arith))
