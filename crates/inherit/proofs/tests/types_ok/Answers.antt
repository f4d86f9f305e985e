-- Two tests. Assumes nothing.
use native.Mathlib.Omega.{arith}
use lib.ListN.{length}
use borrow.Author.Tests.{le-leb, lt-leb}
use Rattle.inherit.specs.Asked.{types_ok}
use Rattle.inherit.proofs.tests.types_ok.Goals as goal

pub returns-then-b-le64 : goal.returns-then-b-le64
unfolding types_ok
returns-then-b-le64 c = let e = le-leb (length c.args.b.now) 64 c.if-b-le64.true in rw e

pub returns-else-b-le64 : goal.returns-else-b-le64
unfolding types_ok
returns-else-b-le64 c = let e = lt-leb (length c.args.b.now) 64 (omega arith) in rw e
