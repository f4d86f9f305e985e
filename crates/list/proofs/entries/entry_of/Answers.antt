-- Each return is a case of `entry_of`, by the tests that led there. Assumes nothing.
use native.Mathlib.Omega.{arith}
use mathlib.Core.Path.{sym, ◌∙◌}
use borrow.Author.Tests.{le-leb, lt-leb}
use Rattle.list.specs.Entry.{access, flags_ok}
use Rattle.list.proofs.Cases.{bad-a, bad-a2, bad-b, bad-c}
use Rattle.list.proofs.entries.entry_of.Goals as goal

pub returns-then-t-lt4 : goal.returns-then-t-lt4
returns-then-t-lt4 c = bad-a access c.args.rev c.args.t.now (omega arith)

pub returns-then-t-size : goal.returns-then-t-size
returns-then-t-size c = bad-a2 access c.args.rev c.args.t.now (omega arith) (omega arith)

pub returns-then-not-kind_ok : goal.returns-then-not-kind_ok
returns-then-not-kind_ok c = bad-b access c.args.rev c.args.t.now (omega arith) (omega arith) (sym c.kind_ok.ensures ∙ c.if-not-kind_ok.true)

pub returns-then-t-gt31 : goal.returns-then-t-gt31
unfolding flags_ok
returns-then-t-gt31 c =
    bad-c access c.args.rev c.args.t.now (omega arith) (omega arith) (sym c.kind_ok.ensures ∙ c.if-not-kind_ok.false) (lt-leb _ _ c.if-t-gt31.true)

pub returns : goal.returns
unfolding flags_ok
returns c =
    c.body_of.ensures c.args.rev
    (record { four = omega arith; within = omega arith; kind = sym c.kind_ok.ensures ∙ c.if-not-kind_ok.false; flags = le-leb _ _ c.if-t-gt31.false })
