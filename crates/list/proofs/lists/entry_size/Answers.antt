-- What is told at once, or what the test finds. Assumes nothing.
use mathlib.Core.Path.{◌≡◌, ap, subst, ◌∙◌}
use mathlib.Core.List.{List}
use Prim.Native.Nat.{ℕ}
use lib.ListN.{drop}
use Rattle.std.specs.Prelude.{Ok}
use Rattle.list.specs.Entry.{access, size_of}
use Rattle.list.specs.Good.{Sound}
use Rattle.list.specs.Inner.Begins.{sized}
use Rattle.octets.proofs.Places.{rest-is}
use Rattle.list.proofs.Cases.{is-good}
use Rattle.list.proofs.lists.entry_size.Goals as goal

pub returns-in-Some : goal.returns-in-Some
unfolding sized
returns-in-Some c =
    let a = c.args in
    let q = subst (λ (t : List ℕ). (c.in-Some.size ≡ size_of t) × Sound access a.rev t) (rest-is a.list.now a.at) c.in-Some.ensures in
    ap Ok q.0 ∙ ap (sized a.at) (is-good access a.rev (drop a.at a.list.now) q.1)
