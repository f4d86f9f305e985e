-- The loop has passed good entries up to `at`: the whole walk is what is left of it. Assumes nothing.
use mathlib.Core.Path.{◌≡◌}
use Prim.Native.Nat.{◌≤◌, ◌-◌}
use lib.ListN.{length, drop}
use Rattle.list.specs.Entry.{access}
use Rattle.list.specs.List.{walk_of, finish}
use Rattle.list.proofs.lists.walk.Given as goal

abbrev pub invariant-loop : goal.invariant-loop
invariant-loop l =
    let s = l.list in
    (l.at ≤ length s)
    × (walk_of access l.rev l.count 8 (drop 8 s) (finish (length s) l.count) ≡ walk_of access l.rev (l.count - l.counter) l.at (drop l.at s) (finish (length s) l.count))
