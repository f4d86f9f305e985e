-- None is left, or the next one, cut off the front of the bytes. Assumes nothing.
use native.Mathlib.Omega.{arith}
use mathlib.Core.Path.{sym, ap, ap₂, ◌∙◌}
use mathlib.Core.List.{List, ◌∷◌}
use Prim.Native.Nat.{ℕ}
use lib.ListN.{length}
use Rattle.access.specs.Held.{held_of}
use Rattle.access.proofs.Holds.{is-empty, not-empty, held-none, next-inside, held-next, rest-whole}
use Rattle.access.proofs.held.SidsIterator.next.Goals as goal

pub returns-then-is_empty-clause-steps : goal.returns-then-is_empty-clause-steps
returns-then-is_empty-clause-steps c =
    let e = held-none c.args.self.now.bytes.now (is-empty _ _ c.is_empty.ensures c.if-is_empty.true) in
    (e, e)

pub bounds-self-1 : goal.bounds-self-1
bounds-self-1 c =
    let s = c.args.self.now in
    omega (arith, next-inside s.bytes.now s.whole (not-empty _ _ c.is_empty.ensures c.if-is_empty.false))

pub split_at-requires : goal.split_at-requires
split_at-requires c =
    let s = c.args.self.now in
    next-inside s.bytes.now s.whole (not-empty _ _ c.is_empty.ensures c.if-is_empty.false)

pub invariant_of-self : goal.invariant_of-self
invariant_of-self c =
    let s = c.args.self.now in
    record { whole = rw c.split_at.ensures.back (rest-whole s.bytes.now s.whole (not-empty _ _ c.is_empty.ensures c.if-is_empty.false)) }

pub returns-clause-steps : goal.returns-clause-steps
returns-clause-steps c =
    let s = c.args.self.now in
    let w = c.split_at.ensures in
    held-next s.bytes.now s.whole (not-empty _ _ c.is_empty.ensures c.if-is_empty.false)
    ∙ ap₂ (λ (x r : List ℕ). x ∷ held_of r) (sym w.front) (sym w.back)

pub returns-clause-goes : goal.returns-clause-goes
returns-clause-goes c =
    let s = c.args.self.now in
    let w = c.split_at.ensures in
    let e = ap length (held-next s.bytes.now s.whole (not-empty _ _ c.is_empty.ensures c.if-is_empty.false)) in
    let f = ap (λ (r : List ℕ). length (held_of r)) w.back in
    record { on = λ g. (tt, tt, omega (arith, e, f)); keeps = tt; rests = λ g. tt }
