-- The parent's list where its number is smaller, else none. Assumes nothing.
use native.Mathlib.Omega.{arith}
use mathlib.Core.Path.{ap, ◌∙◌}
use mathlib.Core.List.{List}
use Prim.Native.Nat.{ℕ}
use lib.ListN.{get_or}
use Rattle.tree.proofs.Works.{above-slot, above-none}
use Rattle.tree.proofs.work.above.Goals as goal

pub returns-then-p-i : goal.returns-then-p-i
returns-then-p-i c =
    let n = c.number_in-p in
    let a = c.args in
    c.list_in.ensures
    ∙ above-slot a.i n.result a.r.now c.slot.result.now
    (n.ensures.0 ∙ ap (λ (x : List ℕ). get_or x 0 0) c.own.ensures) (omega arith) (omega arith) c.slot.ensures

pub returns-else-p-i : goal.returns-else-p-i
returns-else-p-i c =
    let n = c.number_in-p in
    let a = c.args in
    above-none a.i n.result a.r.now
    (n.ensures.0 ∙ ap (λ (x : List ℕ). get_or x 0 0) c.own.ensures) (omega arith)
