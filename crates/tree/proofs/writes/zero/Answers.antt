-- Zeros in the place of the bytes there. Assumes nothing.
use native.Mathlib.Omega.{arith}
use mathlib.Core.Path.{◌≡◌, ap, ◌∙◌}
use Prim.Native.Nat.{ℕ, ◌+◌, ◌-◌}
use lib.ListN.{length, take, drop, replicate, length-take, length-drop, length-replicate}
use Rattle.tree.proofs.Lays.{laid-at}
use Rattle.tree.proofs.writes.zero.Goals as goal

pub returns : goal.returns
returns c =
    let a = c.args in
    let k : length (take (a.at + a.n - a.at) (drop a.at a.w.now)) ≡ a.n = simp (length-take, length-drop) (omega arith) in
    laid-at a.at a.n (replicate a.n 0) a.w.now _ (length-replicate a.n 0) (c.fill.ensures.after (λ y e. e) ∙ ap (λ (j : ℕ). replicate j 0) k)
