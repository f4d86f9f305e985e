-- A byte, the length, the list, and zeros up to the end of the slot. Assumes nothing.
use native.Mathlib.Omega.{arith}
use mathlib.Core.Path.{ap, ◌∙◌}
use mathlib.Core.List.{List}
use Prim.Native.Nat.{ℕ, ◌+◌}
use lib.ListN.{set}
use Rattle.octets.specs.Bytes.{put_at}
use Rattle.tree.proofs.Lays.{half-spelt, slot-laid}
use Rattle.tree.proofs.writes.lay_list.Goals as goal

pub returns : goal.returns
returns c =
    let a = c.args in
    let n = c.to_le_bytes.ensures ∙ half-spelt _ in
    c.zero.ensures ∙ slot-laid a.at a.s.now a.w.now _ _ (omega arith) (omega arith) (c.lay.ensures ∙ ap (λ (b : List ℕ). put_at (a.at + 1) b (set a.w.now a.at 1)) n) c.lay-2.ensures
