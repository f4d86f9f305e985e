-- Two bytes, then two numbers. Assumes nothing.
use mathlib.Core.Path.{ap, ◌∙◌}
use mathlib.Core.List.{List}
use Prim.Native.Nat.{ℕ}
use lib.ListN.{take}
use Rattle.inherit.proofs.Heads.{low-two, low-four, size-mask}
use Rattle.inherit.proofs.last.put_head.Goals as goal

pub returns : goal.returns
returns c =
    let a = c.args in
    size-mask a.kind a.flags a.size a.mask _ _ a.out.now c.requires
    (c.copy_from_slice.ensures.after ∙ ap (λ (x : List ℕ). take 2 x) c.to_le_bytes.ensures ∙ low-two a.size)
    (c.copy_from_slice-2.ensures.after ∙ c.to_le_bytes-2.ensures ∙ low-four a.mask)
