-- Two bytes, two numbers and two zeros. Assumes nothing.
use mathlib.Core.Path.{ap, ◌∙◌}
use mathlib.Core.List.{List}
use Prim.Native.Nat.{ℕ}
use lib.ListN.{take}
use Rattle.list.specs.List.{head_bytes}
use Rattle.inherit.proofs.Heads.{low-two, size-count}
use Rattle.inherit.proofs.whole.put_header.Goals as goal

pub returns : goal.returns
unfolding head_bytes
returns c =
    let a = c.args in
    size-count a.rev 0 a.size a.count _ _ a.out.now c.requires
    (c.copy_from_slice.ensures.after ∙ ap (λ (x : List ℕ). take 2 x) c.to_le_bytes.ensures ∙ low-two a.size)
    (c.copy_from_slice-2.ensures.after ∙ ap (λ (x : List ℕ). take 2 x) c.to_le_bytes-2.ensures ∙ low-two a.count)
    _ c.copy_from_slice-3.ensures.after
