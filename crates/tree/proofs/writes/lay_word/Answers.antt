-- The four bytes of the number. Assumes nothing.
use mathlib.Core.Path.{ap, ◌∙◌}
use mathlib.Core.List.{List}
use Prim.Native.Nat.{ℕ}
use Rattle.octets.specs.Bytes.{put_at}
use Rattle.tree.proofs.Lays.{word-spelt}
use Rattle.tree.proofs.writes.lay_word.Goals as goal

pub returns : goal.returns
returns c =
    let a = c.args in
    c.lay.ensures ∙ ap (λ (b : List ℕ). put_at a.at b a.w.now) (c.to_le_bytes.ensures ∙ word-spelt a.m)
