-- A step kept, then the change settled on what that left. Assumes nothing.
use mathlib.Core.Path.{subst, ap, ◌∙◌}
use mathlib.Core.List.{List, ◌∷◌}
use Prim.Native.Nat.{ℕ, ◌+◌}
use Rattle.tree.specs.Room.{own_at, own_data, area}
use Rattle.tree.specs.Calls.{changed, reworked_with, step_kept}
use Rattle.tree.proofs.Works.{Gives}
use Rattle.tree.proofs.changes.change_copy.Goals as goal

pub returns : goal.returns
unfolding changed
returns c =
    let a = c.args in
    let p = a.p in
    let w = area a.r.now in
    let kept = c.push.ensures ∙ ap (λ (t : ℕ). step_kept (t ∷ p.object ∷ own_data p.object w) w) c.byte.ensures in
    subst (λ (x : List ℕ). Gives c.settle.result (reworked_with (own_at p.object + p.place) p.bytes.now p.standing x) c.settle.new.w) kept c.settle.ensures
