-- An absent list leaves the bytes as they were; a list is copied where it fits. Assumes nothing.
use native.Mathlib.Omega.{arith}
use mathlib.Core.Path.{◌≡◌, refl, ap, ◌∙◌}
use mathlib.Core.Option.{none, some}
use Rattle.std.specs.Prelude.{Err}
use Rattle.octets.proofs.Writes.{put_all}
use Rattle.tree.specs.Held.{held}
use Rattle.tree.specs.Calls.{list_bytes}
use Rattle.tree.proofs.Answered.{settle, absent-copied, copied_all, copied_none}
use Rattle.tree.proofs.give_list.Goals.{in-Some+else-out-list, in_default}
use Rattle.tree.proofs.give_list.Goals as goal

pub returns-then-out-list : goal.returns-then-out-list
unfolding list_bytes
returns-then-out-list c =
    let e : some c.in-Some.list.now ≡ held c.args.s.now = c.in-Some.ensures in
    rw (← e) (settle (copied_none _ c.in-Some.list.now _ c.if-out-list.true) (ap Err c.into.ensures) refl)

pub returns : goal.returns
unfolding list_bytes
returns c =
    let d = c.args.out.now in
    elim c.match-list_in.branch [
      | in-Some+else-out-list w ↦
          let e : some w.in-Some.list.now ≡ held c.args.s.now = w.in-Some.ensures in
          rw (← e) (settle (copied_all _ w.in-Some.list.now d (omega arith)) (c.told.ensures ∙ rw (← e) refl)
          (w.out-is ∙ w.put.ensures ∙ put_all _ d (omega arith)))
      | in_default w ↦
          let e : none ≡ held c.args.s.now = w.in_default.ensures in
          rw (← e) (settle (absent-copied d) (c.told.ensures ∙ rw (← e) refl) w.out-is)
    ]
