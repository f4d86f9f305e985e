-- The tree's call, with the list that the flag says; its answer in the eight places. Assumes nothing.
use Rattle.std.proofs.Common.{◌≡◌, ap, ◌∙◌}
use mathlib.Core.Path.{subst}
use Rattle.list.specs.List.{MaybeList, lent}
use Rattle.inherit.specs.Asked.{lent_list}
use Rattle.tree.specs.Calls.{list as to_list, Promised, alter_to}
use Rattle.tree.proofs.Lent.{lent-then}
use Rattle.capi.specs.Places.{places_of, yes_of}
use Rattle.capi.proofs.pt_set_list.Goals as goal

pub returns : goal.returns
returns c =
    let a = c.args in
    let e : lent_list c.then_some.result ≡ lent (yes_of a.given) a.list.now = ap lent_list c.then_some.ensures ∙ lent-then _ _ in
    let s = subst (λ (l : MaybeList). Promised (alter_to a.object (to_list l) a.room.now) c.set_list.result c.set_list.new.room) e c.set_list.ensures in
    record { answer = c.put_answer.ensures ∙ ap places_of s.answer.values; room = s.bytes }
