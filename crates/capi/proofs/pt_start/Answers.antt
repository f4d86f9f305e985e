-- The tree's call, with the masks that the mapping holds and the list that the flag says; its answer in the eight places. Assumes nothing.
use Rattle.std.proofs.Common.{◌≡◌, ap, ◌∙◌}
use mathlib.Core.Path.{subst}
use Rattle.list.specs.List.{MaybeList, lent}
use Rattle.inherit.specs.Asked.{lent_list}
use Rattle.inherit.specs.declared.Mapping.{Mapping}
use Rattle.tree.specs.Model.{Settings}
use Rattle.tree.specs.Calls.{Promised, start_to}
use Rattle.tree.proofs.Lent.{lent-then}
use Rattle.capi.specs.Places.{places_of, yes_of}
use Rattle.capi.proofs.pt_start.Goals as goal

pub returns : goal.returns
returns c =
    let a = c.args in
    let asked : Mapping → MaybeList → Settings =
    λ m l. record { object-limit = a.objects; step-limit = a.steps; rule = a.rule; mapping = m; default = l } in
    let e : lent_list c.then_some-default.result ≡ lent (yes_of a.given) a.default.now = ap lent_list c.then_some-default.ensures ∙ lent-then _ _ in
    let d = subst (λ (l : MaybeList). Promised (start_to (asked c.mapping_of-m.result l) a.room.now) c.start.result c.start.new.room) e c.start.ensures in
    let s = subst (λ (m : Mapping). Promised (start_to (asked m (lent (yes_of a.given) a.default.now)) a.room.now) c.start.result c.start.new.room) c.mapping_of-m.ensures d in
    record { answer = c.put_answer.ensures ∙ ap places_of s.answer.values; room = s.bytes }
