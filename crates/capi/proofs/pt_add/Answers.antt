-- The tree's call, with the traits and the list that the bits name; its answer in the eight places. Assumes nothing.
use Rattle.std.proofs.Common.{◌≡◌, ℕ, Bool, List, ap, refl, ◌∙◌}
use mathlib.Core.Path.{subst}
use Rattle.list.specs.List.{MaybeList, lent}
use Rattle.octets.specs.Bytes.{has}
use Rattle.inherit.specs.Asked.{lent_list}
use Rattle.tree.specs.Calls.{New, Promised, object_for, add_to}
use Rattle.tree.proofs.Lent.{lent-then}
use Rattle.capi.specs.Places.{places_of, new_of}
use Rattle.capi.proofs.pt_add.Goals as goal

new-found : (p t : ℕ) (x y : Bool) (k o g l : List ℕ) (m : MaybeList) → x ≡ has 1 t → y ≡ has 2 t → m ≡ lent (has 4 t) l
    → ◌≡◌ {A = New} (record { parent = p; container = x; mark = y; type = k; owner = o; group = g; list = m }) (new_of p t k o g l)
new-found p t x y k o g l m ex ey em = rw (ex, ey, em) refl

pub returns : goal.returns
returns c =
    let a = c.args in
    let m : lent_list c.then_some.result ≡ lent (has 4 a.traits) a.list.now =
    ap lent_list c.then_some.ensures ∙ (lent-then _ _ ∙ ap (λ (b : Bool). lent b a.list.now) c.has-3.ensures) in
    let e = new-found a.parent a.traits _ _ a.kind.now a.owner.now a.group.now a.list.now _ c.has.ensures c.has-2.ensures m in
    let s = subst (λ (n : New). Promised (add_to (object_for n) a.room.now) c.add.result c.add.new.room) e c.add.ensures in
    record { answer = c.put_answer.ensures ∙ ap places_of s.answer.values; room = s.bytes }
