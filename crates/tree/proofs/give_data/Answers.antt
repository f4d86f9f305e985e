-- The pieces one behind the other, where there is room for them. Assumes nothing.
use native.Mathlib.Omega.{arith}
use mathlib.Core.Path.{◌≡◌, refl, ap, ◌∙◌}
use mathlib.Core.Bool.{true}
use Prim.Native.Nat.{ℕ, ◌≤◌}
use Rattle.std.specs.Prelude.{Err}
use lib.ListN.{length}
use Rattle.octets.proofs.Places.{part-most}
use Rattle.tree.specs.Held.{id_in, owner_of, group_of}
use Rattle.tree.specs.Calls.{Answer, tells, data_of}
use Rattle.tree.proofs.Answered.{settle, copied_all, copied_none, id-most, data-length, data-laid}
use Rattle.tree.proofs.give_data.Tie as tie
use Rattle.tree.proofs.give_data.Lts as lts
use Rattle.tree.proofs.give_data.Reads as lts-reads
use Rattle.tree.proofs.give_data.Goals as goal

abbrev After-id_in : Type 0
After-id_in = lts.After-id_in tie.the-claims lts-reads.Pre lts-reads.Post

abbrev After-id_in2 : Type 0
After-id_in2 = lts.After-id_in2 tie.the-claims lts-reads.Pre lts-reads.Post

owner-is : (c : After-id_in) → c.id_in-owner.result.now ≡ owner_of c.args.b.now
owner-is c = c.id_in-owner.ensures ∙ ap id_in c.part_of.ensures

group-is : (c : After-id_in2) → c.id_in-group.result.now ≡ group_of c.args.b.now
group-is c = c.id_in-group.ensures ∙ ap id_in c.part_of-2.ensures

owner-few : (c : After-id_in) → length c.id_in-owner.result.now ≤ 68
owner-few c = rw c.id_in-owner.ensures (id-most _)

group-few : (c : After-id_in2) → length c.id_in-group.result.now ≤ 68
group-few c = rw c.id_in-group.ensures (id-most _)

pub overflow_add-n-2 : goal.overflow_add-n-2
overflow_add-n-2 c = omega (arith, owner-few c.before.before.before, group-few c.before)

pub returns-then-out-n : goal.returns-then-out-n
returns-then-out-n c =
    let l = data-length c.args.b.now _ _ _ c.requires refl (owner-is c.before.before.before.before.before) (group-is c.before.before.before) in
    settle (copied_none _ (data_of c.args.b.now) _ (omega arith)) (ap Err c.into.ensures) refl

pub lay-requires : goal.lay-requires
lay-requires c =
    let a = c.args in
    omega (arith, ap length c.part_of-3.ensures, part-most 0 19 a.b.now)

pub overflow_cast-out : goal.overflow_cast-out
overflow_cast-out c = omega (arith, owner-few c.before.before.before.before.before.before.before.before.before)

pub overflow_cast-out-2 : goal.overflow_cast-out-2
overflow_cast-out-2 c = omega (arith, group-few c.before.before.before.before.before.before.before.before.before.before.before)

pub overflow_cast-result : goal.overflow_cast-result
overflow_cast-result c =
    let at_12 = c.before.before.before.before.before.before.before.before.before.before.before.before in
    let at_15 = at_12.before.before.before in
    let at_17 = at_15.before.before in
    omega (arith, owner-few at_17, group-few at_15)

pub returns : goal.returns
returns c =
    let at_12 = c.before.before.before.before.before.before.before.before.before.before.before.before in
    let at_15 = at_12.before.before.before in
    let at_17 = at_15.before.before in
    let p = c.part_of-3.ensures in
    let eg = group-is at_15 in
    let eo = owner-is at_17 in
    let l = data-length c.args.b.now _ _ _ c.requires p eo eg in
    settle (copied_all _ (data_of c.args.b.now) _ (omega arith)) (ap {B = Answer} (λ (n : ℕ). tells n true 0) l)
    (data-laid c.args.b.now _ _ _ c.requires p eo eg c.args.out.now _ _ _ (omega arith)
    c.lay.ensures c.lay-2.ensures c.lay-3.ensures)
