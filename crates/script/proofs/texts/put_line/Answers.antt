-- The three writes one after another; the tree answers with the list of an object that stands. Assumes nothing.
use native.Mathlib.Omega.{arith}
use mathlib.Core.Path.{refl, sym, ◌∙◌}
use Rattle.tree.proofs.Numbers.{said-is}
use Rattle.tree.specs.Held.{held}
use Rattle.tree.specs.Room.{slot}
use Rattle.script.proofs.Laid.{lays, lays-then}
use Rattle.script.proofs.Listings.{objects-most, list-told, told-ok, line-told}
use Rattle.script.proofs.texts.put_line.Goals as goal

pub overflow_cast-i : goal.overflow_cast-i
overflow_cast-i c =
    omega (arith, objects-most _ c.requires.1.0)

pub unwrap-list-requires : goal.unwrap-list-requires
unwrap-list-requires c =
    let a = c.args in
    told-ok (held (slot a.i a.room.now)) (sym (list-told a.i a.room.now _ c.requires.1.0 c.requires.1.1 refl) ∙ sym (said-is _ _ c.list_of.ensures.answer))

pub returns : goal.returns
returns c =
    let a = c.args in
    let p = c.put_decimal-a.ensures in
    let q = c.put_bytes-b.ensures in
    let e = c.put_columns.ensures in
    let told = sym (list-told a.i a.room.now _ c.requires.1.0 c.requires.1.1 refl) ∙ sym (said-is _ _ c.list_of.ensures.answer) ∙ c.unwrap-list.ensures in
    let l = line-told a.i (held (slot a.i a.room.now)) told
    (lays-then (lays _ _ _ _ _ p.0 p.1.1) (lays-then (lays _ _ _ _ _ q.0 q.1) (lays _ _ _ _ _ e.0 e.1.1))) in
    (l.ends, (omega arith, l.text))
