-- The heading, and then the loop's lines: the first i of them stand behind it. Assumes nothing.
use native.Mathlib.Omega.{arith}
use mathlib.Core.Path.{sym, ◌∙◌}
use Rattle.script.proofs.Laid.{lays, lays-then}
use Rattle.script.proofs.Listings.{lists_length, lists_at, objects-most, lined-none, lined-more, lined-all}
use Rattle.script.proofs.texts.lay_listing.Goals as goal

pub loop-i-init : goal.loop-i-init
loop-i-init c = lined-none _ _ _

pub put_line-at-requires : goal.put_line-at-requires
put_line-at-requires c =
    (omega (arith, c.loop-i.invariant.most, objects-most _ c.requires.0), (c.requires.0, omega arith))

pub loop-i-preserved : goal.loop-i-preserved
loop-i-preserved c =
    let p = c.put_line-at.ensures in
    lined-more c.loop-i.invariant (lists_at c.args.room.now c.loop-i.i (omega arith)) p.1.0 (lays _ _ _ _ _ p.0 p.1.1)

pub returns : goal.returns
returns c =
    let p = c.put_bytes-a.ensures in
    let q = c.put_decimal-b.ensures in
    let e = c.put_bytes-at.ensures in
    let h = lays-then (lays _ _ _ _ _ p.0 p.1) (lays-then (lays _ _ _ _ _ q.0 q.1.1) (lays _ _ _ _ _ e.0 e.1)) in
    let f = lined-all (c.requires.1 ∙ sym (lists_length c.args.room.now)) (omega arith) h c.loop-i.invariant in
    (f.0, (omega (arith, c.loop-i.invariant.most, objects-most _ c.requires.0), f.1))
