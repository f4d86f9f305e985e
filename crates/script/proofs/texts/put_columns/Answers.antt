-- The four writes one after another. Assumes nothing.
use native.Mathlib.Omega.{arith}
use Rattle.script.proofs.Laid.{lays, lays-then}
use Rattle.script.proofs.Listings.{columns-some}
use Rattle.script.proofs.texts.put_columns.Goals as goal

pub returns : goal.returns
returns c =
    let a = c.args in
    let p = c.put_decimal-a.ensures in
    let q = c.put_bytes-b.ensures in
    let r = c.put_decimal-c.ensures in
    let e = c.put_bytes-2.ensures in
    let l = lays-then (lays-then (lays _ _ _ _ _ p.0 p.1.1) (lays-then (lays _ _ _ _ _ q.0 q.1) (lays _ _ _ _ _ r.0 r.1.1)))
    (lays _ _ _ _ _ e.0 e.1) in
    rw (columns-some a.list.length a.list.count a.list.present c.if-not-list.false) (l.ends, (omega arith, l.text))
