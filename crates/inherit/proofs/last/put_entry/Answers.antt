-- The head, then each part on the tail that is left (`tail-put`). Assumes nothing.
use native.Mathlib.Omega.{arith}
use mathlib.Core.Path.{◌≡◌, ap, ◌∙◌}
use mathlib.Core.List.{List, ◌++◌, append_assoc}
use Prim.Native.Nat.{ℕ, ◌+◌}
use lib.ListN.{length, length-append}
use Rattle.octets.specs.Bytes.{front}
use Rattle.list.specs.Entry.{EntryParts}
use Rattle.octets.proofs.Writes.{tail-put}
use Rattle.inherit.proofs.Lying.{head_part, length-head, head-then}
use Rattle.inherit.proofs.last.put_entry.Goals as goal

regroup : (a b c d : List ℕ) → a ++ b ++ c ++ d ≡ a ++ (b ++ (c ++ d))
regroup a b c d = simp append_assoc

pub returns : goal.returns
returns c =
    let a = c.args.p.now in
    let mid = a.middle.now in
    let sid = a.sid.now in
    let tail = a.tail.now in
    let d = c.args.out.now in
    let hd = head_part a.kind a.flags (8 + length mid + length sid + length tail) a.mask in
    let k : length hd ≡ 8 = length-head a.kind a.flags (8 + length mid + length sid + length tail) a.mask in
    let one = tail-put hd mid d c.put_head.new.out c.put.new.to 8 c.put_head.ensures c.put.ensures k (omega (arith, c.requires)) in
    let l1 = length-append hd mid in
    let two = tail-put (hd ++ mid) sid d _ c.put-2.new.to (8 + length mid) one c.put-2.ensures (omega arith) (omega (arith, c.requires)) in
    let l2 = length-append (hd ++ mid) sid in
    let three = tail-put (hd ++ mid ++ sid) tail d _ c.put-3.new.to (8 + length mid + length sid) two c.put-3.ensures
    (omega arith) (omega (arith, c.requires)) in
    let p : EntryParts = record { kind = a.kind; flags = a.flags; mask = a.mask; middle = mid; sid = sid; tail = tail } in
    let e = regroup hd mid sid tail ∙ head-then p (8 + length mid + length sid + length tail) (omega arith) in
    (omega arith, three ∙ ap (λ (z : List ℕ). front z d) e)
