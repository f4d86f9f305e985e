-- The head and all behind it, or the parts as the code cuts them, put together. Assumes nothing.
use native.Mathlib.Omega.{arith}
use mathlib.Core.Bool.{not}
use mathlib.Core.Path.{◌≡◌, sym, ap, ◌∙◌}
use mathlib.Core.List.{List}
use Prim.Native.Nat.{ℕ, ◌+◌, ◌-◌}
use lib.ListN.{length, take, drop}
use Rattle.octets.specs.Bytes.{front}
use Rattle.list.specs.Entry.{EntryParts, entry_bytes}
use Rattle.octets.proofs.Writes.{tail-put}
use Rattle.list.specs.declared.looks.Look.{Look}
use Rattle.inherit.specs.Last.{last_mask}
use Rattle.inherit.specs.Inner.Rules.{number_by}
use Rattle.inherit.specs.Inner.Emit.{copy_parts, copy_of}
use Rattle.inherit.proofs.Lying.{head_part, length-head, keeps, lies}
use Rattle.inherit.proofs.passes.put_copy.Goals as goal

abbrev long : EntryParts → ℕ
long p = 8 + (length p.middle + (length p.sid + length p.tail))

pub returns-then-is_none : goal.returns-then-is_none
unfolding copy_of
returns-then-is_none c =
    let a = c.args in
    let k = keeps a.entry.now a.terms.now _ c.look-look.ensures _ c.placeholder_at.ensures (c.is_none.ensures ∙ ap not c.if-is_none.true) in
    let e = c.look-look.result in
    let mask = c.last_mask-mask.result in
    let h = head_part e.kind a.flags e.size mask in
    let l : length h ≡ 8 = length-head e.kind a.flags e.size mask in
    let rest = take (e.size - 8) (drop 8 a.entry.now.bytes.now) in
    let w = tail-put h rest a.out.now c.put_head.new.out c.put.new.to 8 c.put_head.ensures c.put.ensures l (omega (arith, c.requires, k)) in
    let m = c.last_mask-mask.ensures ∙ ap (λ (x : Look). last_mask (number_by a.terms.now.rule) a.terms.now.mapping x.mask) c.look-look.ensures in
    (sym k.long, w ∙ ap (λ (x : List ℕ). front x a.out.now) (k.bytes a.flags mask ∙ ap (λ (n : ℕ). entry_bytes (copy_parts a.flags n a.entry.now.bytes.now a.terms.now.owner.now a.terms.now.group.now)) m))

pub overflow_add-end : goal.overflow_add-end
overflow_add-end c = let l = lies c.args.entry.now c.args.terms.now _ c.look-look.ensures _ c.sid_len_in.ensures in omega (arith, l)

pub slice_bounds-in_place-end : goal.slice_bounds-in_place-end
slice_bounds-in_place-end c = let l = lies c.args.entry.now c.args.terms.now _ c.look-look.ensures _ c.sid_len_in.ensures in omega (arith, l)

pub slice_bounds-parted-count : goal.slice_bounds-parted-count
slice_bounds-parted-count c = (lies c.args.entry.now c.args.terms.now _ c.look-look.ensures _ c.sid_len_in.ensures).eight

pub slice_bounds-parted-start : goal.slice_bounds-parted-start
slice_bounds-parted-start c = let l = lies c.args.entry.now c.args.terms.now _ c.look-look.ensures _ c.sid_len_in.ensures in omega (arith, l)

pub slice_bounds-parted-end : goal.slice_bounds-parted-end
slice_bounds-parted-end c = let l = lies c.args.entry.now c.args.terms.now _ c.look-look.ensures _ c.sid_len_in.ensures in omega (arith, l)

pub slice_bounds-parted-count-2 : goal.slice_bounds-parted-count-2
slice_bounds-parted-count-2 c = (lies c.args.entry.now c.args.terms.now _ c.look-look.ensures _ c.sid_len_in.ensures).within

pub put_entry-requires : goal.put_entry-requires
put_entry-requires c =
    let a = c.args in
    let l = lies a.entry.now a.terms.now _ c.look-look.ensures _ c.sid_len_in.ensures in
    omega (arith, c.requires, ap long (l.parts a.flags c.last_mask-mask.result _ (c.in_place.ensures ∙ l.sid)))

pub returns : goal.returns
unfolding copy_of
returns c =
    let a = c.args in
    let l = lies a.entry.now a.terms.now _ c.look-look.ensures _ c.sid_len_in.ensures in
    let m = c.last_mask-mask.ensures ∙ ap (λ (x : Look). last_mask (number_by a.terms.now.rule) a.terms.now.mapping x.mask) c.look-look.ensures in
    let p = l.parts a.flags c.last_mask-mask.result _ (c.in_place.ensures ∙ l.sid)
    ∙ ap (λ (n : ℕ). copy_parts a.flags n a.entry.now.bytes.now a.terms.now.owner.now a.terms.now.group.now) m in
    let w = c.put_entry.ensures in
    (w.0 ∙ ap long p, w.1 ∙ ap (λ (x : EntryParts). front (entry_bytes x) a.out.now) p)
