-- What a change alters in own data: what was set shows, the rest is as it was, and good own data stays good.
use mathlib.Core.Path.{◌≡◌, refl, sym, ap, ◌∙◌}
use mathlib.Core.Bool.{Bool, true}
use mathlib.Core.List.{List, [], ◌∷◌, ◌++◌}
use Prim.Native.Nat.{ℕ, ◌+◌, ◌≤◌}
use native.Mathlib.Omega.{arith}
use lib.ListN.{length, get_or, length-append}
use lib.Seq.{get_or-set_same}
use Rattle.list.specs.List.{MaybeList}
use Rattle.octets.specs.Bytes.{part, put_at}
use Rattle.octets.proofs.Places.{length-put, part-put-same, part-put-before, part-put-after, part-put-in, put_one, byte-same}
use Rattle.octets.proofs.Tests.{both_true}
use Rattle.inherit.specs.Compute.{ordinary}
use Rattle.tree.specs.Model.{short_if}
use Rattle.tree.specs.Held.{slot_for, id_for, parent_byte_in, kind_byte, mark_byte, type_of, owner_of, group_of, own_slot, own_list, block_ok, yes}
use Rattle.tree.specs.Calls.{Edit, list, mark, owners, edit_at, edit_bytes}
use Rattle.tree.proofs.Replay.{reads, fine}
use Rattle.tree.proofs.Applied.{Alike}
use Rattle.tree.proofs.Lays.{length-slot}
use Rattle.tree.proofs.Slots.{held-slot, slot-good, id-length, id-held, id-good}
use Rattle.tree.proofs.Blocks.{part-all, part-first, part-past, type-part, Laid, Shows, block-sound, laid-good, laid_shows, yes-bit}

-- the altered bytes lie in own data
pub edit-fits : (e : Edit) → fine e ≡ true → length (edit_bytes e) + edit_at e ≤ 1184
unfolding edit_at edit_bytes fine
edit-fits (list o) h =
    let w = length-slot o (both_true (reads o) (short_if o) h).1 in
    omega arith
edit-fits (mark m) h = omega arith
edit-fits (owners o g) h =
    let f = both_true (ordinary o) (ordinary g) h in
    let lo = id-length o f.0 in
    let lg = id-length g f.1 in
    simp length-append (omega arith)

abbrev pub edited : Edit → List ℕ → List ℕ
edited e b = put_at (edit_at e) (edit_bytes e) b

module _ (b : List ℕ) (n : length b ≡ 1184) where
  -- the three changes
  list-laid : (o : MaybeList) → short_if o ≡ true → Laid (edited (list o) b) (parent_byte_in b) (kind_byte b) (mark_byte b) (type_of b) (part 19 69 b) (part 88 69 b) (slot_for o)
  unfolding edit_at edit_bytes
  list-laid o h =
      let x = slot_for o in
      let w : length x ≡ 1027 = length-slot o h in
      let c = put_at 157 x b in
      let l : length c ≡ 1184 = length-put 157 x b (omega arith) ∙ n in
      let before : (a k : ℕ) → a + k ≤ 157 → part a k c ≡ part a k b = λ a k i. part-put-before a k 157 x b i (omega arith) in
      record {
        long = l;
        parent = byte-same 0 c b (before 0 1 (omega arith));
        kind = byte-same 1 c b (before 1 1 (omega arith));
        mark = byte-same 2 c b (before 2 1 (omega arith));
        type = type-part c (omega arith) ∙ before 3 16 (omega arith) ∙ sym (type-part b (omega arith));
        owner = before 19 69 (omega arith);
        group = before 88 69 (omega arith);
        slot = part-put-same 157 1027 x b w (omega arith);
      }

  mark-laid : (m : Bool) → Laid (edited (mark m) b) (parent_byte_in b) (kind_byte b) (yes m) (type_of b) (part 19 69 b) (part 88 69 b) (own_slot b)
  unfolding edit_at edit_bytes
  mark-laid m =
      let x = yes m ∷ [] in
      let w : length x ≡ 1 = refl in
      let c = put_at 2 x b in
      let l : length c ≡ 1184 = length-put 2 x b (omega arith) ∙ n in
      let after : (a k : ℕ) → 3 ≤ a → part a k c ≡ part a k b = λ a k i. part-put-after a k 2 x b (omega arith) (omega arith) in
      record {
        long = l;
        parent = byte-same 0 c b (part-put-before 0 1 2 x b (omega arith) (omega arith));
        kind = byte-same 1 c b (part-put-before 1 1 2 x b (omega arith) (omega arith));
        mark = ap (λ (u : List ℕ). get_or u 2 0) (put_one 2 (yes m) b (omega arith)) ∙ get_or-set_same b 2 (yes m) 0 (omega arith);
        type = type-part c (omega arith) ∙ after 3 16 (omega arith) ∙ sym (type-part b (omega arith));
        owner = after 19 69 (omega arith);
        group = after 88 69 (omega arith);
        slot = after 157 1027 (omega arith);
      }

  owners-laid : (o g : List ℕ) → ordinary o ≡ true → ordinary g ≡ true
      → Laid (edited (owners o g) b) (parent_byte_in b) (kind_byte b) (mark_byte b) (type_of b) (id_for o) (id_for g) (own_slot b)
  unfolding edit_at edit_bytes
  owners-laid o g ho hg =
      let lo = id-length o ho in
      let lg = id-length g hg in
      let x = id_for o ++ id_for g in
      let w : length x ≡ 138 = simp length-append (omega arith) in
      let c = put_at 19 x b in
      let l : length c ≡ 1184 = length-put 19 x b (omega arith) ∙ n in
      let before : (a k : ℕ) → a + k ≤ 19 → part a k c ≡ part a k b = λ a k i. part-put-before a k 19 x b i (omega arith) in
      record {
        long = l;
        parent = byte-same 0 c b (before 0 1 (omega arith));
        kind = byte-same 1 c b (before 1 1 (omega arith));
        mark = byte-same 2 c b (before 2 1 (omega arith));
        type = type-part c (omega arith) ∙ before 3 16 (omega arith) ∙ sym (type-part b (omega arith));
        owner = part-put-in 19 0 69 x b (omega arith) (omega arith) ∙ part-first 69 (id_for o) (id_for g) lo;
        group = part-put-in 19 69 69 x b (omega arith) (omega arith) ∙ part-past 69 0 69 (id_for o) (id_for g) lo ∙ part-all 69 (id_for g) lg;
        slot = part-put-after 157 1027 19 x b (omega arith) (omega arith);
      }

  -- what they set, and what they leave
  pub list-shows : (o : MaybeList) → short_if o ≡ true
      → Shows (edited (list o) b) (parent_byte_in b) (kind_byte b) (mark_byte b) (type_of b) (owner_of b) (group_of b) o
  list-shows o h = laid_shows (list-laid o h) refl refl (held-slot o h)

  pub mark-shows : (m : Bool) → Shows (edited (mark m) b) (parent_byte_in b) (kind_byte b) (yes m) (type_of b) (owner_of b) (group_of b) (own_list b)
  mark-shows m = laid_shows (mark-laid m) refl refl refl

  pub owners-shows : (o g : List ℕ) → ordinary o ≡ true → ordinary g ≡ true
      → Shows (edited (owners o g) b) (parent_byte_in b) (kind_byte b) (mark_byte b) (type_of b) o g (own_list b)
  owners-shows o g ho hg = laid_shows (owners-laid o g ho hg) (id-held o ho) (id-held g hg) refl

  -- any of them
  pub edit-keeps : (e : Edit) → fine e ≡ true → Alike (edited e b) b
  unfolding fine
  edit-keeps (list o) h =
      let x = list-laid o (both_true (reads o) (short_if o) h).1 in
      record { parent = x.parent; kind = x.kind; type = x.type }
  edit-keeps (mark m) h =
      let x = mark-laid m in
      record { parent = x.parent; kind = x.kind; type = x.type }
  edit-keeps (owners o g) h =
      let f = both_true (ordinary o) (ordinary g) h in
      let x = owners-laid o g f.0 f.1 in
      record { parent = x.parent; kind = x.kind; type = x.type }

  pub edit-good : (e : Edit) → fine e ≡ true → block_ok b ≡ true → block_ok (edited e b) ≡ true
  unfolding fine
  edit-good (list o) h k =
      let s = block-sound b k in
      let f = both_true (reads o) (short_if o) h in
      laid-good (list-laid o f.1) s.kind s.mark s.owner s.group (slot-good o f.1 f.0)
  edit-good (mark m) h k =
      let s = block-sound b k in
      laid-good (mark-laid m) s.kind (yes-bit m) s.owner s.group s.slot
  edit-good (owners o g) h k =
      let s = block-sound b k in
      let f = both_true (ordinary o) (ordinary g) h in
      laid-good (owners-laid o g f.0 f.1) s.kind s.mark (id-good o f.0) (id-good g f.1) s.slot
