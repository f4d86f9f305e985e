-- What own data of an object shows, and when it is good: that of a new object shows what the object was given.
use mathlib.Core.Path.{◌≡◌, refl, ap, ◌∙◌}
use mathlib.Core.Bool.{Bool, true, false, cond}
use mathlib.Core.List.{List, [], ◌∷◌, ◌++◌}
use Prim.Native.Nat.{ℕ, ◌+◌, ◌≤◌}
use native.Mathlib.Omega.{arith}
use lib.ListN.{length, take, drop, replicate, length-append, length-replicate, length-drop}
use lib.Seq.{take_at, take_all, drop-append-add, length-take-le}
use lib.Dec.{leb}
use borrow.Author.Tests.{leb-true, le-leb}
use Rattle.list.specs.List.{MaybeList}
use Rattle.octets.specs.Bytes.{part, guid_at}
use Rattle.octets.proofs.Tests.{both_true}
use Rattle.inherit.specs.Compute.{ordinary}
use Rattle.tree.specs.Model.{Object, parent_byte, short_if}
use Rattle.tree.specs.Held.{held, slot_for, slot_ok, id_in, id_for, id_ok, parent_byte_in, kind_byte, mark_byte, type_of, owner_of, group_of, own_slot, own_list}
use Rattle.tree.specs.Held.{block_ok, yes, block_for}
use Rattle.tree.proofs.Replay.{reads}
use Rattle.tree.proofs.Lays.{length-slot}
use Rattle.tree.proofs.Slots.{held-slot, slot-good, id-length, id-held, id-good}

-- ---- parts of bytes one after the other

pub part-all : (n : ℕ) (p : List ℕ) → length p ≡ n → part 0 n p ≡ p
unfolding part
part-all n p e = take_all n p (omega arith)

pub part-first : (n : ℕ) (p q : List ℕ) → length p ≡ n → part 0 n (p ++ q) ≡ p
unfolding part
part-first n p q e = take_at p q n e

pub part-past : (k a n : ℕ) (p q : List ℕ) → length p ≡ k → part (k + a) n (p ++ q) ≡ part a n q
unfolding part
part-past k a n p q e = rw (← e) (ap (take n) (drop-append-add p q a))

pub type-part : (b : List ℕ) → 19 ≤ length b → type_of b ≡ part 3 16 b
unfolding guid_at part
type-part b h = rw (le-leb 19 (length b) h)

-- ---- own data

-- b's seven fields as they lie in it
pub record Laid (b : List ℕ) (p k m : ℕ) (t o g s : List ℕ) : Type 0 where
  pub long : length b ≡ 1184
  pub parent : parent_byte_in b ≡ p
  pub kind : kind_byte b ≡ k
  pub mark : mark_byte b ≡ m
  pub type : type_of b ≡ t
  pub owner : part 19 69 b ≡ o
  pub group : part 88 69 b ≡ g
  pub slot : own_slot b ≡ s

-- and what they say
pub record Shows (b : List ℕ) (p k m : ℕ) (t o g : List ℕ) (l : MaybeList) : Type 0 where
  pub long : length b ≡ 1184
  pub parent : parent_byte_in b ≡ p
  pub kind : kind_byte b ≡ k
  pub mark : mark_byte b ≡ m
  pub type : type_of b ≡ t
  pub owner : owner_of b ≡ o
  pub group : group_of b ≡ g
  pub list : own_list b ≡ l

-- good by itself, test by test
pub record Sound (b : List ℕ) : Type 0 where
  pub kind : leb (kind_byte b) 1 ≡ true
  pub mark : leb (mark_byte b) 1 ≡ true
  pub owner : id_ok (part 19 69 b) ≡ true
  pub group : id_ok (part 88 69 b) ≡ true
  pub slot : slot_ok (own_slot b) ≡ true

pub block-sound : (b : List ℕ) → block_ok b ≡ true → Sound b
unfolding block_ok
block-sound b h =
    let u = both_true _ _ h in
    let v = both_true _ _ u.1 in
    let w = both_true _ _ v.1 in
    let x = both_true _ _ w.1 in
    record { kind = u.0; mark = v.0; owner = w.0; group = x.0; slot = x.1 }

module _ {b : List ℕ} {p k m : ℕ} {t o g s : List ℕ} (x : Laid b p k m t o g s) where
  pub laid-good : leb k 1 ≡ true → leb m 1 ≡ true → id_ok o ≡ true → id_ok g ≡ true → slot_ok s ≡ true → block_ok b ≡ true
  unfolding block_ok
  laid-good hk hm ho hg hs = rw (x.kind, x.mark, x.owner, x.group, x.slot, hk, hm, ho, hg) hs

  pub laid_shows : {o₁ g₁ : List ℕ} {l : MaybeList} → id_in o ≡ o₁ → id_in g ≡ g₁ → held s ≡ l → Shows b p k m t o₁ g₁ l
  laid_shows ho hg hs =
      record {
        long = x.long;
        parent = x.parent;
        kind = x.kind;
        mark = x.mark;
        type = x.type;
        owner = ap id_in x.owner ∙ ho;
        group = ap id_in x.group ∙ hg;
        list = ap held x.slot ∙ hs;
      }

pub yes-bit : (b : Bool) → leb (yes b) 1 ≡ true
yes-bit true = refl
yes-bit false = refl

-- ---- a new object

pub length-guid : (s : List ℕ) (at : ℕ) → length (guid_at s at) ≡ 16
unfolding guid_at
length-guid s at = by (leb (at + 16) (length s)) refl
  where
    by : (b : Bool) → leb (at + 16) (length s) ≡ b → length (cond b (take 16 (drop at s)) (replicate 16 0)) ≡ 16
    by true e = length-take-le 16 (drop at s) (rw length-drop (omega (arith, leb-true (at + 16) (length s) e)))
    by false e = length-replicate {A = ℕ} 16 0

module _ (x : Object) (t : length x.type ≡ 16) (o : ordinary x.owner ≡ true) (g : ordinary x.group ≡ true) (s : short_if x.list ≡ true) where
  new-laid : Laid (block_for x) (parent_byte x.parent) (yes x.container) (yes x.mark) x.type (id_for x.owner) (id_for x.group) (slot_for x.list)
  unfolding block_for
  new-laid =
      let lo = id-length x.owner o in
      let lg = id-length x.group g in
      let ls = length-slot x.list s in
      let h = parent_byte x.parent ∷ yes x.container ∷ yes x.mark ∷ [] in
      let c = slot_for x.list in
      let d = id_for x.group ++ c in
      let e = id_for x.owner ++ d in
      let f = x.type ++ e in
      let l : length (h ++ f) ≡ 1184 = simp length-append (omega arith) in
      record {
        long = l;
        parent = refl;
        kind = refl;
        mark = refl;
        type = type-part (h ++ f) (omega arith) ∙ part-past 3 0 16 h f refl ∙ part-first 16 x.type e t;
        owner = part-past 3 16 69 h f refl ∙ part-past 16 0 69 x.type e t ∙ part-first 69 (id_for x.owner) d lo;
        group =
            part-past 3 85 69 h f refl
            ∙ part-past 16 69 69 x.type e t
            ∙ part-past 69 0 69 (id_for x.owner) d lo
            ∙ part-first 69 (id_for x.group) c lg;
        slot =
            part-past 3 154 1027 h f refl
            ∙ part-past 16 138 1027 x.type e t
            ∙ part-past 69 69 1027 (id_for x.owner) d lo
            ∙ part-past 69 0 1027 (id_for x.group) c lg
            ∙ part-all 1027 c ls;
      }

  pub new-shows : Shows (block_for x) (parent_byte x.parent) (yes x.container) (yes x.mark) x.type x.owner x.group x.list
  new-shows = laid_shows new-laid (id-held x.owner o) (id-held x.group g) (held-slot x.list s)

  pub new-good : reads x.list ≡ true → block_ok (block_for x) ≡ true
  new-good r = laid-good new-laid (yes-bit x.container) (yes-bit x.mark) (id-good x.owner o) (id-good x.group g) (slot-good x.list s r)
