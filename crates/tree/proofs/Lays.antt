-- Laws of what the code lays: bytes written one after the other at a place, and so slots, identities, own data and settings; how long each is.
use mathlib.Core.Path.{◌≡◌, refl, sym, ap, ◌∙◌}
use mathlib.Core.List.{List, [], ◌∷◌, ◌++◌, append_assoc}
use mathlib.Core.Bool.{Bool, true, false}
use mir.Val.{bool_byte}
use mathlib.Core.Option.{none, some}
use Prim.Native.Nat.{ℕ, ◌+◌, ◌-◌, ◌/◌, ◌%◌, ◌≤◌, ◌<◌, min}
use native.Mathlib.Omega.{arith}
use borrow.Author.Tests.{leb-true, le-leb}
use lib.ListN.{length, set, take, drop, replicate, length-append, length-replicate}
use lib.Seq.{take_all, drop-drop}
use Rattle.std.proofs.Math.Nat.{div-div-eq-div-mul}
use Rattle.list.specs.List.{MaybeList}
use Rattle.octets.specs.Bytes.{put_at, spell, guid_at}
use Rattle.octets.proofs.Little.{length-spell}
use Rattle.octets.proofs.Places.{put_one, put-snoc, put-append, put_whole, length-put}
use Rattle.inherit.specs.declared.Mapping.{Mapping}
use Rattle.tree.specs.Model.{parent_byte, short_if}
use Rattle.tree.specs.Held.{slot_for, id_for, parent_in, block_for, yes}
use Rattle.tree.specs.Calls.{New, nobody, object_for}
use Rattle.tree.specs.Room.{settings_for}

-- m is l with b, of n bytes, written at a
pub record Written (a n : ℕ) (b l m : List ℕ) : Type 0 where
  pub long : length b ≡ n
  pub is : m ≡ put_at a b l

pub write-one : (a x : ℕ) (l : List ℕ) → a < length l → Written a 1 (x ∷ []) l (set l a x)
write-one a x l h = record { long = refl; is = sym (put_one a x l h) }

-- a byte more, and a run of bytes more
pub write-next : {a n : ℕ} {b l m : List ℕ} (x : ℕ) → Written a n b l m → a + n < length l → Written a (n + 1) (b ++ (x ∷ [])) l (set m (a + n) x)
write-next {a} {n} {b} {l} {m} x w h =
    let k : length b ≡ n = w.long in
    record { long = simp length-append (omega arith); is = ap (λ (t : List ℕ). set t (a + n) x) w.is ∙ put-snoc a n x b l k h }

pub write-more : {a n : ℕ} {b l m : List ℕ} (j : ℕ) (c p : List ℕ) → Written a n b l m → length c ≡ j → a + n + j ≤ length l → p ≡ put_at (a + n) c m
    → Written a (n + j) (b ++ c) l p
write-more {a} {n} {b} {l} {m} j c p w e h f =
    let k : length b ≡ n = w.long in
    let g : put_at (a + n) c (put_at a b l) ≡ put_at a (b ++ c) l = rw (← k) (put-append a b c l (omega arith)) in
    record { long = simp length-append (omega arith); is = f ∙ ap (put_at (a + n) c) w.is ∙ g }

-- what lies in a part of l is written anew
pub laid-at : (a n : ℕ) (b l m : List ℕ) → length b ≡ n → m ≡ b → take a l ++ (m ++ drop (a + n - a) (drop a l)) ≡ put_at a b l
unfolding put_at
laid-at a n b l m h e =
    let q : drop (a + n - a) (drop a l) ≡ drop (a + length b) l = drop-drop (a + n - a) a l ∙ ap (λ (k : ℕ). drop k l) (omega arith) in
    rw (e, q) refl

-- the bytes of a number of two and of four bytes
pub half-spelt : (m : ℕ) → m % 256 ∷ m / 256 % 256 ∷ [] ≡ spell 2 m
unfolding spell
half-spelt m = refl

pub word-spelt : (m : ℕ) → m % 256 ∷ m / 256 % 256 ∷ m / 65536 % 256 ∷ m / 16777216 % 256 ∷ [] ≡ spell 4 m
unfolding spell
word-spelt m = rw (div-div-eq-div-mul m 256 256, div-div-eq-div-mul m 65536 256) refl

-- a flag's byte
pub byte-yes : (b : Bool) → bool_byte b ≡ yes b
byte-yes true = refl
byte-yes false = refl

-- ---- how long

pub length-padded : (n : ℕ) (s : List ℕ) → length s ≤ n → length (s ++ replicate (n - length s) 0) ≡ n
length-padded n s h = simp (length-append, length-replicate) (omega arith)

pub short-present : (s : List ℕ) → short_if (some s) ≡ true → length s ≤ 1024
unfolding short_if
short-present s h = leb-true (length s) 1024 h

pub length-slot : (o : MaybeList) → short_if o ≡ true → length (slot_for o) ≡ 1027
unfolding slot_for
length-slot none h = length-replicate {A = ℕ} 1027 0
length-slot (some s) h =
    let k : length (s ++ replicate (1024 - length s) 0) ≡ 1024 = length-padded 1024 s (short-present s h) in
    omega (arith, length-append (spell 2 (length s)) (s ++ replicate (1024 - length s) 0), length-spell 2 (length s))

pub length-id : (s : List ℕ) → length s ≤ 68 → length (id_for s) ≡ 69
unfolding id_for
length-id s h = omega (arith, length-padded 68 s h)

pub length_ids : (o g : List ℕ) → length o ≤ 68 → length g ≤ 68 → length (id_for o ++ id_for g) ≡ 138
length_ids o g h k = omega (arith, length-append (id_for o) (id_for g), length-id o h, length-id g k)

-- ---- how the code lays each

-- a run that zeros fill up to j bytes
write-padded : {a n : ℕ} {b l m : List ℕ} (j : ℕ) (s p : List ℕ) → Written a n b l m → length s ≤ j → a + n + j ≤ length l → p ≡ put_at (a + n) s m
    → Written a (n + j) (b ++ (s ++ replicate (j - length s) 0)) l (put_at (a + n + length s) (replicate (j - length s) 0) p)
write-padded {a} {n} {b} {l} {m} j s p w h k e =
    let z : List ℕ = replicate (j - length s) 0 in
    let lb : length b ≡ n = w.long in
    let lz : length z ≡ j - length s = length-replicate (j - length s) 0 in
    let lm : length m ≡ length l = ap length w.is ∙ length-put a b l (omega arith) in
    write-more j (s ++ z) _ w (length-padded j s h) k (ap (put_at (a + n + length s) z) e ∙ put-append (a + n) s z m (omega arith))

pub slot-laid : (a : ℕ) (s l m p : List ℕ) → length s ≤ 1024 → a + 1027 ≤ length l → m ≡ put_at (a + 1) (spell 2 (length s)) (set l a 1) → p ≡ put_at (a + 3) s m
    → put_at (a + 3 + length s) (replicate (1024 - length s) 0) p ≡ put_at a (slot_for (some s)) l
unfolding slot_for
slot-laid a s l m p h k e f =
    let w = write-more 2 (spell 2 (length s)) m (write-one a 1 l (omega arith)) (length-spell 2 (length s)) (omega arith) e in
    (write-padded 1024 s p w h (omega arith) f).is

pub id-laid : (a : ℕ) (s l m : List ℕ) → length s ≤ 68 → a + 69 ≤ length l → m ≡ put_at (a + 1) s (set l a (length s))
    → put_at (a + 1 + length s) (replicate (68 - length s) 0) m ≡ put_at a (id_for s) l
unfolding id_for
id-laid a s l m h k e = (write-padded 68 s m (write-one a (length s) l (omega arith)) h (omega arith) e).is

pub ids-laid : (a : ℕ) (o g l m p : List ℕ) → length o ≤ 68 → length g ≤ 68 → a + 138 ≤ length l → m ≡ put_at a (id_for o) l → p ≡ put_at (a + 69) (id_for g) m
    → p ≡ put_at a (id_for o ++ id_for g) l
ids-laid a o g l m p h k f e d = (write-more 69 (id_for g) p (record { long = length-id o h; is = e }) (length-id g k) (omega arith) d).is

regroup : (h t o g s : List ℕ) → ((h ++ t) ++ (o ++ g)) ++ s ≡ h ++ (t ++ (o ++ (g ++ s)))
regroup h t o g s = simp append_assoc

-- own data of a new object, in a buffer of its size
-- sixteen bytes are a GUID
guid-whole : (g : List ℕ) → length g ≡ 16 → guid_at g 0 ≡ g
unfolding guid_at
guid-whole g h = rw (le-leb 16 (length g) (omega arith)) (take_all 16 g (omega arith))

module _ (new : New) (b : parent_byte (parent_in nobody new.parent) ≡ min 255 new.parent) (t : length new.type ≡ 16) (o : length new.owner ≤ 68) (g : length new.group ≤ 68) (s : short_if new.list ≡ true) where
  pub block-laid : (x y z : ℕ) (l m₁ m₂ m₃ : List ℕ) → length l ≡ 1184 → x ≡ min 255 new.parent → y ≡ yes new.container → z ≡ yes new.mark
      → m₁ ≡ put_at 3 new.type (set (set (set l 0 x) 1 y) 2 z)
      → m₂ ≡ put_at 19 (id_for new.owner ++ id_for new.group) m₁
      → m₃ ≡ put_at 157 (slot_for new.list) m₂
      → m₃ ≡ block_for (object_for new)
  unfolding block_for
  block-laid x y z l m₁ m₂ m₃ h ex ey ez e₁ e₂ e₃ =
      let w = write-next z (write-next y (write-one 0 x l (omega arith)) (omega arith)) (omega arith) in
      let w₁ = write-more 16 new.type m₁ w t (omega arith) e₁ in
      let w₂ = write-more 138 (id_for new.owner ++ id_for new.group) m₂ w₁ (length_ids new.owner new.group o g) (omega arith) e₂ in
      let w₃ = write-more 1027 (slot_for new.list) m₃ w₂ (length-slot new.list s) (omega arith) e₃ in
      w₃.is
      ∙ put_whole _ l (w₃.long ∙ sym h)
      ∙ regroup (x ∷ y ∷ z ∷ []) new.type (id_for new.owner) (id_for new.group) (slot_for new.list)
      ∙ rw (ex, ← b, ey, ez, guid-whole new.type t)

-- the settings
module _ (rule : ℕ) (m : Mapping) (o : MaybeList) (s : short_if o ≡ true) where
  pub settings-laid : (a : ℕ) (l l₁ l₂ l₃ l₄ l₅ : List ℕ) → a + 1044 ≤ length l
      → l₁ ≡ put_at (a + 1) (spell 4 m.read) (set l a rule)
      → l₂ ≡ put_at (a + 5) (spell 4 m.write) l₁
      → l₃ ≡ put_at (a + 9) (spell 4 m.execute) l₂
      → l₄ ≡ put_at (a + 13) (spell 4 m.all) l₃
      → l₅ ≡ put_at (a + 17) (slot_for o) l₄
      → l₅ ≡ put_at a (settings_for rule m o) l
  unfolding settings_for
  settings-laid a l l₁ l₂ l₃ l₄ l₅ h e₁ e₂ e₃ e₄ e₅ =
      let w₁ = write-more 4 (spell 4 m.read) l₁ (write-one a rule l (omega arith)) (length-spell 4 m.read) (omega arith) e₁ in
      let w₂ = write-more 4 (spell 4 m.write) l₂ w₁ (length-spell 4 m.write) (omega arith) e₂ in
      let w₃ = write-more 4 (spell 4 m.execute) l₃ w₂ (length-spell 4 m.execute) (omega arith) e₃ in
      let w₄ = write-more 4 (spell 4 m.all) l₄ w₃ (length-spell 4 m.all) (omega arith) e₄ in
      let w₅ = write-more 1027 (slot_for o) l₅ w₄ (length-slot o s) (omega arith) e₅ in
      let v : Written a 1044 (settings_for rule m o) l l₅ = simp append_assoc at w₅ in
      v.is

  pub length-settings : length (settings_for rule m o) ≡ 1044
  unfolding settings_for
  length-settings = simp (length-append, length-spell) (omega (arith, length-slot o s))
