-- An entry is its bytes: what follows it changes none of its fields, so that a good entry can be cut out, and put in front of anything.
use mathlib.Core.Path.{◌≡◌, refl, sym, ap, ap₂, ◌∙◌}
use mathlib.Core.Bool.{Bool, true, false, cond}
use mathlib.Core.List.{List, ◌++◌}
use Prim.Native.Nat.{ℕ, ◌+◌, ◌-◌, ◌≤◌}
use native.Mathlib.Omega.{arith}
use lib.ListN.{length, take, drop, length-append, length-drop, take-append-drop, get_or-append}
use lib.Seq.{drop-append-le, take-append-le, length-take-le}
use lib.Dec.{eqb}
use borrow.Author.Tests.{eqb-true}
use Rattle.list.specs.Entry.{Family, kind_of, size_of, flags_of, mask_of, object_kind, head_of, word_after, word_of, sid_at, sid_len_of, sid_end, tail_of, tail_long, expression_ok, size_ok, fields_of}
use Rattle.list.specs.Good.{Sound, Whole}
use Rattle.octets.proofs.Little.{le-drop-append}
use Rattle.list.proofs.Sids.{sid-append}

cond_same : (b : Bool) (x y z : ℕ) → (b ≡ true → x ≡ y) → cond b x z ≡ cond b y z
cond_same true x y z h = h refl
cond_same false x y z h = refl

word-append : (head : ℕ) (a b : List ℕ) → head ≤ length a → word_after head (a ++ b) ≡ word_after head a
unfolding word_after
word-append head a b h = cond_same (eqb head 12) _ _ 0 (λ e. le-drop-append 4 8 a b (omega (arith, eqb-true head 12 e)))

-- t has the fields of e
pub record Same (e t : List ℕ) : Type 0 where
  pub kind : kind_of t ≡ kind_of e
  pub flags : flags_of t ≡ flags_of e
  pub size : size_of t ≡ size_of e
  pub mask : mask_of t ≡ mask_of e
  pub word : word_of t ≡ word_of e
  pub sid : sid_len_of t ≡ sid_len_of e

same : (e u : List ℕ) → 8 ≤ length e → head_of (kind_of e) ≤ length e → sid_at e + 2 ≤ length e → Same e (e ++ u)
same e u a b s =
    let k : kind_of (e ++ u) ≡ kind_of e = get_or-append e u 0 0 (omega arith) in
    let w : word_of (e ++ u) ≡ word_of e = ap (λ (i : ℕ). word_after (head_of i) (e ++ u)) k ∙ word-append (head_of (kind_of e)) e u b in
    record {
      kind = k;
      flags = get_or-append e u 0 1 (omega arith);
      size = le-drop-append 2 2 e u (omega arith);
      mask = le-drop-append 4 4 e u (omega arith);
      word = w;
      sid = rw (w, k, drop-append-le (sid_at e) e u (omega arith)) (sid-append (drop (sid_at e) e) u (omega (arith, length-drop (sid_at e) e)));
    }

flip : {e t : List ℕ} → Same e t → Same t e
flip s = record { kind = sym s.kind; flags = sym s.flags; size = sym s.size; mask = sym s.mask; word = sym s.word; sid = sym s.sid }

sid-is : {e t : List ℕ} → Same e t → sid_at t ≡ sid_at e
sid-is s = rw (s.word, s.kind)

pub fields-same : {e t : List ℕ} → Same e t → fields_of t ≡ fields_of e
fields-same s = rw (s.sid, s.word, s.kind, s.flags, s.size, s.mask)

-- where the SID lies within the entry, so does what follows it
tail-same : (e u : List ℕ) → Same e (e ++ u) → sid_end e ≤ length e → size_of e ≤ length e → tail_of (e ++ u) ≡ tail_of e
tail-same e u s h l =
    let m : sid_end (e ++ u) ≡ sid_end e = ap₂ (λ (x y : ℕ). x + y) (sid-is s) s.sid in
    ap₂ (λ (n k : ℕ). take (n - k) (drop k (e ++ u))) s.size m
    ∙ ap (take (size_of e - sid_end e)) (drop-append-le (sid_end e) e u h)
    ∙ take-append-le (size_of e - sid_end e) (drop (sid_end e) e) u (omega (arith, length-drop (sid_end e) e))

-- the SID of a good entry ends within the size, and what follows it is as long as it must be
pub sid-inside : (f : Family) (rev : ℕ) (t : List ℕ) → Sound f rev t → sid_end t + tail_long (kind_of t) (tail_of t) ≡ size_of t
unfolding size_ok
sid-inside f rev t s = eqb-true (sid_end t + tail_long (kind_of t) (tail_of t)) (size_of t) s.tail

cond-ge : (b : Bool) (x y m : ℕ) → m ≤ x → m ≤ y → m ≤ cond b x y
cond-ge true x y m h k = h
cond-ge false x y m h k = k

pub head-ge : (k : ℕ) → 8 ≤ head_of k
unfolding head_of
head-ge k = cond-ge (object_kind k) 12 8 8 (omega arith) (omega arith)

-- where the fields and what follows the SID are the same, and there are bytes enough, one is good as the other is
carry : (f : Family) (rev : ℕ) (e t : List ℕ) → Same e t → tail_of t ≡ tail_of e → 4 ≤ length t → size_of t ≤ length t → Sound f rev e → Sound f rev t
unfolding expression_ok size_ok
carry f rev e t s l a b g =
    let i = sid-is s in
    record {
      four = a;
      within = b;
      kind = rw s.kind g.kind;
      flags = rw s.flags g.flags;
      head = omega (arith, ap head_of s.kind, s.size, g.head);
      word = omega (arith, s.word, g.word);
      eight = rw (i, s.size) g.eight;
      sid = rw s.sid g.sid;
      expression = rw (l, s.sid, i, s.size, s.kind) g.expression;
      tail = rw (l, s.sid, i, s.size, s.kind) g.tail;
    }

-- a whole entry in front of anything
pub joined : (f : Family) (rev : ℕ) (e u : List ℕ) → Whole f rev e → Same e (e ++ u)
joined f rev e u w =
    let s = w.sound in
    same e u (omega (arith, head-ge (kind_of e), s.head, w.whole)) (omega (arith, s.head, w.whole)) (omega (arith, s.eight, w.whole))

pub join : (f : Family) (rev : ℕ) (e u : List ℕ) → Whole f rev e → Sound f rev (e ++ u)
join f rev e u w =
    let s = joined f rev e u w in
    let x : sid_end e ≤ length e = omega (arith, sid-inside f rev e w.sound, w.whole) in
    carry f rev e (e ++ u) s (tail-same e u s x (omega (arith, w.whole))) (omega (arith, length-append e u, w.sound.four)) (omega (arith, length-append e u, s.size, w.whole)) w.sound

-- a good entry cut out
pub split : (f : Family) (rev : ℕ) (t : List ℕ) → Sound f rev t → Whole f rev (take (size_of t) t)
split f rev t g =
    let e = take (size_of t) t in
    let u = drop (size_of t) t in
    let q : e ++ u ≡ t = take-append-drop (size_of t) t in
    let n : length e ≡ size_of t = length-take-le (size_of t) t g.within in
    let z : 8 ≤ length e = omega (arith, head-ge (kind_of t), g.head, n) in
    let k : kind_of t ≡ kind_of e = rw q at (get_or-append e u 0 0 (omega arith)) in
    let h : head_of (kind_of e) ≤ length e = omega (arith, ap head_of k, g.head, n) in
    let w : word_of t ≡ word_of e = ap (λ (i : ℕ). word_after (head_of i) t) k ∙ (rw q at (word-append (head_of (kind_of e)) e u h)) in
    let i : sid_at t ≡ sid_at e = rw (w, k) in
    let m : Same e (e ++ u) = same e u z h (omega (arith, i, g.eight, n)) in
    let s : Same e t = rw q at m in
    let x : sid_end e ≤ length e = omega (arith, i, s.sid, sid-inside f rev t g, n) in
    let y : tail_of t ≡ tail_of e = rw q at (tail-same e u m x (omega (arith, s.size, n))) in
    record { sound = carry f rev t e (flip s) (sym y) (omega arith) (omega (arith, s.size, n)) g; whole = sym s.size ∙ sym n }
