-- Entries changed in part: where an entry's parts lie, what cutting it out, other flags and another SID leave as they were.
use mathlib.Core.Path.{◌≡◌, refl, sym, ap, ap₂, ◌∙◌}
use mathlib.Core.Bool.{Bool, true, false, cond}
use mathlib.Core.List.{List, ◌++◌}
use Prim.Native.Nat.{ℕ, ◌+◌, ◌-◌, ◌≤◌, ◌<◌}
use native.Mathlib.Omega.{arith}
use lib.ListN.{length, take, drop, set, length-append, length-drop, take-append-drop}
use lib.Seq.{length-take-le, take-length, take-append-le, drop-append-le, take_at, drop_at, drop-drop, drop-set-lt, get_or-set_same, get_or-set_other}
use lib.Dec.{eqb}
use borrow.Author.Tests.{eqb-true, eq-eqb, le-leb}
use Rattle.octets.specs.Bytes.{has, le, spell, guid_at}
use Rattle.list.specs.Identity.{length_of_sid}
use Rattle.list.specs.Entry.{Family, flags_ok, tail_long, expression_ok, size_ok, EntryParts, entry_bytes, kind_of, size_of, flags_of, mask_of, object_kind, head_of, word_after, word_of}
use Rattle.list.specs.Entry.{guids_of, sid_at, sid_len_of, sid_end, middle_of, sid_of, tail_of}
use Rattle.list.specs.Good.{Sound, Whole, Bounds}
use Rattle.octets.proofs.Little.{le-append, le-spell, length-spell}
use Rattle.octets.proofs.Bits.{odd}
use Rattle.list.proofs.Sids.{OneSid, sid-length, sid-append}
use Rattle.list.proofs.Pieces.{Same, joined, split, sid-inside, head-ge}

-- general laws of lists and numbers, which would stand in Little or in a file of their own
-- how long a part is that lies inside t
within : (n at : ℕ) (t : List ℕ) → at + n ≤ length t → length (take n (drop at t)) ≡ n
within n at t h = length-take-le n (drop at t) (omega (arith, length-drop at t))

-- a part that lies within the first k elements
pub part_cut : (n at k : ℕ) (t : List ℕ) → at + n ≤ k → k ≤ length t → take n (drop at (take k t)) ≡ take n (drop at t)
part_cut n at k t h l =
    let e = take k t in
    let z : length e ≡ k = length-take-le k t l in
    let p : take n (drop at e ++ drop k t) ≡ take n (drop at e) = take-append-le n (drop at e) (drop k t) (omega (arith, length-drop at e)) in
    let q : drop at (e ++ drop k t) ≡ drop at e ++ drop k t = drop-append-le at e (drop k t) (omega arith) in
    sym p ∙ ap (take n) (sym q) ∙ ap (λ (s : List ℕ). take n (drop at s)) (take-append-drop k t)

-- of a number's bytes, those after it don't count
le-take : (k n : ℕ) (s : List ℕ) → k ≤ n → n ≤ length s → le k (take n s) ≡ le k s
le-take k n s h l =
    sym (le-append k (take n s) (drop n s) (omega (arith, length-take-le n s l))) ∙ ap (le k) (take-append-drop n s)

-- the head is 12 bytes at the most, and 12 for object types; the GUIDs are 32 bytes at the most
cond-le : (b : Bool) (x y m : ℕ) → x ≤ m → y ≤ m → cond b x y ≤ m
cond-le true x y m h k = h
cond-le false x y m h k = k

pub head-le : (k : ℕ) → head_of k ≤ 12
unfolding head_of
head-le k = cond-le (object_kind k) 12 8 12 (omega arith) (omega arith)

pub object-head : (k : ℕ) → object_kind k ≡ true → head_of k ≡ 12
unfolding head_of
object-head k h = rw h

pub guids-le : (w : ℕ) → guids_of w ≤ 32
guids-le w = omega arith

pub bounds : (f : Family) (rev : ℕ) (t : List ℕ) → Sound f rev t → Bounds t
bounds f rev t s =
    let e = sid-inside f rev t s in
    let a : 8 ≤ sid_at t = omega (arith, head-ge (kind_of t)) in
    record {
      eight = a;
      high = omega (arith, head-le (kind_of t), guids-le (word_of t));
      sid = omega arith;
      inside = s.within;
      middle = within (sid_at t - 8) 8 t (omega (arith, s.within, s.eight));
      sid-length = within (sid_len_of t) (sid_at t) t (omega (arith, s.within));
      tail-length = within (size_of t - sid_end t) (sid_end t) t (omega (arith, s.within));
    }

-- other flags change nothing else
module _ (t : List ℕ) (v : ℕ) where
  pub set-flags : 1 < length t → flags_of (set t 1 v) ≡ v
  set-flags h = get_or-set_same t 1 v 0 h

  pub set-kind : kind_of (set t 1 v) ≡ kind_of t
  set-kind = get_or-set_other t 1 0 v 0 (λ e. omega arith)

  set-drop : (n : ℕ) → 1 < n → drop n (set t 1 v) ≡ drop n t
  set-drop n h = drop-set-lt n t 1 v h

  pub set-size : size_of (set t 1 v) ≡ size_of t
  set-size = ap (le 2) (set-drop 2 (omega arith))

  pub set-mask : mask_of (set t 1 v) ≡ mask_of t
  set-mask = ap (le 4) (set-drop 4 (omega arith))

  set_after : (head : ℕ) → word_after head (set t 1 v) ≡ word_after head t
  unfolding word_after
  set_after head = ap (λ (s : List ℕ). cond (eqb head 12) (le 4 s) 0) (set-drop 8 (omega arith))

  pub set_word : word_of (set t 1 v) ≡ word_of t
  set_word = rw set-kind (set_after (head_of (kind_of t)))

  pub set-sid_at : sid_at (set t 1 v) ≡ sid_at t
  set-sid_at = rw (set_word, set-kind)

  set-after-sid : drop (sid_at (set t 1 v)) (set t 1 v) ≡ drop (sid_at t) t
  set-after-sid = rw set-sid_at (set-drop (sid_at t) (omega (arith, head-ge (kind_of t))))

  pub set-length_of_sid : sid_len_of (set t 1 v) ≡ sid_len_of t
  set-length_of_sid = ap length_of_sid set-after-sid

  pub set-sid_end : sid_end (set t 1 v) ≡ sid_end t
  set-sid_end = ap₂ (λ (x y : ℕ). x + y) set-sid_at set-length_of_sid

  pub set-middle : middle_of (set t 1 v) ≡ middle_of t
  set-middle = ap₂ (λ (n : ℕ) (s : List ℕ). take (n - 8) s) set-sid_at (set-drop 8 (omega arith))

  pub set-sid : sid_of (set t 1 v) ≡ sid_of t
  set-sid = ap₂ (λ (n : ℕ) (s : List ℕ). take n s) set-length_of_sid set-after-sid

  pub set-tail : tail_of (set t 1 v) ≡ tail_of t
  set-tail =
      ap₂ (λ (n m : ℕ). take (n - m) (drop m (set t 1 v))) set-size set-sid_end
      ∙ ap (take (size_of t - sid_end t)) (set-drop (sid_end t) (omega (arith, head-ge (kind_of t))))

-- the parts of a good entry don't depend on what follows it
module _ (f : Family) (rev : ℕ) (t : List ℕ) (s : Sound f rev t) where
  pub cut-length : length (take (size_of t) t) ≡ size_of t
  cut-length = length-take-le (size_of t) t s.within

  rejoined : Same (take (size_of t) t) t
  rejoined = rw (take-append-drop (size_of t) t) at (joined f rev (take (size_of t) t) (drop (size_of t) t) (split f rev t s))

  pub cut-same : Same t (take (size_of t) t)
  cut-same =
      let r = rejoined in
      record { kind = sym r.kind; flags = sym r.flags; size = sym r.size; mask = sym r.mask; word = sym r.word; sid = sym r.sid }

  pub cut-sid_at : sid_at (take (size_of t) t) ≡ sid_at t
  cut-sid_at = rw (cut-same.word, cut-same.kind)

  pub cut-sid_end : sid_end (take (size_of t) t) ≡ sid_end t
  cut-sid_end = ap₂ (λ (x y : ℕ). x + y) cut-sid_at cut-same.sid

  pub cut-middle : middle_of (take (size_of t) t) ≡ middle_of t
  cut-middle =
      ap (λ (n : ℕ). take (n - 8) (drop 8 (take (size_of t) t))) cut-sid_at
      ∙ part_cut (sid_at t - 8) 8 (size_of t) t (omega (arith, bounds f rev t s)) s.within

  pub cut-sid : sid_of (take (size_of t) t) ≡ sid_of t
  cut-sid =
      ap₂ (λ (n at : ℕ). take n (drop at (take (size_of t) t))) cut-same.sid cut-sid_at
      ∙ part_cut (sid_len_of t) (sid_at t) (size_of t) t (bounds f rev t s).sid s.within

  pub cut-tail : tail_of (take (size_of t) t) ≡ tail_of t
  cut-tail =
      ap₂ (λ (n at : ℕ). take (n - at) (drop at (take (size_of t) t))) cut-same.size cut-sid_end
      ∙ part_cut (size_of t - sid_end t) (sid_end t) (size_of t) t (omega (arith, (bounds f rev t s).sid)) s.within

  pub cut-guid : 28 ≤ size_of t → guid_at (take (size_of t) t) 12 ≡ guid_at t 12
  unfolding guid_at
  cut-guid h =
      rw (le-leb 28 (length (take (size_of t) t)) (omega (arith, cut-length)), le-leb 28 (length t) (omega (arith, s.within)))
      (part_cut 16 12 (size_of t) t (omega arith) s.within)

-- an object entry that announces an ObjectType is long enough to hold it
pub typed_long : (f : Family) (rev : ℕ) (t : List ℕ) → Sound f rev t → object_kind (kind_of t) ≡ true → has 1 (word_of t) ≡ true → 28 ≤ size_of t
typed_long f rev t s o w = omega (arith, object-head (kind_of t) o, odd (word_of t) w, s.eight)

-- bytes made of parts have these parts (the size and the mask where they fit their fields)
module _ (p : EntryParts) where
  pub length-entry : length (entry_bytes p) ≡ 8 + (length p.middle + (length p.sid + length p.tail))
  unfolding entry_bytes spell
  length-entry = omega (arith, length-append p.middle (p.sid ++ p.tail), length-append p.sid p.tail)

  pub kind-entry : kind_of (entry_bytes p) ≡ p.kind
  unfolding entry_bytes
  kind-entry = refl

  pub flags-entry : flags_of (entry_bytes p) ≡ p.flags
  unfolding entry_bytes
  flags-entry = refl

  pub size-entry : 8 + (length p.middle + (length p.sid + length p.tail)) < 65536 → size_of (entry_bytes p) ≡ length (entry_bytes p)
  unfolding entry_bytes
  size-entry h =
      let n = 8 + (length p.middle + (length p.sid + length p.tail)) in
      le-append 2 (spell 2 n) (spell 4 p.mask ++ (p.middle ++ (p.sid ++ p.tail))) (omega (arith, length-spell 2 n)) ∙ le-spell 2 n h ∙ sym length-entry

  pub mask-entry : p.mask < 4294967296 → mask_of (entry_bytes p) ≡ p.mask
  unfolding entry_bytes spell
  mask-entry h =
      le-append 4 (spell 4 p.mask) (p.middle ++ (p.sid ++ p.tail)) (omega (arith, length-spell 4 p.mask)) ∙ le-spell 4 p.mask h

  pub rest-entry : drop 8 (entry_bytes p) ≡ p.middle ++ (p.sid ++ p.tail)
  unfolding entry_bytes spell
  rest-entry = refl

-- the object word is read off the four bytes at 8, behind a head of 12 bytes only
word_same : (head : ℕ) (a b : List ℕ) → (head ≡ 12 → le 4 (drop 8 a) ≡ le 4 (drop 8 b)) → word_after head a ≡ word_after head b
unfolding word_after
word_same head a b h = by (eqb head 12) refl
  where
    by : (o : Bool) → eqb head 12 ≡ o → cond o (le 4 (drop 8 a)) 0 ≡ cond o (le 4 (drop 8 b)) 0
    by true e = h (eqb-true head 12 e)
    by false e = refl

-- e with other flags, another mask and another SID: its parts, and its bytes
abbrev pub remade_parts : List ℕ → ℕ → ℕ → List ℕ → EntryParts
remade_parts e flags mask sid = record { kind = kind_of e; flags = flags; mask = mask; middle = middle_of e; sid = sid; tail = tail_of e }

abbrev pub remake : List ℕ → ℕ → ℕ → List ℕ → List ℕ
remake e flags mask sid = entry_bytes (remade_parts e flags mask sid)

-- a whole entry so remade is whole again, and the rest of it is as it was
module _ (f : Family) (rev : ℕ) (e : List ℕ) (w : Whole f rev e) (flags mask : ℕ) (ok : flags_ok f flags ≡ true) (sid : List ℕ) (one : OneSid sid) where
  pub remade-kind : kind_of (remake e flags mask sid) ≡ kind_of e
  remade-kind = kind-entry (remade_parts e flags mask sid)

  pub remade-flags : flags_of (remake e flags mask sid) ≡ flags
  remade-flags = flags-entry (remade_parts e flags mask sid)

  pub remade-mask : mask < 4294967296 → mask_of (remake e flags mask sid) ≡ mask
  remade-mask = mask-entry (remade_parts e flags mask sid)

  pub remade-length : length (remake e flags mask sid) ≡ sid_at e + length sid + length (tail_of e)
  remade-length = omega (arith, length-entry (remade_parts e flags mask sid), bounds f rev e w.sound)

  rest : drop 8 (remake e flags mask sid) ≡ middle_of e ++ (sid ++ tail_of e)
  rest = rest-entry (remade_parts e flags mask sid)

  pub remade-word : word_of (remake e flags mask sid) ≡ word_of e
  remade-word =
      let m = remake e flags mask sid in
      let b = bounds f rev e w.sound in
      ap (λ (k : ℕ). word_after (head_of k) m) remade-kind
      ∙ word_same (head_of (kind_of e)) m e
      (λ h. ap (le 4) rest
      ∙ le-append 4 (middle_of e) (sid ++ tail_of e) (omega (arith, b.middle))
      ∙ le-take 4 (sid_at e - 8) (drop 8 e) (omega arith) (omega (arith, length-drop 8 e, w.sound.eight, w.whole)))

  pub remade-sid_at : sid_at (remake e flags mask sid) ≡ sid_at e
  remade-sid_at = rw (remade-word, remade-kind)

  after : drop (sid_at (remake e flags mask sid)) (remake e flags mask sid) ≡ sid ++ tail_of e
  after =
      let m = remake e flags mask sid in
      let b = bounds f rev e w.sound in
      let n : sid_at m ≡ 8 + (sid_at e - 8) = omega (arith, remade-sid_at) in
      ap (λ (i : ℕ). drop i m) n
      ∙ sym (drop-drop (sid_at e - 8) 8 m)
      ∙ ap (drop (sid_at e - 8)) rest
      ∙ drop_at (middle_of e) (sid ++ tail_of e) (sid_at e - 8) b.middle

  pub remade-length_of_sid : sid_len_of (remake e flags mask sid) ≡ length sid
  remade-length_of_sid = ap length_of_sid after ∙ sid-append sid (tail_of e) (omega (arith, one.exact, sid-length sid one.some)) ∙ sym one.exact

  pub remade-sid : sid_of (remake e flags mask sid) ≡ sid
  remade-sid = ap₂ (λ (n : ℕ) (s : List ℕ). take n s) remade-length_of_sid after ∙ take_at sid (tail_of e) (length sid) refl

  pub remade-middle : middle_of (remake e flags mask sid) ≡ middle_of e
  remade-middle =
      ap₂ (λ (n : ℕ) (s : List ℕ). take (n - 8) s) remade-sid_at rest
      ∙ take_at (middle_of e) (sid ++ tail_of e) (sid_at e - 8) (bounds f rev e w.sound).middle

  pub remade-sid_end : sid_end (remake e flags mask sid) ≡ sid_at e + length sid
  remade-sid_end = ap₂ (λ (x y : ℕ). x + y) remade-sid_at remade-length_of_sid

  -- where its size can be said
  module _ (small : length (remake e flags mask sid) < 65536) where
    pub remade-size : size_of (remake e flags mask sid) ≡ length (remake e flags mask sid)
    remade-size = size-entry (remade_parts e flags mask sid) (omega (arith, length-entry (remade_parts e flags mask sid)))

    pub remade-tail : tail_of (remake e flags mask sid) ≡ tail_of e
    remade-tail =
        let m = remake e flags mask sid in
        let n : size_of m - sid_end m ≡ length (tail_of e) = omega (arith, remade-size, remade-sid_end, remade-length) in
        let d : drop (sid_end m) m ≡ tail_of e =
        ap (λ (i : ℕ). drop (sid_at m + i) m) remade-length_of_sid ∙ sym (drop-drop (length sid) (sid_at m) m) ∙ ap (drop (length sid)) after ∙ drop_at sid (tail_of e) (length sid) refl in
        ap₂ (λ (i : ℕ) (s : List ℕ). take i s) n d ∙ take-length (tail_of e)

    -- made again of its own parts it is the same
    pub remade-again : remake (remake e flags mask sid) flags mask sid ≡ remake e flags mask sid
    unfolding entry_bytes
    remade-again = rw (remade-kind, remade-middle, remade-tail)

    pub remade-whole : Whole f rev (remake e flags mask sid)
    unfolding expression_ok size_ok
    remade-whole =
        let g = w.sound in
        let b = bounds f rev e g in
        let m = remake e flags mask sid in
        let l = sid-length sid one.some in
        let s : size_of m ≡ sid_at e + length sid + length (tail_of e) = remade-size ∙ remade-length in
        let x : sid_end m ≤ size_of m = omega (arith, remade-sid_end, s) in
        record {
          sound =
              record {
                four = omega (arith, remade-length);
                within = omega (arith, remade-size);
                kind = rw remade-kind g.kind;
                flags = rw remade-flags ok;
                head = omega (arith, ap head_of remade-kind);
                word = omega (arith, remade-word, g.word);
                eight = omega (arith, remade-sid_at, one.exact);
                sid = omega (arith, remade-length_of_sid, one.exact);
                expression = rw (remade-tail, le-leb (sid_end m) (size_of m) x, remade-kind) (rw (le-leb (sid_end e) (size_of e) b.sid) at g.expression);
                tail =
                    rw remade-tail
                    (eq-eqb (sid_end m + tail_long (kind_of m) (tail_of e)) (size_of m)
                    (omega (arith, remade-sid_end, s, ap (λ (k : ℕ). tail_long k (tail_of e)) remade-kind, sid-inside f rev e g, b.tail-length)));
              };
          whole = remade-size;
        }
