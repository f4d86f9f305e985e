-- Spare bytes: whatever they are, the list reads as done with the same entries and the same end; and what the end is.
use mathlib.Core.Path.{◌≡◌, refl, sym, ap, ap₂, subst, ◌∙◌}
use mathlib.Core.List.{List, [], ◌∷◌, ◌++◌, append_assoc, append-nil, flatten}
use Prim.Native.Nat.{ℕ, ◌+◌, ◌-◌, ◌≤◌, ◌<◌}
use native.Mathlib.Omega.{arith}
use lib.ListN.{length, take, drop, get_or, length-append, length-drop, take-append-drop, get_or-append}
use lib.Seq.{drop-drop, drop_at, take_at, drop-append-le, length-take-le, take_all}
use Rattle.octets.specs.Bytes.{Bytes, le, spell}
use Rattle.list.specs.Entry.{Family}
use Rattle.list.specs.List.{entries_end, entries_of, offsets, rev_of, count_of, read_as, check_of}
use Rattle.list.specs.Good.{Whole, Header, Listed, Every}
use Rattle.list.specs.Spare.{with_spare, bare_by, bare, Sized, size_sum}
use Rattle.std.specs.Prelude.{Result, Ok, Err}
use Rattle.list.specs.declared.readings.Read.{Read}
use Rattle.refusal.specs.declared.Fault.{Fault}
use Rattle.octets.proofs.Little.{le-lt, le-drop-append, length-spell, spell-le, bytes_drop}
use Rattle.list.proofs.Told.{Told, told, reads}
use Rattle.list.proofs.Parts.{Laid, laid, size-joined, fewer, field, tiled, passes-built, cut-built, end-built}

-- ---- where the entries end

sums : (f : Family) (rev : ℕ) (es : List (List ℕ)) → Every (Whole f rev) es → size_sum es ≡ length (flatten es)
unfolding size_sum flatten
sums f rev [] ws = refl
sums f rev (e ∷ es) ws = omega (arith, sums f rev es ws.1, length-append e (flatten es), ws.0.whole)

module _ (f : Family) (s : List ℕ) (l n x : ℕ) (e : check_of f s ≡ read_as l n x) where
  T : Told f s l n x
  T = told f s l n x e

  L : Laid f s n
  L = laid f s n T.listed

  end_is : x ≡ 8 + length (flatten (entries_of s))
  end_is = T.end ∙ L.ends

  -- 8 and the sum of the entries' sizes
  pub end-is-sum : x ≡ 8 + size_sum (entries_of s)
  end-is-sum = omega (arith, end_is, sums f (rev_of s) (entries_of s) L.wholes)

  -- inside the list
  pub end-within : (8 ≤ x) × (x ≤ l)
  end-within =
      let b = ap length L.bytes in
      let r = drop (entries_end n 8 (drop 8 s)) s in
      let z = length-append (flatten (entries_of s)) r in
      let h = length-take-le 8 s T.listed.head.long in
      (omega (arith, end_is), omega (arith, end_is, T.whole, length-append (take 8 s) (flatten (entries_of s) ++ r)))

  -- a list of bytes is shorter than its size field can say, so a row of 4,095 elements holds its index
  pub row-suffices : l < 65536 → n ≤ 4095
  row-suffices h = omega (arith, end_is, end-within, fewer f (rev_of s) (entries_of s) L.wholes, L.count)

-- ---- other spare bytes

-- the reader finds the same in t as in s but for the length: n entries, where they end, which they are and where each begins
pub record Alike (f : Family) (s : List ℕ) (n x : ℕ) (t : List ℕ) : Type 0 where
  pub listed : Listed f t n
  pub done : check_of f t ≡ read_as (length t) n x
  pub rev : rev_of t ≡ rev_of s
  pub entries : entries_of t ≡ entries_of s
  pub index : offsets n 8 (drop 8 t) ≡ offsets n 8 (drop 8 s)

-- what follows the entries moves none of them
offsets-built : (f : Family) (rev : ℕ) (es : List (List ℕ)) (at : ℕ) (v w : List ℕ) → Every (Whole f rev) es
    → offsets (length es) at (flatten es ++ v) ≡ offsets (length es) at (flatten es ++ w)
unfolding flatten offsets
offsets-built f rev [] at v w ws = refl
offsets-built f rev (e ∷ es) at v w ws =
    let a = flatten es ++ v in
    let b = flatten es ++ w in
    rw (append_assoc, append_assoc, size-joined f rev e a ws.0, size-joined f rev e b ws.0, drop_at e a (length e) refl, drop_at e b (length e) refl)
    (ap (λ (os : List ℕ). at ∷ os) (offsets-built f rev es (at + length e) v w ws.1))

module _ (f : Family) (s : List ℕ) (l n x : ℕ) (e : check_of f s ≡ read_as l n x) (v : List ℕ) (fits : x + length v < 65536) where
  abbrev H : Header s
  H = (told f s l n x e).listed.head

  abbrev es : List (List ℕ)
  es = entries_of s

  -- what lies between the size and the end, and what followed it
  abbrev kept : List ℕ
  kept = take (x - 4) (drop 4 s)

  abbrev old : List ℕ
  old = drop (x - 4) (drop 4 s)

  abbrev new : List ℕ
  new = with_spare x v s

  bounds : (8 ≤ x) × (x ≤ length s)
  bounds = ((end-within f s l n x e).0, omega (arith, (end-within f s l n x e).1, (told f s l n x e).whole))

  length-kept : length kept ≡ x - 4
  length-kept = length-take-le (x - 4) (drop 4 s) (omega (arith, bounds.1, length-drop 4 s))

  length_two : length (take 2 s) ≡ 2
  length_two = length-take-le 2 s (omega (arith, bounds))

  pub length-with : length new ≡ x + length v
  unfolding with_spare
  length-with =
      let a = length-append (take 2 s) (spell 2 (x + length v) ++ (kept ++ v)) in
      let b = length-append (spell 2 (x + length v)) (kept ++ v) in
      omega (arith, a, b, length-append kept v, length_two, length-kept, length-spell 2 (x + length v), bounds.0)

  -- the first two bytes are those of s
  head-kept : (i : ℕ) → i < 2 → get_or new i 0 ≡ get_or s i 0
  unfolding with_spare
  head-kept i h =
      let a = get_or-append (take 2 s) (spell 2 (x + length v) ++ (kept ++ v)) 0 i (omega (arith, length_two)) in
      let b = get_or-append (take 2 s) (drop 2 s) 0 i (omega (arith, length_two)) in
      a ∙ sym b ∙ ap (λ (u : List ℕ). get_or u i 0) (take-append-drop 2 s)

  behind-two : drop 2 new ≡ spell 2 (x + length v) ++ (kept ++ v)
  unfolding with_spare
  behind-two = drop_at (take 2 s) _ 2 length_two

  behind-size : drop 4 new ≡ kept ++ v
  behind-size =
      sym (drop-drop 2 2 new) ∙ ap (drop 2) behind-two ∙ drop_at (spell 2 (x + length v)) (kept ++ v) 2 (length-spell 2 (x + length v))

  -- so are the count and the zero bytes behind it
  field-kept : (j : ℕ) → j ≤ 2 → le 2 (drop (4 + j) new) ≡ le 2 (drop (4 + j) s)
  field-kept j h =
      let a : le 2 (drop j (kept ++ v)) ≡ le 2 (drop j kept) = le-drop-append 2 j kept v (omega (arith, length-kept, bounds.0)) in
      let b : le 2 (drop j (kept ++ old)) ≡ le 2 (drop j kept) = le-drop-append 2 j kept old (omega (arith, length-kept, bounds.0)) in
      ap (le 2) (sym (drop-drop j 4 new) ∙ ap (drop j) behind-size)
      ∙ a
      ∙ sym b
      ∙ ap (λ (u : List ℕ). le 2 (drop j u)) (take-append-drop (x - 4) (drop 4 s))
      ∙ ap (le 2) (drop-drop j 4 s)

  -- the entries are those of s, and v follows them
  entries-behind : drop 8 s ≡ flatten es ++ drop x s
  unfolding entries_of
  entries-behind =
      let t = told f s l n x e in
      rw (← t.listed.count, t.end) (sym (tiled n 8 s))

  kept-entries : drop 4 kept ≡ flatten es
  kept-entries =
      let a : drop 8 s ≡ drop 4 kept ++ old =
      sym (drop-drop 4 4 s) ∙ ap (drop 4) (sym (take-append-drop (x - 4) (drop 4 s))) ∙ drop-append-le 4 kept old (omega (arith, length-kept, bounds.0)) in
      let p = take_at (drop 4 kept) old (x - 8) (omega (arith, length-drop 4 kept, length-kept)) in
      let q = take_at (flatten es) (drop x s) (x - 8) (omega (arith, end_is f s l n x e)) in
      sym p ∙ ap (take (x - 8)) (sym a ∙ entries-behind) ∙ q

  behind-head : drop 8 new ≡ flatten es ++ v
  behind-head =
      sym (drop-drop 4 4 new)
      ∙ ap (drop 4) behind-size
      ∙ drop-append-le 4 kept v (omega (arith, length-kept, bounds.0))
      ∙ ap (λ (u : List ℕ). u ++ v) kept-entries

  header-new : Header new
  header-new =
      record {
        long = omega (arith, length-with, bounds.0);
        rev = rw (head-kept 0 (omega arith)) H.rev;
        zero = head-kept 1 (omega arith) ∙ H.zero;
        size = ap (le 2) behind-two ∙ field (x + length v) (kept ++ v) fits ∙ sym length-with;
        zeros = field-kept 2 (omega arith) ∙ H.zeros;
      }

  index-new : offsets n 8 (drop 8 new) ≡ offsets n 8 (drop 8 s)
  index-new =
      let d = laid f s n (told f s l n x e).listed in
      ap₂ (λ (m : ℕ) (u : List ℕ). offsets m 8 u) (sym d.count) behind-head
      ∙ offsets-built f (rev_of s) es 8 v (drop x s) d.wholes
      ∙ ap₂ (λ (m : ℕ) (u : List ℕ). offsets m 8 u) d.count (sym entries-behind)

  -- any bytes may follow the entries
  pub any-spare : Alike f s n x new
  unfolding entries_of
  any-spare =
      let t = told f s l n x e in
      let d = laid f s n t.listed in
      let r : rev_of new ≡ rev_of s = head-kept 0 (omega arith) in
      let c : count_of new ≡ n = field-kept 0 (omega arith) ∙ sym t.listed.count in
      let g : Listed f new n =
      record { head = header-new; count = sym c; passes = rw (r, behind-head, ← d.count) (passes-built f (rev_of s) es v d.wholes) } in
      record {
        listed = g;
        done = reads f new n g ∙ ap (read_as (length new) n) (rw (behind-head, ← d.count) (end-built f (rev_of s) es 8 v d.wholes) ∙ sym (end_is f s l n x e));
        rev = r;
        entries = rw (c, behind-head, ← d.count) (cut-built f (rev_of s) es v d.wholes);
        index = index-new;
      }

-- ---- no spare bytes

-- the answer for such a list: the end is its length
unfoldable pub bare_reading : Result Read Fault → Result Read Fault
bare_reading (Ok r) = read_as r.end r.count r.end
bare_reading (Err fault) = Err fault

pub bytes-sized : (f : Family) (s : List ℕ) → Bytes s → Sized f s
bytes-sized f s b l n x e =
    let t = told f s l n x e in
    omega (arith, t.whole, t.listed.head.size, le-lt 2 (drop 2 s) (bytes_drop 2 s b))

pub short-sized : (f : Family) (s : List ℕ) → length s < 65536 → Sized f s
short-sized f s h l n x e = omega (arith, (told f s l n x e).whole)

module _ (f : Family) (s : List ℕ) (sized : Sized f s) where
  module _ (l n x : ℕ) (e : check_of f s ≡ read_as l n x) where
    room-left : x + 0 < 65536
    room-left = omega (arith, (end-within f s l n x e).1, sized l n x e)

    pub bare-length : length (bare f s) ≡ x
    unfolding bare_by
    bare-length = ap (λ (r : Result Read Fault). length (bare_by r s)) e ∙ length-with f s l n x e [] room-left ∙ omega arith

    pub bare_alike : Alike f s n x (bare f s)
    unfolding bare_by
    bare_alike = subst (λ (r : Result Read Fault). Alike f s n x (bare_by r s)) (sym e) (any-spare f s l n x e [] room-left)

  pub bare-reads : check_of f (bare f s) ≡ bare_reading (check_of f s)
  unfolding bare_by bare_reading
  bare-reads = by (check_of f s) refl
    where
      by : (r : Result Read Fault) → check_of f s ≡ r → check_of f (bare_by r s) ≡ bare_reading r
      by (Ok r) q =
          let l = r.length in
          let n = r.count in
          let x = r.end in
          let a = subst (λ (r : Result Read Fault). check_of f (bare_by r s) ≡ read_as (length (bare_by r s)) n x) q (bare_alike l n x q).done in
          a ∙ ap (λ (y : ℕ). read_as y n x) (ap (λ (r : Result Read Fault). length (bare_by r s)) (sym q) ∙ bare-length l n x q)
      by (Err fault) q = q

  -- what holds of s, and of it without spare bytes where it reads as done
  of_bare : (P : List ℕ → Type 0) → P s → ((l n x : ℕ) → check_of f s ≡ read_as l n x → P (bare f s)) → P (bare f s)
  unfolding bare_by
  of_bare P a k = by (check_of f s) refl
    where
      by : (r : Result Read Fault) → check_of f s ≡ r → P (bare_by r s)
      by (Ok r) q = subst (λ (o : Result Read Fault). P (bare_by o s)) q (k r.length r.count r.end q)
      by (Err fault) q = a

  pub bare-shorter : length (bare f s) ≤ length s
  bare-shorter = of_bare (λ t. length t ≤ length s) (omega arith) (λ l n x q. omega (arith, bare-length l n x q, (end-within f s l n x q).1, (told f s l n x q).whole))

  pub bare-entries : entries_of (bare f s) ≡ entries_of s
  bare-entries = of_bare (λ t. entries_of t ≡ entries_of s) refl (λ l n x q. (bare_alike l n x q).entries)

-- a list that has none is left as it is
pub bare-already : (f : Family) (s : List ℕ) (l n : ℕ) → Bytes s → check_of f s ≡ read_as l n l → bare f s ≡ s
unfolding bare_by with_spare
bare-already f s l n b e =
    let t = told f s l n l e in
    let h = t.listed.head in
    let z : l + 0 ≡ le 2 (drop 2 s) = omega (arith, t.whole, h.size) in
    let p : spell 2 (l + 0) ≡ take 2 (drop 2 s) = ap (spell 2) z ∙ spell-le 2 (drop 2 s) (omega (arith, h.long, length-drop 2 s)) (bytes_drop 2 s b) in
    let q : take (l - 4) (drop 4 s) ++ [] ≡ drop 2 (drop 2 s) =
    append-nil _ ∙ take_all (l - 4) (drop 4 s) (omega (arith, t.whole, length-drop 4 s)) ∙ sym (drop-drop 2 2 s) in
    ap (λ (r : Result Read Fault). bare_by r s) e
    ∙ ap₂ (λ (a c : List ℕ). take 2 s ++ (a ++ c)) p q
    ∙ ap (λ (u : List ℕ). take 2 s ++ u) (take-append-drop 2 (drop 2 s))
    ∙ take-append-drop 2 s
