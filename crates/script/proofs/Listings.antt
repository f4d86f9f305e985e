-- Laws of the listing: its lines, what the tree answers for each, and the text on the front of what is lent for it.
use mathlib.Core.Path.{◌≡◌, refl, sym, ap, ◌∙◌}
use mathlib.Core.List.{List, [], ◌∷◌, ◌++◌}
use mathlib.Core.Bool.{Bool, true, false, not, cond}
use mathlib.Core.Option.{none, some}
use Prim.Native.Nat.{ℕ, zero, suc, ◌+◌, ◌*◌, ◌≤◌, ◌<◌}
use native.Mathlib.Nat.{zero-add}
use native.Mathlib.Numerals.{add-one}
use native.Mathlib.Omega.{arith}
use lib.ListN.{length, get_or, take, drop, length-append}
use Rattle.list.specs.List.{MaybeList, count_of, lent}
use Rattle.octets.specs.Bytes.{Bytes, le, part}
use Rattle.octets.proofs.Little.{bytes_drop, le-lt}
use Rattle.octets.proofs.Tests.{tests, off}
use Rattle.tree.specs.Shown.{lists_in}
use Rattle.std.specs.Prelude.{Ok, Err, IsOk}
use Rattle.refusal.specs.declared.Fault.{Fault}
use Rattle.refusal.specs.declared.Refusal.TheVariants as Why
use Rattle.tree.specs.declared.Done.{Done}
use Rattle.tree.specs.Held.{has_list, bytes_in, held}
use Rattle.tree.specs.Room.{objects, kept_steps, slot_at, slot}
use Rattle.tree.specs.Formed.{formed}
use Rattle.octets.specs.Order.{need}
use Rattle.tree.proofs.Numbers.{promised}
use Rattle.tree.specs.Calls.{Answer, tells, refusal, Promised, told_as, on_object, list_bytes, copied, list_to, counts_to}
use Rattle.tree.proofs.Tested.{head-says, formed-parts, bytes_most}
use Rattle.tree.proofs.Tab.{length-tab, get_d-tab}
use Rattle.script.specs.Text.{decimal, objects_text, none_text, space, newline, columns_by, columns, line, lines, heading, listing, bad_line}
use Rattle.script.specs.Inner.Laying.{laid_at}
use Rattle.script.specs.Play.{Ending, Listed, BadAt, text_of, ending_answer, text_to, listing_to}
use Rattle.script.proofs.Laid.{decimal-20, laid-nothing, laid-all, Lays, lays, lays-then}

-- ---- the columns

pub columns_none : (n k : ℕ) {is : Bool} → is ≡ false → columns_by n is k ≡ none_text
unfolding columns_by
columns_none n k e = rw e

pub columns-some : (n k : ℕ) (is : Bool) → not is ≡ false → columns_by n is k ≡ decimal n ++ (space ++ decimal k)
unfolding columns_by
columns-some n k true e = refl
columns-some n k false e = absurd (off refl e)

-- from what the tree tells of a list
pub columns-told : (o : MaybeList) {d : Done} → told_as o ≡ Ok d → columns_by d.length d.present d.count ≡ columns o
unfolding told_as columns
columns-told none e = cc
columns-told (some s) e = cc

-- a list's answer is no refusal
pub told-ok : (o : MaybeList) {a : Answer} → told_as o ≡ a → IsOk a
unfolding told_as
told-ok none e = rw (← e) refl
told-ok (some s) e = rw (← e) refl

-- a line by what the tree tells
pub line-told : (i : ℕ) (o : MaybeList) {k : Done} {at r : ℕ} {d out : List ℕ} → told_as o ≡ Ok k
    → Lays at (decimal i ++ (space ++ (columns_by k.length k.present k.count ++ newline))) d r out → Lays at (line i o) d r out
unfolding line
line-told i o e l = rw (← columns-told o e) l

-- ---- the lists of a room

pub lists_length : (r : List ℕ) → length (lists_in r) ≡ objects r
unfolding lists_in
lists_length r = length-tab (objects r) _

pub lists_at : (r : List ℕ) (i : ℕ) → i < objects r → get_or (lists_in r) i none ≡ held (slot i r)
unfolding lists_in
lists_at r i h = get_d-tab (objects r) (λ j. held (slot j r)) i none h

pub objects-most : (r : List ℕ) → formed r ≡ true → objects r ≤ 64
objects-most r h = let f = head-says r (formed-parts r h).head_ok in omega arith

held-most : (s : List ℕ) → length (list_bytes (held s)) ≤ 1024
unfolding list_bytes
held-most s = by (has_list s)
  where
    by : (b : Bool) → length (list_bytes (cond b (some (bytes_in s)) none)) ≤ 1024
    by true = bytes_most s
    by false = omega arith

-- 1,024 bytes are room enough for a list
pub list-told : (i : ℕ) (r out : List ℕ) → formed r ≡ true → i < objects r → length out ≡ 1024 → (list_to i r out).answer ≡ told_as (held (slot i r))
unfolding list_to on_object copied need
list-told i r out f h e =
    let m : length (list_bytes (held (slot i r))) ≤ length out = rw e (held-most (slot i r)) in
    simp (tests, f)

-- ---- the lines one after another

lines_more : (i : ℕ) (os : List MaybeList) → lines (i + 1) os ≡ lines i os ++ line i (get_or os i none)
unfolding lines
lines_more i os = rw add-one

-- the first i lines are laid in d from `from` on, and end at `at`
pub record Lined (os : List MaybeList) (from : ℕ) (d : List ℕ) (i at : ℕ) (out : List ℕ) : Type 0 where
  pub laid : Lays from (lines i os) d at out
  pub most : at ≤ from + 63 * i

pub lined-none : (os : List MaybeList) (from : ℕ) (d : List ℕ) → Lined os from d 0 from d
unfolding lines
lined-none os from d = record { laid = lays from [] d from d (omega arith) (sym (laid-nothing from d)); most = omega arith }

pub lined-more : {os : List MaybeList} {from i at end : ℕ} {d out done : List ℕ} {o : MaybeList}
    → Lined os from d i at out → get_or os i none ≡ o → end ≤ at + 63 → Lays at (line i o) out end done → Lined os from d (i + 1) end done
lined-more {os} {i = i} g e h l = record { laid = rw (lines_more i os, e) (lays-then g.laid l); most = omega (arith, g.most) }

-- the heading, and all lines
pub lined-all : {os : List MaybeList} {from n i at : ℕ} {d out done : List ℕ} → n ≡ length os → i ≡ n
    → Lays 0 (objects_text ++ (decimal n ++ newline)) d from out → Lined os from out i at done → (at ≡ length (listing os)) × (done ≡ laid_at 0 (listing os) d)
unfolding listing heading
lined-all e f h g = let l = lays-then h (rw f at g.laid) in rw (← e) (l.ends ∙ zero-add _, l.text)

-- ---- a text on the front of what is lent for it

module _ (e : Ending) (out : List ℕ) where
  written-no : length out < length (text_of e) → {a : Answer} → a ≡ refusal Why.Room 0 0 → (a ≡ (text_to e out).answer) × (out ≡ (text_to e out).bytes)
  unfolding text_to copied need
  written-no h f = simp tests (f, refl)

  written_all : length (text_of e) ≤ length out → (ending_answer e ≡ (text_to e out).answer) × (laid_at 0 (text_of e) out ≡ (text_to e out).bytes)
  unfolding text_to copied need
  written_all h = simp tests (refl, laid-all (text_of e) out h)

module _ (n : ℕ) (out : List ℕ) {r : ℕ} (e : r ≡ length (bad_line n)) where
  pub bad-no : length out < r → {a : Answer} → a ≡ refusal Why.Room 0 0 → Promised (text_to (BadAt n) out) a out
  unfolding text_of
  bad-no h f = promised (text_to (BadAt n) out) (written-no (BadAt n) out (omega arith) f)

  pub bad-all : r ≤ length out → {done : List ℕ} → done ≡ laid_at 0 (bad_line n) out
      → Promised (text_to (BadAt n) out) (tells r false 0) done
  unfolding text_of ending_answer
  bad-all h f =
      let w = written_all (BadAt n) out (omega arith) in
      promised (text_to (BadAt n) out) (ap (λ (k : ℕ). tells k false 0) e ∙ w.0, f ∙ w.1)

module _ (os : List MaybeList) (out : List ℕ) {r : ℕ} (e : r ≡ length (listing os)) where
  pub listed-no : length out < r → {a : Answer} → a ≡ refusal Why.Room 0 0 → Promised (text_to (Listed os) out) a out
  unfolding text_of
  listed-no h f = promised (text_to (Listed os) out) (written-no (Listed os) out (omega arith) f)

  pub listed-all : r ≤ length out → {n : ℕ} {done : List ℕ} → n ≡ length os → done ≡ laid_at 0 (listing os) out
      → Promised (text_to (Listed os) out) (tells r true n) done
  unfolding text_of ending_answer
  listed-all h g f =
      let w = written_all (Listed os) out (omega arith) in
      promised (text_to (Listed os) out) (rw (e, g) w.0, f ∙ w.1)

-- ---- a room's listing, by what the tree answers of its counts

pub counts-done : (r : List ℕ) {d : Done} → counts_to r ≡ Ok d → (formed r ≡ true) × (d.length ≡ objects r)
unfolding counts_to
counts-done r {d} e = by (formed r) refl
  where
    by : (b : Bool) → formed r ≡ b → (formed r ≡ true) × (d.length ≡ objects r)
    by true f = let g = rw f at e in let q : record { length = objects r; present = true; count = kept_steps r } ≡ d = cc in (f, sym (ap (λ (x : Done). x.length) q))
    by false f = let g = rw f at e in let z : ◌≡◌ {A = ℕ} 0 1 = cc in absurd (omega arith)

pub listing-done : (r out : List ℕ) → formed r ≡ true → {a : Answer} {done : List ℕ}
    → Promised (text_to (Listed (lists_in r)) out) a done → Promised (listing_to r out) a done
unfolding listing_to need
listing-done r out f w = rw f w

pub listing-refused : (r out : List ℕ) {f : Fault} {a : Answer} → counts_to r ≡ Err f → a ≡ Err f → Promised (listing_to r out) a out
unfolding counts_to listing_to need
listing-refused r out {f} {a} e q = promised (listing_to r out) (by (formed r) refl)
  where
    by : (b : Bool) → formed r ≡ b → (a ≡ (listing_to r out).answer) × (out ≡ (listing_to r out).bytes)
    by true g = let h = rw g at e in let z : ◌≡◌ {A = ℕ} 0 1 = cc in absurd (omega arith)
    by false g = let h = rw g at e in rw g (q ∙ sym h, refl)

-- ---- 4,096 bytes are room enough for every text

pub bytes_take : (n : ℕ) (s : List ℕ) → Bytes s → Bytes (take n s)
bytes_take zero s h i = omega arith
bytes_take (suc n) [] h i = omega arith
bytes_take (suc n) (x ∷ s) h zero = h 0
bytes_take (suc n) (x ∷ s) h (suc i) = bytes_take n s (λ j. h (suc j)) i

bytes-part : (at n : ℕ) (s : List ℕ) → Bytes s → Bytes (part at n s)
unfolding part
bytes-part at n s b = bytes_take n (drop at s) (bytes_drop at s b)

held_bytes : (i : ℕ) (r : List ℕ) → Bytes r → Bytes (bytes_in (slot i r))
unfolding bytes_in slot
held_bytes i r b = bytes-part 0 (le 2 (drop 1 (slot i r))) (part 3 1024 (slot i r)) (bytes-part 3 1024 (slot i r) (bytes-part (slot_at i) 1027 r b))

columns-most : (s : List ℕ) → Bytes (bytes_in s) → length (columns (held s)) ≤ 41
unfolding columns columns_by
columns-most s b = by (has_list s)
  where
    by : (is : Bool) → length (columns (lent is (bytes_in s))) ≤ 41
    by true =
        let n = decimal-20 (length (bytes_in s)) (omega (arith, bytes_most s)) in
        let m : count_of (bytes_in s) < 65536 = le-lt 2 (drop 4 (bytes_in s)) (bytes_drop 4 (bytes_in s) b) in
        let k = decimal-20 (count_of (bytes_in s)) (omega arith) in
        simp length-append (omega arith)
    by false = omega arith

lines-most : (r : List ℕ) → Bytes r → (n : ℕ) → n ≤ objects r → n ≤ 64 → length (lines n (lists_in r)) ≤ 63 * n
unfolding lines line
lines-most r b zero h l = omega arith
lines-most r b (suc n) h l =
    let m = lines-most r b n (omega arith) (omega arith) in
    let d = decimal-20 n (omega arith) in
    let c = columns-most (slot n r) (held_bytes n r b) in
    rw (lists_at r n (omega arith)) (simp length-append (omega arith))

heading-most : (n : ℕ) → n ≤ 64 → length (heading n) ≤ 29
unfolding heading
heading-most n h = let d = decimal-20 n (omega arith) in simp length-append (omega arith)

pub listing-most : (r : List ℕ) → formed r ≡ true → Bytes r → length (text_of (Listed (lists_in r))) ≤ 4096
unfolding text_of listing
listing-most r f b =
    let m = objects-most r f in
    let h = heading-most (objects r) m in
    let l = lines-most r b (objects r) (omega arith) m in
    rw (lists_length r) (simp length-append (omega arith))

pub bad-most : (n : ℕ) → n < 18446744073709551616 → length (text_of (BadAt n)) ≤ 4096
unfolding text_of bad_line
bad-most n h = let d = decimal-20 n h in simp length-append (omega arith)
