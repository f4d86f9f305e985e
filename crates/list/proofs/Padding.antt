-- Padding up to a multiple of four; so a good entry's size is one.
use mathlib.Core.Path.{◌≡◌, refl, sym, ap, ◌∙◌}
use mathlib.Core.Bool.{Bool, true, false, cond, ◌&&◌}
use mathlib.Core.List.{List}
use Prim.Native.Nat.{ℕ, ◌+◌, ◌-◌, ◌*◌, ◌/◌, ◌%◌, ◌≤◌}
use native.Mathlib.Omega.{arith}
use lib.ListN.{get_or, drop}
use lib.Dec.{eqb, leb, ltb}
use borrow.Author.Tests.{eq-eqb, ne_eqb, lt-ltb, le-ltb}
use Rattle.condition.specs.Kind.{up_to_four}
use Rattle.list.specs.Identity.{length_of_sid}
use Rattle.list.specs.Entry.{Family, object_kind, conditional_kind, head_of, kind_of, size_of, word_of, guids_of, sid_at, sid_len_of, sid_end, tail_of, tail_long}
use Rattle.list.specs.Good.{Sound}
use Rattle.octets.proofs.Places.{split}
use Rattle.list.proofs.Pieces.{sid-inside}

pub padded-four : (n : ℕ) → up_to_four n % 4 ≡ 0
unfolding up_to_four
padded-four n = omega arith

-- another number is no padded one
pub not-four : (n m : ℕ) → (m % 4 ≡ 0 → ⊥) → eqb (up_to_four n) m ≡ false
not-four n m f = ne_eqb (up_to_four n) m (λ e. f (ap (λ (x : ℕ). x % 4) (sym e) ∙ padded-four n))

-- a multiple of four, n or past it, is the padded one exactly where it is less than four past n
pub next-four : (n m : ℕ) → n ≤ m → m % 4 ≡ 0 → eqb (up_to_four n) m ≡ ltb (m - n) 4
unfolding up_to_four
next-four n m h e =
    split 4 (m - n)
    (λ l. ne_eqb (4 * ((n + 3) / 4)) m (λ q. omega arith) ∙ sym (le-ltb (m - n) 4 l))
    (λ l. eq-eqb (4 * ((n + 3) / 4)) m (omega arith) ∙ sym (lt-ltb (m - n) 4 l))

-- the parts of an entry, each a multiple of four: its head, its GUIDs, its SID, what follows that
either-four : (b : Bool) (x y : ℕ) → x % 4 ≡ 0 → y % 4 ≡ 0 → cond b x y % 4 ≡ 0
either-four true x y h k = h
either-four false x y h k = k

sum-four : (x y : ℕ) → x % 4 ≡ 0 → y % 4 ≡ 0 → (x + y) % 4 ≡ 0
sum-four x y h k = omega arith

head-four : (k : ℕ) → head_of k % 4 ≡ 0
unfolding head_of
head-four k = either-four (object_kind k) 12 8 refl refl

guids-four : (n : ℕ) → (16 * n) % 4 ≡ 0
guids-four n = omega arith

pub sid-four : (s : List ℕ) → length_of_sid s % 4 ≡ 0
unfolding length_of_sid
sid-four s = either-four (eqb (get_or s 0 0) 1 && leb (get_or s 1 0) 15) (8 + 4 * get_or s 1 0) 0 (omega arith) refl

tail-four : (k : ℕ) (tail : List ℕ) → tail_long k tail % 4 ≡ 0
unfolding tail_long
tail-four k tail = either-four (conditional_kind k) _ 0 (padded-four _) refl

-- a good entry's size is a multiple of four
pub size-four : (f : Family) (rev : ℕ) (t : List ℕ) → Sound f rev t → size_of t % 4 ≡ 0
size-four f rev t s =
    ap (λ (n : ℕ). n % 4) (sym (sid-inside f rev t s))
    ∙ sum-four (sid_end t) (tail_long (kind_of t) (tail_of t))
    (sum-four (sid_at t) (sid_len_of t) (sum-four (head_of (kind_of t)) (guids_of (word_of t)) (head-four (kind_of t)) (guids-four _)) (sid-four (drop (sid_at t) t)))
    (tail-four (kind_of t) (tail_of t))
