-- Laws of bytes put on the front of a buffer.
use mathlib.Core.Path.{◌≡◌, refl, sym, ap, ap₂, ◌∙◌}
use mathlib.Core.List.{List, ◌++◌, append_assoc, append-nil}
use Prim.Native.Nat.{ℕ, suc, ◌+◌, ◌-◌, ◌≤◌, ◌<◌, min}
use native.Mathlib.Nat.{le_of_lt, le_refl, lt_of_not-le, min-eq_left, min-eq_right}
use native.Mathlib.Decide.{dec_le}
use native.Mathlib.Numerals.{add-one}
use native.Mathlib.Omega.{arith}
use lib.ListN.{length, take, drop, get_or, set, length-append, length-drop, drop_of_length-le}
use lib.Seq.{drop-cons, drop-drop, drop_at, take_at, take-suc, set_at, take_all, take-length, length-take-le}
use Rattle.octets.specs.Bytes.{front, put_on}

pub length_front : (w d : List ℕ) → length w ≤ length d → length (front w d) ≡ length d
length_front w d h = simp (length-append, length-drop) (omega arith)

-- what fills a buffer is all that it holds
pub front-all : (w d : List ℕ) → length d ≤ length w → front w d ≡ w
front-all w d h = rw (drop_of_length-le d h, append-nil)

-- one more byte of a copy
pub copy_more : (s d : List ℕ) (j : ℕ) → j < length s → j < length d
    → set (take j s ++ drop j d) j (get_or s j 0) ≡ take (j + 1) s ++ drop (j + 1) d
copy_more s d j hs hd =
    rw (add-one, drop-cons d j 0, take-suc s j 0, append_assoc)
    (set_at (take j s) (get_or d j 0) (drop (suc j) d) (get_or s j 0) j (length-take-le j s (le_of_lt hs)))

-- all of it, where there is room
pub put_all : (s d : List ℕ) → length s ≤ length d → put_on s d ≡ front s d
unfolding put_on
put_all s d h = rw (take_all (length d) s h)

-- a copy that went on as far as both lists reach
pub put_both : (s d : List ℕ) (n : ℕ) → n ≡ min (length s) (length d) → take n s ++ drop n d ≡ put_on s d
unfolding put_on
put_both s d n e =
    elim (dec_le (length s) (length d)) [
      | yes h ↦ (let m : n ≡ length s = e ∙ min-eq_left h in rw (m, take-length, take_all (length d) s h))
      | no h ↦ (let l : length d ≤ length s = le_of_lt (lt_of_not-le h) in let m : n ≡ length d = e ∙ min-eq_right l in rw (m, length-take-le (length d) s l))
    ]

-- what a writer on the tail does to the whole: p stands on the front already, and the tail from `at` gets w on its front
pub front-then : (p w d : List ℕ) (at : ℕ) → length p ≡ at → length p + length w ≤ length d
    → take at (front p d) ++ front w (drop at (front p d)) ≡ front (p ++ w) d
front-then p w d at e h =
    ap₂ (λ (x y : List ℕ). x ++ front w y) (take_at p (drop (length p) d) at e) (drop_at p (drop (length p) d) at e)
    ∙ rw (drop-drop, length-append, append_assoc) refl

-- the law of a writer on `&mut xs[at..]`, as the whole is stated once the tail is back with ys in it: where p stands on the front of d, and the
-- callee put w on the front of the tail, p and then w stand on the front of d
pub tail-front : (p w d xs ys : List ℕ) (at : ℕ) → xs ≡ front p d → ys ≡ front w (take (length xs - at) (drop at xs)) → length p ≡ at
    → length p + length w ≤ length d → take at xs ++ (ys ++ drop (length xs - at) (drop at xs)) ≡ front (p ++ w) d
tail-front p w d xs ys at ex ey e h =
    let l : length xs ≡ length d = ap length ex ∙ length_front p d (omega arith) in
    let m : length (drop at xs) ≤ length xs - at = rw length-drop (le_refl _) in
    ap (λ (z : List ℕ). take at xs ++ (z ++ drop (length xs - at) (drop at xs))) ey
    ∙ rw (take_all (length xs - at) (drop at xs) m, drop_of_length-le (drop at xs) m, append-nil) refl
    ∙ ap (λ (z : List ℕ). take at z ++ front w (drop at z)) ex
    ∙ front-then p w d at e h

-- the same of `put`
pub tail-put : (p w d xs ys : List ℕ) (at : ℕ) → xs ≡ front p d → ys ≡ put_on w (take (length xs - at) (drop at xs)) → length p ≡ at
    → length p + length w ≤ length d → take at xs ++ (ys ++ drop (length xs - at) (drop at xs)) ≡ front (p ++ w) d
tail-put p w d xs ys at ex ey e h =
    let l : length xs ≡ length d = ap length ex ∙ length_front p d (omega arith) in
    let m : length (take (length xs - at) (drop at xs)) ≡ length xs - at = length-take-le (length xs - at) (drop at xs) (rw length-drop (le_refl _)) in
    tail-front p w d xs ys at ex (ey ∙ put_all w (take (length xs - at) (drop at xs)) (omega arith)) e h

-- xs is d with its own first `at` bytes on the front: all that was written stands before `at`
pub record Stands (xs d : List ℕ) (at : ℕ) : Type 0 where
  pub long : length (take at xs) ≡ at
  pub whole : xs ≡ front (take at xs) d

pub stands-none : (d : List ℕ) → Stands d d 0
stands-none d = record { long = refl; whole = refl }

pub stands-length : (xs d : List ℕ) (at : ℕ) → Stands xs d at → at ≤ length d → length xs ≡ length d
stands-length xs d at g h = ap length g.whole ∙ length_front (take at xs) d (omega arith)

-- one more writer on the tail: its bytes are added to those that stand
pub record Grown (xs d zs w : List ℕ) (at k : ℕ) : Type 0 where
  pub more : take (at + k) zs ≡ take at xs ++ w
  pub stands : Stands zs d (at + k)

pub grown : (d xs ys w : List ℕ) (at k : ℕ) → Stands xs d at → ys ≡ front w (take (length xs - at) (drop at xs)) → k ≡ length w → at + k ≤ length d
    → Grown xs d (take at xs ++ (ys ++ drop (length xs - at) (drop at xs))) w at k
grown d xs ys w at k g ey ek h =
    let p = take at xs in
    let zs = take at xs ++ (ys ++ drop (length xs - at) (drop at xs)) in
    let e : zs ≡ front (p ++ w) d = tail-front p w d xs ys at g.whole ey g.long (omega (arith, g.long)) in
    let l : length (p ++ w) ≡ at + k = length-append p w ∙ omega (arith, g.long) in
    let m : take (at + k) zs ≡ p ++ w = ap (take (at + k)) e ∙ take_at (p ++ w) _ (at + k) l in
    record { more = m; stands = record { long = ap length m ∙ l; whole = e ∙ ap (λ (z : List ℕ). front z d) (sym m) } }
