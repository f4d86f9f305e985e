-- Laws of the bytes at a place, and of bytes put at a place: what a part holds after a put at it, before it, behind it or in it.
use mathlib.Core.Path.{◌≡◌, refl, sym, ap, ◌∙◌}
use mathlib.Core.List.{List, [], ◌∷◌, ◌++◌, append_assoc, append-nil}
use Prim.Native.Nat.{ℕ, zero, suc, ◌+◌, ◌-◌, ◌≤◌, ◌<◌, min}
use native.Mathlib.Nat.{lt_of_not-le, add-zero, add_assoc, le_of_lt, min-eq_left, min-eq_right}
use native.Mathlib.Decide.{dec_le}
use native.Mathlib.Numerals.{add-one}
use native.Mathlib.Omega.{arith}
use lib.ListN.{length, take, drop, get_or, set, length-take, length-drop, length-append, take-append-drop, drop_of_length-le}
use lib.Seq.{take-append-le, take-append-add, drop-append-le, drop-append-add, drop_at, take_at, take-take, take_all, take-length, length-take-le}
use lib.Seq.{drop-length, drop-drop, get_or-take, get_or-drop, set_split}
use Rattle.octets.specs.Bytes.{part, put_at, put_on}
use Rattle.octets.proofs.Writes.{tail-put}

-- one order or the other
pub split {ℓ} : {X : Type ℓ} (a b : ℕ) → (a ≤ b → X) → (b < a → X) → X
split a b f g = elim (dec_le a b) [ yes h ↦ f h | no h ↦ g (lt_of_not-le h) ]

pub length_part : (a n : ℕ) (l : List ℕ) → a + n ≤ length l → length (part a n l) ≡ n
unfolding part
length_part a n l h = length-take-le n (drop a l) (simp length-drop (omega arith))

-- a part at the front
pub part-first : (n : ℕ) (l : List ℕ) → part 0 n l ≡ take n l
unfolding part
part-first n l = refl

pub part-most : (a n : ℕ) (l : List ℕ) → length (part a n l) ≤ n
unfolding part
part-most a n l = simp length-take (omega arith)

pub length-put : (a : ℕ) (b l : List ℕ) → a + length b ≤ length l → length (put_at a b l) ≡ length l
unfolding put_at
length-put a b l h = simp (length-append, length-take, length-drop) (omega arith)

part-mid : (a n : ℕ) (p q r : List ℕ) → length p ≡ a → length q ≡ n → part a n (p ++ (q ++ r)) ≡ q
unfolding part
part-mid a n p q r e f = ap (take n) (drop_at p (q ++ r) a e) ∙ take_at q r n f

pub part-put-same : (a n : ℕ) (b l : List ℕ) → length b ≡ n → a + n ≤ length l → part a n (put_at a b l) ≡ b
unfolding put_at
part-put-same a n b l e h = part-mid a n (take a l) b (drop (a + length b) l) (length-take-le a l (omega arith)) e

part-take : (a n c : ℕ) (l : List ℕ) → a + n ≤ c → take n (drop a (take c l)) ≡ take n (drop a l)
part-take zero n c l h = take-take n c l (omega arith)
part-take (suc a) n zero l h = absurd (omega arith)
part-take (suc a) n (suc c) [] h = refl
part-take (suc a) n (suc c) (x ∷ xs) h = part-take a n c xs (omega arith)

-- a part of a list's front
pub part-of-take : (a n m : ℕ) (l : List ℕ) → a + n ≤ m → part a n (take m l) ≡ part a n l
unfolding part
part-of-take a n m l h = part-take a n m l h

-- a part of the first of two lists
pub part-front : (a n : ℕ) (l m : List ℕ) → a + n ≤ length l → part a n (l ++ m) ≡ part a n l
unfolding part
part-front a n l m h =
    ap (take n) (drop-append-le a l m (omega arith))
    ∙ take-append-le n (drop a l) m (simp length-drop (omega arith))

pub part-put-before : (a n c : ℕ) (b l : List ℕ) → a + n ≤ c → c ≤ length l → part a n (put_at c b l) ≡ part a n l
unfolding put_at
part-put-before a n c b l h k =
    let e = length-take-le c l k in
    part-front a n (take c l) (b ++ drop (c + length b) l) (rw e h) ∙ part-of-take a n c l h

pub part-put-after : (a n c : ℕ) (b l : List ℕ) → c + length b ≤ a → c + length b ≤ length l → part a n (put_at c b l) ≡ part a n l
unfolding part put_at
part-put-after a n c b l h k =
    let e : length (take c l ++ b) ≡ c + length b = simp (length-append, length-take) (omega arith) in
    let f : a ≡ length (take c l ++ b) + (a - (c + length b)) = omega arith in
    let g : c + length b + (a - (c + length b)) ≡ a = omega arith in
    ap (take n)
    (ap (drop a) (sym (append_assoc (take c l) b (drop (c + length b) l)))
    ∙ ap (λ (k : ℕ). drop k ((take c l ++ b) ++ drop (c + length b) l)) f
    ∙ drop-append-add (take c l ++ b) (drop (c + length b) l) (a - (c + length b))
    ∙ drop-drop (a - (c + length b)) (c + length b) l
    ∙ ap (λ (k : ℕ). drop k l) g)

-- a byte of a part
pub get_d_part : (a n i : ℕ) (l : List ℕ) → i < n → get_or (part a n l) i 0 ≡ get_or l (a + i) 0
unfolding part
get_d_part a n i l h = get_or-take n (drop a l) i 0 h ∙ get_or-drop a l i 0

pub part-part : (a n c m : ℕ) (l : List ℕ) → c + m ≤ n → part c m (part a n l) ≡ part (a + c) m l
unfolding part
part-part a n c m l h = part-take c m n (drop a l) h ∙ ap (take m) (drop-drop c a l)

-- two parts side by side
pub put-append : (a : ℕ) (b c l : List ℕ) → a + length b + length c ≤ length l → put_at (a + length b) c (put_at a b l) ≡ put_at a (b ++ c) l
unfolding put_at
put-append a b c l h =
    let ta : length (take a l) ≡ a = length-take-le a l (omega arith) in
    let e : length (take a l ++ b) ≡ a + length b = simp (length-append) (omega arith) in
    let q : take a l ++ (b ++ drop (a + length b) l) ≡ (take a l ++ b) ++ drop (a + length b) l = sym (append_assoc (take a l) b (drop (a + length b) l)) in
    let k : a + length b + length c ≡ length (take a l ++ b) + length c = omega arith in
    let n : a + length b + length c ≡ a + length (b ++ c) = simp length-append (omega arith) in
    ap (λ (t : List ℕ). take (a + length b) t ++ (c ++ drop (a + length b + length c) t)) q
    ∙ ap (λ (t : List ℕ). t ++ (c ++ drop (a + length b + length c) ((take a l ++ b) ++ drop (a + length b) l)))
    (take_at (take a l ++ b) (drop (a + length b) l) (a + length b) e)
    ∙ ap (λ (t : List ℕ). (take a l ++ b) ++ (c ++ t))
    (ap (λ (m : ℕ). drop m ((take a l ++ b) ++ drop (a + length b) l)) k
    ∙ drop-append-add (take a l ++ b) (drop (a + length b) l) (length c)
    ∙ drop-drop (length c) (a + length b) l
    ∙ ap (λ (m : ℕ). drop m l) n)
    ∙ append_assoc (take a l) b (c ++ drop (a + length (b ++ c)) l)
    ∙ ap (λ (t : List ℕ). take a l ++ t) (sym (append_assoc b c (drop (a + length (b ++ c)) l)))

pub put-nil : (a : ℕ) (l : List ℕ) → put_at a [] l ≡ l
unfolding put_at
put-nil a l = rw add-zero (take-append-drop a l)

-- a store is the put of one byte
pub put_one : (a x : ℕ) (l : List ℕ) → a < length l → put_at a (x ∷ []) l ≡ set l a x
unfolding put_at
put_one a x l h = rw add-one (sym (set_split l a x h))

-- one byte more at the end
pub put-snoc : (a n x : ℕ) (b l : List ℕ) → length b ≡ n → a + n < length l → set (put_at a b l) (a + n) x ≡ put_at a (b ++ (x ∷ [])) l
put-snoc a n x b l e h =
    let k : a + length b < length (put_at a b l) = rw (length-put a b l (omega arith)) (omega arith) in
    let m : a + length b + length {A = ℕ} (x ∷ []) ≤ length l = omega arith in
    rw (← e) (sym (put_one (a + length b) x (put_at a b l) k) ∙ put-append a b (x ∷ []) l m)

-- all of a list
pub put_whole : (b l : List ℕ) → length b ≡ length l → put_at 0 b l ≡ b
unfolding put_at
put_whole b l e =
    let k : length l ≤ 0 + length b = omega arith in
    rw (drop_of_length-le l k) (append-nil b)

-- a part of what was put
pub part-put-in : (c d k : ℕ) (b l : List ℕ) → d + k ≤ length b → c + length b ≤ length l → part (c + d) k (put_at c b l) ≡ part d k b
part-put-in c d k b l h m =
    sym (part-part c (length b) d k (put_at c b l) h) ∙ ap (part d k) (part-put-same c (length b) b l refl m)

put_right : (c : ℕ) (b p q : List ℕ) → put_at (length p + c) b (p ++ q) ≡ p ++ put_at c b q
unfolding put_at
put_right c b p q = rw (take-append-add, add_assoc, drop-append-add, append_assoc)

put-left : (c : ℕ) (b p q : List ℕ) → c + length b ≤ length p → put_at c b (p ++ q) ≡ put_at c b p ++ q
unfolding put_at
put-left c b p q h =
    let k : c ≤ length p = omega arith in
    rw (take-append-le c p q k, drop-append-le (c + length b) p q h, append_assoc, append_assoc)

-- a part that a put lies in
pub part-put-on : (a n c : ℕ) (b l : List ℕ) → c + length b ≤ n → a + n ≤ length l → part a n (put_at (a + c) b l) ≡ put_at c b (part a n l)
unfolding part
part-put-on a n c b l h m =
    let p = take a l in
    let q = take n (drop a l) in
    let r = drop n (drop a l) in
    let e : length p ≡ a = length-take-le a l (omega arith) in
    let f : length q ≡ n = length_part a n l m in
    let w : l ≡ p ++ (q ++ r) = sym (rw (take-append-drop n (drop a l)) (take-append-drop a l)) in
    let x : put_at (length p + c) b (p ++ (q ++ r)) ≡ p ++ (put_at c b q ++ r) =
    put_right c b p (q ++ r) ∙ ap (λ (t : List ℕ). p ++ t) (put-left c b q r (omega arith)) in
    ap (λ (k : ℕ). part a n (put_at (k + c) b l)) (sym e)
    ∙ ap (λ (t : List ℕ). part a n (put_at (length p + c) b t)) w
    ∙ ap (part a n) x
    ∙ part-mid a n p (put_at c b q) r e (length-put c b q (omega arith) ∙ f)

-- a byte by its part
pub byte-same : (i : ℕ) (l m : List ℕ) → part i 1 l ≡ part i 1 m → get_or l i 0 ≡ get_or m i 0
byte-same i l m e = at l ∙ ap (λ (b : List ℕ). get_or b 0 0) e ∙ sym (at m)
  where
    at : (x : List ℕ) → get_or x i 0 ≡ get_or (part i 1 x) 0 0
    at x = ap (λ (k : ℕ). get_or x k 0) (sym (add-zero i)) ∙ sym (get_d_part i 1 0 x (omega arith))

-- a place, or a length, that goes no further than the list
pub drop-least : (n : ℕ) (l : List ℕ) → drop (min n (length l)) l ≡ drop n l
drop-least n l = split n (length l) (λ h. rw (min-eq_left h)) (λ h. let k = le_of_lt h in rw (min-eq_right k, drop-length, drop_of_length-le l k))

pub take-least : (n : ℕ) (l : List ℕ) → take (min n (length l)) l ≡ take n l
take-least n l = split n (length l) (λ h. rw (min-eq_left h)) (λ h. let k = le_of_lt h in rw (min-eq_right k, take-length, take_all n l k))

-- `&s[at..]` is what is left
pub rest-is : (s : List ℕ) (at : ℕ) → take (length s - at) (drop at s) ≡ drop at s
rest-is s at = take_all (length s - at) (drop at s) (omega (arith, length-drop at s))

-- how the code takes a part: as much of it as there is
pub part-least : (s : List ℕ) (at n from long : ℕ) → from ≡ min at (length s) → long ≡ min n (length s - from)
    → take (from + long - from) (drop from s) ≡ part at n s
unfolding part
part-least s at n from long e f =
    let g : drop from s ≡ drop at s = rw e (drop-least at s) in
    let k : from + long - from ≡ min n (length (drop from s)) = rw length-drop (omega arith) in
    rw k (take-least n (drop from s)) ∙ ap (take n) g

-- how the code writes at a place: on the front of the tail from there on
pub put-tail : (at : ℕ) (b xs ys : List ℕ) → at + length b ≤ length xs → ys ≡ put_on b (take (length xs - at) (drop at xs))
    → take at xs ++ (ys ++ drop (length xs - at) (drop at xs)) ≡ put_at at b xs
unfolding put_at
put-tail at b xs ys h e =
    let l : length (take at xs) ≡ at = length-take-le at xs (omega arith) in
    tail-put (take at xs) b xs xs ys at (rw l (sym (take-append-drop at xs))) e l (omega arith) ∙ rw (append_assoc, length-append, l)
