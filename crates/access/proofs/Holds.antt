-- The held SIDs: one after the other, however they are counted; which bytes are SIDs to their end; and how the code counts and compares them.
use mathlib.Core.Path.{◌≡◌, refl, sym, ap, ◌∙◌}
use mathlib.Core.Bool.{Bool, true, false}
use mathlib.Core.List.{List, [], ◌∷◌, ◌++◌, append_assoc, append-nil, flatten}
use Prim.Native.Nat.{ℕ, zero, suc, ◌+◌, ◌-◌, ◌*◌, ◌≤◌, ◌<◌}
use native.Mathlib.Nat.{not-suc-le-zero}
use native.Mathlib.Omega.{arith}
use lib.ListN.{length, get_or, take, drop, length-append, length-drop, drop_of_length-le, take-append-drop}
use lib.Seq.{drop-drop, drop_at, take_at, length-take-le}
use borrow.Author.Tests.{eq-eqb, ne_eqb, le-leb, lt-leb, lt-ltb, le-ltb, eqb-true}
use Rattle.octets.specs.Order.{need}
use Rattle.octets.specs.Bytes.{same_bytes}
use Rattle.list.specs.Identity.{is_sid, whole_sid}
use Rattle.list.specs.Good.{Every}
use Rattle.octets.proofs.Places.{split}
use Rattle.octets.proofs.Tests.{off}
use Rattle.octets.proofs.Same.{same-no}
use Rattle.list.proofs.Sids.{whole-short, whole-sid, whole_says, whole-joined, one-sid, sid-length}
use Rattle.access.specs.Held.{sids_in, held_of, reaches_end}
use Rattle.access.specs.Inner.Decide.{fine, held_fault}
use Rattle.refusal.specs.declared.Refusal.TheVariants.{Identity, Types}
use Rattle.std.specs.Prelude.{◌==◌, Err}

-- ---- one after the other

in-none : (n : ℕ) (h : List ℕ) → whole_sid h ≡ 0 → sids_in n h ≡ []
unfolding sids_in
in-none zero h e = refl
in-none (suc n) h e = rw (le-ltb 0 (whole_sid h) (omega arith))

in-more : (n : ℕ) (h : List ℕ) → 0 < whole_sid h → sids_in (suc n) h ≡ take (whole_sid h) h ∷ sids_in n (drop (whole_sid h) h)
unfolding sids_in
in-more n h p = rw (lt-ltb 0 (whole_sid h))

-- none, or one more
by_whole {ℓ} : {X : Type ℓ} (h : List ℕ) → (whole_sid h ≡ 0 → X) → (0 < whole_sid h → X) → X
by_whole h none more = split (whole_sid h) 0 (λ l. none (omega arith)) more

-- so many bytes, so many SIDs at the most
enough : (n m : ℕ) (h : List ℕ) → length h ≤ n → length h ≤ m → sids_in n h ≡ sids_in m h
enough zero m h p q = let e = whole-short h (omega arith) in in-none zero h e ∙ sym (in-none m h e)
enough (suc n) zero h p q = let e = whole-short h (omega arith) in in-none (suc n) h e ∙ sym (in-none zero h e)
enough (suc n) (suc m) h p q =
    by_whole h (λ e. in-none (suc n) h e ∙ sym (in-none (suc m) h e))
    (λ l.
    let w = whole-sid h l in
    let d = length-drop (whole_sid h) h in
    in-more n h l
    ∙ ap (λ (r : List (List ℕ)). take (whole_sid h) h ∷ r)
    (enough n m (drop (whole_sid h) h) (omega (arith, w.least, w.most, d)) (omega (arith, w.least, w.most, d)))
    ∙ sym (in-more m h l))

pub held_none : (h : List ℕ) → whole_sid h ≡ 0 → held_of h ≡ []
unfolding held_of
held_none h e = in-none (length h) h e

pub held_more : (h : List ℕ) → 0 < whole_sid h → held_of h ≡ take (whole_sid h) h ∷ held_of (drop (whole_sid h) h)
unfolding held_of
held_more h p =
    let w = whole-sid h p in
    let t = drop (whole_sid h) h in
    enough (length h) (suc (length h)) h (omega arith) (omega arith)
    ∙ in-more (length h) h p
    ∙ ap (λ (r : List (List ℕ)). take (whole_sid h) h ∷ r) (enough (length h) (length t) t (omega (arith, length-drop (whole_sid h) h)) (omega arith))

-- ---- which bytes they are

-- they are SIDs, and lie on the front of h
pub held-sids : (n : ℕ) (h : List ℕ) → Every (λ s. is_sid s ≡ true) (sids_in n h)
unfolding sids_in
held-sids zero h = tt
held-sids (suc n) h =
    by_whole h (λ e. rw (in-none (suc n) h e) tt) (λ p. rw (in-more n h p) ((whole-sid h p).is, held-sids n (drop (whole_sid h) h)))

held-front : (n : ℕ) (h : List ℕ) → flatten (sids_in n h) ++ drop (length (flatten (sids_in n h))) h ≡ h
unfolding flatten sids_in
held-front zero h = refl
held-front (suc n) h =
    by_whole h (λ e. ap (λ (x : List (List ℕ)). flatten x ++ drop (length (flatten x)) h) (in-none (suc n) h e))
    (λ p.
    let k = whole_sid h in
    let a = take k h in
    let r = flatten (sids_in n (drop k h)) in
    let l : length (a ++ r) ≡ k + length r = omega (arith, length-append a r, length-take-le k h (whole-sid h p).most) in
    ap (λ (x : List (List ℕ)). flatten x ++ drop (length (flatten x)) h) (in-more n h p)
    ∙ ap (λ (m : ℕ). (a ++ r) ++ drop m h) l
    ∙ append_assoc a r (drop (k + length r) h)
    ∙ ap (λ (x : List ℕ). a ++ (r ++ x)) (sym (drop-drop (length r) k h))
    ∙ ap (λ (x : List ℕ). a ++ x) (held-front n (drop k h))
    ∙ take-append-drop k h)

-- held bytes that are SIDs to their end are just these, laid end to end
pub held_whole : (h : List ℕ) → reaches_end h ≡ true → flatten (held_of h) ≡ h
unfolding held_of
held_whole h e =
    let n : length (flatten (held_of h)) ≡ length h = eqb-true _ _ e in
    sym (append-nil _) ∙ ap (λ (x : List ℕ). flatten (held_of h) ++ x) (sym (drop_of_length-le h {i = length (flatten (held_of h))} (omega (arith, n)))) ∙ held-front (length h) h

-- and any SIDs laid end to end are held bytes to their end, and are those held
built : (n : ℕ) (ss : List (List ℕ)) → Every (λ s. is_sid s ≡ true) ss → length ss ≤ n → sids_in n (flatten ss) ≡ ss
unfolding flatten sids_in
built n [] a l = in-none n [] (whole-short [] (omega arith))
built zero (s ∷ ss) a l = absurd (not-suc-le-zero l)
built (suc n) (s ∷ ss) a l =
    let w : whole_sid (s ++ flatten ss) ≡ length s = whole-joined s (flatten ss) a.0 in
    let o = one-sid s a.0 in
    let z = sid-length s o.some in
    in-more n (s ++ flatten ss) (omega (arith, w, o.exact, z))
    ∙ ap (λ (k : ℕ). take k (s ++ flatten ss) ∷ sids_in n (drop k (s ++ flatten ss))) w
    ∙ rw (take_at s (flatten ss) (length s) refl, drop_at s (flatten ss) (length s) refl, built n ss a.1 (omega arith))

-- a SID has bytes
fewer : (ss : List (List ℕ)) → Every (λ s. is_sid s ≡ true) ss → length ss ≤ length (flatten ss)
unfolding flatten
fewer [] a = omega arith
fewer (s ∷ ss) a =
    let o = one-sid s a.0 in
    omega (arith, o.exact, sid-length s o.some, fewer ss a.1, length-append s (flatten ss))

pub held-built : (ss : List (List ℕ)) → Every (λ s. is_sid s ≡ true) ss → held_of (flatten ss) ≡ ss
unfolding held_of
held-built ss a = built (length (flatten ss)) ss a (fewer ss a)

pub built-whole : (ss : List (List ℕ)) → Every (λ s. is_sid s ≡ true) ss → reaches_end (flatten ss) ≡ true
built-whole ss a = eq-eqb _ _ (ap (λ (x : List (List ℕ)). length (flatten x)) (held-built ss a))

-- ---- whether some are left

pub is-empty : (b : Bool) (n : ℕ) → b ≡ (n == 0) → b ≡ true → n ≡ 0
is-empty b n e t = eqb-true n 0 (sym e ∙ t)

pub not-empty : (b : Bool) (n : ℕ) → b ≡ (n == 0) → b ≡ false → 0 < n
not-empty b n e f = split n 0 (λ l. let z : n ≡ 0 = omega arith in absurd (off (eq-eqb n 0 z) (sym e ∙ f))) (λ l. l)

-- ---- counting them

-- `count` of them are gone past, and t is left of h
pub record Counted (h t : List ℕ) (count : ℕ) : Type 0 where
  pub few : count + length t ≤ length h
  pub number : length (held_of h) ≡ count + length (held_of t)
  pub bytes : length (flatten (held_of h)) + length t ≡ length h + length (flatten (held_of t))

pub counted_none : (h : List ℕ) → Counted h h 0
counted_none h = record { few = omega arith; number = omega arith; bytes = omega arith }

module _ (h t : List ℕ) (count : ℕ) (c : Counted h t count) where
  pub counted-more : 0 < whole_sid t → Counted h (drop (whole_sid t) t) (count + 1)
  unfolding flatten
  counted-more p =
      let k = whole_sid t in
      let w = whole-sid t p in
      let e = held_more t p in
      let d = length-drop k t in
      let a = length-append (take k t) (flatten (held_of (drop k t))) in
      record {
        few = omega (arith, w.least, w.most, c.few, d);
        number = omega (arith, c.number, ap length e);
        bytes = omega (arith, c.bytes, ap (λ (x : List (List ℕ)). length (flatten x)) e, a, d, w.most, length-take-le k t w.most);
      }

  -- bytes are left in which no SID begins
  pub counted-bad : 0 < length t → whole_sid t ≡ 0 → held_fault h ≡ Err Identity
  unfolding held_fault need flatten
  counted-bad p e =
      let z : length (flatten (held_of t)) ≡ 0 = ap (λ (x : List (List ℕ)). length (flatten x)) (held_none t e) in
      rw (ne_eqb (length (flatten (held_of h))) (length h) (λ q. omega (arith, c.bytes)))

  module _ (end : length t ≡ 0) where
    none_left : held_of t ≡ []
    none_left = held_none t (whole-short t (omega arith))

    to_end : length (flatten (held_of h)) ≡ length h
    unfolding flatten
    to_end = omega (arith, c.bytes, ap (λ (x : List (List ℕ)). length (flatten x)) none_left)

    all : length (held_of h) ≡ count
    all = omega (arith, c.number, ap length none_left)

    pub counted-many : 32 < count → held_fault h ≡ Err Types
    unfolding held_fault need
    counted-many p = rw (eq-eqb _ _ to_end, all, lt-leb count 32)

    pub counted-fine : count ≤ 32 → held_fault h ≡ fine
    unfolding held_fault need
    counted-fine p = rw (eq-eqb _ _ to_end, all, le-leb count 32)

-- ---- comparing them

-- bytes differ that have another byte at the same place before their ends
pub other-byte : (k : ℕ) (a b : List ℕ) → (get_or a (length a - k) 0 ≡ get_or b (length b - k) 0 → ⊥) → same_bytes a b ≡ false
other-byte k a b f = same-no a b (λ e. f (ap (λ (x : List ℕ). get_or x (length x - k) 0) e))

-- held bytes that are SIDs to their end: none is left, or the next one, by its second byte
pub held-none : (h : List ℕ) → length h ≡ 0 → held_of h ≡ []
held-none h l = held_none h (whole-short h (omega arith))

module _ (h : List ℕ) (e : reaches_end h ≡ true) (some : 0 < length h) where
  bytes_of : length (flatten (held_of h)) ≡ length h
  bytes_of = eqb-true _ _ e

  here : 0 < whole_sid h
  unfolding flatten
  here = by_whole h (λ z. absurd (omega (arith, bytes_of, ap (λ (x : List (List ℕ)). length (flatten x)) (held_none h z)))) (λ p. p)

  abbrev next : ℕ
  next = 8 + 4 * get_or h 1 0

  next-is : next ≡ whole_sid h
  next-is = sym (whole_says h here)

  pub next-inside : next ≤ length h
  next-inside = omega (arith, next-is, (whole-sid h here).most)

  pub held-next : held_of h ≡ take next h ∷ held_of (drop next h)
  held-next = held_more h here ∙ ap (λ (n : ℕ). take n h ∷ held_of (drop n h)) (sym next-is)

  pub rest-whole : reaches_end (drop next h) ≡ true
  unfolding flatten
  rest-whole =
      let f : length (flatten (held_of h)) ≡ length (take next h ++ flatten (held_of (drop next h))) = ap (λ (x : List (List ℕ)). length (flatten x)) held-next in
      eq-eqb _ _
      (omega (arith, bytes_of, f, length-append (take next h) (flatten (held_of (drop next h))), length-take-le next h next-inside, length-drop next h, next-inside))
