-- Entries without a condition, of which a few tests tell that they are good.
use mathlib.Core.Path.{◌≡◌, refl, ap}
use mathlib.Core.Bool.{Bool, true, false, ◌&&◌, ◌||◌}
use mathlib.Core.List.{List}
use Prim.Native.Nat.{ℕ, ◌+◌, ◌≤◌, ◌<◌}
use native.Mathlib.Omega.{arith}
use lib.ListN.{length, drop}
use lib.Dec.{eqb}
use borrow.Author.Tests.{le-leb, eq-eqb, ne_eqb, eqb-true}
use Rattle.octets.specs.Bytes.{le}
use Rattle.list.specs.Identity.{length_of_sid}
use Rattle.list.specs.Entry.{access, conditional_of, plain_of, object_of, object_kind, conditional_kind, kind_ok, flags_ok, head_of, kind_of, flags_of, size_of, word_after, word_of, guids_of, sid_at, sid_len_of, sid_end, tail_long, expression_ok, size_ok}
use Rattle.list.specs.Good.{Sound}
use Rattle.list.proofs.Sids.{sid-length}

either_is : {P : Type 0} (a b : Bool) → (a || b) ≡ true → (a ≡ true → P) → (b ≡ true → P) → P
either_is true b h f g = f refl
either_is false b h f g = g h

-- an object type is no conditional one
object-plain : (k : ℕ) → object_kind k ≡ true → conditional_kind k ≡ false
unfolding object_kind object_of conditional_kind conditional_of
object-plain k h =
    either_is (eqb k 5) (eqb k 6) h
    (λ e. let q = eqb-true k 5 e in rw q)
    (λ e. let q = eqb-true k 6 e in rw q)

-- where nothing but the SID follows: all that is left to test
module _ (rev : ℕ) (t : List ℕ) (long : 16 ≤ length t) (within : size_of t ≤ length t) (flags : flags_of t ≤ 31) where
  module _ (kind : kind_ok access (kind_of t) rev ≡ true) (plain : conditional_kind (kind_of t) ≡ false) (head : head_of (kind_of t) ≤ 12) (word : word_of t ≤ 3)
      (sid : 0 < sid_len_of t) (exact : sid_end t ≡ size_of t) where
    exact-sound : head_of (kind_of t) ≤ sid_at t → Sound access rev t
    unfolding flags_ok expression_ok size_ok tail_long
    exact-sound h =
        let l = (sid-length (drop (sid_at t) t) sid).least in
        record {
          four = omega arith;
          within = within;
          kind = kind;
          flags = le-leb _ _ flags;
          head = omega arith;
          word = word;
          eight = omega arith;
          sid = sid;
          expression = rw plain;
          tail = rw plain (eq-eqb (sid_end t + 0) (size_of t) (omega (arith, exact)));
        }

  -- types 00 and 01: the SID stands at 8
  module _ (low : kind_of t ≤ 1) where
    low-object : object_kind (kind_of t) ≡ false
    unfolding object_kind object_of
    low-object = rw (ne_eqb (kind_of t) 5 (λ e. omega arith), ne_eqb (kind_of t) 6 (λ e. omega arith))

    low-conditional : conditional_kind (kind_of t) ≡ false
    unfolding conditional_kind conditional_of
    low-conditional = rw (ne_eqb (kind_of t) 9 (λ e. omega arith), ne_eqb (kind_of t) 10 (λ e. omega arith))

    low-kind : kind_ok access (kind_of t) rev ≡ true
    unfolding kind_ok plain_of
    low-kind = rw (le-leb (kind_of t) 1 low)

    low-head : head_of (kind_of t) ≡ 8
    unfolding head_of
    low-head = rw low-object

    low_word : word_of t ≡ 0
    unfolding word_after
    low_word = rw low-head

    low-sid : sid_at t ≡ 8
    low-sid = omega (arith, low-head, low_word)

    pub plain-sound : 0 < length_of_sid (drop 8 t) → 8 + length_of_sid (drop 8 t) ≡ size_of t → Sound access rev t
    plain-sound some exact =
        let n : sid_len_of t ≡ length_of_sid (drop 8 t) = ap (λ (i : ℕ). length_of_sid (drop i t)) low-sid in
        exact-sound low-kind low-conditional (omega (arith, low-head)) (omega (arith, low_word)) (omega (arith, n)) (omega (arith, low-sid, n, exact)) (omega (arith, low-head, low-sid))

  -- types 05 and 06: behind the word and the GUIDs that it announces
  module _ (object : object_kind (kind_of t) ≡ true) (four : rev ≡ 4) (small : le 4 (drop 8 t) ≤ 3) where
    object-kind : kind_ok access (kind_of t) rev ≡ true
    unfolding kind_ok object_kind
    object-kind = by (plain_of access (kind_of t))
      where
        by : (b : Bool) → (b || (eqb rev 4 && object_of access (kind_of t))) ≡ true
        by true = refl
        by false = rw (eq-eqb rev 4 four, object)

    object-head : head_of (kind_of t) ≡ 12
    unfolding head_of
    object-head = rw object

    object-word : word_of t ≡ le 4 (drop 8 t)
    unfolding word_after
    object-word = rw object-head

    object-sid : sid_at t ≡ 12 + guids_of (le 4 (drop 8 t))
    object-sid = rw (object-word, object-head)

    pub object-sound : let sid = 12 + guids_of (le 4 (drop 8 t)) in 0 < length_of_sid (drop sid t) → sid + length_of_sid (drop sid t) ≡ size_of t → Sound access rev t
    object-sound some exact =
        let n : sid_len_of t ≡ length_of_sid (drop (12 + guids_of (le 4 (drop 8 t))) t) = ap (λ (i : ℕ). length_of_sid (drop i t)) object-sid in
        exact-sound object-kind (object-plain (kind_of t) object) (omega (arith, object-head)) (omega (arith, object-word)) (omega (arith, n)) (omega (arith, object-sid, n, exact))
        (omega (arith, object-head, object-sid))
