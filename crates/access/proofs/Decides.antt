-- The code's way, once over the entries with the mask of the bits not yet decided, is the definition's, bit by bit.
use mathlib.Core.Path.{◌≡◌, refl, sym, ap, ◌∙◌}
use mathlib.Core.Bool.{Bool, true, false, not, cond, ◌&&◌}
use mathlib.Core.List.{List, [], ◌∷◌}
use Rattle.std.specs.Prelude.{None, Some}
use Prim.Native.Nat.{ℕ, ◌^◌, ◌<◌}
use native.Mathlib.Omega.{arith}
use lib.Dec.{eqb}
use lib.Bits.{bit_and, and_le_l, and_le_r, xor_lt}
use borrow.Author.Tests.{eqb-true, eqb-false, eq-eqb, not-true, not-false}
use Rattle.octets.specs.Bytes.{has}
use Rattle.list.specs.Entry.{kind_of, mask_of}
use Rattle.octets.proofs.Bits.{has-and, has-without, no_bits}
use Rattle.octets.proofs.Tests.{both_true, false-or, off}
use Rattle.access.specs.Open.{entry_counts, is_allow, granted, opens_by}
use Rattle.access.specs.Inner.Decide.{without, weighs, left_after, if_left, decided}
use Rattle.access.proofs.Bitwise.{both_hold, both_ways}
use Rattle.access.proofs.Wanted.{granted-here, granted-on, opens-all, opens_at, opens-same}

-- masks with a bit in common meet
pub meets : (k a b : ℕ) → has (2 ^ k) a ≡ true → has (2 ^ k) b ≡ true → has b a ≡ true
meets k a b p q = by (has b a) refl
  where
    by : (o : Bool) → has b a ≡ o → has b a ≡ true
    by true e = e
    by false e =
        let z : bit_and a b ≡ 0 = eqb-true (bit_and a b) 0 (not-false _ e) in
        absurd (off (both_hold p q) (sym (has-and k a b) ∙ ap (has (2 ^ k)) z))

-- masks that meet have a bit in common
pub common : (a b : ℕ) → b < 2 ^ 32 → has b a ≡ true → ((k : ℕ) → k < 32 → has (2 ^ k) b ≡ true → has (2 ^ k) a ≡ false) → ⊥
common a b l h f = eqb-false (bit_and a b) 0 (not-true _ h) (no_bits 32 (bit_and a b) (omega (arith, and_le_r a b)) each)
  where
    each : (k : ℕ) → k < 32 → has (2 ^ k) (bit_and a b) ≡ false
    each k m = has-and k a b ∙ false-or (has (2 ^ k) a && has (2 ^ k) b) (λ t. let g = both_true (has (2 ^ k) a) (has (2 ^ k) b) t in off g.0 (f k m g.1))

module _ (type table : List ℕ) (sids : List (List ℕ)) where
  module _ (left : ℕ) (e : List ℕ) (es : List (List ℕ)) where
    -- an entry that doesn't weigh changes nothing
    passed : weighs type table sids left e ≡ false → opens_by type table sids left es ≡ opens_by type table sids left (e ∷ es)
    unfolding weighs
    passed w = opens-same type table sids sids left es (e ∷ es) (λ k l h. sym (granted-on type table sids (2 ^ k) e es (unsaid k h)))
      where
        unsaid : (k : ℕ) → has (2 ^ k) left ≡ true → (entry_counts type table sids e && has (2 ^ k) (mask_of e)) ≡ false
        unsaid k h =
            false-or (entry_counts type table sids e && has (2 ^ k) (mask_of e))
            (λ t. let f = both_true (entry_counts type table sids e) (has (2 ^ k) (mask_of e)) t in off (both_hold (meets k (mask_of e) left f.1 h) f.0) w)

    -- an allow that counts leaves the bits that it hasn't
    allowed : entry_counts type table sids e ≡ true → is_allow (kind_of e) ≡ true → opens_by type table sids (without left (mask_of e)) es ≡ opens_by type table sids left (e ∷ es)
    allowed c a = both_ways (opens_by type table sids (without left (mask_of e)) es) (opens_by type table sids left (e ∷ es)) to from
      where
        to : opens_by type table sids (without left (mask_of e)) es ≡ true → opens_by type table sids left (e ∷ es) ≡ true
        to t = opens-all type table sids left (e ∷ es) (λ k l h. by k l h (has (2 ^ k) (mask_of e)) refl)
          where
            by : (k : ℕ) → k < 32 → has (2 ^ k) left ≡ true → (m : Bool) → has (2 ^ k) (mask_of e) ≡ m → granted type table sids (2 ^ k) (e ∷ es) ≡ true
            by k l h true m = granted-here type table sids (2 ^ k) e es (both_hold c m) ∙ a
            by k l h false m =
                granted-on type table sids (2 ^ k) e es (rw (c, m))
                ∙ opens_at type table sids (without left (mask_of e)) es k t l (has-without k left (mask_of e) ∙ rw (h, m))

        from : opens_by type table sids left (e ∷ es) ≡ true → opens_by type table sids (without left (mask_of e)) es ≡ true
        from t = opens-all type table sids (without left (mask_of e)) es (λ k l h. by k l (both_true (has (2 ^ k) left) _ (sym (has-without k left (mask_of e)) ∙ h)))
          where
            by : (k : ℕ) → k < 32 → (has (2 ^ k) left ≡ true) × (not (has (2 ^ k) (mask_of e)) ≡ true) → granted type table sids (2 ^ k) es ≡ true
            by k l f =
                let m = not-true (has (2 ^ k) (mask_of e)) f.1 in
                sym (granted-on type table sids (2 ^ k) e es (rw (c, m))) ∙ opens_at type table sids left (e ∷ es) k t l f.0

    -- a deny that weighs has a wanted bit
    denied : left < 2 ^ 32 → weighs type table sids left e ≡ true → is_allow (kind_of e) ≡ false → opens_by type table sids left (e ∷ es) ≡ false
    unfolding weighs
    denied b w a =
        let f = both_true (has left (mask_of e)) (entry_counts type table sids e) w in
        false-or (opens_by type table sids left (e ∷ es))
        (λ t. common (mask_of e) left b f.0
        (λ k l h. false-or (has (2 ^ k) (mask_of e))
        (λ m. off (opens_at type table sids left (e ∷ es) k t l h) (granted-here type table sids (2 ^ k) e es (both_hold f.1 m) ∙ a))))

    module _ (b : left < 2 ^ 32) (on : (l : ℕ) → l < 2 ^ 32 → decided type table sids l es ≡ opens_by type table sids l es) where
      after : (w a : Bool) → weighs type table sids left e ≡ w → is_allow (kind_of e) ≡ a
          → if_left (cond w (cond a (Some (without left (mask_of e))) None) (Some left)) (λ l. decided type table sids l es) ≡ opens_by type table sids left (e ∷ es)
      unfolding if_left weighs
      after false a w k = on left b ∙ passed w
      after true false w k = sym (denied b w k)
      after true true w k =
          on (without left (mask_of e)) (xor_lt 32 left (bit_and left (mask_of e)) b (omega (arith, and_le_l left (mask_of e))))
          ∙ allowed (both_true (has left (mask_of e)) (entry_counts type table sids e) w).1 k

      turn : (z : Bool) → eqb left 0 ≡ z → cond z true (if_left (left_after type table sids left e) (λ l. decided type table sids l es)) ≡ opens_by type table sids left (e ∷ es)
      unfolding left_after
      turn true z = sym (opens-all type table sids left (e ∷ es) (λ k l h. absurd (off h (ap (has (2 ^ k)) (eqb-true left 0 z)))))
      turn false z = after (weighs type table sids left e) (is_allow (kind_of e)) refl refl

  -- nothing is left, or a bit is left that no entry speaks of
  ended : (left : ℕ) → left < 2 ^ 32 → eqb left 0 ≡ opens_by type table sids left []
  unfolding granted
  ended left b =
      both_ways (eqb left 0) (opens_by type table sids left [])
      (λ z. opens-all type table sids left [] (λ k l h. absurd (off h (ap (has (2 ^ k)) (eqb-true left 0 z)))))
      (λ t. eq-eqb left 0 (no_bits 32 left b (λ k l. false-or (has (2 ^ k) left) (λ h. off (opens_at type table sids left [] k t l h) refl))))

-- for any wanted mask of 32 bits the code's way gives what the definition says
pub decided-is : (type table : List ℕ) (sids : List (List ℕ)) (left : ℕ) (es : List (List ℕ)) → left < 2 ^ 32 → decided type table sids left es ≡ opens_by type table sids left es
unfolding decided
decided-is type table sids left [] b = ended type table sids left b
decided-is type table sids left (e ∷ es) b = turn type table sids left e es b (λ l m. decided-is type table sids l es m) (eqb left 0) refl
