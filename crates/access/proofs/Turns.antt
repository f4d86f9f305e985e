-- The loop that decides, entry by entry.
use mathlib.Core.Path.{◌≡◌, refl, sym, ap, ◌∙◌}
use mathlib.Core.Bool.{Bool, true, false, not, cond, ◌||◌}
use mathlib.Core.List.{List, [], ◌∷◌}
use Prim.Native.Nat.{ℕ, zero, suc, ◌+◌, ◌-◌, ◌≤◌, ◌<◌}
use native.Mathlib.Nat.{not-suc-le-zero}
use native.Mathlib.Omega.{arith}
use lib.ListN.{take, drop}
use lib.Dec.{eqb}
use borrow.Author.Tests.{eq-eqb, ne_eqb}
use Rattle.octets.specs.Bytes.{has, same_bytes}
use Rattle.list.specs.Entry.{access, object_kind, kind_of, word_of, size_of}
use Rattle.list.specs.List.{cut}
use Rattle.list.specs.Good.{Sound, Passes}
use Rattle.list.proofs.Remade.{cut-same, cut-sid, cut-tail, cut-guid, typed_long}
use Rattle.list.proofs.Rows.{passes-turn}
use Rattle.std.specs.Prelude.{Some, None}
use Rattle.access.specs.Open.{type_counts, condition_counts, applies, entry_counts}
use Rattle.access.specs.Inner.Decide.{weighs, left_after, if_left, decided}
use Rattle.access.proofs.Weighs.{SidIn, sid-in}

-- ---- what follows a good entry doesn't count

typed : (o b x y : Bool) → (o ≡ true → b ≡ true → x ≡ y) → cond o (not b || x) true ≡ cond o (not b || y) true
typed true true x y h = h refl refl
typed true false x y h = refl
typed false b x y h = refl

module _ (type table : List ℕ) (sids : List (List ℕ)) (rev : ℕ) (t : List ℕ) (s : Sound access rev t) where
  type-cut : type_counts type (take (size_of t) t) ≡ type_counts type t
  unfolding type_counts
  type-cut =
      let c = cut-same access rev t s in
      rw (c.word, c.kind)
      (typed (object_kind (kind_of t)) (has 1 (word_of t)) _ _ (λ o w. ap (λ (g : List ℕ). same_bytes g type) (cut-guid access rev t s (typed_long access rev t s o w))))

  condition-cut : condition_counts table (take (size_of t) t) ≡ condition_counts table t
  unfolding condition_counts
  condition-cut = rw (cut-tail access rev t s, (cut-same access rev t s).kind)

  counts-cut : entry_counts type table sids (take (size_of t) t) ≡ entry_counts type table sids t
  unfolding entry_counts applies
  counts-cut = rw ((cut-same access rev t s).flags, cut-sid access rev t s, type-cut, condition-cut)

  pub left_cut : (left : ℕ) → left_after type table sids left (take (size_of t) t) ≡ left_after type table sids left t
  unfolding left_after weighs
  left_cut left = rw (counts-cut, (cut-same access rev t s).mask, (cut-same access rev t s).kind)

-- ---- the loop: what is decided from an entry on is what is decided from the first on

module _ (type table : List ℕ) (sids : List (List ℕ)) where
  decided-turn : (rev n left : ℕ) (t : List ℕ) → 0 < n → (left ≡ 0 → ⊥) → Sound access rev t
      → decided type table sids left (cut n t) ≡ if_left (left_after type table sids left t) (λ l. decided type table sids l (cut (n - 1) (drop (size_of t) t)))
  unfolding decided cut
  decided-turn rev zero left t h f s = absurd (not-suc-le-zero h)
  decided-turn rev (suc n) left t h f s =
      let e : suc n - 1 ≡ n = omega arith in
      rw (e, ne_eqb left 0 f, left_cut type table sids rev t s left)

  -- with i of the n entries gone past, t is what is left of s
  module _ (rev : ℕ) (s : List ℕ) (n wanted : ℕ) where
    pub record Deciding (left i : ℕ) (t : List ℕ) : Type 0 where
      pub rest : Passes access rev (n - i) t
      pub sofar : decided type table sids left (cut (n - i) t) ≡ decided type table sids wanted (cut n s)

    pub deciding-none : Passes access rev n s → Deciding wanted 0 s
    deciding-none r = let z : n - 0 ≡ n = omega arith in record { rest = rw z r; sofar = rw z }

    module _ (left i : ℕ) (t : List ℕ) (m : Deciding left i t) where
      all-decided : left ≡ 0 → (es : List (List ℕ)) → true ≡ decided type table sids left es
      unfolding decided
      all-decided e [] = sym (eq-eqb left 0 e)
      all-decided e (x ∷ es) = rw (eq-eqb left 0 e)

      -- nothing is left to decide
      pub decides-yes : left ≡ 0 → true ≡ decided type table sids wanted (cut n s)
      decides-yes e = all-decided e _ ∙ m.sofar

      -- no entry is left
      pub decides-end : n ≤ i → eqb left 0 ≡ decided type table sids wanted (cut n s)
      unfolding decided cut
      decides-end l =
          let z : n - i ≡ 0 = omega arith in
          sym (ap (λ (k : ℕ). decided type table sids left (cut k t)) z) ∙ m.sofar

      -- something is left, and an entry
      module _ (f : left ≡ 0 → ⊥) (h : i < n) where
        here : Sound access rev t
        here = (passes-turn access rev (n - i) t (omega arith) m.rest).0

        pub entry-here : SidIn t
        entry-here = sid-in rev t here

        turned : if_left (left_after type table sids left t) (λ l. decided type table sids l (cut (n - (i + 1)) (drop (size_of t) t))) ≡ decided type table sids wanted (cut n s)
        turned =
            let z : n - (i + 1) ≡ n - i - 1 = omega arith in
            rw z (sym (decided-turn rev (n - i) left t (omega arith) f here) ∙ m.sofar)

        -- a bit is denied
        pub decides-no : left_after type table sids left t ≡ None → false ≡ decided type table sids wanted (cut n s)
        unfolding if_left
        decides-no e = rw e at turned

        -- the next entry decides what is left
        pub decides-on : (l : ℕ) → left_after type table sids left t ≡ Some l → Deciding l (i + 1) (drop (size_of t) t)
        unfolding if_left
        decides-on l e =
            let z : n - (i + 1) ≡ n - i - 1 = omega arith in
            record { rest = rw z ((passes-turn access rev (n - i) t (omega arith) m.rest).1); sofar = rw e at turned }
