-- Laws of above, within and apart (specs/Apart): they are a matter of parents alone, what stands within two folders that are apart is apart, and two objects are one,
-- one above the other, or apart.
use mathlib.Core.Path.{◌≡◌, refl, sym, ap, ◌∙◌, subst}
use mathlib.Core.List.{List}
use mathlib.Core.Logic.{◌⊎◌, inl, inr}
use mathlib.Core.Option.{none, some}
use Prim.Native.Nat.{ℕ, zero, suc, ◌≤◌, ◌<◌}
use native.Mathlib.Decide.{ℕ_discrete}
use native.Mathlib.Omega.{arith}
use lib.ListN.{length, get_or-eq_default}
use Rattle.octets.proofs.Places.{split}
use Rattle.tree.specs.Model.{Object, no-object, object}
use Rattle.tree.specs.Apart.{Above, parent, further, Within, Elsewhere, Apart}
use Rattle.tree.proofs.NoRoom.{Earlier}

pub some_is : {A : Type 0} (a b : A) → some a ≡ some b → a ≡ b
some_is a b e = cc

-- ---- steps up

module _ (os : List Object) where
  no_above : (i : ℕ) {k : ℕ} → Above os i k → (object os k).parent ≡ none → ⊥
  no_above i (parent q) e = let z : ◌≡◌ {A = ℕ} 0 1 = cc in omega arith
  no_above i (further q A) e = let z : ◌≡◌ {A = ℕ} 0 1 = cc in omega arith

  -- what is above an object is its parent, or above its parent
  above_parent : (i : ℕ) {k p : ℕ} → Above os i k → (object os k).parent ≡ some p → Within os i p
  above_parent i {p = p} (parent q) e = inl (some_is p i (sym e ∙ q))
  above_parent i {p = p} (further {p = m} q A) e = inr (subst (λ (x : ℕ). Above os i x) (some_is m p (sym q ∙ e)) A)

  above-child : (i : ℕ) {k p : ℕ} → (object os k).parent ≡ some p → Within os i p → Above os i k
  above-child i e (inl q) = parent (e ∙ ap some q)
  above-child i e (inr A) = further e A

  above_on : (a i : ℕ) {k : ℕ} → Within os a i → Above os i k → Above os a k
  above_on a i v (parent e) = above-child a e v
  above_on a i v (further e A) = further e (above_on a i v A)

  pub within_on : (a i k : ℕ) → Within os a i → Within os i k → Within os a k
  within_on a i k v (inl e) = rw e v
  within_on a i k v (inr A) = inr (above_on a i v A)

  -- two that an object stands within are one within the other
  above-both : (a b : ℕ) {k : ℕ} → Above os a k → Within os b k → Within os a b ⊎ Within os b a
  above-both a b (parent e) w =
      elim w [
        | inl q ↦ inl (inr (subst (λ (x : ℕ). Above os a x) q (parent e)))
        | inr B ↦ inr (above_parent b B e)
      ]
  above-both a b (further e A) w =
      elim w [
        | inl q ↦ inl (inr (subst (λ (x : ℕ). Above os a x) q (further e A)))
        | inr B ↦ above-both a b A (above_parent b B e)
      ]

  pub within_both : (a b k : ℕ) → Within os a k → Within os b k → Within os a b ⊎ Within os b a
  within_both a b k (inl e) w = inr (rw (← e) w)
  within_both a b k (inr A) w = above-both a b A w

  pub parent-elsewhere : (i : ℕ) {k p : ℕ} → (object os k).parent ≡ some p → Elsewhere os i k → Elsewhere os i p
  parent-elsewhere i e w v = w (inr (above-child i e v))

  -- ---- apart

  pub apart-turned : (i j : ℕ) → Apart os i j → Apart os j i
  apart-turned i j A = (A.1, A.0)

  pub within-apart : (a i j : ℕ) → Within os a i → Apart os a j → Apart os i j
  within-apart a i j v A = (
    λ w. A.0 (within_on a i j v w),
    λ w. elim (within_both a j i v w) [
      | inl x ↦ A.0 x
      | inr x ↦ A.1 x
    ],
  )

  -- whatever stands within two folders that are apart is apart
  pub folders-apart : (a b i j : ℕ) → Apart os a b → Within os a i → Within os b j → Apart os i j
  folders-apart a b i j A v w = within-apart a i j v (apart-turned j a (within-apart b j a w (apart-turned a b A)))

-- ---- where following parents ends at an object without one

pub data Reaches (os : List Object) : ℕ → Type 0 where
  at-root : {k : ℕ} → (object os k).parent ≡ none → Reaches os k
  by-parent : {k p : ℕ} → (object os k).parent ≡ some p → Reaches os p → Reaches os k

abbrev pub Rooted : List Object → Type 0
Rooted os = (k : ℕ) → Reaches os k

module _ (os : List Object) where
  pub within-or : (i : ℕ) {k : ℕ} → Reaches os k → Within os i k ⊎ Elsewhere os i k
  within-or i {k = k} (at-root e) =
      elim (ℕ_discrete k i) [
        | yes q ↦ inl (inl q)
        | no q ↦ inr (λ v. elim v [
          | inl x ↦ q x
          | inr A ↦ no_above os i A e
        ])
      ]
  within-or i {k = k} (by-parent e R) =
      elim (ℕ_discrete k i) [
        | yes q ↦ inl (inl q)
        | no q ↦ elim (within-or i R) [
          | inl v ↦ inl (inr (above-child os i e v))
          | inr w ↦ inr (λ v. elim v [
            | inl x ↦ q x
            | inr A ↦ w (above_parent os i A e)
          ])
        ]
      ]

  no-circle : {k : ℕ} → Reaches os k → Above os k k → ⊥
  no-circle {k = k} (at-root e) A = no_above os k A e
  no-circle {k = k} (by-parent {p = p} e R) A = no-circle R (round (above_parent os k A e))
    where
      round : Within os k p → Above os p p
      round (inl q) = subst (λ (x : ℕ). Above os x x) (sym q) A
      round (inr B) = above_on os p k (inr (parent e)) B

  module _ (R : Rooted os) where
    pub from_either : (i j k : ℕ) → Apart os i j → Elsewhere os i k ⊎ Elsewhere os j k
    from_either i j k A =
        elim (within-or i (R k)) [
          | inl v ↦ inr (λ w. (within-apart os i k j v A).1 w)
          | inr w ↦ inl w
        ]

    -- two objects are one, or one is above the other, or they are apart
    pub apart-or : (i j : ℕ) → (i ≡ j) ⊎ (Above os i j ⊎ (Above os j i ⊎ Apart os i j))
    apart-or i j =
        elim (within-or j (R i)) [
          | inl (inl e) ↦ inl e
          | inl (inr A) ↦ inr (inr (inl A))
          | inr w ↦ elim (within-or i (R j)) [
            | inl (inl e) ↦ inl (sym e)
            | inl (inr A) ↦ inr (inl A)
            | inr v ↦ inr (inr (inr (v, w)))
          ]
        ]

    -- no object is above itself, nor two above each other
    pub not-both-above : (i j : ℕ) → Above os i j → Within os j i → ⊥
    not-both-above i j A v = no-circle (R i) (above-on-within A v)
      where
        above-on-within : Above os i j → Within os j i → Above os i i
        above-on-within B (inl e) = subst (λ (x : ℕ). Above os i x) (sym e) B
        above-on-within B (inr C) = above_on os i j (inr B) C

    sibling-elsewhere : (i j : ℕ) → (i ≡ j → ⊥) → (object os i).parent ≡ (object os j).parent → Elsewhere os i j
    sibling-elsewhere i j n e (inl q) = n (sym q)
    sibling-elsewhere i j n e (inr (parent q)) = not-both-above i i (parent (e ∙ q)) (inl refl)
    sibling-elsewhere i j n e (inr (further {p = p} q A)) = not-both-above i p A (inr (parent (e ∙ q)))

    -- two objects of one parent are apart
    pub siblings-apart : (i j : ℕ) → (i ≡ j → ⊥) → (object os i).parent ≡ (object os j).parent → Apart os i j
    siblings-apart i j n e = (sibling-elsewhere i j n e, sibling-elsewhere j i (λ q. n (sym q)) (sym e))

-- ---- where a parent has a smaller number: so it is, and a number that is no object's is apart from every other

no-parent : (os : List Object) (k : ℕ) → length os ≤ k → (object os k).parent ≡ none
no-parent os k h = rw (get_or-eq_default os no-object h) refl

module _ (os : List Object) (E : Earlier os) where
  parent-earlier : (k p : ℕ) → (object os k).parent ≡ some p → (p < k) × (k < length os)
  parent-earlier k p e =
      split (length os) k
      (λ h. let z : ◌≡◌ {A = ℕ} 0 1 = let n = no-parent os k h in cc in absurd (omega arith))
      (λ h. elim (E k h) [
        | inl n ↦ let z : ◌≡◌ {A = ℕ} 0 1 = cc in absurd (omega arith)
        | inr q ↦ let m : q.0 ≡ p = some_is q.0 p (sym q.1.0 ∙ e) in (omega (arith, q.1.1), h)
      ])

  above_earlier : (i : ℕ) {k : ℕ} → Above os i k → (i < k) × (k < length os)
  above_earlier i {k = k} (parent e) = parent-earlier k i e
  above_earlier i {k = k} (further {p = p} e A) =
      let l = parent-earlier k p e in
      let m = above_earlier i A in
      (omega (arith, l.0, m.0), l.1)

  pub unstanding-apart : (i j : ℕ) → length os ≤ j → (i ≡ j → ⊥) → Apart os i j
  unstanding-apart i j h n = (
    λ v. elim v [
      | inl e ↦ n (sym e)
      | inr A ↦ omega (arith, (above_earlier i A).1)
    ],
    λ v. elim v [
      | inl e ↦ n e
      | inr A ↦ omega (arith, (above_earlier j A).0, (above_earlier j A).1)
    ],
  )

pub earlier-rooted : (os : List Object) → Earlier os → Rooted os
earlier-rooted os E k = from (suc k) k (omega arith)
  where
    from : (more k : ℕ) → k < more → Reaches os k
    from zero k h = absurd (omega arith)
    from (suc more) k h =
        split (length os) k
        (λ l. at-root (no-parent os k l))
        (λ l. elim (E k l) [
          | inl e ↦ at-root e
          | inr q ↦ by-parent q.1.0 (from more q.0 (omega (arith, q.1.1)))
        ])

-- ---- all of it is a matter of parents alone

abbrev pub SameParents : List Object → List Object → Type 0
SameParents os ps = (k : ℕ) → (object ps k).parent ≡ (object os k).parent

module _ (os ps : List Object) (S : SameParents os ps) where
  above_kept : (i : ℕ) {j : ℕ} → Above ps i j → Above os i j
  above_kept i {j = j} (parent e) = parent (sym (S j) ∙ e)
  above_kept i {j = j} (further e A) = further (sym (S j) ∙ e) (above_kept i A)

  within-kept : (i j : ℕ) → Within ps i j → Within os i j
  within-kept i j (inl e) = inl e
  within-kept i j (inr A) = inr (above_kept i A)

  pub elsewhere-kept : (i k : ℕ) → Elsewhere os i k → Elsewhere ps i k
  elsewhere-kept i k w v = w (within-kept i k v)

  pub apart-kept : (i j : ℕ) → Apart os i j → Apart ps i j
  apart-kept i j A = (elsewhere-kept i j A.0, elsewhere-kept j i A.1)

  reaches-kept : {k : ℕ} → Reaches os k → Reaches ps k
  reaches-kept {k = k} (at-root e) = at-root (S k ∙ e)
  reaches-kept {k = k} (by-parent e R) = by-parent (S k ∙ e) (reaches-kept R)

  pub rooted-kept : Rooted os → Rooted ps
  rooted-kept R k = reaches-kept (R k)
