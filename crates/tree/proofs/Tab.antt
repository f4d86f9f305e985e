-- Laws of `tab n f`, the list of f 0, f 1 and so on below n: its length, its elements, and what makes two such lists equal.
use mathlib.Core.Path.{◌≡◌, refl, sym, ap, ◌∙◌}
use mathlib.Core.List.{List, [], ◌∷◌, ◌++◌}
use mathlib.Core.Logic.{◌≢◌}
use Prim.Native.Nat.{ℕ, zero, suc, ◌+◌, ◌-◌, ◌≤◌, ◌<◌, min}
use native.Mathlib.Decide.{ℕ_discrete}
use native.Mathlib.Numerals.{add-one}
use native.Mathlib.Omega.{arith}
use lib.ListN.{length, take, get_or, set, length-append, length-set, length-take, get_or-append}
use lib.Seq.{ext_get_or, get_or_at, get_or-set_same, get_or-set_other, get_or-take}
use Rattle.octets.proofs.Places.{split}
use Rattle.tree.specs.General.{tab}

module _ {A : Type 0} where
  -- by its end, as it is defined
  pub tab-last : (n : ℕ) (f : ℕ → A) → tab (n + 1) f ≡ tab n f ++ (f n ∷ [])
  unfolding tab
  tab-last n f = rw add-one

  pub length-tab : (n : ℕ) (f : ℕ → A) → length (tab n f) ≡ n
  unfolding tab
  length-tab zero f = refl
  length-tab (suc n) f = simp (length-append, length-tab n f) (omega arith)

  pub get_d-tab : (n : ℕ) (f : ℕ → A) (i : ℕ) (d : A) → i < n → get_or (tab n f) i d ≡ f i
  unfolding tab
  get_d-tab zero f i d h = absurd (omega arith)
  get_d-tab (suc n) f i d h =
      split n i
      (λ k.
      let e : i ≡ n = omega arith in
      rw e (get_or_at (tab n f) (f n) [] d n (length-tab n f)))
      (λ k. get_or-append (tab n f) (f n ∷ []) d i (rw (length-tab n f) k) ∙ get_d-tab n f i d k)

  -- a list by its elements
  pub tab-is : (d : A) (n : ℕ) (f : ℕ → A) (l : List A) → length l ≡ n → ((i : ℕ) → i < n → f i ≡ get_or l i d) → tab n f ≡ l
  tab-is d n f l e h =
      ext_get_or d (tab n f) l (length-tab n f ∙ sym e)
      (λ i k. let j : i < n = rw (length-tab n f) at k in get_d-tab n f i d j ∙ h i j)

  pub tab-ext : (n : ℕ) (f g : ℕ → A) → ((i : ℕ) → i < n → f i ≡ g i) → tab n f ≡ tab n g
  unfolding tab
  tab-ext zero f g h = refl
  tab-ext (suc n) f g h = rw (tab-ext n f g (λ i k. h i (omega arith)), h n (omega arith))

  -- one element altered
  pub tab-set : (n j : ℕ) (f g : ℕ → A) (x : A) → j < n → g j ≡ x → ((i : ℕ) → i < n → (i ≢ j) → g i ≡ f i) → tab n g ≡ set (tab n f) j x
  tab-set n j f g x h e k =
      tab-is x n g (set (tab n f) j x) (length-set (tab n f) j x ∙ length-tab n f)
      (λ i m. elim (ℕ_discrete i j) [
        | yes q ↦ rw q (e ∙ sym (get_or-set_same (tab n f) j x x (rw (length-tab n f) h)))
        | no q ↦ k i m q ∙ sym (get_or-set_other (tab n f) j i x x q ∙ get_d-tab n f i x m)
      ])

  -- by its front
  pub tab-cons : (n : ℕ) (f : ℕ → A) → tab (suc n) f ≡ f zero ∷ tab n (λ i. f (suc i))
  unfolding tab
  tab-cons zero f = refl
  tab-cons (suc n) f = ap (λ (l : List A). l ++ (f (suc n) ∷ [])) (tab-cons n f)

  pub tab-first : (n : ℕ) (f : ℕ → A) → 0 < n → tab n f ≡ f zero ∷ tab (n - 1) (λ i. f (suc i))
  tab-first zero f h = absurd (omega arith)
  tab-first (suc n) f h = let e : suc n - 1 ≡ n = omega arith in rw e (tab-cons n f)

  -- one more in front, at most s in all
  pub tab-push : (s k : ℕ) (f g : ℕ → A) (x : A) → g zero ≡ x → ((i : ℕ) → suc i < s → i < k → g (suc i) ≡ f i) → tab (min s (suc k)) g ≡ take s (x ∷ tab k f)
  tab-push s k f g x e h =
      tab-is x (min s (suc k)) g (take s (x ∷ tab k f)) (simp (length-take, length-tab k f))
      (λ i m. go i m ∙ sym (get_or-take s (x ∷ tab k f) i x (omega arith)))
    where
      go : (i : ℕ) → i < min s (suc k) → g i ≡ get_or (x ∷ tab k f) i x
      go zero m = e
      go (suc i) m = h i (omega arith) (omega arith) ∙ sym (get_d-tab k f i x (omega arith))

  -- the first m of n
  pub tab-take : (d : A) (m n : ℕ) (f : ℕ → A) → m ≤ n → take m (tab n f) ≡ tab m f
  tab-take d m n f h =
      sym (tab-is d m f (take m (tab n f)) (simp (length-take, length-tab n f) (omega arith))
      (λ i k. sym (get_or-take m (tab n f) i d k ∙ get_d-tab n f i d (omega arith))))
