-- Working the lists out in the order of the objects' numbers, each from its parent's list among those before it, is working each out from the root.
use mathlib.Core.Path.{◌≡◌, refl, sym, ap, ◌∙◌}
use mathlib.Core.Bool.{Bool, true, false, cond}
use mathlib.Core.List.{List, [], ◌∷◌, ◌++◌}
use mathlib.Core.Logic.{◌⊎◌, inl, inr}
use mathlib.Core.Option.{Option, none, some}
use Prim.Native.Nat.{ℕ, zero, suc, ◌≤◌, ◌<◌}
use native.Mathlib.Omega.{arith}
use lib.ListN.{length, get_or, length-append, get_or-append}
use lib.Seq.{get_or_at}
use lib.Dec.{eqb, ltb}
use borrow.Author.Tests.{eqb-true, eqb-false, lt-ltb, le-ltb}
use Rattle.list.specs.List.{MaybeList}
use Rattle.octets.proofs.Places.{split}
use Rattle.tree.specs.General.{bind}
use Rattle.tree.specs.Held.{parent_byte_in}
use Rattle.tree.specs.Work.{computed}
use Rattle.tree.proofs.Replay.{Blocks, from_root, gather, work}

-- the list of the parent that b names, among the lists so far; absent where it names none of them
unfoldable pub parent_list : List MaybeList → List ℕ → MaybeList
parent_list ls b = cond (ltb (parent_byte_in b) (length ls)) (get_or ls (parent_byte_in b) none) none

-- one list more
abbrev pub next_list : List ℕ → List ℕ → List MaybeList → Option (List MaybeList)
next_list e b ls = bind (computed e (parent_list ls b) b) (λ x. some (ls ++ (x ∷ [])))

-- the lists of the first n objects
unfoldable pub in_order : List ℕ → Blocks → ℕ → Option (List MaybeList)
in_order e d zero = some []
in_order e d (suc n) = bind (in_order e d n) (next_list e (get_or d n []))

-- each object has no parent or an earlier one
abbrev pub Ordered : Blocks → Type 0
Ordered d = (i : ℕ) → i < length d → (parent_byte_in (get_or d i []) ≡ 255) ⊎ (parent_byte_in (get_or d i []) < i)

-- ---- laws of bind and gather

-- where there is something at the end there was something before
bind-some : {A B : Type 0} (o : Option A) (f : A → Option B) (y : B) → bind o f ≡ some y → (x : A) × ((o ≡ some x) × (f x ≡ some y))
unfolding bind
bind-some none f y h = let z : ◌≡◌ {A = ℕ} 0 1 = cc in absurd (omega arith)
bind-some (some x) f y h = (x, (refl, h))

-- what is done next may look at what is there
bind-same : {A B : Type 0} (o : Option A) (f g : A → Option B) → ((x : A) → o ≡ some x → f x ≡ g x) → bind o f ≡ bind o g
unfolding bind
bind-same none f g h = refl
bind-same (some x) f g h = h x refl

module _ {A : Type 0} where
  -- all that was gathered: the last, and those before it
  gather-split : (n : ℕ) (f : ℕ → Option A) (ys : List A) → gather (suc n) f ≡ some ys
      → (xs : List A) × ((gather n f ≡ some xs) × ((x : A) × ((f n ≡ some x) × (ys ≡ xs ++ (x ∷ [])))))
  unfolding gather
  gather-split n f ys h =
      let a = bind-some (gather n f) _ ys h in
      let b = bind-some (f n) _ ys a.1.1 in
      let e : ys ≡ a.0 ++ (b.0 ∷ []) = cc b.1.1 in
      (a.0, (a.1.0, (b.0, (b.1.0, e))))

  pub gather-length : (n : ℕ) (f : ℕ → Option A) (xs : List A) → gather n f ≡ some xs → length xs ≡ n
  unfolding gather
  gather-length zero f xs h = let e : xs ≡ [] = cc in rw e
  gather-length (suc n) f ys h =
      let s = gather-split n f ys h in
      let k = gather-length n f s.0 s.1.0 in
      rw s.1.1.1.1 (simp length-append (omega arith))

  pub gather-at : (d : A) (n : ℕ) (f : ℕ → Option A) (xs : List A) → gather n f ≡ some xs → (i : ℕ) → i < n → f i ≡ some (get_or xs i d)
  gather-at d zero f xs h i k = absurd (omega arith)
  gather-at d (suc n) f ys h i k =
      let s = gather-split n f ys h in
      let xs = s.0 in
      let x = s.1.1.0 in
      let l = gather-length n f xs s.1.0 in
      rw s.1.1.1.1
      (split n i
      (λ m.
      let e : i ≡ n = omega arith in
      rw e (s.1.1.1.0 ∙ ap some (sym (get_or_at xs x [] d n l))))
      (λ m. gather-at d n f xs s.1.0 i m ∙ ap some (sym (get_or-append xs (x ∷ []) d i (rw l m)))))

-- ---- from the root

cond_same : {A : Type 0} (b : Bool) (x y z : A) → (b ≡ false → y ≡ z) → cond b x y ≡ cond b x z
cond_same true x y z h = refl
cond_same false x y z h = h refl

module _ (e : List ℕ) (d : Blocks) (ordered : Ordered d) where
  -- a parent that is named stands earlier
  earlier : (i : ℕ) → i < length d → eqb (parent_byte_in (get_or d i [])) 255 ≡ false → parent_byte_in (get_or d i []) < i
  earlier i h t = by (ordered i h)
    where
      by : (parent_byte_in (get_or d i []) ≡ 255) ⊎ (parent_byte_in (get_or d i []) < i) → parent_byte_in (get_or d i []) < i
      by (inl q) = absurd (eqb-false _ _ t q)
      by (inr q) = q

  -- to look at more than i objects is enough for object i
  pub from-enough : (f g i : ℕ) → i < length d → i < f → i < g → from_root e d f i ≡ from_root e d g i
  unfolding from_root
  from-enough zero g i h k m = absurd (omega arith)
  from-enough (suc f) zero i h k m = absurd (omega arith)
  from-enough (suc f) (suc g) i h k m =
      ap (λ (o : Option MaybeList). bind o (λ p. computed e p (get_or d i [])))
      (cond_same (eqb (parent_byte_in (get_or d i [])) 255) _ _ _
      (λ t. let q = earlier i h t in from-enough f g (parent_byte_in (get_or d i [])) (omega arith) (omega arith) (omega arith)))

  module _ (few : length d ≤ 64) where
    -- object n from the root, where the lists of those before it are there: from its parent's among them
    from-lists : (f n : ℕ) (ls : List MaybeList) → n < f → n < length d → gather n (from_root e d f) ≡ some ls
        → from_root e d f n ≡ computed e (parent_list ls (get_or d n [])) (get_or d n [])
    unfolding from_root parent_list bind
    from-lists zero n ls h k q = absurd (omega arith)
    from-lists (suc f) n ls h k q = by (eqb (parent_byte_in (get_or d n [])) 255) refl
      where
        by : (t : Bool) → eqb (parent_byte_in (get_or d n [])) 255 ≡ t → from_root e d (suc f) n ≡ computed e (parent_list ls (get_or d n [])) (get_or d n [])
        by true t =
            let p = parent_byte_in (get_or d n []) in
            let l = gather-length n (from_root e d (suc f)) ls q in
            let u : ltb p (length ls) ≡ false = le-ltb p (length ls) (omega (arith, eqb-true p 255 t)) in
            rw (t, u)
        by false t =
            let p = parent_byte_in (get_or d n []) in
            let l = gather-length n (from_root e d (suc f)) ls q in
            let m = earlier n k t in
            let u : ltb p (length ls) ≡ true = lt-ltb p (length ls) (omega arith) in
            let v : from_root e d f p ≡ some (get_or ls p none) =
            from-enough f (suc f) p (omega arith) (omega arith) (omega arith) ∙ gather-at none n (from_root e d (suc f)) ls q p m in
            rw (t, u, v)

    -- in the order of numbers, whatever `f` from n on
    pub in-order-from : (f n : ℕ) → n ≤ f → n ≤ length d → in_order e d n ≡ gather n (from_root e d f)
    unfolding in_order gather
    in-order-from f zero h k = refl
    in-order-from f (suc n) h k =
        rw (in-order-from f n (omega arith) (omega arith))
        (bind-same (gather n (from_root e d f)) _ _ (λ ls q. rw (from-lists f n ls h k q)))

    pub in_order-is : in_order e d (length d) ≡ work e d
    unfolding work
    in_order-is = in-order-from (length d) (length d) (omega arith) (omega arith)

-- ---- one object more at the end: the others' lists stay

-- what stands behind the first n objects doesn't count
pub in-order-same : (e : List ℕ) (d c : Blocks) (n : ℕ) → ((i : ℕ) → i < n → get_or d i [] ≡ get_or c i []) → in_order e d n ≡ in_order e c n
unfolding in_order
in-order-same e d c zero h = refl
in-order-same e d c (suc n) h = rw (in-order-same e d c n (λ i k. h i (omega arith)), h n (omega arith))

module _ (d : Blocks) (ordered : Ordered d) (b : List ℕ) (stands : (parent_byte_in b ≡ 255) ⊎ (parent_byte_in b < length d)) where
  pub ordered-next : Ordered (d ++ (b ∷ []))
  ordered-next i h =
      split (length d) i
      (λ k.
      let l : i ≡ length d = omega (arith, simp length-append at h) in
      rw (l, get_or_at d b [] [] (length d) refl) stands)
      (λ k. rw (get_or-append d (b ∷ []) [] i k) (ordered i k))

  pub work-next : (e : List ℕ) → length d < 64 → work e (d ++ (b ∷ [])) ≡ bind (work e d) (next_list e b)
  unfolding in_order
  work-next e h =
      let l : length (d ++ (b ∷ [])) ≡ suc (length d) = simp length-append (omega arith) in
      let all : in_order e (d ++ (b ∷ [])) (length (d ++ (b ∷ []))) ≡ work e (d ++ (b ∷ [])) = in_order-is e (d ++ (b ∷ [])) ordered-next (omega arith) in
      let same : in_order e (d ++ (b ∷ [])) (length d) ≡ in_order e d (length d) =
      in-order-same e (d ++ (b ∷ [])) d (length d) (λ i k. get_or-append d (b ∷ []) [] i k) in
      sym all ∙ ap (in_order e (d ++ (b ∷ []))) l
      ∙ rw (same, in_order-is e d ordered (omega arith), get_or_at d b [] [] (length d) refl)
