-- Working a room's lists out again touches its slots alone, and is `in_order` over the objects' own data: the same lists, and refused where that is.
use mathlib.Core.Path.{◌≡◌, refl, sym, ap, ◌∙◌}
use mathlib.Core.Bool.{Bool, true, false, cond}
use mathlib.Core.Logic.{◌⊎◌, inl, inr}
use mathlib.Core.List.{List, [], ◌∷◌, ◌++◌}
use mathlib.Core.Option.{Option, none, some}
use Prim.Native.Nat.{ℕ, zero, suc, ◌+◌, ◌≤◌, ◌<◌}
use native.Mathlib.Omega.{arith}
use lib.ListN.{length}
use lib.Dec.{eqb}
use borrow.Author.Tests.{eqb-true, lt-ltb, le-ltb}
use Rattle.list.specs.List.{MaybeList}
use Rattle.octets.specs.Bytes.{part, put_at}
use Rattle.octets.proofs.Places.{split, length-put, part-put-same, part-put-before, part-put-after}
use Rattle.tree.specs.General.{bind, tab}
use Rattle.tree.specs.Held.{held, slot_for, slot_ok, parent_byte_in, parent_of}
use Rattle.tree.specs.Room.{own_at, slot_at, settings, own_data, slot}
use Rattle.tree.specs.Work.{computed, above_in, laid, rework, reworked}
use Rattle.tree.proofs.Computed.{computed-length, computed-held, computed-slot}
use Rattle.tree.proofs.Tab.{length-tab, get_d-tab, tab-ext}
use Rattle.tree.proofs.Paths.{parent_list, next_list, in_order, in-order-same}

-- a part that holds nothing of the first n slots
abbrev pub Clear : ℕ → ℕ → ℕ → Type 0
Clear n a k = (i : ℕ) → i < n → (a + k ≤ slot_at i) ⊎ (slot_at i + 1027 ≤ a)

-- w₁ is w with the first n lists worked out
pub record Worked (n : ℕ) (w w₁ : List ℕ) : Type 0 where
  pub lists : in_order (settings w) (tab n (λ i. own_data i w)) n ≡ some (tab n (λ i. held (slot i w₁)))
  pub size : length w₁ ≡ length w
  pub rest : (a k : ℕ) → Clear n a k → part a k w₁ ≡ part a k w
  pub slots : (i : ℕ) → i < n → slot_ok (slot i w₁) ≡ true

abbrev pub Linked : ℕ → List ℕ → Option (List ℕ) → Type 0
Linked n w none = in_order (settings w) (tab n (λ i. own_data i w)) n ≡ none
Linked n w (some w₁) = Worked n w w₁

-- one object more at the end: its list comes from those before it
in-order-next : (e : List ℕ) (n : ℕ) (f : ℕ → List ℕ) → in_order e (tab (suc n) f) (suc n) ≡ bind (in_order e (tab n f) n) (next_list e (f n))
unfolding in_order
in-order-next e n f =
    rw (
      in-order-same e (tab (suc n) f) (tab n f) n (λ i h. get_d-tab (suc n) f i [] (omega arith) ∙ sym (get_d-tab n f i [] h)),
      get_d-tab (suc n) f n [] (omega arith),
    )

-- the parent's list, among those worked out so far
above-list : (n : ℕ) (w : List ℕ) → n ≤ 255 → above_in (parent_of (own_data n w)) n w ≡ parent_list (tab n (λ i. held (slot i w))) (own_data n w)
unfolding above_in parent_list
above-list n w few = by (eqb p 255) refl
  where
    p : ℕ
    p = parent_byte_in (own_data n w)

    l : length (tab n (λ i. held (slot i w))) ≡ n
    l = length-tab n (λ i. held (slot i w))

    by : (b : Bool) → eqb p 255 ≡ b → above_in (cond b none (some p)) n w ≡ parent_list (tab n (λ i. held (slot i w))) (own_data n w)
    by true e = let q = eqb-true p 255 e in rw (l, le-ltb p n (omega arith))
    by false e =
        split n p
        (λ h. rw (l, le-ltb p n h))
        (λ h. rw (l, lt-ltb p n h, get_d-tab n (λ i. held (slot i w)) p none h))

-- a slot put: a part that holds nothing of it stays
slot_apart : (i a k : ℕ) (b w : List ℕ) → length b ≡ 1027 → slot_at i + 1027 ≤ length w → (a + k ≤ slot_at i) ⊎ (slot_at i + 1027 ≤ a)
    → part a k (put_at (slot_at i) b w) ≡ part a k w
slot_apart i a k b w h m (inl q) = part-put-before a k (slot_at i) b w q (omega arith)
slot_apart i a k b w h m (inr q) = part-put-after a k (slot_at i) b w (omega arith) (omega arith)

-- the settings and own data lie clear of the slots
module _ (n : ℕ) (w w₁ : List ℕ) (k : Worked n w w₁) where
  pub settings-stay : settings w₁ ≡ settings w
  unfolding settings
  settings-stay = k.rest 4 1044 (λ i h. inl (omega arith))

  pub own-stays : (i : ℕ) → own_data i w₁ ≡ own_data i w
  unfolding own_data
  own-stays i = k.rest (own_at i) 1184 (λ j h. split i j (λ q. inl (omega arith)) (λ q. inr (omega arith)))

  -- one turn of the order
  turn : n ≤ 255 → (x : Option MaybeList) → computed (settings w₁) (above_in (parent_of (own_data n w₁)) n w₁) (own_data n w₁) ≡ x
      → in_order (settings w) (tab (suc n) (λ i. own_data i w)) (suc n) ≡ bind x (λ o. some (tab n (λ i. held (slot i w₁)) ++ (o ∷ [])))
  unfolding bind
  turn few x e =
      let f : computed (settings w) (parent_list (tab n (λ i. held (slot i w₁))) (own_data n w)) (own_data n w) ≡ x =
      rw (← settings-stay, ← own-stays n, ← above-list n w₁ few) e in
      in-order-next (settings w) n (λ i. own_data i w) ∙ rw (k.lists, f)

-- what is to be known of computed lists
after_one : (n : ℕ) (w : List ℕ) → n ≤ 255 → own_at (suc n) ≤ length w → (w₁ : List ℕ) → Worked n w w₁
    → (x : Option MaybeList) → computed (settings w₁) (above_in (parent_of (own_data n w₁)) n w₁) (own_data n w₁) ≡ x → Linked (suc n) w (laid n w₁ x)
unfolding laid bind slot tab
after_one n w few h w₁ k none e = turn n w w₁ k few none e
after_one n w few h w₁ k (some o) e =
    let b = slot_for o in
    let w₂ = put_at (slot_at n) b w₁ in
    let lb : length b ≡ 1027 = computed-length _ _ _ o e in
    let l = k.size in
    let room : slot_at n + 1027 ≤ length w₁ = omega arith in
    let here : slot n w₂ ≡ b = part-put-same (slot_at n) 1027 b w₁ lb room in
    let there : (i : ℕ) → i < n → slot i w₂ ≡ slot i w₁ = λ i q. slot_apart n (slot_at i) 1027 b w₁ lb room (inl (omega arith)) in
    let ls : tab n (λ i. held (slot i w₁)) ≡ tab n (λ i. held (slot i w₂)) =
    tab-ext n (λ i. held (slot i w₁)) (λ i. held (slot i w₂)) (λ i q. ap held (sym (there i q))) in
    record {
      lists = turn n w w₁ k few (some o) e
          ∙ ap (λ (x : List MaybeList). some (x ++ (o ∷ []))) ls
          ∙ ap (λ (x : MaybeList). some (tab n (λ i. held (slot i w₂)) ++ (x ∷ []))) (sym (ap held here ∙ computed-held _ _ _ o e));
      size = length-put (slot_at n) b w₁ (omega arith) ∙ l;
      rest = λ a m c. slot_apart n a m b w₁ lb room (c n (omega arith)) ∙ k.rest a m (λ i q. c i (omega arith));
      slots = λ i q.
          split n i
          (λ m.
          let z : i ≡ n = omega arith in
          rw (z, here) (computed-slot _ _ _ o e))
          (λ m. rw (there i m) (k.slots i m));
    }

more : (n : ℕ) (w : List ℕ) → n ≤ 255 → own_at (suc n) ≤ length w → (o : Option (List ℕ)) → Linked n w o → Linked (suc n) w (bind o (rework n))
unfolding bind rework
more n w few h none k = in-order-next (settings w) n (λ i. own_data i w) ∙ rw k
more n w few h (some w₁) k = after_one n w few h w₁ k (computed (settings w₁) (above_in (parent_of (own_data n w₁)) n w₁) (own_data n w₁)) refl

pub linked : (n : ℕ) (w : List ℕ) → n ≤ 256 → own_at n ≤ length w → Linked n w (reworked n w)
unfolding reworked tab in_order
linked zero w few h = record { lists = refl; size = refl; rest = λ a k c. refl; slots = λ i q. absurd (omega arith) }
linked (suc n) w few h = more n w (omega arith) h (reworked n w) (linked n w (omega arith) (omega arith))
