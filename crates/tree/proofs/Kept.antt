-- Laws of the kept steps: how the code copies a room's area with a step more, or a step less.
use mathlib.Core.Path.{◌≡◌, refl, sym, ap, ◌∙◌}
use mathlib.Core.List.{List, ◌∷◌}
use Prim.Native.Nat.{ℕ, ◌+◌, ◌-◌, ◌*◌, ◌≤◌, ◌<◌, min}
use native.Mathlib.Omega.{arith}
use lib.ListN.{length, take, set}
use lib.Seq.{length-take-le}
use Rattle.octets.specs.Bytes.{part, put_at}
use Rattle.octets.proofs.Places.{length_part, part-most, part-of-take, put_whole}
use Rattle.tree.specs.Room.{object_limit, step_limit, kept_steps, steps_at, room_for, own_data, area}
use Rattle.tree.specs.Calls.{step_kept, step_gone}
use Rattle.tree.proofs.Areas.{area_byte, area-own}
use Rattle.tree.proofs.Tested.{part-within}
use Rattle.tree.proofs.Lays.{write-one, write-next, write-more}
use Rattle.tree.proofs.Stepping.{kept_from, gone-from, none_from}

pub step-laid : (a tag i : ℕ) (b l m : List ℕ) → a + 2 + length b ≤ length l → m ≡ put_at (a + 2) b (set (set l a tag) (a + 1) i) → m ≡ put_at a (tag ∷ i ∷ b) l
step-laid a tag i b l m h e = (write-more (length b) b m (write-next i (write-one a tag l (omega arith)) (omega arith)) refl h e).is

-- a part is no longer than asked for
pub most : (a n : ℕ) (l b : List ℕ) → b ≡ part a n l → length b ≤ n
most a n l b e = rw e (part-most a n l)

-- nor longer than what it is a part of
pub inside : (a n : ℕ) (l b : List ℕ) → b ≡ part a n l → length b ≤ length l
inside a n l b e = rw e (part-within a n l)

pub own-most : (i : ℕ) (r b : List ℕ) → b ≡ own_data i r → length b ≤ 1184
unfolding own_data
own-most i r b e = most (1048 + i * 2211) 1184 r b e

module _ (r : List ℕ) (n s : ℕ) (en : n ≡ object_limit r) (es : s ≡ step_limit r) where
  area-is : area r ≡ take (room_for n s) r
  area-is = rw (en, es)

  module _ (w : List ℕ) (lw : length w ≡ room_for n s) (lr : room_for n s ≤ length r) where
    area-length : length (area r) ≡ room_for n s
    area-length = rw area-is (length-take-le (room_for n s) r lr)

    area-part : (a k : ℕ) → a + k ≤ room_for n s → part a k (area r) ≡ part a k r
    area-part a k h = ap (part a k) area-is ∙ part-of-take a k (room_for n s) r h

    limit_is : object_limit (area r) ≡ n
    limit_is = area_byte r 0 (omega arith) ∙ sym en

    steps-is : step_limit (area r) ≡ s
    steps-is = area_byte r 1 (omega arith) ∙ sym es

    kept-now : (k : ℕ) → k ≡ kept_steps r → kept_steps (area r) ≡ k
    kept-now k e = area_byte r 3 (omega arith) ∙ sym e

    own-length : (i : ℕ) → i < n → length (own_data i r) ≡ 1184
    unfolding own_data
    own-length i h = length_part (1048 + i * 2211) 1184 r (omega arith)

    pub copy_is : (b w₁ : List ℕ) → b ≡ part 0 (room_for n s) r → w₁ ≡ put_at 0 b w → w₁ ≡ area r
    unfolding part
    copy_is b w₁ e f =
        let l : length b ≡ length w = ap length e ∙ length_part 0 (room_for n s) r (omega arith) ∙ sym lw in
        f ∙ put_whole b w l ∙ e ∙ sym area-is

    -- a step in front of the others
    pub kept-is : (k m tag i : ℕ) (b w₁ o w₂ c w₃ : List ℕ) → 0 < s → i < n → k ≡ kept_steps r → m ≡ min s (k + 1)
        → b ≡ part 0 (room_for n s) r → w₁ ≡ put_at 0 b w
        → o ≡ own_data i r → w₂ ≡ put_at (steps_at n) (tag ∷ i ∷ o) w₁
        → c ≡ part (steps_at n) ((s - 1) * 1186) r → w₃ ≡ put_at (steps_at n + 1186) c w₂
        → set w₃ 3 m ≡ step_kept (tag ∷ i ∷ own_data i (area r)) (area r)
    kept-is k m tag i b w₁ o w₂ c w₃ p h ek em eb e₁ eo e₂ ec e₃ =
        let own : o ≡ own_data i (area r) = eo ∙ sym (area-own r i (omega arith)) in
        let long : length (tag ∷ i ∷ own_data i (area r)) ≡ 1186 = let l = own-length i h in rw (← own, eo) (omega arith) in
        let first : w₂ ≡ put_at (steps_at n) (tag ∷ i ∷ own_data i (area r)) (area r) = e₂ ∙ rw (own, copy_is b w₁ eb e₁) in
        kept_from (area r) n s k limit_is steps-is (kept-now k ek) area-length (tag ∷ i ∷ own_data i (area r)) c w₂ w₃ m p long em first
        (ec ∙ sym (area-part (steps_at n) ((s - 1) * 1186) (omega arith))) e₃

    -- the latest taken off
    pub gone-is : (k : ℕ) (b w₁ c w₂ : List ℕ) → 0 < s → k ≡ kept_steps r
        → b ≡ part 0 (room_for n s) r → w₁ ≡ put_at 0 b w
        → c ≡ part (steps_at n + 1186) ((s - 1) * 1186) r → w₂ ≡ put_at (steps_at n) c w₁
        → set w₂ 3 (k - 1) ≡ step_gone (area r)
    gone-is k b w₁ c w₂ p ek eb e ec f =
        gone-from (area r) n s k limit_is steps-is (kept-now k ek) area-length c w₂ p
        (ec ∙ sym (area-part (steps_at n + 1186) ((s - 1) * 1186) (omega arith))) (f ∙ ap (put_at (steps_at n) c) (copy_is b w₁ eb e))

    -- none kept, where none may be
    pub none_kept : (u b w₁ : List ℕ) → s ≡ 0 → kept_steps r ≡ 0 → b ≡ part 0 (steps_at n) r → w₁ ≡ put_at 0 b w → w₁ ≡ step_kept u (area r)
    none_kept u b w₁ z k e f =
        let q : steps_at n ≡ room_for n s = omega arith in
        copy_is b w₁ (e ∙ ap (λ (j : ℕ). part 0 j r) q) f ∙ none_from (area r) n s 0 limit_is steps-is (kept-now 0 (sym k)) area-length u z refl
