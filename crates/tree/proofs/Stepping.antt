-- The kept steps of a room: what a step kept in front of them, and the latest taken off, leave of them and of the rest.
use mathlib.Core.Path.{◌≡◌, sym, ap, ap₂, ◌∙◌}
use mathlib.Core.Logic.{◌⊎◌, inr, ⊎_elim}
use mathlib.Core.List.{List, [], ◌∷◌, ◌++◌}
use Prim.Native.Nat.{ℕ, suc, ◌+◌, ◌-◌, ◌*◌, ◌≤◌, ◌<◌, min}
use native.Mathlib.Omega.{arith}
use lib.ListN.{length, take, drop, set, length-append, length-drop, length-set}
use lib.Seq.{length-take-le, take-append-add, take-take, take-add, drop_at, drop-drop, set-get_or, get_or-set_same}
use Rattle.octets.specs.Bytes.{part, put_at}
use Rattle.octets.proofs.Places.{length_part, length-put, part-of-take, part-put-before, part-put-after, part-put-in, part-part, put-append, put-nil, put_one}
use Rattle.tree.specs.Room.{object_limit, step_limit, kept_steps, steps_at, room_for, step}
use Rattle.tree.specs.Calls.{steps_in, step_kept, step_gone}
use Rattle.tree.proofs.Areas.{Ready}
use Rattle.tree.proofs.Blocks.{part-first, part-past}

-- a part before the steps that does not hold their number
abbrev pub Aside : ℕ → ℕ → ℕ → Type 0
Aside n a k = ((a + k ≤ 3) ⊎ (4 ≤ a)) × (a + k ≤ steps_at n)

-- w₁ is w with the step u in front of the others
pub record OneMore (u w w₁ : List ℕ) : Type 0 where
  pub same : (a k : ℕ) → Aside (object_limit w) a k → part a k w₁ ≡ part a k w
  pub size : length w₁ ≡ length w
  pub count : kept_steps w₁ ≡ min (step_limit w) (suc (kept_steps w))
  pub first : 0 < step_limit w → step (object_limit w) 0 w₁ ≡ u
  pub later : (j : ℕ) → suc j < step_limit w → step (object_limit w) (suc j) w₁ ≡ step (object_limit w) j w

-- w₁ is w with the latest step taken off
pub record OneLess (w w₁ : List ℕ) : Type 0 where
  pub same : (a k : ℕ) → Aside (object_limit w) a k → part a k w₁ ≡ part a k w
  pub size : length w₁ ≡ length w
  pub count : kept_steps w₁ ≡ kept_steps w - 1
  pub later : (j : ℕ) → suc j < step_limit w → step (object_limit w) j w₁ ≡ step (object_limit w) (suc j) w

-- a byte stored: the parts that do not hold it stay
pub part-set : (a k c x : ℕ) (l : List ℕ) → (a + k ≤ c) ⊎ (c < a) → c < length l → part a k (set l c x) ≡ part a k l
part-set a k c x l q h =
    ap (part a k) (sym (put_one c x l h))
    ∙ ⊎_elim (λ m. part-put-before a k c (x ∷ []) l m (omega arith)) (λ m. part-put-after a k c (x ∷ []) l (omega arith) (omega arith)) q

pub part-drop : (a k n : ℕ) (l : List ℕ) → part a k (drop n l) ≡ part (n + a) k l
unfolding part
part-drop a k n l = ap (take k) (drop-drop a n l)

-- ---- s steps in their bytes

-- the first s of one step and of those at `at`
pub steps_front : (at s : ℕ) (u l : List ℕ) → 0 < s → length u ≡ 1186 → take (s * 1186) (u ++ part at (s * 1186) l) ≡ u ++ part at ((s - 1) * 1186) l
unfolding part
steps_front at s u l p lu =
    let e : s * 1186 ≡ length u + (s - 1) * 1186 = omega arith in
    ap (λ (n : ℕ). take n (u ++ take (s * 1186) (drop at l))) e
    ∙ take-append-add u (take (s * 1186) (drop at l)) ((s - 1) * 1186)
    ∙ ap (λ (t : List ℕ). u ++ t) (take-take ((s - 1) * 1186) (s * 1186) (drop at l) (omega arith))

-- those behind the first
pub steps-behind : (at s : ℕ) (l : List ℕ) → 0 < s → at + s * 1186 ≤ length l → drop 1186 (part at (s * 1186) l) ≡ part (at + 1186) ((s - 1) * 1186) l
unfolding part
steps-behind at s l p h =
    let e : s * 1186 ≡ 1186 + (s - 1) * 1186 = omega arith in
    let n : length (take 1186 (drop at l)) ≡ 1186 = length-take-le 1186 (drop at l) (rw length-drop (omega arith)) in
    ap (λ (m : ℕ). drop 1186 (take m (drop at l))) e
    ∙ ap (drop 1186) (take-add 1186 ((s - 1) * 1186) (drop at l))
    ∙ drop_at (take 1186 (drop at l)) (take ((s - 1) * 1186) (drop 1186 (drop at l))) 1186 n
    ∙ ap (take ((s - 1) * 1186)) (drop-drop 1186 at l)

-- ---- the same as the code makes them: one after another, then their number

module _ (a : List ℕ) (n s k : ℕ) (en : object_limit a ≡ n) (es : step_limit a ≡ s) (ek : kept_steps a ≡ k) (long : length a ≡ room_for n s) where
  pub kept_from : (u c w₁ w₂ : List ℕ) (m : ℕ) → 0 < s → length u ≡ 1186 → m ≡ min s (k + 1)
      → w₁ ≡ put_at (steps_at n) u a → c ≡ part (steps_at n) ((s - 1) * 1186) a → w₂ ≡ put_at (steps_at n + 1186) c w₁ → set w₂ 3 m ≡ step_kept u a
  unfolding step_kept
  kept_from u c w₁ w₂ m p lu em e₁ ec e₂ =
      let lc : length c ≡ (s - 1) * 1186 = ap length ec ∙ length_part (steps_at n) ((s - 1) * 1186) a (omega arith) in
      let l : steps_at n + 1186 ≡ steps_at n + length u = omega arith in
      let f : w₂ ≡ put_at (steps_at n) (take (s * 1186) (u ++ part (steps_at n) (s * 1186) a)) a =
      e₂
      ∙ ap₂ (λ (at : ℕ) (w : List ℕ). put_at at c w) l e₁
      ∙ put-append (steps_at n) u c a (omega arith)
      ∙ ap (λ (t : List ℕ). put_at (steps_at n) t a) (ap (λ (t : List ℕ). u ++ t) ec ∙ sym (steps_front (steps_at n) s u a p lu)) in
      rw (en, es, ek, em, f)

  pub gone-from : (c w₁ : List ℕ) → 0 < s → c ≡ part (steps_at n + 1186) ((s - 1) * 1186) a → w₁ ≡ put_at (steps_at n) c a → set w₁ 3 (k - 1) ≡ step_gone a
  unfolding step_gone
  gone-from c w₁ p ec e =
      let f : w₁ ≡ put_at (steps_at n) (drop 1186 (part (steps_at n) (s * 1186) a)) a =
      e ∙ ap (λ (t : List ℕ). put_at (steps_at n) t a) (ec ∙ sym (steps-behind (steps_at n) s a p (omega arith))) in
      rw (en, es, ek, f)

  -- none, where none may be kept
  pub none_from : (u : List ℕ) → s ≡ 0 → k ≡ 0 → a ≡ step_kept u a
  unfolding step_kept
  none_from u z y =
      let f : set (put_at (steps_at n) [] a) 3 0 ≡ a =
      ap (λ (w : List ℕ). set w 3 0) (put-nil (steps_at n) a) ∙ ap (set a 3) (sym (ek ∙ y)) ∙ set-get_or a 3 0 in
      let e : min 0 (kept_steps a + 1) ≡ 0 = omega arith in
      rw (en, es, z, e) (sym f)

-- ---- bytes put behind the head, and the number of steps set

module _ (at x : ℕ) (b w : List ℕ) (far : 4 ≤ at) (fits : at + length b ≤ length w) where
  moved-size : length (set (put_at at b w) 3 x) ≡ length w
  moved-size = length-set (put_at at b w) 3 x ∙ length-put at b w fits

  moved-count : kept_steps (set (put_at at b w) 3 x) ≡ x
  moved-count = get_or-set_same (put_at at b w) 3 x 0 (rw (length-put at b w fits) (omega arith))

  moved-part : (a k : ℕ) → (a + k ≤ 3) ⊎ (4 ≤ a) → part a k (set (put_at at b w) 3 x) ≡ part a k (put_at at b w)
  moved-part a k q = part-set a k 3 x (put_at at b w) q (rw (length-put at b w fits) (omega arith))

  moved_same : (a k : ℕ) → (a + k ≤ 3) ⊎ (4 ≤ a) → a + k ≤ at → part a k (set (put_at at b w) 3 x) ≡ part a k w
  moved_same a k q h = moved-part a k q ∙ part-put-before a k at b w h (omega arith)

  moved_in : (d k : ℕ) → d + k ≤ length b → part (at + d) k (set (put_at at b w) 3 x) ≡ part d k b
  moved_in d k h = moved-part (at + d) k (inr (omega arith)) ∙ part-put-in at d k b w h fits

-- ---- a step more, and a step less

module _ (w : List ℕ) (ready : Ready w) where
  steps-length : length (steps_in w) ≡ step_limit w * 1186
  steps-length = length_part (steps_at (object_limit w)) (step_limit w * 1186) w (omega arith)

  pub one_more : (u : List ℕ) → length u ≡ 1186 → OneMore u w (step_kept u w)
  unfolding step_kept step
  one_more u lu =
      let t = take (step_limit w * 1186) (u ++ steps_in w) in
      let l : length t ≡ step_limit w * 1186 = length-take-le (step_limit w * 1186) (u ++ steps_in w) (rw length-append (omega (arith, steps-length))) in
      let f : steps_at (object_limit w) + length t ≤ length w = rw l (omega arith) in
      record {
        same = λ a k c. moved_same _ _ t w (omega arith) f a k c.0 c.1;
        size = moved-size _ _ t w (omega arith) f;
        count =
            let m : min (step_limit w) (kept_steps w + 1) ≡ min (step_limit w) (suc (kept_steps w)) = omega arith in
            moved-count _ _ t w (omega arith) f ∙ m;
        first = λ q.
            moved_in _ _ t w (omega arith) f (0 * 1186) 1186 (rw l (omega arith))
            ∙ part-of-take 0 1186 (step_limit w * 1186) (u ++ steps_in w) (omega arith)
            ∙ part-first 1186 u (steps_in w) lu;
        later = λ j q.
            let e : suc j * 1186 ≡ 1186 + j * 1186 = omega arith in
            moved_in _ _ t w (omega arith) f (suc j * 1186) 1186 (rw l (omega arith))
            ∙ part-of-take (suc j * 1186) 1186 (step_limit w * 1186) (u ++ steps_in w) (omega arith)
            ∙ rw e (part-past 1186 (j * 1186) 1186 u (steps_in w) lu)
            ∙ part-part (steps_at (object_limit w)) (step_limit w * 1186) (j * 1186) 1186 w (omega arith);
      }

  pub one_less : 0 < kept_steps w → OneLess w (step_gone w)
  unfolding step_gone step
  one_less p =
      let t = drop 1186 (steps_in w) in
      let l : length t ≡ step_limit w * 1186 - 1186 = length-drop 1186 (steps_in w) ∙ ap (λ (n : ℕ). n - 1186) steps-length in
      let f : steps_at (object_limit w) + length t ≤ length w = rw l (omega arith) in
      record {
        same = λ a k c. moved_same _ _ t w (omega arith) f a k c.0 c.1;
        size = moved-size _ _ t w (omega arith) f;
        count = moved-count _ _ t w (omega arith) f;
        later = λ j q.
            let e : steps_at (object_limit w) + (1186 + j * 1186) ≡ steps_at (object_limit w) + suc j * 1186 = omega arith in
            moved_in _ _ t w (omega arith) f (j * 1186) 1186 (rw l (omega arith))
            ∙ part-drop (j * 1186) 1186 1186 (steps_in w)
            ∙ part-part (steps_at (object_limit w)) (step_limit w * 1186) (1186 + j * 1186) 1186 w (omega arith)
            ∙ rw e;
      }
