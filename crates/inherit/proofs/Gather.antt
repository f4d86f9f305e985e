-- Four passes together.
use mathlib.Core.Path.{◌≡◌, refl, sym, ap, ◌∙◌}
use mathlib.Core.List.{List, ◌++◌, flatten, append_assoc, append-nil}
use Prim.Native.Nat.{ℕ, suc, ◌+◌, ◌-◌, ◌*◌, ◌≤◌}
use native.Mathlib.Omega.{arith}
use lib.ListN.{length, take, drop, length-append, length-drop, drop_of_length-le}
use lib.Seq.{length-take-le, take_all}
use Rattle.octets.specs.Bytes.{front}
use Rattle.octets.proofs.Writes.{length_front, front-then}
use Rattle.inherit.specs.declared.passes.Measure.{Measure}
use Rattle.inherit.specs.Inner.Emit.{measure_of, both}
use Rattle.inherit.specs.Inner.Plan.{onward}
use Rattle.inherit.proofs.Emits.{flatten-append, measure-append}
use Rattle.inherit.proofs.Measures.{both-assoc}

module _ (a b c d : List (List ℕ)) where
  pub measure-four : both (measure_of a) (both (both (measure_of b) (measure_of c)) (measure_of d)) ≡ measure_of (a ++ (b ++ (c ++ d)))
  measure-four =
      sym
      (measure-append a (b ++ (c ++ d))
      ∙ ap (both (measure_of a))
      (measure-append b (c ++ d) ∙ ap (both (measure_of b)) (measure-append c d) ∙ sym (both-assoc (measure_of b) (measure_of c) (measure_of d))))

  pub flatten-four : flatten (a ++ (b ++ (c ++ d))) ≡ ((flatten a ++ flatten b) ++ flatten c) ++ flatten d
  flatten-four =
      flatten-append a (b ++ (c ++ d))
      ∙ ap (λ (x : List ℕ). flatten a ++ x) (flatten-append b (c ++ d) ∙ ap (λ (x : List ℕ). flatten b ++ x) (flatten-append c d))
      ∙ regroup (flatten a) (flatten b) (flatten c) (flatten d)
    where
      regroup : (p q r s : List ℕ) → p ++ (q ++ (r ++ s)) ≡ ((p ++ q) ++ r) ++ s
      regroup p q r s = sym (append_assoc (p ++ q) r s ∙ append_assoc p q (r ++ s))

  pub length-four : length (flatten (a ++ (b ++ (c ++ d)))) ≡ length (flatten a) + length (flatten b) + length (flatten c) + length (flatten d)
  length-four =
      ap (λ (x : List ℕ). length x) flatten-four
      ∙ length-append (flatten a ++ flatten b ++ flatten c) (flatten d)
      ∙ omega (arith, length-append (flatten a ++ flatten b) (flatten c), length-append (flatten a) (flatten b))

-- no more than n lists measure: at most two copies, 131,206 bytes, for each of 65,535 entries
pub record Within (n : ℕ) (m : Measure) : Type 0 where
  pub bytes : m.bytes ≤ 131206 * (65535 * n)
  pub count : m.count ≤ 2 * (65535 * n)

pub within-one : (n : ℕ) (m : Measure) → n ≤ 65535 → m.bytes ≤ 131206 * n → m.count ≤ 2 * n → Within 1 m
within-one n m few b k = record { bytes = omega arith; count = omega arith }

pub within_more : (n : ℕ) (a b m : Measure) → Within 1 a → Within n b → m ≡ both a b → Within (suc n) m
within_more n a b m x y e =
    let eb = ap (λ (z : Measure). z.bytes) e in
    let ek = ap (λ (z : Measure). z.count) e in
    record { bytes = omega (arith, x.bytes, y.bytes); count = omega (arith, x.count, y.count) }

-- a writer on `&mut x[at..]`, once the tail is back with ys in it
pub onward-tail : (at : ℕ) (w x ys : List ℕ) → ys ≡ front w (take (length x - at) (drop at x))
    → take at x ++ (ys ++ drop (length x - at) (drop at x)) ≡ onward at w x
onward-tail at w x ys e =
    let m : length (drop at x) ≤ length x - at = omega (arith, length-drop at x) in
    ap (λ (z : List ℕ). take at x ++ (z ++ drop (length x - at) (drop at x))) e
    ∙ rw (take_all (length x - at) (drop at x) m, drop_of_length-le (drop at x) m, append-nil) refl

pub onward-length : (at : ℕ) (w x : List ℕ) → at + length w ≤ length x → length (onward at w x) ≡ length x
onward-length at w x h =
    length-append (take at x) (front w (drop at x))
    ∙ omega (arith, length-take-le at x (omega arith), length_front w (drop at x) (omega (arith, length-drop at x)), length-drop at x)

-- one more writer behind what stands on the front
onward-front : (p w d x : List ℕ) (at : ℕ) → x ≡ front p d → length p ≡ at → length p + length w ≤ length d
    → onward at w x ≡ front (p ++ w) d
onward-front p w d x at e n h = ap (onward at w) e ∙ front-then p w d at n h

-- four writers, each behind the ones before it
module _ (A B C D d x₁ x₂ x₃ x₄ : List ℕ) (a b c : ℕ) (room : length A + length B + length C + length D ≤ length d)
    (ea : a ≡ 0 + length A) (eb : b ≡ a + length B) (ec : c ≡ b + length C) where
  pub four-front : x₁ ≡ onward 0 A d → x₂ ≡ onward a B x₁ → x₃ ≡ onward b C x₂ → x₄ ≡ onward c D x₃
      → x₄ ≡ front (((A ++ B) ++ C) ++ D) d
  four-front e₁ e₂ e₃ e₄ =
      let l = length-append A B in
      let m = length-append (A ++ B) C in
      let two = e₂ ∙ onward-front A B d x₁ a e₁ (omega arith) (omega arith) in
      let three = e₃ ∙ onward-front (A ++ B) C d x₂ b two (omega arith) (omega arith) in
      e₄ ∙ onward-front ((A ++ B) ++ C) D d x₃ c three (omega arith) (omega arith)
