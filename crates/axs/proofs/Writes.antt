-- The writes of a text, one after another.
use mathlib.Core.Path.{◌≡◌, refl, sym, ap, subst, ◌∙◌}
use mathlib.Core.Bool.{true, false}
use mathlib.Core.List.{List, [], ◌∷◌, ◌++◌, append_assoc}
use Prim.Native.Nat.{ℕ, ◌-◌, ◌≤◌, ◌<◌}
use native.Mathlib.Omega.{arith}
use lib.ListN.{length, take, drop, length-drop}
use lib.Seq.{length-take-le}
use lib.Dec.{eqb}
use Rattle.std.specs.Prelude.{Result, Ok, Err, IfOk}
use Rattle.std.specs.Result.{result_unwrap_or}
use Rattle.std.specs.Io.{WritesAtMost}
use Rattle.axs.specs.Counts.{Answered, answer_of, clamp_len}
use borrow.Author.Tests.{ne_eqb}
use Rattle.axs.specs.Speech.{whole_by, Written}

-- there are writes of a text of n bytes after which so many are left
pub record Taken (n left : ℕ) : Type 0 where
  pub writes : List Answered
  pub then : (ws : List Answered) → whole_by (writes ++ ws) n ≡ whole_by ws left

pub taken_none : (n : ℕ) → Taken n n
taken_none n = record { writes = []; then = λ ws. refl }

pub taken-all : {n left : ℕ} → Taken n left → left ≡ 0 → Written n true
unfolding Written whole_by
taken-all t e = (t.writes ++ [], sym (t.then [] ∙ rw e refl))

-- one more write of the bytes that are left
module _ {n : ℕ} {left : ℕ} (h : 0 < left) (t : Taken n left) (z : Answered) where
  some_left : eqb left 0 ≡ false
  some_left = ne_eqb left 0 (λ q. omega arith)

  taken-by : clamp_len z left ≡ 0 → Written n false
  unfolding Written whole_by
  taken-by f = (t.writes ++ (z ∷ []), sym (t.then (z ∷ []) ∙ rw (some_left, f) refl))

  taken_more : (clamp_len z left ≡ 0 → ⊥) → Taken n (left - clamp_len z left)
  unfolding whole_by
  taken_more f = record {
    writes = t.writes ++ (z ∷ []);
    then = λ ws.
        ap (λ (a : List Answered). whole_by a n) (append_assoc t.writes (z ∷ []) ws)
        ∙ t.then (z ∷ ws)
        ∙ rw (some_left, ne_eqb (clamp_len z left) 0 f) refl;
  }

-- as the code has it: k bytes were taken, none where the write failed
clamped-all : {E : Type 0} (r : Result ℕ E) (n : ℕ) → IfOk r (λ k. k ≤ n) → clamp_len (answer_of r) n ≡ result_unwrap_or r 0
clamped-all (Ok k) n h = omega arith
clamped-all (Err e) n h = refl

module _ {n : ℕ} {E : Type 0} (left : List ℕ) (h : 0 < length left) (t : Taken n (length left)) (r : Result ℕ E) (m : WritesAtMost r left)
    (k : ℕ) (e : k ≡ result_unwrap_or r 0) where
  took : clamp_len (answer_of r) (length left) ≡ k
  took = clamped-all r (length left) m ∙ sym e

  pub taken-on : (k ≡ 0 → ⊥) → k ≤ length left → Taken n (length (take (length left - k) (drop k left)))
  taken-on p q =
      let f : length (take (length left - k) (drop k left)) ≡ length left - k = length-take-le (length left - k) (drop k left) (rw length-drop (omega arith)) in
      subst (Taken n) (ap (λ (x : ℕ). length left - x) took ∙ sym f) (taken_more h t (answer_of r) (λ z. p (sym took ∙ z)))

  pub taken-stops : k ≡ 0 → Written n false
  taken-stops p = taken-by h t (answer_of r) (took ∙ p)
