-- Laws of bytes that move to the front.
use mathlib.Core.Path.{◌≡◌, refl, sym, ap, ◌∙◌}
use mathlib.Core.List.{List}
use Prim.Native.Nat.{ℕ, ◌+◌, ◌-◌, ◌≤◌}
use native.Mathlib.Omega.{arith}
use lib.ListN.{length, take, drop, length-take, length-drop}
use lib.Seq.{take_all}
use Rattle.std.specs.List.{copy_within}
use Rattle.octets.specs.Bytes.{part, front}
use Rattle.octets.proofs.Places.{length_part, part-of-take}

-- the bytes from `from` up to n, on the front
pulled : (d : List ℕ) (from n : ℕ) → from ≤ n → n ≤ length d → copy_within d from n 0 ≡ front (part from (n - from) d) d
unfolding part
pulled d from n h k =
    let z : 0 + (n - from) ≡ n - from = omega arith in
    rw (z, length_part from (n - from) d (omega arith)) refl

pub first_part : (n : ℕ) (d : List ℕ) → part 0 n d ≡ take n d
unfolding part
first_part n d = refl

-- what is left of the first bytes, as the code has it
rest_part : (d t : List ℕ) (held n : ℕ) → t ≡ take held d → n ≤ length t → part n (length t - n) d ≡ drop n (take held d)
unfolding part
rest_part d t held n e h =
    sym (part-of-take n (length t - n) held d (omega (arith, ap length e, length-take held d)))
    ∙ ap (λ (a : List ℕ). take (length t - n) (drop n a)) (sym e)
    ∙ take_all (length t - n) (drop n t) (rw length-drop (omega arith))
    ∙ ap (drop n) e

-- t is the first bytes of d: what is left of it behind n comes to the front
pub left-first : (d t : List ℕ) (held n : ℕ) → t ≡ take held d → n ≤ length t → copy_within d n (length t) 0 ≡ front (drop n (take held d)) d
left-first d t held n e h =
    pulled d n (length t) h (omega (arith, ap length e, length-take held d)) ∙ ap (λ (w : List ℕ). front w d) (rest_part d t held n e h)
