-- One entry off the front of those that are still to come.
use mathlib.Core.Path.{◌≡◌, refl, ap, ◌∙◌}
use mathlib.Core.List.{List, [], ◌∷◌}
use Prim.Native.Nat.{ℕ, zero, suc, ◌-◌, ◌<◌, ◌≤◌}
use native.Mathlib.Nat.{not-suc-le-zero}
use native.Mathlib.Numerals.{sub-one}
use native.Mathlib.Omega.{arith}
use lib.ListN.{take, drop}
use Rattle.list.specs.Entry.{access, size_of}
use Rattle.list.specs.List.{cut}
use Rattle.list.specs.Good.{Sound, Whole, Passes}
use Rattle.list.proofs.Pieces.{split}
use Rattle.list.proofs.Remade.{cut-same}
use Rattle.list.proofs.Rows.{passes-turn}

cut_turn : (n : ℕ) (t : List ℕ) → 0 < n → cut n t ≡ take (size_of t) t ∷ cut (n - 1) (drop (size_of t) t)
unfolding cut
cut_turn zero t h = absurd (not-suc-le-zero h)
cut_turn (suc n) t h = rw (sub-one (suc n)) refl

pub cut_end : (n : ℕ) (t : List ℕ) → n ≡ 0 → cut n t ≡ []
unfolding cut
cut_end n t h = rw h refl

-- the two parts that the size of the next entry makes of them
module _ (n : ℕ) (t : List ℕ) (h : 0 < n) (p : Passes access 4 n t) (k : ℕ) (e : k ≡ size_of t) where
  pub sound-here : Sound access 4 t
  sound-here = (passes-turn access 4 n t h p).0

  module _ (x y : List ℕ) (front : x ≡ take k t) (back : y ≡ drop k t) where
    own : x ≡ take (size_of t) t
    own = front ∙ ap (λ (m : ℕ). take m t) e

    rest : y ≡ drop (size_of t) t
    rest = back ∙ ap (λ (m : ℕ). drop m t) e

    pub whole-here : Whole access 4 x
    whole-here = rw own (split access 4 t sound-here)

    pub small-here : k < 65536 → size_of x ≤ 65535
    small-here f = let s = cut-same access 4 t sound-here in rw own (omega (arith, s.size, e))

    pub passes-here : Passes access 4 (n - 1) y
    passes-here = rw rest (passes-turn access 4 n t h p).1

    pub cut-here : cut n t ≡ x ∷ cut (n - 1) y
    cut-here = rw (own, rest) (cut_turn n t h)
