-- Each byte is tested. Assumes nothing.
use mathlib.Core.Path.{◌≡◌, refl, ap, ◌∙◌}
use mathlib.Core.Bool.{Bool, ◌&&◌}
use mathlib.Core.List.{List, [], ◌∷◌}
use Prim.Native.Nat.{ℕ}
use lib.Dec.{eqb}
use Rattle.std.proofs.Common.{rules, tests}
use Rattle.std.specs.List.{list_all}
use Rattle.std.proofs.lemmas.Iterator.{YieldsList-from_slice}
use Rattle.std.proofs.lemmas.Iterator.Search.{all_from_yields_List}
use Rattle.condition.specs.Kind.{zeros}
use Rattle.condition.proofs.tokens.zeros.Goals as goal

all-zeros : (s : List ℕ) → list_all (λ b. eqb b 0) s ≡ zeros s
unfolding zeros
all-zeros [] = refl
all-zeros (b ∷ s) = ap (λ (z : Bool). eqb b 0 && z) (all-zeros s)

pub returns : goal.returns
returns c =
    let s = c.args.s.now in
    all_from_yields_List (λ b. eqb b 0) _ _ _ c.all.ensures.ran (YieldsList-from_slice s cc) (λ x b q k. search (rules, tests)) ∙ all-zeros s
