-- The library's `any`, in the definition's words. Assumes nothing.
use mathlib.Core.Path.{◌≡◌, refl, ap, ◌∙◌}
use mathlib.Core.Bool.{◌||◌}
use mathlib.Core.List.{List, [], ◌∷◌}
use Prim.Native.Nat.{ℕ}
use Rattle.std.proofs.Common.{rules, tests}
use Rattle.std.specs.List.{list_any}
use Rattle.std.proofs.lemmas.Iterator.Consumers.{YieldsList-from_first}
use Rattle.std.proofs.lemmas.Iterator.Search.{any_from_yields_List}
use Rattle.inherit.specs.Copies.{heritable, any_heritable}
use Rattle.inherit.specs.Inner.Still.{still, own_bytes}
use Rattle.inherit.proofs.branch.any_heritable.Goals as goal

any-is : (es : List (List ℕ)) → list_any heritable es ≡ any_heritable es
unfolding any_heritable
any-is [] = refl
any-is (e ∷ es) = ap (λ b. heritable e || b) (any-is es)

pub returns : goal.returns
returns c =
    let s = c.args.entries in
    let y = YieldsList-from_first own_bytes still {s = s} (still s) refl in
    any_from_yields_List heritable c.any.new.self c.any.new.f c.any.result c.any.ensures.ran y (λ x b q k. let e : b ≡ heritable (own_bytes x) = search (rules, tests) in (refl, e))
    ∙ any-is (still s)
