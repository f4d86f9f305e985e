-- The library's `all`, in the definition's words. Assumes nothing.
use native.Mathlib.Omega.{arith}
use mathlib.Core.Path.{◌≡◌, refl, ap, ◌∙◌}
use mathlib.Core.Bool.{Bool, true, false, ◌&&◌}
use mathlib.Core.List.{List, [], ◌∷◌, ◌++◌}
use Prim.Native.Nat.{ℕ, zero, suc, ◌+◌}
use Rattle.std.proofs.Common.{rules, tests}
use Rattle.std.specs.List.{list_all, range_with_len}
use Rattle.std.proofs.lemmas.Iterator.{YieldsList-from_range}
use Rattle.std.proofs.lemmas.Iterator.Search.{all_from_yields_List}
use Rattle.std.proofs.lemmas.List.Folds.{list_all-append}
use Rattle.tree.specs.General.{every}
use Rattle.tree.specs.Formed.{object_ok}
use Rattle.tree.proofs.formed.objects_ok.Goals as goal

last : (a n : ℕ) → range_with_len a (suc n) ≡ range_with_len a n ++ ((a + n) ∷ [])
last a zero = ap (λ (k : ℕ). k ∷ []) (omega arith)
last a (suc n) = ap (λ (s : List ℕ). a ∷ s) (last (a + 1) n ∙ ap (λ (k : ℕ). range_with_len (a + 1) n ++ (k ∷ [])) (omega arith))

both : (a b : Bool) → (a && (b && true)) ≡ (a && b)
both true true = refl
both true false = refl
both false b = refl

every-range : (p : ℕ → Bool) (n : ℕ) → list_all p (range_with_len 0 n) ≡ every p n
unfolding every
every-range p zero = refl
every-range p (suc n) =
    ap (list_all p) (last 0 n ∙ ap (λ (k : ℕ). range_with_len 0 n ++ (k ∷ [])) (omega arith))
    ∙ list_all-append p (range_with_len 0 n) (n ∷ [])
    ∙ both (list_all p (range_with_len 0 n)) (p n)
    ∙ ap (λ (b : Bool). b && p n) (every-range p n)

pub returns : goal.returns
returns c =
    let n = c.args.n in
    let y = YieldsList-from_range 0 n n refl (omega arith) in
    all_from_yields_List (object_ok c.args.r.now) _ _ c.all.result c.all.ensures.ran y (λ i b q k. search (rules, tests))
    ∙ every-range (object_ok c.args.r.now) n
