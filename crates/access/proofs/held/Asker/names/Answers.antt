-- The library's `any`, in the definition's words. Assumes nothing.
use mathlib.Core.Path.{◌≡◌, refl, ap, ◌∙◌}
use mathlib.Core.Bool.{Bool, ◌||◌}
use mathlib.Core.List.{List, [], ◌∷◌}
use Prim.Native.Nat.{ℕ}
use Rattle.std.proofs.Common.{rules, tests}
use Rattle.std.specs.List.{list_any}
use Rattle.std.proofs.lemmas.Iterator.Consumers.{YieldsList-from_first}
use Rattle.std.proofs.lemmas.Iterator.Search.{any_from_yields_List}
use Rattle.octets.specs.Bytes.{same_bytes, among}
use Rattle.access.specs.Inner.Still.{still, own_bytes}
use Rattle.access.proofs.held.Asker.names.Goals as goal

any-is : (s : List ℕ) (ss : List (List ℕ)) → list_any (λ x. same_bytes x s) ss ≡ among s ss
unfolding among
any-is s [] = refl
any-is s (x ∷ ss) = ap (λ (b : Bool). same_bytes x s || b) (any-is s ss)

pub returns : goal.returns
returns c =
    let h = c.args.self.now.held in
    let s = c.args.sid.now in
    let y = YieldsList-from_first own_bytes still {s = h} (still h) refl in
    any_from_yields_List (λ x. same_bytes x s) c.any.new.self _ _ c.any.ensures.ran y (λ x b q k.
    let e : b ≡ same_bytes x.bytes.now s = search (rules, tests) in (search rules, e))
    ∙ any-is s (still h)
