-- Laws of the object types.
use mathlib.Core.Path.{◌≡◌, refl}
use mathlib.Core.List.{List, [], ◌∷◌}
use Prim.Native.Nat.{ℕ}
use lib.Pointwise.{pointwise}
use Rattle.std.specs.Bool.{nat_eq}
use Rattle.std.specs.List.{list_any}
use Rattle.octets.specs.Bytes.{among}
use Rattle.octets.proofs.Same.{same-pointwise}

-- one of them is a GUID, in the library's words
pub any-among : (g : List ℕ) (ts : List (List ℕ)) → list_any (λ y. pointwise nat_eq y g) ts ≡ among g ts
unfolding among
any-among g [] = refl
any-among g (t ∷ ts) = rw (same-pointwise t g, any-among g ts) refl
