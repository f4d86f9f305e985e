-- A list that is lent under a flag.
use mathlib.Core.Path.{◌≡◌, refl}
use mathlib.Core.Bool.{Bool, true, false}
use mathlib.Core.List.{List}
use Prim.Native.Nat.{ℕ}
use Rattle.std.specs.Borrow.{Bor}
use Rattle.std.specs.Bool.{then_some}
use Rattle.list.specs.List.{lent}
use Rattle.tree.specs.Held.{lent_list}

pub lent-then : (b : Bool) (s : Bor (List ℕ)) → lent_list (then_some b s) ≡ lent b s.now
lent-then true s = refl
lent-then false s = refl
