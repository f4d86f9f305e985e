-- A pass of the list, or both passes of the parent's. Assumes nothing.
use mathlib.Core.Path.{◌≡◌, refl, ap₂}
use mathlib.Core.Bool.{Bool, true, false}
use Prim.Native.Nat.{ℕ, ◌+◌}
use mir.Val.{bool_byte}
use Rattle.std.proofs.Common.{Option}
use Rattle.std.specs.Bool.{then_some}
use Rattle.std.specs.Option.{is_some}
use Rattle.inherit.specs.Inner.Emit.{once, times_of}
use Rattle.inherit.proofs.passes.copies_of.Goals as goal

-- one copy of an entry that is taken
counted : (b : Bool) (x n : ℕ) (o : Option ℕ) (t : Bool) → o ≡ then_some b x → t ≡ is_some o → n ≡ bool_byte t → n ≡ once b
counted true x n o t p q r = rw (r, q, p) refl
counted false x n o t p q r = rw (r, q, p) refl

pub returns-in-Own : goal.returns-in-Own
unfolding times_of
returns-in-Own c = rw c.in-Own.is (counted _ _ _ _ _ c.pick.ensures c.is_some.ensures c.from.ensures)

pub returns-in-Parent : goal.returns-in-Parent
unfolding times_of
returns-in-Parent c =
    rw c.in-Parent.is
    (ap₂ (λ (x y : ℕ). x + y)
    (counted _ _ _ _ _ c.pick-first.ensures c.is_some-in-Parent.ensures c.from-in-Parent.ensures)
    (counted _ _ _ _ _ c.pick-second.ensures c.is_some-in-Parent-2.ensures c.from-in-Parent-2.ensures))

pub returns-in-Default : goal.returns-in-Default
unfolding times_of
returns-in-Default c = rw c.in-Default.is (counted _ _ _ _ _ c.pick-in-Default.ensures c.is_some-in-Default.ensures c.from-in-Default.ensures)
