-- All entries, or none. Assumes nothing.
use mathlib.Core.Path.{◌≡◌, refl}
use mathlib.Core.Bool.{Bool, true, false, cond}
use mathlib.Core.List.{List, []}
use Prim.Native.Nat.{ℕ}
use Rattle.list.specs.List.{cut}
use Rattle.inherit.proofs.part_of.Goals as goal
use Rattle.inherit.proofs.part_of.Goals.{in-Some, in_default, in_default-via-in-Some+else-gives, in_default-via-in_default}

nothing : (b : Bool) → ◌≡◌ {A = List (List ℕ)} [] (cond b [] [])
nothing true = refl
nothing false = refl

pub returns : goal.returns
unfolding cut
returns c =
    elim c.match-list.branch [
      | in-Some w ↦ simp (w.if-gives.true, w.in-Some.is, w.result-is)
      | in_default w ↦ elim w.in_default.branch [
        | in_default-via-in-Some+else-gives v ↦ simp (v.if-gives.false, w.result-is)
        | in_default-via-in_default v ↦ simp (v.in_default.is, w.result-is) (nothing c.args.gives)
      ]
    ]
