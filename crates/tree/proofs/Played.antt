-- The calls that change a tree, one after another, as their promises have them.
use mathlib.Core.Bool.{Bool, true, false}
use mathlib.Core.List.{List, [], ◌∷◌}
use Prim.Native.Nat.{ℕ}
use Rattle.std.specs.Prelude.{Ok, Err}
use Rattle.tree.specs.Calls.{Answer, Outcome, object_for, add_to, alter_to, undo_to, ChangeGiven, add, alter}
use Rattle.tree.proofs.History.{Call, edit, undo}

-- one call
unfoldable pub call_to : Call ChangeGiven → List ℕ → Outcome
call_to (edit (add new)) r = add_to (object_for new) r
call_to (edit (alter i e)) r = alter_to i e r
call_to undo r = undo_to r

-- answer 0
abbrev pub accepted : Answer → Bool
accepted (Ok d) = true
accepted (Err f) = false

-- the room after calls, the latest first
unfoldable pub played : List (Call ChangeGiven) → List ℕ → List ℕ
played [] r = r
played (q ∷ qs) r = (call_to q (played qs r)).bytes
