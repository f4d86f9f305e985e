-- Changes, undo of a bounded number of them, and lists worked out afresh from own data: over any own data D, changes C, lists L and steps U.
-- What a sequence of calls must leave is said twice, by a machine that keeps steps and by the changes that remain; proofs/Histories shows that they agree.
use Prim.Native.Nat.{ℕ, zero, suc, min}
use mathlib.Core.Path.{◌≡◌}
use mathlib.Core.Option.{Option, none, some}
use mathlib.Core.Bool.{Bool, true, false}
use mathlib.Core.List.{List, [], ◌∷◌}
use lib.ListN.{take}
use Rattle.tree.specs.General.{bind, is_some, rest}
use Rattle.tree.specs.Inner.Else.{or_else}

-- a change, or an undo
pub data Call (C : Type 0) : Type 0 where
  edit : C → Call C
  undo : Call C

-- what is changed: where it begins, what a change makes of own data (none: refused), the lists that own data gives (none: refused),
-- the step that a change keeps, and what undo makes of own data by it
pub record Rules (C D L U : Type 0) : Type 0 where
  pub empty : D
  pub bare : L
  pub change : C → D → Option D
  pub work : D → Option L
  pub keep : C → D → U
  pub back : U → D → D

-- an empty tree can be worked out, and a step undoes its change
pub record Lawful {C D L U : Type 0} (R : Rules C D L U) : Type 0 where
  pub starts : R.work R.empty ≡ some R.bare
  pub undoes : (c : C) (d e : D) → R.change c d ≡ some e → R.back (R.keep c d) e ≡ d

-- own data, the lists worked out from it, and the kept steps, the latest first
pub record State (D L U : Type 0) : Type 0 where
  pub own : D
  pub lists : L
  pub kept : List U

-- the accepted changes not since undone, the latest first, and how many of them can be undone
pub record Past (C : Type 0) : Type 0 where
  pub done : List C
  pub left : ℕ

module _ {C D L U : Type 0} (R : Rules C D L U) (S : ℕ) where
  -- ---- the machine: what a call makes of a state; none is a refusal

  unfoldable pub settled : D → List U → Option L → Option (State D L U)
  settled d us none = none
  settled d us (some l) = some (record { own = d; lists = l; kept = us })

  -- past S the oldest step is forgotten
  unfoldable pub edited : State D L U → C → Option D → Option (State D L U)
  edited s c none = none
  edited s c (some d) = settled d (take S (R.keep c s.own ∷ s.kept)) (R.work d)

  unfoldable pub undone : State D L U → List U → Option (State D L U)
  undone s [] = none
  undone s (u ∷ us) = settled (R.back u s.own) us (R.work (R.back u s.own))

  unfoldable pub after : State D L U → Call C → Option (State D L U)
  after s (edit c) = edited s c (R.change c s.own)
  after s undo = undone s s.kept

  unfoldable pub start : State D L U
  start = record { own = R.empty; lists = R.bare; kept = [] }

  -- the state after calls, the latest first; a refused call leaves it as it was
  unfoldable pub run : List (Call C) → State D L U
  run [] = start
  run (q ∷ qs) = or_else (run qs) (after (run qs) q)

  -- ---- what remains: no state and no steps, only changes

  -- own data after replaying changes from nothing, and the lists worked out afresh from it
  unfoldable pub replay : List C → Option D
  replay [] = some R.empty
  replay (c ∷ cs) = bind (replay cs) (R.change c)

  unfoldable pub afresh : List C → Option L
  afresh cs = bind (replay cs) R.work

  -- a change whose replay can be worked out is noted; an undo takes the latest off while one is left
  unfoldable pub noted : Past C → C → Option L → Past C
  noted p c none = p
  noted p c (some l) = record { done = c ∷ p.done; left = min S (suc p.left) }

  unfoldable pub unnoted : Past C → ℕ → Past C
  unnoted p zero = p
  unnoted p (suc k) = record { done = rest p.done; left = k }

  unfoldable pub next : Past C → Call C → Past C
  next p (edit c) = noted p c (afresh (c ∷ p.done))
  next p undo = unnoted p p.left

  unfoldable pub remains : List (Call C) → Past C
  remains [] = record { done = []; left = 0 }
  remains (q ∷ qs) = next (remains qs) q

  unfoldable pub positive : ℕ → Bool
  positive zero = false
  positive (suc k) = true

  -- a change is accepted where its replay can be worked out, an undo where a kept step is left
  unfoldable pub accepts : Past C → Call C → Bool
  accepts p (edit c) = is_some (afresh (c ∷ p.done))
  accepts p undo = positive p.left
