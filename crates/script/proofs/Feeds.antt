-- Laws of the loop that goes record by record: what it has done is a run's beginning.
use mathlib.Core.Path.{◌≡◌, refl, sym, ap, ◌∙◌}
use mathlib.Core.List.{List}
use mathlib.Core.Bool.{Bool, true, false}
use Prim.Native.Nat.{ℕ, ◌+◌, ◌-◌, ◌≤◌}
use native.Mathlib.Nat.{add-zero}
use native.Mathlib.Omega.{arith}
use lib.ListN.{length, take, drop, length-drop, drop_of_length-le}
use lib.Seq.{drop-drop, take_all}
use Rattle.std.specs.Prelude.{Ok, Err}
use Rattle.script.specs.Record.{step_of}
use Rattle.script.specs.declared.records.Flaw.{Flaw}
use Rattle.script.specs.declared.records.Flaw.TheVariants.{Cut, Bad}
use Rattle.script.specs.declared.records.Record.{Record}
use Rattle.script.specs.Fold.{Run, past, carried, run_of}
use Rattle.script.proofs.Steps.{step-record}
use Rattle.script.proofs.Folds.{past-none, past-past, run_none, run-stops, run-bad, run-record}

-- the first `at` bytes of s were whole records, and left the room as r
abbrev pub Fed : List ℕ → List ℕ → ℕ → List ℕ → Type 0
Fed s r₀ at r = run_of s r₀ ≡ past at (run_of (drop at s) r)

-- a run that stops at once, `at` bytes on
past-stopped : (at : ℕ) (b : Bool) (r : List ℕ) → past at (record { used = 0; bad = b; room = r }) ≡ record { used = at; bad = b; room = r }
unfolding past
past-stopped at b r = rw add-zero

module _ (s r₀ : List ℕ) where
  pub fed-none : Fed s r₀ 0 r₀
  fed-none = sym (past-none (run_of s r₀))

  -- t is the rest of s from `at` on, as the code has it
  module _ (at : ℕ) (r t : List ℕ) (f : Fed s r₀ at r) (e : t ≡ take (length s - at) (drop at s)) where
    rest : t ≡ drop at s
    rest = e ∙ take_all (length s - at) (drop at s) (rw length-drop (omega arith))

    -- a whole record
    module _ (a : Record) (g : step_of t ≡ Ok a) where
      pub fed-within : at ≤ length s → at + a.length ≤ length s
      fed-within h = omega (arith, (step-record t a g).1, ap length rest, length-drop at s)

      pub fed-more : (q : List ℕ) → q ≡ carried a.length t r → Fed s r₀ (at + a.length) q
      fed-more q m =
          let n = a.length in
          f
          ∙ ap (λ (b : List ℕ). past at (run_of b r)) (sym rest)
          ∙ ap (past at) (rw m (run-record t r a g))
          ∙ past-past at n (run_of (drop n t) q)
          ∙ ap (λ (b : List ℕ). past (at + n) (run_of b q)) (ap (drop n) rest ∙ drop-drop n at s)

    fed-cut : step_of t ≡ Err Cut → run_of s r₀ ≡ record { used = at; bad = false; room = r }
    fed-cut g =
        f ∙ ap (λ (b : List ℕ). past at (run_of b r)) (sym rest) ∙ ap (past at) (run-stops t r g) ∙ past-stopped at false r

    fed-bad : step_of t ≡ Err Bad → run_of s r₀ ≡ record { used = at; bad = true; room = r }
    fed-bad g =
        f ∙ ap (λ (b : List ℕ). past at (run_of b r)) (sym rest) ∙ ap (past at) (run-bad t r g) ∙ past-stopped at true r

    -- b says whether it is a bad one
    pub fed-stops : (w : Flaw) → step_of t ≡ Err w → (b : Bool) → (w ≡ Cut → b ≡ false) → (w ≡ Bad → b ≡ true) → run_of s r₀ ≡ record { used = at; bad = b; room = r }
    fed-stops Cut g b p q = rw (p refl) (fed-cut g)
    fed-stops Bad g b p q = rw (q refl) (fed-bad g)

  pub fed-all : (at : ℕ) (r : List ℕ) → Fed s r₀ at r → length s ≤ at → run_of s r₀ ≡ record { used = at; bad = false; room = r }
  fed-all at r f h =
      f
      ∙ ap (λ (a : List ℕ). past at (run_of a r)) (drop_of_length-le s h)
      ∙ ap (past at) (run_none r)
      ∙ past-stopped at false r

-- a run by its parts
pub parts-of : {f : Run} {n : ℕ} {b : Bool} {r : List ℕ} → f ≡ record { used = n; bad = b; room = r } → (n ≡ f.used) × ((b ≡ f.bad) × (r ≡ f.room))
parts-of e = (ap (λ (g : Run). g.used) (sym e), (ap (λ (g : Run). g.bad) (sym e), ap (λ (g : Run). g.room) (sym e)))
