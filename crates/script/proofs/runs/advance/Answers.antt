-- The records are those of the buffer's first bytes; what is left of these is moved to the front. Assumes nothing.
use native.Mathlib.Omega.{arith}
use mathlib.Core.Path.{◌≡◌, ap, subst, ◌∙◌}
use mathlib.Core.List.{List}
use Prim.Native.Nat.{ℕ, ◌≤◌}
use lib.ListN.{length, take, length-take}
use Rattle.script.specs.Fold.{run_of}
use Rattle.script.proofs.Folds.{run-used}
use Rattle.script.proofs.Pulls.{first_part, left-first}
use Rattle.script.proofs.runs.advance.Goals as goal

pub copy_within-requires-clause-start_le_end : goal.copy_within-requires-clause-start_le_end
copy_within-requires-clause-start_le_end c = omega (arith, run-used c.part_of-t.result.now c.args.room.now)

pub copy_within-requires-clause-in_bounds : goal.copy_within-requires-clause-in_bounds
copy_within-requires-clause-in_bounds c =
    let a = c.args in
    let e : c.part_of-t.result.now ≡ take a.held a.buffer.now = c.part_of-t.ensures ∙ first_part a.held a.buffer.now in
    omega (arith, ap length e, length-take a.held a.buffer.now)

pub copy_within-requires-clause-dest_in_bounds : goal.copy_within-requires-clause-dest_in_bounds
copy_within-requires-clause-dest_in_bounds c =
    let a = c.args in
    let e : c.part_of-t.result.now ≡ take a.held a.buffer.now = c.part_of-t.ensures ∙ first_part a.held a.buffer.now in
    omega (arith, ap length e, length-take a.held a.buffer.now)

pub returns-clause-used_value : goal.returns-clause-used_value
returns-clause-used_value c =
    let a = c.args in
    let f = c.feed-run in
    subst
    (λ (x : List ℕ).
    (f.result.used ≡ (run_of x a.room.now).used)
    × ((f.result.bad ≡ (run_of x a.room.now).bad)
    × (f.new.room ≡ (run_of x a.room.now).room)))
    (c.part_of-t.ensures ∙ first_part a.held a.buffer.now) f.ensures

pub returns-clause-buffer_after : goal.returns-clause-buffer_after
returns-clause-buffer_after c =
    let a = c.args in
    let t = c.part_of-t.result.now in
    let h : c.feed-run.result.used ≤ length t = omega (arith, run-used t a.room.now) in
    c.copy_within.ensures.after
    ∙ left-first a.buffer.now t a.held c.feed-run.result.used (c.part_of-t.ensures ∙ first_part a.held a.buffer.now) h
