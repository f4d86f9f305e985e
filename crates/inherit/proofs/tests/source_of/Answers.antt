-- No list, the entries of one that reads as done, or its refusal. Assumes nothing.
use native.Mathlib.Omega.{arith}
use mathlib.Core.Path.{refl, sym, ap, subst, ◌∙◌}
use mathlib.Core.List.{List}
use Prim.Native.Nat.{ℕ}
use Rattle.octets.proofs.Places.{rest-is}
use Rattle.list.specs.Entry.{access}
use Rattle.list.specs.List.{cut}
use Rattle.list.specs.Good.{Passes}
use Rattle.list.proofs.Answers.{checked}
use Rattle.inherit.specs.Asked.{entries_if}
use Rattle.inherit.specs.Compute.{on_reading, readable}
use Rattle.inherit.proofs.Sources.{read-passes, read-long, read-entries}
use Rattle.inherit.proofs.tests.source_of.Goals as goal

pub returns-in_default : goal.returns-in_default
unfolding entries_if readable
returns-in_default c = rw c.in_default.is (record { entries = refl; present = refl; over = λ rest. refl })

pub slice_bounds-result-count : goal.slice_bounds-result-count
slice_bounds-result-count c = read-long c.in-Some.list.now c.in-Ok.read (sym (checked _ _ c.check.ensures) ∙ c.in-Ok.is)

pub slice_bounds-result-start : goal.slice_bounds-result-start
slice_bounds-result-start c =
    let l = read-long c.in-Some.list.now c.in-Ok.read (sym (checked _ _ c.check.ensures) ∙ c.in-Ok.is) in
    omega (arith, l)

pub invariant_of-result : goal.invariant_of-result
invariant_of-result c =
    let s = c.in-Some.list.now in
    let r = c.in-Ok.read in
    record {
      passes = subst (Passes access 4 r.count) (sym (rest-is s 8)) (read-passes s r (sym (checked _ _ c.check.ensures) ∙ c.in-Ok.is));
    }

pub returns-in-Ok : goal.returns-in-Ok
unfolding readable on_reading
returns-in-Ok c =
    let s = c.in-Some.list.now in
    let r = c.in-Ok.read in
    let e = sym (checked _ _ c.check.ensures) ∙ c.in-Ok.is in
    rw c.in-Some.is (record { entries = ap (λ (t : List ℕ). cut r.count t) (rest-is s 8) ∙ read-entries s r e; present = refl; over = λ rest. rw e refl })

pub returns-in-Err : goal.returns-in-Err
unfolding readable on_reading
returns-in-Err c =
    let e = sym (checked _ _ c.check.ensures) ∙ c.in-Err.is in
    rw (c.in_list.ensures, c.in-Some.is) (λ rest. rw e refl)
