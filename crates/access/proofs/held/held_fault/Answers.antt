-- The loop has counted the SIDs that are gone past. Assumes nothing.
use native.Mathlib.Omega.{arith}
use mathlib.Core.Path.{◌≡◌, sym}
use Prim.Native.Nat.{◌+◌, ◌<◌}
use lib.ListN.{drop, length-drop}
use Rattle.std.proofs.lemmas.Result.{err_from_is_err_and}
use Rattle.refusal.specs.declared.Refusal.TheVariants.{Identity}
use Rattle.list.specs.Identity.{whole_sid}
use Rattle.list.proofs.Found.{found, missed}
use Rattle.list.proofs.Sids.{whole-sid}
use Rattle.octets.proofs.Places.{rest-is}
use Rattle.access.proofs.Holds.{Counted, is-empty, not-empty, counted-more, counted-bad, counted-many, counted-fine}
use Rattle.access.proofs.held.held_fault.Goals as goal
use Rattle.access.proofs.held.held_fault.Goals.{In_ok-len}

-- the one that comes next
next : (c : In_ok-len) → (whole_sid c.loop-rest.rest.now ≡ c.in_ok-len.len) × (0 < c.in_ok-len.len)
next c = found _ Identity c.sid_in.ensures c.ok_or.ensures.value c.in_ok-len.was

more : (c : In_ok-len) → Counted c.args.held.now (drop c.in_ok-len.len c.loop-rest.rest.now) (c.loop-rest.count + 1)
more c =
    let n = next c in
    rw (← n.0) (counted-more _ _ _ c.loop-rest.invariant (omega (arith, n.0, n.1)))

pub returns-in_err-len : goal.returns-in_err-len
returns-in_err-len c =
    let p = err_from_is_err_and c.from_residual.result c.from_residual.ensures.1 in
    let m = missed _ Identity c.sid_in.ensures c.ok_or.ensures.value c.in_err-len.was in
    rw (p.1, p.2, ← m.1) (sym (counted-bad _ _ _ c.loop-rest.invariant (not-empty _ _ c.is_empty.ensures c.loop-rest-test.true) m.0))

pub slice_bounds-rest-count : goal.slice_bounds-rest-count
slice_bounds-rest-count c = let n = next (goal.at.slice_bounds-rest-count c).In_ok-len in omega (arith, n.0, n.1, (whole-sid c.loop-rest.rest.now (omega (arith, n.0, n.1))).most)

pub slice_bounds-rest-start : goal.slice_bounds-rest-start
slice_bounds-rest-start c = let n = next (goal.at.slice_bounds-rest-start c).In_ok-len in omega (arith, n.0, n.1, (whole-sid c.loop-rest.rest.now (omega (arith, n.0, n.1))).most)

pub loop-rest-smaller : goal.loop-rest-smaller
loop-rest-smaller c =
    let n = next (goal.at.loop-rest-smaller c).In_ok-len in
    let m = (whole-sid c.loop-rest.rest.now (omega (arith, n.0, n.1))).most in
    rw (rest-is c.loop-rest.rest.now c.in_ok-len.len) (omega (arith, n.0, n.1, m, length-drop c.in_ok-len.len c.loop-rest.rest.now))

pub loop-rest-preserved : goal.loop-rest-preserved
loop-rest-preserved c = rw (rest-is c.loop-rest.rest.now c.in_ok-len.len) (more (goal.at.loop-rest-preserved c).In_ok-len)

pub returns-then-count-gt-MOST_HELD : goal.returns-then-count-gt-MOST_HELD
returns-then-count-gt-MOST_HELD c =
    sym (counted-many _ _ _ c.loop-rest.invariant (is-empty _ _ c.is_empty.ensures c.loop-rest-test.false) (omega arith))

pub returns : goal.returns
returns c = sym (counted-fine _ _ _ c.loop-rest.invariant (is-empty _ _ c.is_empty.ensures c.loop-rest-test.false) (omega arith))
