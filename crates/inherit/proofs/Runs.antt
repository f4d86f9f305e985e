-- Once everything was tested, what the plan gives is the result.
use mathlib.Core.Path.{◌≡◌, sym}
use mathlib.Core.Bool.{true}
use mathlib.Core.List.{List}
use Prim.Native.Nat.{ℕ, ◌≤◌}
use native.Mathlib.Omega.{arith}
use lib.ListN.{length}
use borrow.Author.Tests.{eqb-true}
use Rattle.list.specs.Entry.{access}
use Rattle.list.specs.Identity.{is_sid, placeholder_of, identity_of}
use Rattle.std.proofs.Common.{Option, Some, None}
use Rattle.std.specs.Option.{is_some}
use Rattle.list.specs.List.{MaybeList}
use Rattle.list.specs.Good.{Whole, Every}
use Rattle.list.proofs.Parts.{wholes-cut}
use Rattle.list.proofs.Sids.{identity-zero, one-sid, sid-most}
use Rattle.inherit.specs.declared.Settings.{Settings}
use Rattle.inherit.specs.declared.Mapping.{Mapping}
use Rattle.inherit.specs.declared.entries.Entries.{Entries}
use Rattle.inherit.specs.Asked.{given_in, entries_if}
use Rattle.inherit.specs.Branch.{result_of}
use Rattle.inherit.specs.Copies.{any_heritable}
use Rattle.inherit.specs.Compute.{ordinary, asked_by}
use Rattle.inherit.specs.Inner.Source.{given}
use Rattle.inherit.specs.Inner.Still.{held}
use Rattle.inherit.specs.Inner.Plan.{plan_of, planned, result_by}
use Rattle.inherit.proofs.Planned.{plan-is, plan-made}

-- an owner or a group that was found good
pub one-sid-of : (b : List ℕ) → ordinary b ≡ true → (is_sid b ≡ true) × (placeholder_of b ≡ 0)
one-sid-of b h = identity-zero b (eqb-true (identity_of b) 0 h)

-- is no longer than an identity
pub short-sid-of : (b : List ℕ) → ordinary b ≡ true → length b ≤ 68
short-sid-of b h = omega (arith, (one-sid b (one-sid-of b h).0).exact, sid-most b)

-- what the code still has to go over are good entries
pub held-whole : (s : Option Entries) → Every (Whole access 4) (held s)
held-whole None = tt
held-whole (Some s) = wholes-cut access 4 s.left s.bytes.now s.passes

-- the entries that the code goes over give the result
pub run_is : (rule : ℕ) (s : Settings) (m : Mapping) (P C D : MaybeList) (types owner group : List ℕ) (p c d : Option Entries)
    → held p ≡ entries_if P → held c ≡ entries_if C → held d ≡ entries_if D → is_some c ≡ given C → is_some d ≡ given D
    → let a = asked_by rule s m P C D types owner group in
    let q = plan_of rule s (any_heritable (held p)) (is_some c) (is_some d) in
    result_by q (planned (given_in a) q (held p) (held c) (held d)) ≡ result_of access a
run_is rule s m P C D types owner group p c d ep ec ed gc gd =
    let wp = rw ep at (held-whole p) in
    let wc = rw ec at (held-whole c) in
    rw (ep, ec, ed, gc, gd, plan-made rule s m P C D types owner group) (sym (plan-is (asked_by rule s m P C D types owner group) 4 4 wp wc))
