-- Refused, or the bytes stand before the zeros. Assumes nothing.
use native.Mathlib.Omega.{arith}
use mathlib.Core.Path.{sym, ap, ◌∙◌}
use mathlib.Core.List.{List, ◌++◌}
use Prim.Native.Nat.{ℕ}
use lib.ListN.{length, drop, replicate}
use lib.Seq.{length-take-le}
use Rattle.std.specs.Prelude.{Option, Some}
use Rattle.list.specs.Identity.{made_of}
use Rattle.list.specs.declared.identities.Sid.{Sid}
use Rattle.list.proofs.Sids.{one-sid, sid-most}
use Rattle.list.proofs.identities.Sid.from_bytes.Goals as goal

pub returns-then-not-is_sid : goal.returns-then-not-is_sid
unfolding made_of
returns-then-not-is_sid c =
    simp (sym c.is_sid.ensures ∙ c.if-not-is_sid.true)

pub slice_bounds-bytes-end : goal.slice_bounds-bytes-end
slice_bounds-bytes-end c =
    let o = one-sid c.args.b.now (sym c.is_sid.ensures ∙ c.if-not-is_sid.false) in
    omega (arith, o.exact, sid-most c.args.b.now)

pub slice_bounds-copy_from_slice-end : goal.slice_bounds-copy_from_slice-end
slice_bounds-copy_from_slice-end c =
    let o = one-sid c.args.b.now (sym c.is_sid.ensures ∙ c.if-not-is_sid.false) in
    sym (length-take-le (length c.args.b.now) (replicate 68 0) (omega (arith, o.exact, sid-most c.args.b.now)))

pub copy_from_slice-requires : goal.copy_from_slice-requires
copy_from_slice-requires c =
    let o = one-sid c.args.b.now (sym c.is_sid.ensures ∙ c.if-not-is_sid.false) in
    length-take-le (length c.args.b.now) (replicate 68 0) (omega (arith, o.exact, sid-most c.args.b.now))

pub returns : goal.returns
unfolding made_of
returns c =
    let b = c.args.b.now in
    simp (sym c.is_sid.ensures ∙ c.if-not-is_sid.false)
    (ap {B = Option Sid} (λ (l : List ℕ). Some (record { bytes = l ++ drop (length b) (replicate 68 0); len = length b })) c.copy_from_slice.ensures.after)
