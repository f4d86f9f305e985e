-- More than an identity holds is none. Assumes nothing.
use borrow.Author.Rules.{rules}
use native.Mathlib.Omega.{arith}
use mathlib.Core.Path.{◌≡◌, sym, ap, ◌∙◌}
use mathlib.Core.Logic.{inl, inr}
use Prim.Native.Nat.{◌<◌}
use lib.ListN.{length}
use lib.Seq.{take_all}
use Rattle.list.proofs.Sids.{not-twelve, in-neither}
use Rattle.list.proofs.identities.Sid.placeholder.Goals as goal

pub returns-in_err-get : goal.returns-in_err-get
returns-in_err-get c =
    let i = c.args.self in
    let e : length i.bytes ≡ 68 = search rules in
    let m : 68 < i.len = elim c.in_err-get.ensures.lookup.0 [ inl h ↦ absurd (omega arith) | inr h ↦ omega arith ] in
    let a = take_all i.len i.bytes (omega arith) in
    c.from_residual.ensures ∙ sym (in-neither _ (not-twelve _ (λ x. omega (arith, ap length a))))
