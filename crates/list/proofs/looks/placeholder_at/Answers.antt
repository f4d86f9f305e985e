-- Too few bytes for a placeholder, or the twelve that tell. Assumes nothing.
use native.Mathlib.Omega.{arith}
use mathlib.Core.Path.{◌≡◌, sym, ap, ◌∙◌}
use mathlib.Core.List.{List}
use mathlib.Core.Logic.{inl, inr}
use Prim.Native.Nat.{ℕ, ◌<◌}
use lib.ListN.{length, take, drop, length-drop}
use Rattle.list.specs.Identity.{length_of_sid, placeholder_of, placeholder_in}
use Rattle.octets.proofs.Places.{rest-is}
use Rattle.list.proofs.Sids.{short-placeholder, placeholder-twelve, in-neither}
use Rattle.list.proofs.looks.placeholder_at.Goals as goal

pub returns-in_err-get : goal.returns-in_err-get
returns-in_err-get c =
    let a = c.args in
    let d = drop a.at a.s.now in
    let m : length d < 12 = elim c.in_err-get.ensures.lookup.0 [ inl h ↦ omega (arith, length-drop a.at a.s.now) | inr h ↦ absurd (omega arith) ] in
    c.from_residual.ensures ∙ sym (in-neither _ (short-placeholder (length_of_sid d) d m))

pub returns-in_err-get-2 : goal.returns-in_err-get-2
returns-in_err-get-2 c =
    let a = c.args in
    let d = drop a.at a.s.now in
    let g : length c.in_ok-get.field-0.now ≡ length d = ap length (c.in_ok-get.ensures.lookup.0.2 ∙ rest-is a.s.now a.at) in
    let m : length d < 12 = elim c.in_err-get-2.ensures.lookup.0 [ inl h ↦ absurd (omega arith) | inr h ↦ omega arith ] in
    c.from_residual-in_err-get-2.ensures ∙ sym (in-neither _ (short-placeholder (length_of_sid d) d m))

pub returns : goal.returns
returns c =
    let a = c.args in
    let d = drop a.at a.s.now in
    let g : c.in_ok-get.field-0.now ≡ d = c.in_ok-get.ensures.lookup.0.2 ∙ rest-is a.s.now a.at in
    let h : c.in_ok-get-2.field-0.now ≡ take 12 d = c.in_ok-get-2.ensures.lookup.0.2 ∙ ap (take 12) g in
    c.placeholder_of.ensures ∙ ap (λ (s : List ℕ). placeholder_in (placeholder_of s)) h ∙ ap placeholder_in (sym (placeholder-twelve d))
