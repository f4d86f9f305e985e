-- What stands there is what the list's own check says of the bytes from there on; at and past the end those are none. Assumes nothing.
use native.Mathlib.Omega.{arith}
use mathlib.Core.Path.{◌≡◌, refl, sym, ap, ◌∙◌}
use Prim.Native.Nat.{ℕ}
use lib.ListN.{drop, length-drop}
use Rattle.std.specs.Prelude.{Result, Ok, Err, Some, None}
use Rattle.std.specs.Result.{result_ok}
use Rattle.refusal.specs.declared.Refusal.{Refusal}
use Rattle.octets.proofs.Places.{rest-is}
use Rattle.list.specs.Entry.{access, entry_of}
use Rattle.list.specs.List.{rev_of}
use Rattle.list.specs.declared.entries.Entry.{Entry}
use Rattle.list.proofs.Cases.{sound, fields}
use Rattle.access.specs.Walk.{found_by}
use Rattle.access.proofs.Walks.{step_past}
use Rattle.access.proofs.steps.step_at.Goals as goal
use Rattle.access.proofs.steps.step_at.Goals.{After-ok}

-- a part that reaches to the end is what is left
is-left : (c : After-ok) → c.ok.result ≡ result_ok (entry_of access (rev_of c.args.entries.now) (drop c.args.at c.args.entries.now))
is-left c =
    let s = c.args.entries.now in
    c.ok.ensures.value ∙ ap result_ok (c.entry_of.ensures ∙ ap (entry_of access (rev_of s)) (rest-is s c.args.at))

-- what the check found, and that it found nothing
some-found : (r : Result Entry Refusal) (e : Entry) → result_ok r ≡ Some e → r ≡ Ok e
some-found (Ok x) e h = cc
some-found (Err why) e h = cc

none_found : (r : Result Entry Refusal) (at : ℕ) → result_ok r ≡ None → found_by r at ≡ None
unfolding found_by
none_found (Ok x) at h = cc
none_found (Err why) at h = refl

pub returns-then-entries-at : goal.returns-then-entries-at
returns-then-entries-at c = sym (step_past c.args.entries.now c.args.at c.if-entries-at.true)

pub returns-in_err-entry : goal.returns-in_err-entry
returns-in_err-entry c =
    c.from_residual.ensures ∙ sym (none_found _ c.args.at (sym (is-left (goal.at.returns-in_err-entry c).After-ok) ∙ c.in_err-entry.was))

pub overflow_add-result : goal.overflow_add-result
overflow_add-result c =
    let s = c.args.entries.now in
    let t = drop c.args.at s in
    let g = some-found _ _ (sym (is-left (goal.at.overflow_add-result c).After-ok) ∙ c.in_ok-entry.was) in
    let z = ap (λ (e : Entry). e.size) (fields access (rev_of s) t _ g) in
    omega (arith, z, (sound access (rev_of s) t _ g).within, length-drop c.args.at s)

pub returns : goal.returns
unfolding found_by
returns c =
    sym (ap (λ (r : Result Entry Refusal). found_by r c.args.at) (some-found _ _ (sym (is-left (goal.at.returns c).After-ok) ∙ c.in_ok-entry.was)))
