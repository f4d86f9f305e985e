-- What the steps still to come say is what all of them say. Assumes nothing.
use native.Mathlib.Omega.{arith}
use mathlib.Core.Path.{◌≡◌, sym, ap, ◌∙◌}
use mathlib.Core.List.{List}
use Prim.Native.Nat.{ℕ}
use Rattle.tree.specs.Room.{own_data, step}
use Rattle.tree.specs.Formed.{step_ok, standing}
use Rattle.tree.proofs.Tested.{refused, passed, steps-no, steps-more, steps_all, standing-most}
use Rattle.tree.proofs.formed.steps_ok.Tie as tie
use Rattle.tree.proofs.formed.steps_ok.Lts as lts
use Rattle.tree.proofs.formed.steps_ok.Reads as lts-reads
use Rattle.tree.proofs.formed.steps_ok.Goals as goal

abbrev At-loop : Type 0
At-loop = lts.At-loop tie.the-claims lts-reads.Pre lts-reads.Post goal.the-invariant-loop-j goal.the-decreases-loop-j

abbrev After-step_ok : Type 0
After-step_ok = lts.After-step_ok tie.the-claims lts-reads.Pre lts-reads.Post goal.the-invariant-loop-j goal.the-decreases-loop-j

abbrev After-standing : Type 0
After-standing = lts.After-standing tie.the-claims lts-reads.Pre lts-reads.Post goal.the-invariant-loop-j goal.the-decreases-loop-j

-- the step that a turn looks at
abbrev looked_at : At-loop → List ℕ
looked_at l =
    let a = l.args in
    step a.n l.loop-j.j a.r.now

step-here : (c : After-step_ok)
    → c.step_ok.result ≡ step_ok (λ i. own_data i c.args.r.now) c.loop-j.stand (looked_at c.before.before.before)
step-here c =
    c.step_ok.ensures ∙ ap (step_ok (λ i. own_data i c.args.r.now) c.loop-j.stand) c.step-u.ensures

stand-here : (c : After-standing)
    → c.standing-stand.result ≡ standing c.loop-j.stand (looked_at c.before.before.before.before.before)
stand-here c =
    c.standing-stand.ensures ∙ ap (λ (u : List ℕ). standing c.loop-j.stand u) c.step-u.ensures

pub returns-then-not-step_ok : goal.returns-then-not-step_ok
returns-then-not-step_ok c =
    let l = c.loop-j in
    sym (l.invariant.1.1 ∙ steps-no _ _ _ _ _ c.loop-j-test.true (refused (step-here c.before.before) c.if-not-step_ok.true))

pub loop-j-preserved : goal.loop-j-preserved
loop-j-preserved c =
    let most = rw (← stand-here c.before) at (standing-most c.loop-j.stand (looked_at c.before.before.before.before.before.before)) in
    let ok = passed (step-here c.before.before.before) c.if-not-step_ok.false in
    (omega arith, (omega arith, c.loop-j.invariant.1.1 ∙ steps-more _ _ _ _ _ c.loop-j-test.true ok (stand-here c.before)))

pub returns : goal.returns
returns c =
    let l = c.loop-j in
    sym (l.invariant.1.1 ∙ steps_all _ _ _ _ _ (omega arith))
