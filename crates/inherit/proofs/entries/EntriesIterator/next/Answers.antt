-- None is left, or the next one, cut off the front of the bytes. Assumes nothing.
use native.Mathlib.Omega.{arith}
use mathlib.Core.Path.{ap, ◌∙◌}
use lib.ListN.{length}
use Rattle.inherit.proofs.Turns.{cut_end, whole-here, small-here, passes-here, cut-here}
use Rattle.inherit.proofs.entries.EntriesIterator.next.Goals as goal

pub returns-then-self-eq0-clause-steps : goal.returns-then-self-eq0-clause-steps
returns-then-self-eq0-clause-steps c = let e = cut_end _ c.args.self.now.bytes.now c.if-self-eq0.true in (e, e)

pub invariant_of-self : goal.invariant_of-self
invariant_of-self c =
    let s = c.args.self.now in
    let w = c.split_at.ensures in
    record { passes = passes-here s.left s.bytes.now (omega arith) s.passes _ (c.from.ensures ∙ c.half_in-size.ensures) _ _ w.front w.back }

pub invariant_of-result : goal.invariant_of-result
invariant_of-result c =
    let s = c.args.self.now in
    let w = c.split_at.ensures in
    let e = c.from.ensures ∙ c.half_in-size.ensures in
    record {
      whole = whole-here s.left s.bytes.now (omega arith) s.passes _ e _ _ w.front w.back;
      small = small-here s.left s.bytes.now (omega arith) s.passes _ e _ _ w.front w.back (omega arith);
    }

pub returns-clause-steps : goal.returns-clause-steps
returns-clause-steps c =
    let s = c.args.self.now in
    let w = c.split_at.ensures in
    cut-here s.left s.bytes.now (omega arith) s.passes _ (c.from.ensures ∙ c.half_in-size.ensures) _ _ w.front w.back

pub returns-clause-goes : goal.returns-clause-goes
returns-clause-goes c =
    let s = c.args.self.now in
    let w = c.split_at.ensures in
    let e = ap length (cut-here s.left s.bytes.now (omega arith) s.passes _ (c.from.ensures ∙ c.half_in-size.ensures) _ _ w.front w.back) in
    record { on = λ f. (tt, tt, omega (arith, e)); keeps = tt; rests = λ f. tt }
