-- What was written stands on the front, and with what is still to come it is all (`Writing`). Assumes nothing.
use native.Mathlib.Omega.{arith}
use mathlib.Core.Path.{subst}
use Prim.Native.Nat.{◌-◌}
use lib.ListN.{length, drop, length-drop}
use lib.Seq.{length-take-le}
use Rattle.inherit.specs.Inner.Still.{still}
use Rattle.inherit.specs.Inner.Emit.{given_by}
use Rattle.inherit.proofs.Loops.{Writing, long, one-fits, writing-more, written_all}
use Rattle.inherit.proofs.passes.write_pass.Goals as goal

pub write_one-to-requires : goal.write_one-to-requires
write_one-to-requires c =
    let a = c.args in
    let g = given_by a.terms.now in
    let l = c.loop-entry in
    let w = subst (Writing g a.pass (still a.entries) a.out.now l.out l.to) c.in-Some.ensures.steps l.invariant in
    let f = one-fits g a.pass (still a.entries) a.out.now l.out l.to c.requires _ _ w in
    let n = long g a.pass (still a.entries) a.out.now l.out l.to c.requires _ w in
    let t = length-take-le (length l.out - l.to) (drop l.to l.out) (omega (arith, length-drop l.to l.out)) in
    omega (arith, f, n, t, length-drop l.to l.out)

pub loop-entry-preserved : goal.loop-entry-preserved
loop-entry-preserved c =
    let a = c.args in
    let g = given_by a.terms.now in
    let l = c.loop-entry in
    let w = subst (Writing g a.pass (still a.entries) a.out.now l.out l.to) c.in-Some.ensures.steps l.invariant in
    let o = c.write_one-to in
    writing-more g a.pass (still a.entries) a.out.now l.out l.to c.requires _ _ w o.new.out o.result o.ensures.1 o.ensures.0

pub returns : goal.returns
returns c =
    let a = c.args in
    let g = given_by a.terms.now in
    let l = c.loop-entry in
    let w = subst (Writing g a.pass (still a.entries) a.out.now l.out l.to) c.in-None.ensures.steps.0 l.invariant in
    written_all g a.pass (still a.entries) a.out.now l.out l.to c.requires w
