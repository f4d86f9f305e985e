-- The pass on the tail, and the whole once the tail is back. Assumes nothing.
use mathlib.Core.Path.{ap}
use mathlib.Core.List.{flatten}
use Prim.Native.Nat.{ℕ, ◌+◌}
use Rattle.inherit.specs.Inner.Still.{still}
use Rattle.inherit.specs.Inner.Emit.{given_by, emit_all}
use Rattle.inherit.proofs.Gather.{onward-tail}
use Rattle.inherit.proofs.whole.write_next.Goals as goal

pub returns : goal.returns
returns c =
    let a = c.args in
    let w = c.write_pass.ensures in
    let es = emit_all (given_by a.terms.now) a.pass (still a.entries) in
    (ap (λ (n : ℕ). a.at + n) w.0, onward-tail a.at (flatten es) a.out.now c.write_pass.new.out w.1)
