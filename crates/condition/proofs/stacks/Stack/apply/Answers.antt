-- A cell is laid on what is left after some are taken off. Assumes nothing.
use native.Mathlib.Omega.{arith}
use mathlib.Core.Path.{◌∙◌}
use Prim.Native.Nat.{◌+◌, ◌-◌, ◌<◌}
use lib.Seq.{drop-set-lt}
use Rattle.condition.proofs.Loops.{live-long, live_laid}
use Rattle.condition.proofs.stacks.Stack.apply.Goals as goal

pub invariant_of-self : goal.invariant_of-self
invariant_of-self c =
    let s = c.args.self.now in
    let e = c.args.effect in
    let l = live-long s.cells s.top s.room (omega arith) in
    let r : s.top + e.pops - 1 < 16 = omega (arith, l, s.room, c.requires.there, c.requires.fits) in
    record { room = omega (arith, r); behind = drop-set-lt 16 s.cells (s.top + e.pops - 1) e.cell r ∙ s.behind }

pub returns : goal.returns
returns c =
    let s = c.args.self.now in
    let e = c.args.effect in
    let l = live-long s.cells s.top s.room (omega arith) in
    live_laid s.cells s.top s.room (omega arith) e.pops e.cell (omega (arith, l, s.room, c.requires.there, c.requires.fits)) (omega (arith, l, s.room, c.requires.there, c.requires.fits))
