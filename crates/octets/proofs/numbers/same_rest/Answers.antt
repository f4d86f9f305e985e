-- Up to `i` the bytes are the same. Assumes nothing.
use native.Mathlib.Omega.{arith}
use mathlib.Core.Path.{sym, ◌∙◌}
use lib.ListN.{drop_of_length-le}
use Rattle.octets.specs.Bytes.{same_bytes}
use Rattle.octets.proofs.Same.{next-differs, next-same}
use Rattle.octets.proofs.Little.{le-one}
use Rattle.octets.proofs.numbers.same_rest.Goals as goal

pub returns-then-a-i : goal.returns-then-a-i
returns-then-a-i c =
    let a = c.args in
    let x = a.a.now in
    let y = a.b.now in
    sym (c.loop-i.invariant.1 ∙ next-differs 1 c.loop-i.i x y (omega arith) (omega arith) (λ e. c.if-a-i.true (sym (le-one x c.loop-i.i) ∙ e ∙ le-one y c.loop-i.i)))

pub loop-i-preserved : goal.loop-i-preserved
loop-i-preserved c =
    let a = c.args in
    let x = a.a.now in
    let y = a.b.now in (
      omega arith,
      c.loop-i.invariant.1
          ∙ next-same 1 c.loop-i.i x y (omega arith) (omega arith)
          (λ j. (c.type_inv.a j).fits) (λ j. (c.type_inv.b j).fits)
          (le-one x c.loop-i.i ∙ c.if-a-i.false ∙ sym (le-one y c.loop-i.i)),
    )

pub returns : goal.returns
unfolding same_bytes
returns c =
    let l = c.loop-i in
    let a = c.args in
    sym (l.invariant.1 ∙ rw (drop_of_length-le a.a.now {i = l.i} (omega arith), drop_of_length-le a.b.now {i = l.i} (omega arith)))
