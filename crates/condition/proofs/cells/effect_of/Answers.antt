-- By the token's first byte: a literal, a name, an operator. Assumes nothing.
use native.Mathlib.Omega.{arith}
use mathlib.Core.Path.{sym, ap, ap₂, ◌∙◌}
use mathlib.Core.List.{List}
use lib.ListN.{length}
use Prim.Native.Nat.{ℕ, ◌-◌}
use Rattle.octets.specs.Bytes.{le}
use Rattle.octets.proofs.Places.{rest-is}
use Rattle.condition.specs.declared.cells.Cell.TheVariants.{Number}
use Rattle.condition.specs.Table.{attributes_of}
use Rattle.condition.specs.Inner.Cells.{key_of, found_cell, operand_cell, pushed, effect_by, effect_at, live}
use Rattle.condition.proofs.Effects.{bytes-there, literal-there, name-there, operator-there}
use Rattle.condition.proofs.cells.effect_of.Goals as goal

pub bounds-s-0 : goal.bounds-s-0
bounds-s-0 c =
    bytes-there c.args.s.now c.args.long c.requires

pub returns-in-4 : goal.returns-in-4
unfolding effect_at effect_by operand_cell
returns-in-4 c =
    let a = c.args in
    rw (literal-there a.s.now a.long c.requires c.in-4.is)
    (c.pushed.ensures ∙ ap₂ (λ (n k : ℕ). pushed n (Number k)) c.free.ensures (c.key_in.ensures ∙ ap (λ (t : List ℕ). key_of (le 8 t)) (rest-is a.s.now 1)))

pub slice_bounds-find-count : goal.slice_bounds-find-count
slice_bounds-find-count c = (name-there c.args.s.now c.args.long c.requires c.in-248.is).five

pub slice_bounds-find-start : goal.slice_bounds-find-start
slice_bounds-find-start c = (name-there c.args.s.now c.args.long c.requires c.in-248.is).five

pub slice_bounds-find-end : goal.slice_bounds-find-end
slice_bounds-find-end c = (name-there c.args.s.now c.args.long c.requires c.in-248.is).within

pub returns-in-248 : goal.returns-in-248
unfolding effect_at effect_by operand_cell
returns-in-248 c =
    let a = c.args in
    rw ((name-there a.s.now a.long c.requires c.in-248.is).is)
    (c.pushed-in-248.ensures ∙ ap₂ pushed c.free-in-248.ensures (c.named.ensures ∙ ap found_cell c.find.ensures))

pub returns-in_err-from_code-in_default : goal.returns-in_err-from_code-in_default
unfolding effect_at
returns-in_err-from_code-in_default c =
    let a = c.args in
    rw (operator-there a.s.now a.long c.requires (λ z. omega arith) (λ z. omega arith), sym c.in_err-from_code-in_default.ensures) c.from_residual.ensures

pub returns-in_ok-from_code-in_default : goal.returns-in_ok-from_code-in_default
unfolding effect_at
returns-in_ok-from_code-in_default c =
    let a = c.args in
    let cs = live a.stack.now.cells a.stack.now.top in
    rw (operator-there a.s.now a.long c.requires (λ z. omega arith) (λ z. omega arith), sym c.in_ok-from_code-in_default.ensures, sym c.place.ensures, sym c.place-in_default.ensures)
    (c.operated.ensures (attributes_of a.table.now) (16 - length cs))
