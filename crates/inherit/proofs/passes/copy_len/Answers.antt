-- The entry's own length, or the parts as the code cuts them. Assumes nothing.
use native.Mathlib.Omega.{arith}
use mathlib.Core.Bool.{not}
use mathlib.Core.Path.{sym, ap, ◌∙◌}
use mathlib.Core.List.{List}
use Prim.Native.Nat.{ℕ, ◌+◌, ◌-◌}
use lib.ListN.{length}
use Rattle.inherit.proofs.Lying.{keeps, lies}
use Rattle.inherit.proofs.passes.copy_len.Goals as goal

pub returns-then-is_none : goal.returns-then-is_none
returns-then-is_none c =
    sym (keeps c.args.entry.now c.args.terms.now _ c.look-look.ensures _ c.placeholder_at.ensures (c.is_none.ensures ∙ ap not c.if-is_none.true)).long

pub overflow_add-end : goal.overflow_add-end
overflow_add-end c = let l = lies c.args.entry.now c.args.terms.now _ c.look-look.ensures _ c.sid_len_in.ensures in omega (arith, l)

pub slice_bounds-in_place-end : goal.slice_bounds-in_place-end
slice_bounds-in_place-end c = let l = lies c.args.entry.now c.args.terms.now _ c.look-look.ensures _ c.sid_len_in.ensures in omega (arith, l)

pub returns : goal.returns
returns c =
    let e = c.look-look.result in
    let l = lies c.args.entry.now c.args.terms.now _ c.look-look.ensures _ c.sid_len_in.ensures in
    ap (λ (s : List ℕ). e.sid + length s + (e.size - (e.sid + c.sid_len_in.result))) (c.in_place-put_in.ensures ∙ l.sid) ∙ l.long
