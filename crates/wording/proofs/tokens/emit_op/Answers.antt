-- The one byte that its token is. Assumes nothing.
use mathlib.Core.List.{List}
use mathlib.Core.Path.{ap, ◌∙◌}
use Prim.Native.Nat.{ℕ}
use lib.ListN.{length}
use Rattle.wording.specs.Inner.Tokens.{token_of}
use Rattle.wording.specs.Inner.Walk.{note_b, put_b, takes}
use Rattle.wording.proofs.tokens.emit_op.Goals as goal

pub returns : goal.returns
returns c =
    let a = c.args in
    let e = c.code.ensures in
    record {
      tally = c.note.ensures ∙ (ap (λ (n : ℕ). note_b 1 n a.w) c.takes.ensures ∙ ap (λ (b : List ℕ). note_b (length b) (takes (token_of a.op)) a.w) e);
      bytes = c.lay.ensures ∙ ap (λ (b : List ℕ). put_b b a.w a.out.now) e;
    }
