-- The bytes of the word that the number is. Assumes nothing.
use mathlib.Core.List.{List}
use mathlib.Core.Path.{ap, ◌∙◌}
use Prim.Native.Nat.{ℕ}
use Rattle.condition.specs.Token.{number, push}
use Rattle.wording.specs.Stored.{token_bytes}
use Rattle.wording.specs.Inner.Walk.{put_b}
use Rattle.wording.proofs.Laid.{counted-number}
use Rattle.wording.proofs.tokens.emit_number.Goals as goal

pub returns : goal.returns
returns c =
    let a = c.args in
    let e = c.number_bytes.ensures ∙ ap (λ (m : ℕ). token_bytes (push (number m))) c.word_of.ensures in
    record { tally = counted-number _ _ _ c.note.ensures; bytes = c.lay.ensures ∙ ap (λ (b : List ℕ). put_b b a.w a.out.now) e }
