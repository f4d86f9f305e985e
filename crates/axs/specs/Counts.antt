-- What a read or a write answered, and as a number of the bytes that it was lent.
use Rattle.std.specs.Prelude.{ℕ, min, Option, Some, None, Result, Ok, Err}

-- how many bytes it moved, or none where it failed
abbrev pub Answered : Type 0
Answered = Option ℕ

-- it failed, for whatever reason
abbrev pub answer_of : {E : Type 0} → Result ℕ E → Answered
answer_of (Ok n) = Some n
answer_of (Err e) = None

-- no byte where it failed, and never more than the n that were lent
abbrev pub clamp_len : Answered → ℕ → ℕ
clamp_len (Some k) n = min k n
clamp_len None n = 0
