-- The bytes are those of `spell 8`. Assumes nothing.
use Rattle.wording.proofs.Laid.{number-bytes}
use Rattle.wording.proofs.tokens.number_bytes.Goals as goal

pub returns : goal.returns
returns c = number-bytes c.args.m _ c.to_le_bytes.ensures
