-- Each return is a case of `word_for`. Assumes nothing.
use Rattle.wording.proofs.Laid.{word-plain, word-minus}
use Rattle.wording.proofs.tokens.word_of.Goals as goal

pub returns-else-neg : goal.returns-else-neg
returns-else-neg c = word-plain c.args.neg c.args.v c.if-neg.false

pub returns-then-neg : goal.returns-then-neg
returns-then-neg c = word-minus c.args.neg c.args.v _ c.if-neg.true c.requires c.wrapping_neg.type_inv c.wrapping_neg.ensures
