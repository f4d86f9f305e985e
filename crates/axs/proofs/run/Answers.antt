-- What was read, and what is said of it. Assumes nothing.
use Rattle.axs.proofs.Speeches.{answers, reached-listable}
use Rattle.axs.proofs.run.Goals as goal

pub text_of-requires : goal.text_of-requires
text_of-requires c =
    reached-listable _ _ _ c.read_all-end.ensures

pub returns : goal.returns
returns c =
    answers _ _ _ c.read_all-end.ensures _ c.text_of.ensures
