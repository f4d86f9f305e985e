-- The library's `any`, in the definition's words (`any-among`). Assumes nothing.
use mathlib.Core.Path.{◌∙◌}
use lib.Pointwise.{pointwise}
use Rattle.std.specs.Bool.{nat_eq}
use Rattle.std.proofs.Common.{rules, tests}
use Rattle.std.proofs.lemmas.Iterator.{YieldsList-from_slice}
use Rattle.std.proofs.lemmas.Iterator.Search.{any_from_yields_List}
use Rattle.inherit.proofs.Types.{any-among}
use Rattle.inherit.proofs.copies.among.Goals as goal

pub returns : goal.returns
returns c =
    any_from_yields_List (λ y. pointwise nat_eq y c.args.guid) _ _ _ c.any.ensures.ran (YieldsList-from_slice c.args.types.now cc) (λ x b q k. search (rules, tests))
    ∙ any-among c.args.guid c.args.types.now
