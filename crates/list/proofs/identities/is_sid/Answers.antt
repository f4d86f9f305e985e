-- Exactly one SID, by what its length is said to be. Assumes nothing.
use mathlib.Core.Path.{ap, ◌∙◌}
use Prim.Native.Nat.{ℕ}
use lib.ListN.{length}
use lib.Dec.{eqb}
use Rattle.std.specs.Prelude.{Option, Some}
use Rattle.std.specs.Option.{option_eq}
use Rattle.list.specs.Identity.{is_sid}
use Rattle.list.proofs.Sids.{sid-eq}
use Rattle.list.proofs.identities.is_sid.Goals as goal

pub returns : goal.returns
unfolding is_sid
returns c =
    let s = c.args.b.now in
    c.eq.ensures ∙ ap (λ (o : Option ℕ). option_eq eqb o (Some (length s))) c.sid_at.ensures ∙ sid-eq _ (length s)
