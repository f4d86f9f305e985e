-- Not exactly one SID, or one that is told by which placeholder it is. Assumes nothing.
use mathlib.Core.Path.{sym, ap, ◌∙◌}
use Rattle.std.specs.Prelude.{Ok}
use Rattle.list.specs.Identity.{identity_of, identity_in}
use Rattle.list.proofs.Sids.{in-identity}
use Rattle.list.proofs.identities.identity.Goals as goal

pub returns-then-not-is_sid : goal.returns-then-not-is_sid
unfolding identity_of identity_in
returns-then-not-is_sid c =
    simp (sym c.is_sid.ensures ∙ c.if-not-is_sid.true)

pub returns : goal.returns
unfolding identity_of
returns c =
    simp (sym c.is_sid.ensures ∙ c.if-not-is_sid.false) (ap Ok c.placeholder_of.ensures ∙ sym (in-identity c.args.b.now))
