-- Each answer of `list::identity` by its number. Assumes nothing.
use Rattle.std.proofs.Common.{◌≡◌, sym, ap, ◌∙◌}
use Rattle.std.specs.Prelude.{Some}
use Rattle.list.specs.Identity.{identity_number, placeholder_number}
use Rattle.list.proofs.Sids.{identity-number}
use Rattle.capi.proofs.pt_identity.Goals as goal

pub returns-in-Ok-None : goal.returns-in-Ok-None
returns-in-Ok-None c =
    let s = c.args.bytes.now in
    sym (ap placeholder_number c.in-Ok-None.field-0-is) ∙ ap identity_number (sym c.in-Ok-None.is ∙ c.identity.ensures) ∙ identity-number s

pub returns-in-Ok-Some-Owner : goal.returns-in-Ok-Some-Owner
returns-in-Ok-Some-Owner c =
    let s = c.args.bytes.now in
    sym (ap placeholder_number (c.in-Ok-Some-Owner.field-0-is ∙ ap Some c.in-Ok-Some-Owner.field-0-0-is)) ∙ ap identity_number (sym c.in-Ok-Some-Owner.is ∙ c.identity.ensures) ∙ identity-number s

pub returns-in-Ok-Some-Group : goal.returns-in-Ok-Some-Group
returns-in-Ok-Some-Group c =
    let s = c.args.bytes.now in
    sym (ap placeholder_number (c.in-Ok-Some-Group.field-0-is ∙ ap Some c.in-Ok-Some-Group.field-0-0-is)) ∙ ap identity_number (sym c.in-Ok-Some-Group.is ∙ c.identity.ensures) ∙ identity-number s

pub returns-in-Err : goal.returns-in-Err
returns-in-Err c =
    let s = c.args.bytes.now in
    c.from.ensures ∙ c.number.ensures ∙ ap identity_number (sym c.in-Err.is ∙ c.identity.ensures) ∙ identity-number s
