-- Three stores, the type, the identities, and the slot. Assumes nothing.
use borrow.Author.Rules.{rules}
use mathlib.Core.Path.{◌≡◌, ◌∙◌}
use native.Mathlib.Nat.{min_comm}
use lib.ListN.{length}
use Rattle.tree.proofs.Lays.{byte-yes, block-laid}
use Rattle.tree.proofs.writes.lay_new.Goals as goal

pub returns : goal.returns
returns c =
    let a = c.args in
    let p = c.requires.owner_len_bound in
    let t : length a.guid ≡ 16 = search rules in
    block-laid _ c.requires.parent_value t p.0 p.1.0 p.1.1.0 _ _ _ a.w.now _ _ _ p.1.1.1
    (c.min.ensures ∙ min_comm _ 255) (c.from.ensures ∙ byte-yes _) (c.from-2.ensures ∙ byte-yes _)
    c.lay.ensures c.lay_owners.ensures c.lay_slot.ensures
