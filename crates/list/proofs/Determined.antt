-- Each public function's contract allows one result only, and one content of what it is lent to change.
use mathlib.Core.Path.{◌≡◌, sym, ◌∙◌}
use Rattle.octets.proofs.Determinacy.{Determines, OneResult}
use Rattle.list.proofs.Answers.{values_same}
use Rattle.list.proofs.identities.Sid.from_bytes.Kinds as from_bytes
use Rattle.list.proofs.identities.Sid.from_bytes.Reads as from-bytes-reads
use Rattle.list.proofs.identities.Sid.creator_owner.Kinds as creator_owner
use Rattle.list.proofs.identities.Sid.creator_owner.Reads as creator-owner-reads
use Rattle.list.proofs.identities.Sid.creator_group.Kinds as creator-group
use Rattle.list.proofs.identities.Sid.creator_group.Reads as creator-group-reads
use Rattle.list.proofs.identities.Sid.placeholder.Kinds as placeholder
use Rattle.list.proofs.identities.Sid.placeholder.Reads as placeholder-reads
use Rattle.list.proofs.identities.placeholder_of.Kinds as placeholder-of
use Rattle.list.proofs.identities.placeholder_of.Reads as placeholder-of-reads
use Rattle.list.proofs.identities.identity.Kinds as identity
use Rattle.list.proofs.identities.identity.Reads as identity-reads
use Rattle.list.proofs.identities.guid_at.Kinds as guid-at
use Rattle.list.proofs.identities.guid_at.Reads as guid-at-reads
use Rattle.list.proofs.identities.same_guid.Kinds as same-guid
use Rattle.list.proofs.identities.same_guid.Reads as same-guid-reads
use Rattle.list.proofs.identities.sid_in.Kinds as sid-in
use Rattle.list.proofs.identities.sid_in.Reads as sid-in-reads
use Rattle.list.proofs.identities.sid_len_in.Kinds as sid-len-in
use Rattle.list.proofs.identities.sid_len_in.Reads as sid-len-in-reads
use Rattle.list.proofs.looks.look_at.Kinds as look_at
use Rattle.list.proofs.looks.look_at.Reads as look-at-reads
use Rattle.list.proofs.looks.placeholder_at.Kinds as placeholder-at
use Rattle.list.proofs.looks.placeholder_at.Reads as placeholder-at-reads
use Rattle.list.proofs.entries.is_object.Kinds as is-object
use Rattle.list.proofs.entries.is_object.Reads as is-object-reads
use Rattle.list.proofs.entries.is_conditional.Kinds as is-conditional
use Rattle.list.proofs.entries.is_conditional.Reads as is-conditional-reads
use Rattle.list.proofs.entries.entry_of.Kinds as entry_of
use Rattle.list.proofs.entries.entry_of.Reads as entry-of-reads
use Rattle.list.proofs.lists.check.Kinds as check
use Rattle.list.proofs.lists.check.Reads as check-reads
use Rattle.list.proofs.lists.read.Kinds as read
use Rattle.list.proofs.lists.read.Reads as read-reads

pub from-bytes-determined : OneResult 1 from_bytes.ps from_bytes.r from-bytes-reads.Learnt
from-bytes-determined κs a x y s t p q = p ∙ sym q

pub creator-owner-determined : OneResult 0 creator_owner.ps creator_owner.r creator-owner-reads.Learnt
creator-owner-determined κs a x y s t p q = p ∙ sym q

pub creator-group-determined : OneResult 0 creator-group.ps creator-group.r creator-group-reads.Learnt
creator-group-determined κs a x y s t p q = p ∙ sym q

pub placeholder-determined : OneResult 0 placeholder.ps placeholder.r placeholder-reads.Learnt
placeholder-determined κs a x y s t p q = p ∙ sym q

pub placeholder-of-determined : OneResult 1 placeholder-of.ps placeholder-of.r placeholder-of-reads.Learnt
placeholder-of-determined κs a x y s t p q = p ∙ sym q

pub identity-determined : OneResult 1 identity.ps identity.r identity-reads.Learnt
identity-determined κs a x y s t p q = p ∙ sym q

pub guid-at-determined : OneResult 1 guid-at.ps guid-at.r guid-at-reads.Learnt
guid-at-determined κs a x y s t p q = p ∙ sym q

pub same-guid-determined : OneResult 0 same-guid.ps same-guid.r same-guid-reads.Learnt
same-guid-determined κs a x y s t p q = p ∙ sym q

pub sid-in-determined : OneResult 1 sid-in.ps sid-in.r sid-in-reads.Learnt
sid-in-determined κs a x y s t p q = p ∙ sym q

pub sid-len-in-determined : OneResult 1 sid-len-in.ps sid-len-in.r sid-len-in-reads.Learnt
sid-len-in-determined κs a x y s t p q = p ∙ sym q

pub look-at-determined : OneResult 1 look_at.ps look_at.r look-at-reads.Learnt
look-at-determined κs a x y s t p q = p ∙ sym q

pub placeholder-at-determined : OneResult 1 placeholder-at.ps placeholder-at.r placeholder-at-reads.Learnt
placeholder-at-determined κs a x y s t p q = p ∙ sym q

pub is-object-determined : OneResult 0 is-object.ps is-object.r is-object-reads.Learnt
is-object-determined κs a x y s t p q = p ∙ sym q

pub is-conditional-determined : OneResult 0 is-conditional.ps is-conditional.r is-conditional-reads.Learnt
is-conditional-determined κs a x y s t p q = p ∙ sym q

pub entry-of-determined : OneResult 1 entry_of.ps entry_of.r entry-of-reads.Learnt
entry-of-determined κs a x y s t p q = p ∙ sym q

pub check-determined : OneResult 1 check.ps check.r check-reads.Learnt
check-determined κs a x y s t p q = values_same x y (p ∙ sym q)

-- the reader's answer, and the row afterwards
pub read-determined : Determines 2 read.ps read.r (λ κs x y s t. (x ≡ y) × (s.1.0.now ≡ t.1.0.now)) read-reads.Learnt
read-determined κs a x y s t p q = (values_same x y (p.0 ∙ sym q.0), p.1 ∙ sym q.1)
