-- Each exported call's contract allows one result only, and one content of what it is lent to change.
use mathlib.Core.Path.{◌≡◌, sym, ◌∙◌}
use Rattle.octets.proofs.Determinacy.{Determines, OneResult}
use Rattle.capi.proofs.pt_identity.Kinds as pt-identity
use Rattle.capi.proofs.pt_identity.Reads as pt-identity-reads
use Rattle.capi.proofs.pt_compute.Kinds as pt-compute
use Rattle.capi.proofs.pt_compute.Reads as pt-compute-reads
use Rattle.capi.proofs.pt_start.Kinds as pt-start
use Rattle.capi.proofs.pt_start.Reads as pt-start-reads
use Rattle.capi.proofs.pt_add.Kinds as pt-add
use Rattle.capi.proofs.pt_add.Reads as pt-add-reads
use Rattle.capi.proofs.pt_set_list.Kinds as pt-set-list
use Rattle.capi.proofs.pt_set_list.Reads as pt-set-list-reads
use Rattle.capi.proofs.pt_set_mark.Kinds as pt-set-mark
use Rattle.capi.proofs.pt_set_mark.Reads as pt-set-mark-reads
use Rattle.capi.proofs.pt_set_owner.Kinds as pt-set-owner
use Rattle.capi.proofs.pt_set_owner.Reads as pt-set-owner-reads
use Rattle.capi.proofs.pt_undo.Kinds as pt-undo
use Rattle.capi.proofs.pt_undo.Reads as pt-undo-reads
use Rattle.capi.proofs.pt_list.Kinds as pt-list
use Rattle.capi.proofs.pt_list.Reads as pt-list-reads
use Rattle.capi.proofs.pt_own.Kinds as pt-own
use Rattle.capi.proofs.pt_own.Reads as pt-own-reads
use Rattle.capi.proofs.pt_data.Kinds as pt-data
use Rattle.capi.proofs.pt_data.Reads as pt-data-reads
use Rattle.capi.proofs.pt_room.Kinds as pt-room
use Rattle.capi.proofs.pt_room.Reads as pt-room-reads
use Rattle.capi.proofs.pt_counts.Kinds as pt-counts
use Rattle.capi.proofs.pt_counts.Reads as pt-counts-reads
use Rattle.capi.proofs.pt_play.Kinds as pt-play
use Rattle.capi.proofs.pt_play.Reads as pt-play-reads
use Rattle.capi.proofs.pt_step.Kinds as pt-step
use Rattle.capi.proofs.pt_step.Reads as pt-step-reads
use Rattle.capi.proofs.pt_may_open_with.Kinds as pt-may-open-with
use Rattle.capi.proofs.pt_may_open_with.Reads as pt-may-open-with-reads
use Rattle.capi.proofs.pt_evaluate.Kinds as pt-evaluate
use Rattle.capi.proofs.pt_evaluate.Reads as pt-evaluate-reads
use Rattle.capi.proofs.pt_compare.Kinds as pt-compare
use Rattle.capi.proofs.pt_compare.Reads as pt-compare-reads
use Rattle.capi.proofs.pt_condition.Kinds as pt-condition
use Rattle.capi.proofs.pt_condition.Reads as pt-condition-reads
use Rattle.capi.proofs.pt_may_open.Kinds as pt-may-open
use Rattle.capi.proofs.pt_may_open.Reads as pt-may-open-reads
use Rattle.capi.proofs.pt_read.Kinds as pt-read
use Rattle.capi.proofs.pt_read.Reads as pt-read-reads

pub pt-identity-determined : OneResult 1 pt-identity.ps pt-identity.r pt-identity-reads.Learnt
pt-identity-determined κs a x y s t p q = p ∙ sym q

-- the row and the answer afterwards
pub pt-read-determined : Determines 3 pt-read.ps pt-read.r
    (λ κs x y s t. (s.1.0.now ≡ t.1.0.now) × (s.1.1.0.now ≡ t.1.1.0.now)) pt-read-reads.Learnt
pt-read-determined κs a x y s t p q = (p.1 ∙ sym q.1, p.0 ∙ sym q.0)

-- the result's buffer and the answer afterwards
pub pt-compute-determined : Determines 9 pt-compute.ps pt-compute.r
    (λ κs x y s t. (s.1.1.1.1.1.1.1.1.1.0.now ≡ t.1.1.1.1.1.1.1.1.1.0.now)
    × (s.1.1.1.1.1.1.1.1.1.1.0.now ≡ t.1.1.1.1.1.1.1.1.1.1.0.now))
    pt-compute-reads.Learnt
pt-compute-determined κs a x y s t p q = (p.buffer ∙ sym q.buffer, p.answer ∙ sym q.answer)

-- the formula
pub pt-room-determined : OneResult 0 pt-room.ps pt-room.r pt-room-reads.Learnt
pt-room-determined κs a x y s t p q = p ∙ sym q

-- the room, or the buffer that is read into, and the answer afterwards
pub pt-start-determined : Determines 4 pt-start.ps pt-start.r
    (λ κs x y s t. (s.0.now ≡ t.0.now) × (s.1.1.1.1.1.1.1.0.now ≡ t.1.1.1.1.1.1.1.0.now)) pt-start-reads.Learnt
pt-start-determined κs a x y s t p q = (p.1 ∙ sym q.1, p.0 ∙ sym q.0)

pub pt-add-determined : Determines 6 pt-add.ps pt-add.r
    (λ κs x y s t. (s.0.now ≡ t.0.now) × (s.1.1.1.1.1.1.1.0.now ≡ t.1.1.1.1.1.1.1.0.now)) pt-add-reads.Learnt
pt-add-determined κs a x y s t p q = (p.1 ∙ sym q.1, p.0 ∙ sym q.0)

pub pt-set-list-determined : Determines 3 pt-set-list.ps pt-set-list.r
    (λ κs x y s t. (s.0.now ≡ t.0.now) × (s.1.1.1.1.0.now ≡ t.1.1.1.1.0.now)) pt-set-list-reads.Learnt
pt-set-list-determined κs a x y s t p q = (p.1 ∙ sym q.1, p.0 ∙ sym q.0)

pub pt-set-mark-determined : Determines 2 pt-set-mark.ps pt-set-mark.r
    (λ κs x y s t. (s.0.now ≡ t.0.now) × (s.1.1.1.0.now ≡ t.1.1.1.0.now)) pt-set-mark-reads.Learnt
pt-set-mark-determined κs a x y s t p q = (p.1 ∙ sym q.1, p.0 ∙ sym q.0)

pub pt-set-owner-determined : Determines 4 pt-set-owner.ps pt-set-owner.r
    (λ κs x y s t. (s.0.now ≡ t.0.now) × (s.1.1.1.1.0.now ≡ t.1.1.1.1.0.now)) pt-set-owner-reads.Learnt
pt-set-owner-determined κs a x y s t p q = (p.1 ∙ sym q.1, p.0 ∙ sym q.0)

pub pt-undo-determined : Determines 2 pt-undo.ps pt-undo.r (λ κs x y s t. (s.0.now ≡ t.0.now) × (s.1.0.now ≡ t.1.0.now)) pt-undo-reads.Learnt
pt-undo-determined κs a x y s t p q = (p.1 ∙ sym q.1, p.0 ∙ sym q.0)

pub pt-list-determined : Determines 3 pt-list.ps pt-list.r
    (λ κs x y s t. (s.1.1.0.now ≡ t.1.1.0.now) × (s.1.1.1.0.now ≡ t.1.1.1.0.now)) pt-list-reads.Learnt
pt-list-determined κs a x y s t p q = (p.1 ∙ sym q.1, p.0 ∙ sym q.0)

pub pt-own-determined : Determines 3 pt-own.ps pt-own.r
    (λ κs x y s t. (s.1.1.0.now ≡ t.1.1.0.now) × (s.1.1.1.0.now ≡ t.1.1.1.0.now)) pt-own-reads.Learnt
pt-own-determined κs a x y s t p q = (p.1 ∙ sym q.1, p.0 ∙ sym q.0)

pub pt-data-determined : Determines 3 pt-data.ps pt-data.r
    (λ κs x y s t. (s.1.1.0.now ≡ t.1.1.0.now) × (s.1.1.1.0.now ≡ t.1.1.1.0.now)) pt-data-reads.Learnt
pt-data-determined κs a x y s t p q = (p.1 ∙ sym q.1, p.0 ∙ sym q.0)

pub pt-counts-determined : Determines 2 pt-counts.ps pt-counts.r (λ κs x y s t. s.1.0.now ≡ t.1.0.now) pt-counts-reads.Learnt
pt-counts-determined κs a x y s t p q = p ∙ sym q

pub pt-play-determined : Determines 3 pt-play.ps pt-play.r
    (λ κs x y s t. (s.1.0.now ≡ t.1.0.now) × (s.1.1.0.now ≡ t.1.1.0.now)) pt-play-reads.Learnt
pt-play-determined κs a x y s t p q = (p.1 ∙ sym q.1, p.0 ∙ sym q.0)

-- the entry and the answer afterwards
pub pt-step-determined : Determines 3 pt-step.ps pt-step.r (λ κs x y s t. (s.1.1.0.now ≡ t.1.1.0.now) × (s.1.1.1.0.now ≡ t.1.1.1.0.now)) pt-step-reads.Learnt
pt-step-determined κs a x y s t p q = (p.1 ∙ sym q.1, p.0 ∙ sym q.0)

-- the answer afterwards
pub pt-may-open-with-determined : Determines 5 pt-may-open-with.ps pt-may-open-with.r (λ κs x y s t. s.1.1.1.1.1.1.0.now ≡ t.1.1.1.1.1.1.0.now) pt-may-open-with-reads.Learnt
pt-may-open-with-determined κs a x y s t p q = p ∙ sym q

pub pt-evaluate-determined : Determines 3 pt-evaluate.ps pt-evaluate.r (λ κs x y s t. s.1.1.0.now ≡ t.1.1.0.now) pt-evaluate-reads.Learnt
pt-evaluate-determined κs a x y s t p q = p ∙ sym q

pub pt-may-open-determined : Determines 4 pt-may-open.ps pt-may-open.r (λ κs x y s t. s.1.1.1.1.1.0.now ≡ t.1.1.1.1.1.0.now) pt-may-open-reads.Learnt
pt-may-open-determined κs a x y s t p q = p ∙ sym q

-- the buffer and the answer afterwards
pub pt-compare-determined : Determines 4 pt-compare.ps pt-compare.r
    (λ κs x y s t. (s.1.1.0.now ≡ t.1.1.0.now) × (s.1.1.1.0.now ≡ t.1.1.1.0.now)) pt-compare-reads.Learnt
pt-compare-determined κs a x y s t p q = (p.1 ∙ sym q.1, p.0 ∙ sym q.0)

pub pt-condition-determined : Determines 3 pt-condition.ps pt-condition.r
    (λ κs x y s t. (s.1.0.now ≡ t.1.0.now) × (s.1.1.0.now ≡ t.1.1.0.now)) pt-condition-reads.Learnt
pt-condition-determined κs a x y s t p q = (p.1 ∙ sym q.1, p.0 ∙ sym q.0)
