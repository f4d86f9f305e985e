-- Each public call's contract allows one result only, and one content of what it is lent to change.
use mathlib.Core.Path.{◌≡◌, sym, ◌∙◌}
use Rattle.tree.proofs.Numbers.{promised-same}
use Rattle.octets.proofs.Determinacy.{Determines, OneResult}
use Rattle.script.proofs.records.step.Kinds as step
use Rattle.script.proofs.records.step.Reads as step-reads
use Rattle.script.proofs.runs.feed.Kinds as feed
use Rattle.script.proofs.runs.feed.Reads as feed-reads
use Rattle.script.proofs.runs.advance.Kinds as advance
use Rattle.script.proofs.runs.advance.Reads as advance-reads
use Rattle.script.proofs.head_ok.Kinds as head_ok
use Rattle.script.proofs.head_ok.Reads as head-ok-reads
use Rattle.script.proofs.begin.Kinds as begin
use Rattle.script.proofs.begin.Reads as begin-reads
use Rattle.script.proofs.texts.listing.Kinds as listing
use Rattle.script.proofs.texts.listing.Reads as listing-reads
use Rattle.script.proofs.texts.bad_at.Kinds as bad-at
use Rattle.script.proofs.texts.bad_at.Reads as bad-at-reads
use Rattle.script.proofs.play.Kinds as play
use Rattle.script.proofs.play.Reads as play-reads

pub step-determined : OneResult 1 step.ps step.r step-reads.Learnt
step-determined κs a x y s t p q = p ∙ sym q

-- both fields of the result, and the room
pub feed-determined : Determines 2 feed.ps feed.r (λ κs x y s t. (x.used ≡ y.used) × ((x.bad ≡ y.bad) × (s.0.now ≡ t.0.now))) feed-reads.Learnt
feed-determined κs a x y s t p q = (p.0 ∙ sym q.0, (p.1.0 ∙ sym q.1.0, p.1.1 ∙ sym q.1.1))

-- the buffer too
pub advance-determined : Determines 2 advance.ps advance.r
    (λ κs x y s t. (x.used ≡ y.used) × ((x.bad ≡ y.bad) × ((s.0.now ≡ t.0.now) × (s.1.0.now ≡ t.1.0.now)))) advance-reads.Learnt
advance-determined κs a x y s t p q =
    let u = p.0.0 ∙ sym q.0.0 in
    (u, (p.0.1.0 ∙ sym q.0.1.0, (p.0.1.1 ∙ sym q.0.1.1, p.1 ∙ rw u (sym q.1))))

pub head-ok-determined : OneResult 1 head_ok.ps head_ok.r head-ok-reads.Learnt
head-ok-determined κs a x y s t p q = p ∙ sym q

pub begin-determined : Determines 1 begin.ps begin.r (λ κs x y s t. (x ≡ y) × (s.0.now ≡ t.0.now)) begin-reads.Learnt
begin-determined κs a x y s t p q = promised-same p q

pub listing-determined : Determines 2 listing.ps listing.r (λ κs x y s t. (x ≡ y) × (s.1.0.now ≡ t.1.0.now)) listing-reads.Learnt
listing-determined κs a x y s t p q = promised-same p q

pub bad-at-determined : Determines 1 bad-at.ps bad-at.r (λ κs x y s t. (x ≡ y) × (s.1.0.now ≡ t.1.0.now)) bad-at-reads.Learnt
bad-at-determined κs a x y s t p q = promised-same p q

pub play-determined : Determines 2 play.ps play.r (λ κs x y s t. (x ≡ y) × (s.1.0.now ≡ t.1.0.now)) play-reads.Learnt
play-determined κs a x y s t p q = promised-same p q
