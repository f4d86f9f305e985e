-- Each public call's contract allows one answer only, and one content of the room or buffer that it is lent to change.
use mathlib.Core.Path.{◌≡◌, sym, ◌∙◌}
use Rattle.octets.proofs.Determinacy.{Determines, OneResult}
use Rattle.tree.proofs.Numbers.{says_same, promised-same}
use Rattle.tree.proofs.room.Kinds as room
use Rattle.tree.proofs.room.Reads as room-reads
use Rattle.tree.proofs.start.Kinds as start
use Rattle.tree.proofs.start.Reads as start-reads
use Rattle.tree.proofs.add.Kinds as add
use Rattle.tree.proofs.add.Reads as add_reads
use Rattle.tree.proofs.set_list.Kinds as set-list
use Rattle.tree.proofs.set_list.Reads as set-list-reads
use Rattle.tree.proofs.set_mark.Kinds as set-mark
use Rattle.tree.proofs.set_mark.Reads as set-mark-reads
use Rattle.tree.proofs.set_owner.Kinds as set-owner
use Rattle.tree.proofs.set_owner.Reads as set-owner-reads
use Rattle.tree.proofs.undo.Kinds as undo
use Rattle.tree.proofs.undo.Reads as undo-reads
use Rattle.tree.proofs.list_of.Kinds as list_of
use Rattle.tree.proofs.list_of.Reads as list-of-reads
use Rattle.tree.proofs.own_of.Kinds as own_of_lem
use Rattle.tree.proofs.own_of.Reads as own-of-reads
use Rattle.tree.proofs.data_of.Kinds as data_of
use Rattle.tree.proofs.data_of.Reads as data-of-reads
use Rattle.tree.proofs.counts.Kinds as counts
use Rattle.tree.proofs.counts.Reads as counts-reads

pub room-determined : OneResult 0 room.ps room.r room-reads.Learnt
room-determined κs a x y s t p q = p ∙ sym q

pub start-determined : Determines 2 start.ps start.r (λ κs x y s t. (x ≡ y) × (s.0.now ≡ t.0.now)) start-reads.Learnt
start-determined κs a x y s t p q = promised-same p q

pub add-determined : Determines 4 add.ps add.r (λ κs x y s t. (x ≡ y) × (s.0.now ≡ t.0.now)) add_reads.Learnt
add-determined κs a x y s t p q = promised-same p q

pub set-list-determined : Determines 2 set-list.ps set-list.r (λ κs x y s t. (x ≡ y) × (s.0.now ≡ t.0.now)) set-list-reads.Learnt
set-list-determined κs a x y s t p q = promised-same p q

pub set-mark-determined : Determines 1 set-mark.ps set-mark.r (λ κs x y s t. (x ≡ y) × (s.0.now ≡ t.0.now)) set-mark-reads.Learnt
set-mark-determined κs a x y s t p q = promised-same p q

pub set-owner-determined : Determines 3 set-owner.ps set-owner.r (λ κs x y s t. (x ≡ y) × (s.0.now ≡ t.0.now)) set-owner-reads.Learnt
set-owner-determined κs a x y s t p q = promised-same p q

pub undo-determined : Determines 1 undo.ps undo.r (λ κs x y s t. (x ≡ y) × (s.0.now ≡ t.0.now)) undo-reads.Learnt
undo-determined κs a x y s t p q = promised-same p q

pub list-of-determined : Determines 2 list_of.ps list_of.r (λ κs x y s t. (x ≡ y) × (s.1.1.0.now ≡ t.1.1.0.now)) list-of-reads.Learnt
list-of-determined κs a x y s t p q = promised-same p q

pub own-of-determined : Determines 2 own_of_lem.ps own_of_lem.r (λ κs x y s t. (x ≡ y) × (s.1.1.0.now ≡ t.1.1.0.now)) own-of-reads.Learnt
own-of-determined κs a x y s t p q = promised-same p q

pub data-of-determined : Determines 2 data_of.ps data_of.r (λ κs x y s t. (x ≡ y) × (s.1.1.0.now ≡ t.1.1.0.now)) data-of-reads.Learnt
data-of-determined κs a x y s t p q = promised-same p q

pub counts-determined : OneResult 1 counts.ps counts.r counts-reads.Learnt
counts-determined κs a x y s t p q = says_same p q
