-- Each public function's contract allows one result only.
use mathlib.Core.Path.{sym, ◌∙◌}
use Rattle.octets.proofs.Determinacy.{OneResult}
use Rattle.refusal.proofs.Refusal.number.Kinds as number_of
use Rattle.refusal.proofs.Refusal.number.Reads as number-reads
use Rattle.refusal.proofs.Fault.at.Kinds as fault_at
use Rattle.refusal.proofs.Fault.at.Reads as fault-at-reads
use Rattle.refusal.proofs.Fault.in_list.Kinds as in_list
use Rattle.refusal.proofs.Fault.in_list.Reads as in-list-reads

pub number-determined : OneResult 0 number_of.ps number_of.r number-reads.Learnt
number-determined κs a x y s t p q = p ∙ sym q

pub at-determined : OneResult 0 fault_at.ps fault_at.r fault-at-reads.Learnt
at-determined κs a x y s t p q = p ∙ sym q

pub in-list-determined : OneResult 0 in_list.ps in_list.r in-list-reads.Learnt
in-list-determined κs a x y s t p q = p ∙ sym q
