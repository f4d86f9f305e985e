-- Each public function's contract allows one result only.
use mathlib.Core.Path.{sym, ◌∙◌}
use Rattle.octets.proofs.Determinacy.{OneResult}
use Rattle.condition.proofs.check.Kinds as check
use Rattle.condition.proofs.check.Reads as check-reads
use Rattle.condition.proofs.said.Kinds as said
use Rattle.condition.proofs.said.Reads as said-reads
use Rattle.condition.proofs.table_ok.Kinds as table-ok
use Rattle.condition.proofs.table_ok.Reads as table-ok-reads
use Rattle.condition.proofs.evaluate.Kinds as evaluate
use Rattle.condition.proofs.evaluate.Reads as evaluate-reads

pub check-determined : OneResult 1 check.ps check.r check-reads.Learnt
check-determined κs a x y s t p q = p ∙ sym q

pub said-determined : OneResult 2 said.ps said.r said-reads.Learnt
said-determined κs a x y s t p q = p ∙ sym q

pub table-ok-determined : OneResult 1 table-ok.ps table-ok.r table-ok-reads.Learnt
table-ok-determined κs a x y s t p q = p ∙ sym q

pub evaluate-determined : OneResult 2 evaluate.ps evaluate.r evaluate-reads.Learnt
evaluate-determined κs a x y s t p q = p ∙ sym q
