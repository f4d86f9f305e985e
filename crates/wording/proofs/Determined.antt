-- The public function's contract allows one result only, and one content of what it is lent to change.
use mathlib.Core.Path.{◌≡◌, sym, ◌∙◌}
use Rattle.octets.proofs.Determinacy.{Determines}
use Rattle.wording.proofs.translate.Kinds as translate
use Rattle.wording.proofs.translate.Reads as translate-reads

-- the answer, and the lent bytes afterwards
pub translate-determined : Determines 2 translate.ps translate.r (λ κs x y s t. (x ≡ y) × (s.1.0.now ≡ t.1.0.now)) translate-reads.Learnt
translate-determined κs a x y s t p q = (p.0 ∙ sym q.0, p.1 ∙ sym q.1)
