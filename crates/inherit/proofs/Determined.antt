-- The computation's contract allows one answer only, and one content of the result's buffer.
use mathlib.Core.Path.{◌≡◌, refl, sym, ap, ◌∙◌}
use Prim.Native.Nat.{ℕ}
use native.Mathlib.Omega.{arith}
use Rattle.list.specs.Answer.{Values}
use Rattle.octets.proofs.Tests.{off}
use Rattle.octets.proofs.Determinacy.{Determines}
use Rattle.inherit.specs.declared.Computed.{Computed}
use Rattle.std.proofs.Common.{Option, Some, None, Result, Ok, Err}
use Rattle.refusal.specs.declared.Refusal.{Refusal}
use Rattle.refusal.specs.declared.Fault.{Fault}
use Rattle.refusal.proofs.Tells.{number-tells}
use Rattle.inherit.specs.Compute.{computed_values, is_refusal, Tells}
use Rattle.inherit.proofs.compute.Kinds as compute
use Rattle.inherit.proofs.compute.Reads as compute-reads

computed_is : {l n k l' n' k' : ℕ} → l ≡ l' → n ≡ n' → k ≡ k'
    → ◌≡◌ {A = Computed} (record { length = l; count = n; control = k }) (record { length = l'; count = n'; control = k' })
computed_is p q r = rw (p, q, r)

fault-is : {w w' : Refusal} {l at l' at' : ℕ} → w ≡ w' → l ≡ l' → at ≡ at'
    → ◌≡◌ {A = Fault} (record { why = w; list = l; at = at }) (record { why = w'; list = l'; at = at' })
fault-is p q r = rw (p, q, r)

-- values determine the answer
same : (x y : Result (Option Computed) Fault) → computed_values x ≡ computed_values y → is_refusal x ≡ is_refusal y → x ≡ y
same (Ok (Some c)) (Ok (Some d)) e b =
    ap (λ (x : Computed). Ok (Some x)) (computed_is (ap (λ (v : Values). v.length) e) (ap (λ (v : Values). v.count) e) (ap (λ (v : Values). v.control) e))
same (Ok (Some c)) (Ok None) e b = let p = ap (λ (v : Values). v.present) e in absurd (omega arith)
same (Ok None) (Ok (Some d)) e b = let p = ap (λ (v : Values). v.present) e in absurd (omega arith)
same (Ok None) (Ok None) e b = refl
same (Ok c) (Err f) e b = absurd (off b refl)
same (Err f) (Ok d) e b = absurd (off refl b)
same (Err f) (Err g) e b =
    ap Err
    (fault-is (number-tells f.why g.why (ap (λ (v : Values). v.number) e)) (ap (λ (v : Values). v.list) e) (ap (λ (v : Values). v.offset) e))

pub tells-same : {x y : Result (Option Computed) Fault} {v : Values} → Tells x v → Tells y v → x ≡ y
tells-same {x} {y} p q = same x y (p.values ∙ sym q.values) (p.refuses ∙ sym q.refuses)

pub compute-determined : Determines 7 compute.ps compute.r
    (λ κs x y s t. (x ≡ y) × (s.1.1.1.1.1.1.1.1.1.0.now ≡ t.1.1.1.1.1.1.1.1.1.0.now))
    compute-reads.Learnt
compute-determined κs a x y s t p q = (tells-same p.answer q.answer, p.buffer ∙ sym q.buffer)
