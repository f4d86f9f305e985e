-- The values of an answer tell which it is; and what a contract promises of the definition's answer.
use mathlib.Core.Path.{◌≡◌, refl, sym, ap, ◌∙◌, subst}
use mathlib.Core.Bool.{Bool, true, false}
use mathlib.Core.List.{List}
use Prim.Native.Nat.{ℕ}
use native.Mathlib.Omega.{arith}
use lib.Dec.{eqb}
use Rattle.std.specs.Prelude.{Ok, Err}
use Rattle.list.specs.Answer.{Values}
use Rattle.octets.proofs.Tests.{off}
use Rattle.refusal.specs.Numbers.{number_of}
use Rattle.refusal.specs.declared.Refusal.{Refusal}
use Rattle.refusal.specs.declared.Refusal.TheVariants as Why
use Rattle.refusal.proofs.Tells.{number-tells}
use Rattle.tree.specs.Calls.{Answer, tells, refusal, Outcome, is_refused, Says, Promised, answer_values}
use Rattle.tree.specs.Held.{yes}
use Rattle.tree.proofs.Played.{accepted}

-- ---- values and answers

yes-same : (i j : Bool) → yes i ≡ yes j → i ≡ j
yes-same true true e = refl
yes-same true false e = absurd (omega arith)
yes-same false true e = absurd (omega arith)
yes-same false false e = refl

-- no refusal has the number 0
pub refusal-number : (w : Refusal) → eqb (number_of w) 0 ≡ false
refusal-number Why.Header = refl
refusal-number Why.Size = refl
refusal-number Why.Kind = refl
refusal-number Why.Bits = refl
refusal-number Why.Sid = refl
refusal-number Why.Identity = refl
refusal-number Why.Types = refl
refusal-number Why.Room = refl
refusal-number Why.Object = refl
refusal-number Why.Full = refl
refusal-number Why.NoStep = refl
refusal-number Why.Rule = refl
refusal-number Why.Tree = refl
refusal-number Why.Generic = refl
refusal-number Why.Expression = refl
refusal-number Why.Text = refl
refusal-number Why.Large = refl
refusal-number Why.Many = refl
refusal-number Why.Table = refl

pub accepted-number : (a : Answer) → eqb (answer_values a).number 0 ≡ accepted a
accepted-number (Ok d) = refl
accepted-number (Err f) = refusal-number f.why

same-done : {l m : ℕ} {i j : Bool} {n k : ℕ} → l ≡ m → i ≡ j → n ≡ k → tells l i n ≡ tells m j k
same-done a b c = rw (a, b, c) refl

same-refusal : {v w : Refusal} {l m : ℕ} {n k : ℕ} → v ≡ w → l ≡ m → n ≡ k → refusal v l n ≡ refusal w m k
same-refusal a b c = rw (a, b, c) refl

-- values, and whether it is a refusal, determine an answer
same_answer : (a b : Answer) → answer_values a ≡ answer_values b → is_refused a ≡ is_refused b → a ≡ b
same_answer (Ok d) (Ok x) e r =
    same-done (ap (λ (v : Values). v.length) e) (yes-same d.present x.present (ap (λ (v : Values). v.present) e)) (ap (λ (v : Values). v.count) e)
same_answer (Ok d) (Err f) e r = absurd (off r refl)
same_answer (Err f) (Ok d) e r = absurd (off refl r)
same_answer (Err f) (Err g) e r =
    same-refusal (number-tells f.why g.why (ap (λ (v : Values). v.number) e)) (ap (λ (v : Values). v.list) e) (ap (λ (v : Values). v.offset) e)

pub says_same : {a b : Answer} {v : Values} → Says a v → Says b v → a ≡ b
says_same {a} {b} p q = same_answer a b (p.values ∙ sym q.values) (p.refuses ∙ sym q.refuses)

pub promised-same : {o : Outcome} {a b : Answer} {x y : List ℕ} → Promised o a x → Promised o b y → (a ≡ b) × (x ≡ y)
promised-same p q = (says_same p.answer q.answer, p.bytes ∙ sym q.bytes)

pub promised-as : {o p : Outcome} {a : Answer} {x : List ℕ} → o ≡ p → Promised o a x → Promised p a x
promised-as {a = a} {x = x} e h = subst (λ (q : Outcome). Promised q a x) e h

-- the definition's own answer has its values, and no other
pub says_is : (a b : Answer) → a ≡ b → Says a (answer_values b)
says_is a (Ok d) e = record { values = ap answer_values e; refuses = ap is_refused e }
says_is a (Err f) e = record { values = ap answer_values e; refuses = ap is_refused e ∙ rw (refusal-number f.why) refl }

pub said-is : (a b : Answer) → Says a (answer_values b) → a ≡ b
said-is a b p = says_same p (says_is b b refl)

-- the promise of a call, from what it is
pub promised : (o : Outcome) → {a : Answer} {x : List ℕ} → (a ≡ o.answer) × (x ≡ o.bytes) → Promised o a x
promised o {a} p = record { answer = says_is a o.answer p.0; bytes = p.1 }
