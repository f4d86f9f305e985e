-- Each public function's contract allows one result only.
use mathlib.Core.Path.{◌≡◌, sym, ◌∙◌}
use base.Logic.{ent, sep, fst∗, snd∗}
use contract.Lifetimes.{Lfts}
use contract.Monad.{fact, fact_i, fact_use}
use borrow.Fn.World.{World, ArgsD, ResD}
use denote.Triple.Clauses.{Ended, Clauses, AtExit}
use Rattle.octets.proofs.Determinacy.{Determines, OneResult}
use Rattle.access.proofs.may_open_with.Kinds as may-open-with
use Rattle.access.proofs.may_open_with.Reads as may-open-with-reads
use Rattle.access.proofs.may_open.Kinds as may-open
use Rattle.access.proofs.may_open.Reads as may-open-reads
use Rattle.access.proofs.step_from.Kinds as step_from
use Rattle.access.proofs.step_from.Reads as step-from-reads
use Rattle.access.proofs.steps.step_at.Kinds as step-at
use Rattle.access.proofs.steps.step_at.Reads as step-at-reads
use Rattle.access.proofs.steps.next_at.Kinds as next-at
use Rattle.access.proofs.steps.next_at.Reads as next-at-reads
use Rattle.access.proofs.steps.walked.Kinds as walked
use Rattle.access.proofs.steps.walked.Reads as walked-reads
use Rattle.access.specs.contracts.walkers.make as make
use Rattle.access.specs.contracts.walkers.step as step
use Rattle.access.specs.contracts.walkers.past as past
use Rattle.access.proofs.walkers.first.Kinds as first
use Rattle.access.proofs.walkers.first.Reads as first_reads

-- A function over a struct that holds a reference has no contract of the first kind. Of two results that the clauses generated of it allow, in any
-- world of the logic, it is a fact that they agree in what `Agree` says.
abbrev pub DeterminesHeld : (E : Ended) → ((w : World) → Clauses w.𝓤 E)
    → ((κs : Lfts E.signature.lifetimes) → ResD E.signature κs → ResD E.signature κs → Type 0) → Type 2
DeterminesHeld E C Agree =
    (w : World) (κs : Lfts E.signature.lifetimes) (a : ArgsD E.signature κs) (x y : ResD E.signature κs) (s t : AtExit E κs)
    (g : (C w κs a).ghost) → ent w.𝓤 (sep w.𝓤 ((C w κs a).ensures g x s) ((C w κs a).ensures g y t)) (fact w.𝓤 (Agree κs x y))

-- two facts and what follows of them
both_facts : (w : World) (φ ψ χ : Type 0) → (φ → ψ → χ) → ent w.𝓤 (sep w.𝓤 (fact w.𝓤 φ) (fact w.𝓤 ψ)) (fact w.𝓤 χ)
both_facts w φ ψ χ f =
    fact_use w.𝓤 φ (fst∗ w.𝓤 (fact w.𝓤 φ) (fact w.𝓤 ψ))
    (λ p. fact_use w.𝓤 ψ (snd∗ w.𝓤 (fact w.𝓤 φ) (fact w.𝓤 ψ)) (λ q. fact_i w.𝓤 χ _ (f p q)))

pub may-open-with-determined : OneResult 3 may-open-with.ps may-open-with.r may-open-with-reads.Learnt
may-open-with-determined κs a x y s t p q = p ∙ sym q

pub may-open-determined : OneResult 2 may-open.ps may-open.r may-open-reads.Learnt
may-open-determined κs a x y s t p q = p ∙ sym q

pub step-from-determined : OneResult 1 step_from.ps step_from.r step-from-reads.Learnt
step-from-determined κs a x y s t p q = p ∙ sym q

pub step-at-determined : OneResult 1 step-at.ps step-at.r step-at-reads.Learnt
step-at-determined κs a x y s t p q = p ∙ sym q

pub next-at-determined : OneResult 1 next-at.ps next-at.r next-at-reads.Learnt
next-at-determined κs a x y s t p q = p ∙ sym q

-- the bytes of the part
pub walked-determined : Determines 1 walked.ps walked.r (λ κs x y s t. x.now ≡ y.now) walked-reads.Learnt
walked-determined κs a x y s t p q = p ∙ sym q

pub first-determined : OneResult 1 first.ps first.r first_reads.Learnt
first-determined κs a x y s t p q = p ∙ sym q

-- the bytes that the walker holds, and its place
pub make-determined : DeterminesHeld make.ended (λ w. make.clauses w.𝓛 w.𝓜.mem w.𝓡.run) (λ κs x y. (x.list.now ≡ y.list.now) × (x.at ≡ y.at))
make-determined w κs a x y s t g = both_facts w _ _ _ (λ p q. (p.0 ∙ sym q.0, p.1 ∙ sym q.1))

pub step-determined : DeterminesHeld step.ended (λ w. step.clauses w.𝓛 w.𝓜.mem w.𝓡.run) (λ κs x y. x ≡ y)
step-determined w κs a x y s t g = both_facts w _ _ _ (λ p q. p ∙ sym q)

-- the list is the one that came in, not its bytes alone
pub past-determined : DeterminesHeld past.ended (λ w. past.clauses w.𝓛 w.𝓜.mem w.𝓡.run) (λ κs x y. (x.list ≡ y.list) × (x.at ≡ y.at))
past-determined w κs a x y s t g = both_facts w _ _ _ (λ p q. (p.0 ∙ sym q.0, p.1 ∙ sym q.1))
