-- By cases: a generic bit, no list, a list that is refused, a fault of the held bytes or the table; then what its entries decide. Assumes nothing.
use mathlib.Core.Path.{◌≡◌, sym, ap, ap₂, ◌∙◌}
use mathlib.Core.Bool.{true, false, not}
use Prim.Native.Nat.{ℕ}
use lib.Bits.{bit_and}
use borrow.Author.Tests.{eq-eqb, ne_eqb}
use mathlib.Core.List.{List}
use Rattle.std.specs.Prelude.{Result, Ok, Option, option_copied}
use denote.Bor.{Bor}
use Rattle.std.proofs.lemmas.Result.{err_from_is_err_and}
use Rattle.octets.specs.Bytes.{has}
use Rattle.refusal.specs.declared.Refusal.{Refusal}
use Rattle.list.specs.Entry.{access}
use Rattle.list.specs.List.{entries_of, check_of}
use Rattle.list.proofs.Answers.{checked}
use Rattle.access.specs.Held.{held_of}
use Rattle.access.specs.Open.{maybe_list, opens_by, may_open_of, question_of}
use Rattle.access.specs.Inner.Decide.{lent_fault}
use Rattle.access.proofs.Opens.{told_by, wants-generic, without-list, unread, read, no-fault, reads_so, decided-all}
use Rattle.access.proofs.may_open_with.Goals as goal
use Rattle.access.proofs.may_open_with.Goals.{In_ok-read}

-- no generic bit is wanted
specific : (w : ℕ) → bit_and w 0xF0000000 ≡ 0 → has 0xF0000000 w ≡ false
specific w e = rw (eq-eqb (bit_and w 0xF0000000) 0 e)

pub returns-then-wanted-ne0 : goal.returns-then-wanted-ne0
returns-then-wanted-ne0 c = rw c.from.ensures (sym (wants-generic _ (ap not (ne_eqb _ 0 c.if-wanted-ne0.true))))

-- ---- no list

pub returns-in_err-lent_fault : goal.returns-in_err-lent_fault
returns-in_err-lent_fault c =
    let p = err_from_is_err_and c.from_residual.result c.from_residual.ensures.1 in
    rw (p.1, p.2)
    (sym (without-list _ (specific _ c.if-wanted-ne0.false) (ap (λ (o : Option (Bor (List ℕ))). maybe_list (option_copied o)) c.in_default.is)
    ∙ ap (λ (f : Result Unit Refusal). told_by f true) (sym c.lent_fault.ensures ∙ c.in_err-lent_fault.was)))

pub returns-in_default : goal.returns-in_default
returns-in_default c =
    sym (without-list _ (specific _ c.if-wanted-ne0.false) (ap (λ (o : Option (Bor (List ℕ))). maybe_list (option_copied o)) c.in_default.is)
    ∙ ap (λ (f : Result Unit Refusal). told_by f true) (sym c.lent_fault.ensures ∙ c.in_ok-lent_fault.was))

-- ---- a list

pub returns-in_err-read : goal.returns-in_err-read
returns-in_err-read c =
    let p = err_from_is_err_and c.from_residual-in_err-read.result c.from_residual-in_err-read.ensures.1 in
    rw (p.1, p.2)
    (sym (unread _ (specific _ c.if-wanted-ne0.false) c.in-Some.list.now (ap (λ (o : Option (Bor (List ℕ))). maybe_list (option_copied o)) c.in-Some.is) _
    (sym (checked _ c.in-Some.list.now c.check.ensures) ∙ c.in_err-read.was)))

-- one that reads as done
read_here : (c : In_ok-read) → check_of access c.in-Some.list.now ≡ Ok c.in_ok-read.read
read_here c = sym (checked _ c.in-Some.list.now c.check.ensures) ∙ c.in_ok-read.was

answered : (c : In_ok-read)
    → let a = c.args in
    may_open_of (question_of (option_copied a.list) a.guid a.held.now a.wanted a.table.now)
    ≡ told_by (lent_fault a.held.now a.table.now) (opens_by a.guid a.table.now (held_of a.held.now) a.wanted (entries_of c.in-Some.list.now))
answered c =
    read _ (specific _ c.if-wanted-ne0.false) c.in-Some.list.now (ap (λ (o : Option (Bor (List ℕ))). maybe_list (option_copied o)) c.in-Some.is) _ _ _ (read_here c)

pub returns-in_err-lent_fault-2 : goal.returns-in_err-lent_fault-2
returns-in_err-lent_fault-2 c =
    let a = c.args in
    let p = err_from_is_err_and c.from_residual-in_err-lent_fault-2.result c.from_residual-in_err-lent_fault-2.ensures.1 in
    rw (p.1, p.2)
    (sym (answered (goal.at.returns-in_err-lent_fault-2 c).In_ok-read
    ∙ ap (λ (f : Result Unit Refusal). told_by f (opens_by a.guid a.table.now (held_of a.held.now) a.wanted (entries_of c.in-Some.list.now)))
    (sym c.lent_fault-2.ensures ∙ c.in_err-lent_fault-2.was)))

pub invariant_of-asker : goal.invariant_of-asker
invariant_of-asker c = record { whole = no-fault _ c.args.table.now _ (sym c.lent_fault-2.ensures ∙ c.in_ok-lent_fault-2.was) }

pub decide-requires : goal.decide-requires
decide-requires c = reads_so _ _ _ _ (read_here (goal.at.decide-requires c).In_ok-read)

pub returns : goal.returns
returns c =
    let a = c.args in
    let d = (goal.at.returns c).In_ok-read in
    sym (answered d
    ∙ ap₂ told_by (sym c.lent_fault-2.ensures ∙ c.in_ok-lent_fault-2.was)
    (sym (c.decide.ensures ∙ decided-all _ _ _ _ (read_here d) a.guid a.table.now (held_of a.held.now) a.wanted c.ranges.wanted.fits)))
