-- What each return of the computation says: a refusal leaves the buffer as it was, and a result's end is the call's.
use mathlib.Core.Path.{◌≡◌, refl, sym, ap, ap₂, subst, ◌∙◌}
use mathlib.Core.Bool.{Bool, true, false, cond, not}
use mathlib.Core.List.{List}
use Prim.Native.Nat.{ℕ, ◌/◌, ◌%◌, ◌≤◌}
use native.Mathlib.Omega.{arith}
use lib.ListN.{length, take}
use lib.Dec.{eqb, leb}
use borrow.Author.Tests.{eqb-true, leb-true, ne_eqb}
use Rattle.std.proofs.Common.{Option, Result, Ok, Err}
use Rattle.octets.proofs.Tests.{both_true}
use Rattle.refusal.specs.Numbers.{number_of}
use Rattle.refusal.specs.declared.Refusal.{Refusal}
use Rattle.refusal.specs.declared.Refusal.TheVariants.{Header, Size, Kind, Bits, Sid, Identity, Types, Room, Object, Full, NoStep, Rule as Unknown, Tree, Generic, Expression, Text, Large, Many, Table}
use Rattle.refusal.specs.declared.Fault.{Fault}
use Rattle.std.specs.Option.{is_some}
use Rattle.list.specs.List.{MaybeList}
use Rattle.list.specs.Entry.{access}
use Rattle.list.specs.Answer.{Values, refused}
use Rattle.inherit.specs.declared.Computed.{Computed}
use Rattle.inherit.specs.declared.Settings.{Settings}
use Rattle.inherit.specs.declared.Mapping.{Mapping}
use Rattle.inherit.specs.declared.rules.Rule.{Rule}
use Rattle.inherit.specs.declared.rules.Rule.TheVariants.{Printed, Mended}
use Rattle.inherit.specs.declared.entries.Entries.{Entries}
use Rattle.inherit.specs.Asked.{Asked, Given, types_ok, types_of, four_of, given_in, entries_if}
use Rattle.inherit.specs.Branch.{Result as Computation, result_of}
use Rattle.inherit.specs.Copies.{any_heritable}
use Rattle.inherit.specs.Compute.{rule_ok, with_room, compute_of, bytes_for, written, asked_by, Tells, Answers}
use Rattle.inherit.specs.Inner.Rules.{rule_of, number_by}
use Rattle.inherit.specs.Inner.Source.{given}
use Rattle.inherit.specs.Inner.Still.{held}
use Rattle.inherit.specs.Inner.Plan.{plan_of, planned, result_by}
use Rattle.inherit.specs.Inner.Ending.{Ends}
use Rattle.inherit.proofs.Runs.{run_is}

-- no reason's number is 0
number-some : (w : Refusal) → number_of w ≡ 0 → ⊥
number-some Header h = omega arith
number-some Size h = omega arith
number-some Kind h = omega arith
number-some Bits h = omega arith
number-some Sid h = omega arith
number-some Identity h = omega arith
number-some Types h = omega arith
number-some Room h = omega arith
number-some Object h = omega arith
number-some Full h = omega arith
number-some NoStep h = omega arith
number-some Unknown h = omega arith
number-some Tree h = omega arith
number-some Generic h = omega arith
number-some Expression h = omega arith
number-some Text h = omega arith
number-some Large h = omega arith
number-some Many h = omega arith
number-some Table h = omega arith

-- a refusal leaves the buffer as it was
pub settle : (a : Asked) (out : List ℕ) (f : Fault) → refused (number_of f.why) f.list f.at ≡ compute_of a (length out) → Answers a out (Err f) out
unfolding written
settle a out f e =
    record {
      answer =
          record { values = e; refuses = subst (λ (v : Values). true ≡ not (eqb v.number 0)) e (rw (ne_eqb (number_of f.why) 0 (number-some f.why)) refl) };
      buffer = subst (λ (v : Values). out ≡ written v (bytes_for (result_of access a)) out) e refl;
    }

-- once everything was tested, the result's end is the call's
pub ran : (a : Asked) (out : List ℕ) {r : Result (Option Computed) Fault} {after : List ℕ}
    → compute_of a (length out) ≡ with_room (length out) (result_of access a) → Ends (result_of access a) out r after → Answers a out r after
ran a out {r} e f =
    record {
      answer = subst (Tells r) (sym e) f.answer;
      buffer = f.buffer ∙ ap (λ (v : Values). written v (bytes_for (result_of access a)) out) (sym e);
    }

-- a number that names a rule, and one that names none
pub record Named (number : ℕ) (r : Rule) : Type 0 where
  pub good : rule_ok number ≡ true
  pub is : number_by r ≡ number

pub rule-named : (number : ℕ) (r : Rule) → rule_of number ≡ Ok r → Named number r
unfolding rule_ok
rule-named number r h = by (eqb number 1) (eqb number 2) refl refl h
  where
    by : (b c : Bool) → eqb number 1 ≡ b → eqb number 2 ≡ c → cond b (Ok Printed) (cond c (Ok Mended) (Err Unknown)) ≡ Ok r → Named number r
    by true c p q h = let e : Printed ≡ r = cc in record { good = rw p refl; is = ap number_by (sym e) ∙ sym (eqb-true number 1 p) }
    by false true p q h = let e : Mended ≡ r = cc in record { good = rw (p, q) refl; is = ap number_by (sym e) ∙ sym (eqb-true number 2 q) }
    by false false p q h = cc

pub record Unnamed (number : ℕ) (w : Refusal) : Type 0 where
  pub bad : rule_ok number ≡ false
  pub is : w ≡ Unknown

pub rule-unnamed : (number : ℕ) (w : Refusal) → rule_of number ≡ Err w → Unnamed number w
unfolding rule_ok
rule-unnamed number w h = by (eqb number 1) (eqb number 2) refl refl h
  where
    by : (b c : Bool) → eqb number 1 ≡ b → eqb number 2 ≡ c → cond b (Ok Printed) (cond c (Ok Mended) (Err Unknown)) ≡ Err w → Unnamed number w
    by true c p q h = cc
    by false true p q h = cc
    by false false p q h = record { bad = rw (p, q) refl; is = cc }

-- at most four object types
pub four-most : (types : List ℕ) → types_ok types ≡ true → length types / 16 ≤ 4
unfolding types_ok
four-most types h = omega (arith, leb-true (length types) 64 (both_true (leb (length types) 64) (eqb (length types % 16) 0) h).0)

module _ (rule : ℕ) (s : Settings) (m : Mapping) (P C D : MaybeList) (types owner group : List ℕ) (r : Rule) (four : List (List ℕ))
    (er : number_by r ≡ rule) (ef : four ≡ four_of types) where
  -- the code's terms
  abbrev terms : Given
  terms = record { rule = number_by r; container = s.container; mapping = m; types = take (length types / 16) four; owner = owner; group = group }

  -- are what the definitions are given
  given_is : terms ≡ given_in (asked_by rule s m P C D types owner group)
  unfolding types_of
  given_is = rw (er, ef) refl

  -- so what the code comes to is the result
  pub ends-asked : (p c d : Option Entries) → held p ≡ entries_if P → held c ≡ entries_if C → held d ≡ entries_if D → is_some c ≡ given C → is_some d ≡ given D
      → (out : List ℕ) (answer : Result (Option Computed) Fault) (after : List ℕ)
      → (let q = plan_of (number_by r) s (any_heritable (held p)) (is_some c) (is_some d) in
      Ends (result_by q (planned terms q (held p) (held c) (held d))) out answer after)
      → Ends (result_of access (asked_by rule s m P C D types owner group)) out answer after
  ends-asked p c d ep ec ed gc gd out answer after f =
      subst (λ (x : Computation). Ends x out answer after)
      (ap₂
      (λ (g : Given) (n : ℕ). let q = plan_of n s (any_heritable (held p)) (is_some c) (is_some d) in result_by q (planned g q (held p) (held c) (held d)))
      given_is er
      ∙ run_is rule s m P C D types owner group p c d ep ec ed gc gd)
      f
