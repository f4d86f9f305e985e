-- Working one object's list out, and those of all, as the code goes about it.
use mathlib.Core.Path.{◌≡◌, refl, sym, ap, ap₂, ◌∙◌}
use mathlib.Core.Bool.{Bool, true, false, cond}
use mathlib.Core.List.{List}
use mathlib.Core.Option.{Option, none, some}
use Prim.Native.Nat.{ℕ, zero, suc, ◌+◌, ◌-◌, ◌≤◌, ◌<◌}
use native.Mathlib.Nat.{add-zero, add-suc}
use native.Mathlib.Numerals.{add-one}
use native.Mathlib.Omega.{arith}
use lib.ListN.{length, drop}
use lib.Seq.{take_at}
use lib.Dec.{eqb}
use borrow.Author.Tests.{ne_eqb, lt-ltb, le-ltb}
use Rattle.list.specs.List.{MaybeList}
use Rattle.octets.specs.Bytes.{part, put_at}
use Rattle.inherit.specs.declared.Computed.{Computed}
use Rattle.list.specs.Entry.{access}
use Rattle.list.specs.Answer.{Values, done, refused}
use Rattle.inherit.specs.Asked.{Asked}
use Rattle.inherit.specs.Branch.{result_of}
use Rattle.inherit.specs.Compute.{compute_of, bytes_for, written, out_of, computed_values, Answers}
use Rattle.inherit.proofs.Theorems.{present-fits}
use Rattle.std.specs.Prelude.{Option as Maybe, Some, None, Result, Ok, Err}
use Rattle.refusal.specs.Numbers.{number_of}
use Rattle.refusal.specs.declared.Fault.{Fault}
use Rattle.refusal.specs.declared.Refusal.{Refusal}
use Rattle.refusal.specs.declared.Refusal.TheVariants as Why
use Rattle.tree.specs.General.{bind}
use Rattle.tree.proofs.Numbers.{refusal-number}
use Rattle.tree.specs.Inner.Else.{or_else, worked_out}
use Rattle.tree.specs.Held.{held, slot_for, parent_byte_in, parent_of}
use Rattle.tree.specs.Room.{slot_at, settings, own_data, slot}
use Rattle.tree.specs.Work.{asked_in, computed, above_in, laid, rework, reworked}

-- the parent's slot, or nothing
pub above-slot : (i p : ℕ) (r s : List ℕ) → p ≡ parent_byte_in (own_data i r) → p < i → i < 256 → s ≡ slot p r → held s ≡ above_in (parent_of (own_data i r)) i r
unfolding above_in
above-slot i p r s e h k f = rw (f, ← e, ne_eqb p 255 (λ z. omega arith), lt-ltb p i h) refl

pub above-none : (i p : ℕ) (r : List ℕ) → p ≡ parent_byte_in (own_data i r) → i ≤ p → none ≡ above_in (parent_of (own_data i r)) i r
unfolding above_in
above-none i p r e h = rw (← e) (by (eqb p 255))
  where
    by : (b : Bool) → none ≡ above_in (cond b none (some p)) i r
    by true = refl
    by false = rw (le-ltb p i h) refl

-- one object, by what the computation answers
module _ (i : ℕ) (w out e b : List ℕ) (x : MaybeList) (r : Result (Maybe Computed) Fault) (out₁ : List ℕ) (q : x ≡ above_in (parent_of (own_data i w)) i w) (ee : e ≡ settings w) (eb : b ≡ own_data i w)
    (room : length out ≡ 1024) (h : Answers (asked_in e x b) out r out₁) where
  abbrev asked : Asked
  asked = asked_in (settings w) (above_in (parent_of (own_data i w)) i w) (own_data i w)

  asked_is : asked_in e x b ≡ asked
  asked_is = rw (q, ee, eb) refl

  answered : (v : Values) → computed_values r ≡ v → compute_of asked 1024 ≡ v
  answered v g = ap₂ compute_of (sym asked_is) (sym room) ∙ sym h.answer.values ∙ g

  -- a list
  pub rework-present : (c : Computed) (w₁ : List ℕ) → r ≡ Ok (Some c) → w₁ ≡ put_at (slot_at i) (slot_for (some (part 0 c.length out₁))) w
      → (Ok tt ≡ worked_out (rework i w)) × (w₁ ≡ or_else w (rework i w))
  unfolding rework computed laid worked_out or_else written part
  rework-present c w₁ g t =
      let l = c.length in
      let v : Values = done l 1 c.count c.control in
      let y : compute_of asked 1024 ≡ v = answered v (ap computed_values g) in
      let z = present-fits asked 1024 (ap (λ (v : Values). v.present) y) in
      let size : l ≡ length (bytes_for (result_of access asked)) = ap (λ (v : Values). v.length) (sym y) ∙ z.0 in
      let bytes = bytes_for (result_of access asked) in
      let o : out₁ ≡ written v bytes out =
      h.buffer ∙ ap (λ (a : Asked). out_of a out) asked_is ∙ ap (λ (v : Values). written v bytes out) (ap (compute_of asked) room ∙ y) in
      let u : part 0 l out₁ ≡ bytes = rw o (take_at bytes (drop (length bytes) out) l (sym size)) in
      rw y (refl, t ∙ ap (λ (v : List ℕ). put_at (slot_at i) (slot_for (some v)) w) u)

  -- no list
  pub rework-absent : (w₁ : List ℕ) → r ≡ Ok None → w₁ ≡ put_at (slot_at i) (slot_for none) w → (Ok tt ≡ worked_out (rework i w)) × (w₁ ≡ or_else w (rework i w))
  unfolding rework computed laid worked_out or_else
  rework-absent w₁ g t = rw (answered (done 0 0 0 0) (ap computed_values g)) (refl, t)

  -- a refusal: its number isn't 0
  pub rework-refused : (f : Fault) → r ≡ Err f → (Err Why.Room ≡ worked_out (rework i w)) × (w ≡ or_else w (rework i w))
  unfolding rework computed laid worked_out or_else
  rework-refused f g = rw (answered (refused (number_of f.why) f.list f.at) (ap computed_values g), refusal-number f.why) (refl, refl)

-- ---- all objects

pub chosen : (r : List ℕ) (o : Option (List ℕ)) (r₁ : List ℕ) → worked_out o ≡ Ok tt → r₁ ≡ or_else r o → o ≡ some r₁
unfolding worked_out or_else
chosen r none r₁ t f = let z : ◌≡◌ {A = ℕ} 0 1 = cc in absurd (omega arith)
chosen r (some x) r₁ t f = ap some (sym f)

pub not_there : (o : Option (List ℕ)) (k : Refusal) → worked_out o ≡ Err k → (o ≡ none) × (k ≡ Why.Room)
unfolding worked_out
not_there none k t = (refl, cc)
not_there (some x) k t = let z : ◌≡◌ {A = ℕ} 0 1 = cc in absurd (omega arith)

-- a refusal stays one
refused-more : (n k : ℕ) (r : List ℕ) → reworked n r ≡ none → reworked (n + k) r ≡ none
unfolding reworked bind
refused-more n zero r e = rw add-zero e
refused-more n (suc k) r e = rw add-suc (rw (refused-more n k r e) refl)

-- a turn of the loop
pub turn-some : (i : ℕ) (r₀ r r₁ : List ℕ) → reworked i r₀ ≡ some r → worked_out (rework i r) ≡ Ok tt → r₁ ≡ or_else r (rework i r) → reworked (i + 1) r₀ ≡ some r₁
unfolding reworked bind
turn-some i r₀ r r₁ e t f = rw (add-one, e) (chosen r (rework i r) r₁ t f)

-- what a function answers whose definition may be none: whether it is there, and then what it leaves
abbrev pub Gives : Result Unit Refusal → Option (List ℕ) → List ℕ → Type 0
Gives a o w = (a ≡ worked_out o) × ((a ≡ Ok tt → o ≡ some w))

pub gives_none : (o : Option (List ℕ)) (w : List ℕ) (a : Result Unit Refusal) → o ≡ none → a ≡ Err Why.Room → Gives a o w
unfolding worked_out
gives_none o w a e f = (f ∙ rw e refl, λ q. let z : ◌≡◌ {A = ℕ} 0 1 = cc in absurd (omega arith))

pub gives-some : (o : Option (List ℕ)) (w : List ℕ) → o ≡ some w → Gives (Ok tt) o w
unfolding worked_out
gives-some o w e = (rw e refl, λ z. e)

pub turn-none : (n i : ℕ) (r₀ r w : List ℕ) (a : Result Unit Refusal) (k : Refusal) → i < n → reworked i r₀ ≡ some r → worked_out (rework i r) ≡ Err k → a ≡ Err k
    → Gives a (reworked n r₀) w
unfolding reworked bind
turn-none n i r₀ r w a k h e f q =
    let t = not_there (rework i r) k f in
    let g : reworked (suc i) r₀ ≡ none = rw e t.0 in
    let m : n ≡ suc i + (n - suc i) = omega arith in
    gives_none (reworked n r₀) w a (rw m (refused-more (suc i) (n - suc i) r₀ g)) (q ∙ ap Err t.1)

pub turns-done : (n i : ℕ) (r₀ r : List ℕ) → i ≡ n → reworked i r₀ ≡ some r → Gives (Ok tt) (reworked n r₀) r
turns-done n i r₀ r q e = gives-some (reworked n r₀) r (rw (← q) e)

pub none_made : (r : List ℕ) → reworked 0 r ≡ some r
unfolding reworked
none_made r = refl
