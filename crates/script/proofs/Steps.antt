-- Laws of one record: how long it is, when it is cut, bad or whole, and that bytes behind a whole one don't count.
use mathlib.Core.Path.{◌≡◌, refl, sym, ap, ap₂, ◌∙◌}
use mathlib.Core.List.{List, [], ◌∷◌, ◌++◌}
use mathlib.Core.Bool.{Bool, true, false, ◌&&◌}
use Prim.Native.Nat.{ℕ, zero, suc, ◌+◌, ◌≤◌, ◌<◌}
use native.Mathlib.Omega.{arith}
use lib.ListN.{length, get_or, take, drop, length-append, get_or-append}
use lib.Seq.{take-nil}
use lib.Dec.{eqb, leb}
use borrow.Author.Tests.{le-leb, lt-leb}
use native.Mathlib.Decide.{ℕ_discrete}
use Rattle.octets.specs.Bytes.{Bytes, part}
use Rattle.octets.proofs.Little.{bytes_drop, le-lt, le-drop-append}
use Rattle.octets.proofs.Places.{split}
use Rattle.std.specs.Prelude.{Ok, Err}
use Rattle.tree.specs.Shown.{call_on}
use Rattle.script.specs.Fold.{carried}
use Rattle.script.specs.Record.{record_number, name_end, names_end, list_end, flag_ok, record_size, form_ok, asks_by, request_of, record_asks, step_of}
use Rattle.script.specs.declared.records.Flaw.TheVariants.{Cut, Bad}
use Rattle.script.specs.declared.records.Record.{Record}
use Rattle.script.proofs.Tables.{size-1, size-2, size-3, size-4, size-5, form-1, form-2, form-3, form-4, form-5}

-- ---- where names and lists end

pub name-some : (at : ℕ) (t : List ℕ) → at < name_end at t
unfolding name_end
name-some at t = omega arith

pub name-most : (at : ℕ) (t : List ℕ) → Bytes t → name_end at t ≤ at + 256
unfolding name_end
name-most at t h = omega (arith, h at)

pub list-some : (at : ℕ) (t : List ℕ) → at + 2 ≤ list_end at t
unfolding list_end
list-some at t = omega arith

pub list-most : (at : ℕ) (t : List ℕ) → Bytes t → list_end at t ≤ at + 65537
unfolding list_end
list-most at t h = omega (arith, le-lt 2 (drop at t) (bytes_drop at t h))

name-append : (at : ℕ) (t u : List ℕ) → name_end at t ≤ length t → name_end at (t ++ u) ≡ name_end at t
unfolding name_end
name-append at t u h = ap (λ (n : ℕ). at + 1 + n) (get_or-append t u 0 at (omega arith))

names-append : (at : ℕ) (t u : List ℕ) → names_end at t ≤ length t → names_end at (t ++ u) ≡ names_end at t
names-append at t u h =
    ap (λ (n : ℕ). name_end n (t ++ u)) (name-append at t u (omega (arith, name-some (name_end at t) t))) ∙ name-append (name_end at t) t u h

list-append : (at : ℕ) (t u : List ℕ) → list_end at t ≤ length t → list_end at (t ++ u) ≡ list_end at t
unfolding list_end
list-append at t u h = ap (λ (n : ℕ). at + 2 + n) (le-drop-append 2 at t u (omega arith))

-- ---- a record by its number

-- a number is another or not
by_number {ℓ} : {X : Type ℓ} (n k : ℕ) → (n ≡ k → X) → ((n ≡ k → ⊥) → X) → X
by_number n k f g = elim (ℕ_discrete n k) [ yes p ↦ f p | no q ↦ g q ]

-- the five records, and the unknown ones with the fifth
kinds {ℓ} : {X : Type ℓ} (n : ℕ) → (n ≡ 1 → X) → (n ≡ 2 → X) → (n ≡ 3 → X) → (n ≡ 4 → X)
    → ((n ≡ 1 → ⊥) → (n ≡ 2 → ⊥) → (n ≡ 3 → ⊥) → (n ≡ 4 → ⊥) → X) → X
kinds n a b c d o = by_number n 1 a (λ x. by_number n 2 b (λ y. by_number n 3 c (λ z. by_number n 4 d (λ w. o x y z w))))

module _ (t : List ℕ) where
  pub size-some : 1 ≤ record_size t
  size-some =
      kinds (record_number t)
      (λ e. omega (arith, size-1 t e, list-some (names_end 20 t) t))
      (λ e. omega (arith, size-2 t e, list-some 2 t))
      (λ e. omega (arith, size-3 t e))
      (λ e. omega (arith, size-4 t e, name-some (name_end 2 t) t))
      (λ x y z w. omega (arith, size-5 t x y z w))

  -- 24 bytes, two names of 255 and a list of 65,535
  pub size-most : Bytes t → record_size t ≤ 66069
  size-most h =
      kinds (record_number t)
      (λ e. omega (arith, size-1 t e, list-most (names_end 20 t) t h, name-most (name_end 20 t) t h, name-most 20 t h))
      (λ e. omega (arith, size-2 t e, list-most 2 t h))
      (λ e. omega (arith, size-3 t e))
      (λ e. omega (arith, size-4 t e, name-most (name_end 2 t) t h, name-most 2 t h))
      (λ x y z w. omega (arith, size-5 t x y z w))

-- ---- cut, bad or whole

-- a test holds or not
by-test {ℓ} : {X : Type ℓ} (b : Bool) → (b ≡ true → X) → (b ≡ false → X) → X
by-test true f g = f refl
by-test false f g = g refl

-- what two different answers would come to
pub never : ◌≡◌ {A = ℕ} 0 1 → ⊥
never z = omega arith

-- the record that t begins with, where it is whole
abbrev pub record_at : List ℕ → Record
record_at t = record { length = record_size t; asks = asks_by (record_number t) }

module _ (t : List ℕ) where
  -- a record is one of the three, and what that says of its length
  pub by-step {ℓ} : {X : Type ℓ} → (step_of t ≡ Err Cut → length t < record_size t → X) → (step_of t ≡ Err Bad → record_size t ≤ length t → X)
      → (step_of t ≡ Ok (record_at t) → record_size t ≤ length t → X) → X
  unfolding step_of
  by-step cut bad whole =
      split (record_size t) (length t)
      (λ h.
      by-test (form_ok t)
      (λ f. whole (rw (le-leb (record_size t) (length t) h, f)) h)
      (λ f. bad (rw (le-leb (record_size t) (length t) h, f)) h))
      (λ h. cut (rw (lt-leb (record_size t) (length t) h)) h)

  pub step-record : (a : Record) → step_of t ≡ Ok a → (a ≡ record_at t) × (a.length ≤ length t)
  step-record a e =
      by-step (λ f h. absurd (never (cc))) (λ f h. absurd (never (cc))) (λ f h. let q : a ≡ record_at t = cc in (q, rw q h))

  pub record-some : (a : Record) → step_of t ≡ Ok a → 1 ≤ a.length
  record-some a e = rw (step-record a e).0 (size-some t)

  pub step-bad : step_of t ≡ Err Bad → record_size t ≤ length t
  step-bad e = by-step (λ f h. absurd (never (cc))) (λ f h. h) (λ f h. h)

  pub step_cut : step_of t ≡ Err Cut → length t < record_size t
  step_cut e = by-step (λ f h. h) (λ f h. absurd (never (cc))) (λ f h. absurd (never (cc)))

  pub step-short : length t < record_size t → step_of t ≡ Err Cut
  step-short h = by-step (λ f g. f) (λ f g. absurd (omega arith)) (λ f g. absurd (omega arith))

-- ---- bytes behind

module _ (t u : List ℕ) (h : record_size t ≤ length t) where
  byte-append : (i : ℕ) → i < record_size t → get_or (t ++ u) i 0 ≡ get_or t i 0
  byte-append i l = get_or-append t u 0 i (omega arith)

  number_append : record_number (t ++ u) ≡ record_number t
  number_append = byte-append 0 (size-some t)

  behind : {k : ℕ} → (record_number t ≡ k → ⊥) → record_number (t ++ u) ≡ k → ⊥
  behind f e = f (sym number_append ∙ e)

  pub size-append : record_size (t ++ u) ≡ record_size t
  size-append =
      kinds (record_number t)
      (λ e.
      let k = size-1 t e in
      let m : names_end 20 t ≤ length t = omega (arith, list-some (names_end 20 t) t) in
      size-1 (t ++ u) (number_append ∙ e)
      ∙ ap (λ (n : ℕ). list_end n (t ++ u)) (names-append 20 t u m)
      ∙ list-append (names_end 20 t) t u (omega arith)
      ∙ sym k)
      (λ e. let k = size-2 t e in size-2 (t ++ u) (number_append ∙ e) ∙ list-append 2 t u (omega arith) ∙ sym k)
      (λ e. size-3 (t ++ u) (number_append ∙ e) ∙ sym (size-3 t e))
      (λ e. let k = size-4 t e in size-4 (t ++ u) (number_append ∙ e) ∙ names-append 2 t u (omega arith) ∙ sym k)
      (λ x y z w. size-5 (t ++ u) (behind x) (behind y) (behind z) (behind w) ∙ sym (size-5 t x y z w))

  flag-append : (i : ℕ) → i < record_size t → flag_ok i (t ++ u) ≡ flag_ok i t
  flag-append i l = ap (λ (n : ℕ). leb n 1) (byte-append i l)

  pub form-append : form_ok (t ++ u) ≡ form_ok t
  form-append =
      kinds (record_number t)
      (λ e.
      let l : 20 ≤ record_size t = omega (arith, size-1 t e, list-some (names_end 20 t) t, name-some (name_end 20 t) t, name-some 20 t) in
      form-1 (t ++ u) (number_append ∙ e) ∙ ap₂ ◌&&◌ (flag-append 2 (omega arith)) (flag-append 3 (omega arith)) ∙ sym (form-1 t e))
      (λ e. form-2 (t ++ u) (number_append ∙ e) ∙ sym (form-2 t e))
      (λ e. form-3 (t ++ u) (number_append ∙ e) ∙ flag-append 2 (omega (arith, size-3 t e)) ∙ sym (form-3 t e))
      (λ e. form-4 (t ++ u) (number_append ∙ e) ∙ sym (form-4 t e))
      (λ x y z w. form-5 (t ++ u) (behind x) (behind y) (behind z) (behind w) ∙ ap (λ (n : ℕ). eqb n 5) number_append ∙ sym (form-5 t x y z w))

-- a record's own bytes say as much
pub number_own : (t : List ℕ) (n : ℕ) → 1 ≤ n → record_number (take n t) ≡ record_number t
number_own [] n h = ap (λ (s : List ℕ). get_or s 0 0) (take-nil n)
number_own (x ∷ t) zero h = absurd (omega arith)
number_own (x ∷ t) (suc n) h = refl

-- what a whole record asks, by the bytes p that the code hands on
pub asked_own : (t r p : List ℕ) (a : Record) → step_of t ≡ Ok a → p ≡ part 0 a.length t → (call_on (request_of a.asks p) r).bytes ≡ carried a.length t r
unfolding carried record_asks part
asked_own t r p a e h =
    let q = (step-record t a e).0 in
    let l = record-some t a e in
    let k : a.asks ≡ asks_by (record_number (take a.length t)) = ap (λ (x : Record). x.asks) q ∙ ap asks_by (sym (number_own t a.length l)) in
    rw (h, k) refl

-- a record that isn't cut stays what it is
pub step-append : (t u : List ℕ) → (step_of t ≡ Err Cut → ⊥) → step_of (t ++ u) ≡ step_of t
unfolding step_of
step-append t u h =
    split (record_size t) (length t)
    (λ l.
    let m : record_size t ≤ length (t ++ u) = simp length-append (omega arith) in
    rw (size-append t u l, form-append t u l, number_append t u l, le-leb (record_size t) (length (t ++ u)) m, le-leb (record_size t) (length t) l))
    (λ l. absurd (h (step-short t l)))
