-- The records of a table: one after the other, however they are counted; how the code finds a name in them, and tells whether each name stands once.
use mathlib.Core.Path.{◌≡◌, refl, sym, ap, ap₂, ◌∙◌}
use mathlib.Core.Bool.{Bool, true, false, cond, not, ◌&&◌, or-false}
use mathlib.Core.List.{List, [], ◌∷◌}
use mathlib.Core.Option.{Option, none, some}
use Prim.Native.Nat.{ℕ, zero, suc, ◌+◌, ◌-◌, ◌%◌, ◌≤◌, ◌<◌}
use native.Mathlib.Omega.{arith}
use lib.ListN.{length, take, drop, length-drop}
use lib.Dec.{eqb, leb, ltb}
use borrow.Author.Tests.{ne_eqb, lt-ltb, le-ltb, eqb-true, leb-true, ltb-true}
use Rattle.std.proofs.Common.{Some, None, is_some}
use Rattle.octets.specs.Absent.{unless_zero}
use Rattle.octets.proofs.Absent.{some-unless_zero, none-unless_zero}
use Rattle.octets.specs.Bytes.{le, same_bytes}
use Rattle.octets.proofs.Places.{split, rest-is}
use Rattle.octets.proofs.Tests.{both_true, false-or}
use Rattle.condition.specs.Token.{name_ok}
use Rattle.condition.specs.Inner.Cells.{found_by}
use Rattle.condition.specs.Table.{Attribute, record_long, record_at, records_in, attributes_of, value_in, missing, well_made}

-- ---- one record

abbrev whole : List ℕ → Bool
whole t = name_ok (le 2 t) && leb (10 + le 2 t) (length t)

long-whole : (t : List ℕ) → whole t ≡ true → record_long t ≡ 10 + le 2 t
unfolding record_long
long-whole t e = rw e

long-none : (t : List ℕ) → whole t ≡ false → record_long t ≡ 0
unfolding record_long
long-none t e = rw e

-- no bytes, no record
pub long-empty : (t : List ℕ) → length t ≡ 0 → record_long t ≡ 0
long-empty t z = long-none t (false-or (whole t) (λ w. absurd (omega (arith, leb-true (10 + le 2 t) (length t) (both_true (name_ok (le 2 t)) _ w).1))))

-- a name has two bytes at least
name-two : (n : ℕ) → name_ok n ≡ true → 2 ≤ n
unfolding name_ok
name-two n h = let b = both_true (ltb 0 n) (eqb (n % 2) 0) h in omega (arith, ltb-true 0 n b.0, eqb-true (n % 2) 0 b.1)

-- a record of so many bytes lies at the front
pub record Lies (t : List ℕ) (long : ℕ) : Type 0 where
  pub is : long ≡ record_long t
  pub made : long ≡ 10 + le 2 t
  pub named : 2 ≤ le 2 t
  pub inside : long ≤ length t

lies : (t : List ℕ) (long : ℕ) → long ≡ record_long t → 0 < long → Lies t long
lies t long e p = by (whole t) refl
  where
    by : (b : Bool) → whole t ≡ b → Lies t long
    by true w =
        let m : long ≡ 10 + le 2 t = e ∙ long-whole t w in
        let b = both_true (name_ok (le 2 t)) (leb (10 + le 2 t) (length t)) w in
        let i = leb-true (10 + le 2 t) (length t) b.1 in
        record { is = e; made = m; named = name-two (le 2 t) b.0; inside = omega arith }
    by false w = absurd (omega (arith, e, long-none t w))

-- what the code finds where it looks for one
pub lies-there : (t : List ℕ) (long : ℕ) → Some long ≡ unless_zero (record_long t) → Lies t long
lies-there t long h = let e = some-unless_zero (record_long t) long (sym h) in lies t long (sym e.0) e.1

-- ---- one after the other

in-none : (n : ℕ) (t : List ℕ) → record_long t ≡ 0 → records_in n t ≡ []
unfolding records_in
in-none zero t e = refl
in-none (suc n) t e = rw (le-ltb 0 (record_long t) (omega arith))

in-more : (n : ℕ) (t : List ℕ) → 0 < record_long t → records_in (suc n) t ≡ record_at t ∷ records_in n (drop (record_long t) t)
unfolding records_in
in-more n t p = rw (lt-ltb 0 (record_long t))

-- so many bytes, so many records at the most
enough : (n m : ℕ) (t : List ℕ) → length t ≤ n → length t ≤ m → records_in n t ≡ records_in m t
enough zero m t p q = let e = long-empty t (omega arith) in in-none zero t e ∙ sym (in-none m t e)
enough (suc n) zero t p q = let e = long-empty t (omega arith) in in-none (suc n) t e ∙ sym (in-none zero t e)
enough (suc n) (suc m) t p q =
    split (record_long t) 0 (λ l. let e : record_long t ≡ 0 = omega arith in in-none (suc n) t e ∙ sym (in-none (suc m) t e))
    (λ l.
    let i = lies t (record_long t) refl l in
    let d = length-drop (record_long t) t in
    in-more n t l
    ∙ ap (λ (r : List Attribute). record_at t ∷ r) (enough n m (drop (record_long t) t) (omega (arith, i.made, d)) (omega (arith, i.made, d)))
    ∙ sym (in-more m t l))

pub records-none : (t : List ℕ) → record_long t ≡ 0 → attributes_of t ≡ []
unfolding attributes_of
records-none t e = in-none (length t) t e

pub records-more : (t : List ℕ) → 0 < record_long t → attributes_of t ≡ record_at t ∷ attributes_of (drop (record_long t) t)
unfolding attributes_of
records-more t p =
    let r = drop (record_long t) t in
    enough (length t) (suc (length t)) t (omega arith) (omega arith)
    ∙ in-more (length t) t p
    ∙ ap (λ (x : List Attribute). record_at t ∷ x) (enough (length t) (length r) r (omega (arith, length-drop (record_long t) t)) (omega arith))

-- ---- a record, its name, its number and the bytes behind it, as the code takes them

abbrev pub named_in : List ℕ → ℕ → List ℕ
named_in t long = take (long - 8 - 2) (drop 2 t)

abbrev pub valued_in : List ℕ → ℕ → List ℕ
valued_in t long = take (length t - (long - 8)) (drop (long - 8) t)

abbrev pub behind : List ℕ → ℕ → List ℕ
behind t long = take (length t - long) (drop long t)

module _ (t : List ℕ) (long : ℕ) (i : Lies t long) where
  name-is : named_in t long ≡ (record_at t).name
  name-is = let n : long - 8 - 2 ≡ le 2 t = omega (arith, i.made) in ap (λ (k : ℕ). take k (drop 2 t)) n

  value-is : le 8 (valued_in t long) ≡ (record_at t).value
  value-is = let n : long - 8 ≡ 2 + le 2 t = omega (arith, i.made) in ap (le 8) (rest-is t (long - 8) ∙ ap (λ (k : ℕ). drop k t) n)

  behind-is : drop (record_long t) t ≡ behind t long
  behind-is = ap (λ (k : ℕ). drop k t) (sym i.is) ∙ sym (rest-is t long)

-- ---- finding a name

-- where no record lies, no name stands
pub found-nothing : (t name : List ℕ) → None ≡ unless_zero (record_long t) → value_in (attributes_of t) name ≡ none
unfolding value_in
found-nothing t name h = rw (records-none t (none-unless_zero (record_long t) (sym h)))

module _ (t name : List ℕ) (long : ℕ) (i : Lies t long) where
  value-there : value_in (attributes_of t) name ≡ cond (same_bytes (named_in t long) name) (some (le 8 (valued_in t long))) (value_in (attributes_of (behind t long)) name)
  unfolding value_in
  value-there =
      ap (λ (r : List Attribute). value_in r name) (records-more t (omega (arith, i.is, i.made)))
      ∙ ap₂ (λ (m : List ℕ) (v : ℕ). cond (same_bytes m name) (some v) (value_in (attributes_of (drop (record_long t) t)) name)) (sym (name-is t long i)) (sym (value-is t long i))
      ∙ ap (λ (r : List ℕ). cond (same_bytes (named_in t long) name) (some (le 8 (valued_in t long))) (value_in (attributes_of r) name)) (behind-is t long i)

  pub found-here : same_bytes (named_in t long) name ≡ true → value_in (attributes_of t) name ≡ some (le 8 (valued_in t long))
  found-here e = value-there ∙ rw e

  pub found-behind : same_bytes (named_in t long) name ≡ false → value_in (attributes_of t) name ≡ value_in (attributes_of (behind t long)) name
  found-behind e = value-there ∙ rw e

-- what is found tells whether it is missing
found_missing : (o : Option ℕ) → not (is_some (found_by o)) ≡ missing o
unfolding found_by missing
found_missing none = refl
found_missing (some w) = refl

-- ---- each name once

-- no more records may follow, or none lies there: only no bytes are well made
pub made-end : (t : List ℕ) → well_made 0 t ≡ eqb (length t) 0
unfolding well_made
made-end t = refl

pub made-stop : (n : ℕ) (t : List ℕ) → None ≡ unless_zero (record_long t) → well_made n t ≡ eqb (length t) 0
unfolding well_made
made-stop zero t h = refl
made-stop (suc n) t h = rw (none-unless_zero (record_long t) (sym h)) (or-false (eqb (length t) 0))

-- a name that stands in no later record, as the code looks for it
module _ (n : ℕ) (t : List ℕ) (long : ℕ) (i : Lies t long) (r : Bool) (e : r ≡ is_some (found_by (value_in (attributes_of (behind t long)) (named_in t long)))) where
  made-here : well_made (suc n) t ≡ (not r && well_made n (behind t long))
  unfolding well_made
  made-here =
      let l : 0 < record_long t = omega (arith, i.is, i.made) in
      let k : missing (value_in (attributes_of (behind t long)) (record_at t).name) ≡ not r =
      ap (λ (m : List ℕ). missing (value_in (attributes_of (behind t long)) m)) (sym (name-is t long i))
      ∙ sym (found_missing (value_in (attributes_of (behind t long)) (named_in t long)))
      ∙ ap not (sym e) in
      rw (ne_eqb (length t) 0 (λ z. omega (arith, i.inside, i.made)), lt-ltb 0 (record_long t) l, behind-is t long i, k)

  pub made-twice : r ≡ true → well_made (suc n) t ≡ false
  made-twice h = made-here ∙ rw h

  pub made-behind : r ≡ false → well_made (suc n) t ≡ well_made n (behind t long)
  made-behind h = made-here ∙ rw h
