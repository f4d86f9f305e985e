-- The table of names, from its bytes and back: a table that is well made is at most 32 records laid end to end, each name once; and such records are one.
use mathlib.Core.Path.{◌≡◌, refl, sym, ap, ap₂, subst, ◌∙◌}
use mathlib.Core.Bool.{Bool, true, false, cond, ◌&&◌, ◌||◌}
use mathlib.Core.List.{List, [], ◌∷◌, ◌++◌, append_assoc}
use mathlib.Core.Option.{Option, none, some, none-ne-some}
use Prim.Native.Nat.{ℕ, zero, suc, ◌+◌, ◌%◌, ◌^◌, ◌≤◌, ◌<◌}
use native.Mathlib.Omega.{arith}
use lib.ListN.{length, take, drop, length-drop, length-append, take-append-drop}
use lib.Seq.{length-take-le, take_at, drop_at, drop-drop}
use lib.Dec.{eqb, leb, ltb}
use borrow.Author.Tests.{eq-eqb, ne_eqb, le-leb, lt-ltb, ltb-true, leb-true, eqb-true}
use Rattle.octets.specs.Bytes.{Bytes, le, spell, same_bytes}
use Rattle.octets.proofs.Little.{le-append, le-spell, length-spell, le-lt, spell-le, bytes_drop}
use Rattle.octets.proofs.Same.{same_true, same_refl, same-yes, same-no}
use Rattle.octets.proofs.Tests.{both_true, off}
use Rattle.condition.specs.Token.{name_ok}
use Rattle.condition.specs.Table.{Attribute, record_long, record_at, records_in, attributes_of, value_in, missing, well_made, table_ok}
use Rattle.condition.proofs.Records.{long-empty, records-none, records-more}

-- ---- lists of attributes

-- how many bytes their records have
unfoldable pub bytes_in : List Attribute → ℕ
bytes_in [] = 0
bytes_in (a ∷ rest) = 10 + length a.name + bytes_in rest

-- each name stands once: in no later one
abbrev pub Once : List Attribute → Type 0
Once [] = Unit
Once (a ∷ rest) = (value_in rest a.name ≡ none) × Once rest

-- each of them is so
abbrev pub Each : (Attribute → Type 0) → List Attribute → Type 0
Each P [] = Unit
Each P (a ∷ rest) = P a × Each P rest

-- an even length, not 0
pub record Named (a : Attribute) : Type 0 where
  pub even : length a.name % 2 ≡ 0
  pub some : 0 < length a.name

-- of one of them, behind xs
pub each_at : (P : Attribute → Type 0) (xs : List Attribute) (a : Attribute) (ys : List Attribute) → Each P (xs ++ (a ∷ ys)) → P a
each_at P [] a ys h = h.0
each_at P (x ∷ xs) a ys h = each_at P xs a ys h.1

-- its name stands in none behind it
pub once-at : (xs : List Attribute) (a : Attribute) (ys : List Attribute) → Once (xs ++ (a ∷ ys)) → value_in ys a.name ≡ none
once-at [] a ys h = h.0
once-at (x ∷ xs) a ys h = once-at xs a ys h.1

-- so its value is the one that is found
pub once-value : (xs : List Attribute) (a : Attribute) (ys : List Attribute) → Once (xs ++ (a ∷ ys)) → value_in (xs ++ (a ∷ ys)) a.name ≡ some a.value
unfolding value_in
once-value [] a ys h = rw (same_refl a.name)
once-value (x ∷ xs) a ys h = by (same_bytes x.name a.name) refl (once-value xs a ys h.1)
  where
    by : (b : Bool) → same_bytes x.name a.name ≡ b → value_in (xs ++ (a ∷ ys)) a.name ≡ some a.value
        → cond b (some x.value) (value_in (xs ++ (a ∷ ys)) a.name) ≡ some a.value
    by true e found =
        let z = ap (value_in (xs ++ (a ∷ ys))) (sym (same_true x.name a.name e)) ∙ h.0 in
        absurd (none-ne-some a.value (sym z ∙ found))
    by false e found = found

-- no two names are the same
abbrev pub Different : List Attribute → Type 0
Different [] = Unit
Different (a ∷ rest) = Each (λ b. b.name ≡ a.name → ⊥) rest × Different rest

-- a name that is found nowhere is none of theirs
differ-none : (n : List ℕ) (l : List Attribute) → value_in l n ≡ none → Each (λ b. b.name ≡ n → ⊥) l
unfolding value_in
differ-none n [] h = tt
differ-none n (b ∷ l) h = by (same_bytes b.name n) refl h (differ-none n l)
  where
    by : (c : Bool) → same_bytes b.name n ≡ c → cond c (some b.value) (value_in l n) ≡ none → (value_in l n ≡ none → Each (λ b. b.name ≡ n → ⊥) l)
        → (b.name ≡ n → ⊥) × Each (λ b. b.name ≡ n → ⊥) l
    by true e g again = absurd (none-ne-some b.value (sym g))
    by false e g again = ((λ q. off (same-yes b.name n q) e), again g)

-- and back
none_differ : (n : List ℕ) (l : List Attribute) → Each (λ b. b.name ≡ n → ⊥) l → value_in l n ≡ none
unfolding value_in
none_differ n [] h = refl
none_differ n (b ∷ l) h = rw (same-no b.name n h.0) (none_differ n l h.1)

-- each stands once where no two are the same, and only there
pub once-different : (l : List Attribute) → Once l → Different l
once-different [] h = tt
once-different (a ∷ l) h = (differ-none a.name l h.0, once-different l h.1)

-- and back
pub different-once : (l : List Attribute) → Different l → Once l
different-once [] h = tt
different-once (a ∷ l) h = (none_differ a.name l h.0, different-once l h.1)

-- ---- one record

-- a record that lies at the front: its length, and all its bytes
pub record Whole (t : List ℕ) : Type 0 where
  pub long : record_long t ≡ 10 + le 2 t
  pub inside : 10 + le 2 t ≤ length t
  pub name-long : length (record_at t).name ≡ le 2 t
  pub named : Named (record_at t)

-- a record's name is as long as its length says
name-length : (t : List ℕ) → 10 + le 2 t ≤ length t → length (take (le 2 t) (drop 2 t)) ≡ le 2 t
name-length t h = length-take-le (le 2 t) (drop 2 t) (omega (arith, length-drop 2 t))

-- one lies there where its length is found
pub whole : (t : List ℕ) → 0 < record_long t → Whole t
unfolding record_long name_ok
whole t h = by (name_ok (le 2 t)) (leb (10 + le 2 t) (length t)) refl refl h
  where
    by : (x y : Bool) → name_ok (le 2 t) ≡ x → leb (10 + le 2 t) (length t) ≡ y → 0 < cond (x && y) (10 + le 2 t) 0 → Whole t
    by true true e f l =
        let i = leb-true (10 + le 2 t) (length t) f in
        let k = name-length t i in
        let n = both_true (ltb 0 (le 2 t)) (eqb (le 2 t % 2) 0) e in
        record {
          long = rw (e, f);
          inside = i;
          name-long = k;
          named = record { even = rw k (eqb-true (le 2 t % 2) 0 n.1); some = rw k (ltb-true 0 (le 2 t) n.0) };
        }
    by true false e f l = absurd (omega arith)
    by false y e f l = absurd (omega arith)

-- ---- a table that is well made

-- no number is found
missing-none : (o : Option ℕ) → missing o ≡ true → o ≡ none
unfolding missing
missing-none none h = refl
missing-none (some w) h = let z : ◌≡◌ {A = ℕ} 0 1 = cc in absurd (omega arith)

-- what holds of no bytes, and with a record of a new name before bytes of which it holds, holds of all that is well made
module _ (P : ℕ → List ℕ → Type 0)
    (nothing : (n : ℕ) (t : List ℕ) → length t ≡ 0 → P n t)
    (more : (n : ℕ) (t : List ℕ) → 0 < record_long t → value_in (attributes_of (drop (record_long t) t)) (record_at t).name ≡ none → P n (drop (record_long t) t) → P (suc n) t) where
  pub by-records : (n : ℕ) (t : List ℕ) → well_made n t ≡ true → P n t
  unfolding well_made
  by-records zero t h = nothing zero t (eqb-true (length t) 0 h)
  by-records (suc n) t h = by (eqb (length t) 0) refl h (by-records n (drop (record_long t) t))
    where
      by : (b : Bool) → eqb (length t) 0 ≡ b
          → (b || (ltb 0 (record_long t) && (missing (value_in (attributes_of (drop (record_long t) t)) (record_at t).name) && well_made n (drop (record_long t) t)))) ≡ true
          → (well_made n (drop (record_long t) t) ≡ true → P n (drop (record_long t) t)) → P (suc n) t
      by true z e again = nothing (suc n) t (eqb-true (length t) 0 z)
      by false z e again =
          let p = both_true (ltb 0 (record_long t)) _ e in
          let q = both_true (missing (value_in (attributes_of (drop (record_long t) t)) (record_at t).name)) _ p.1 in
          more n t (ltb-true 0 (record_long t) p.0) (missing-none _ q.0) (again q.1)

-- at most n records fill the bytes t, each name once, each of an even length that isn't 0
pub record Laid (n : ℕ) (t : List ℕ) : Type 0 where
  pub few : length (attributes_of t) ≤ n
  pub fill : bytes_in (attributes_of t) ≡ length t
  pub once : Once (attributes_of t)
  pub named : Each Named (attributes_of t)

-- no bytes are laid so
laid_none : (n : ℕ) (t : List ℕ) → length t ≡ 0 → Laid n t
unfolding bytes_in
laid_none n t z =
    let e = sym (records-none t (long-empty t z)) in
    record {
      few = subst (λ (l : List Attribute). length l ≤ n) e (omega arith);
      fill = subst (λ (l : List Attribute). bytes_in l ≡ length t) e (omega arith);
      once = subst Once e tt;
      named = subst (Each Named) e tt;
    }

-- and a record of a new name before what is laid so
laid_more : (n : ℕ) (t : List ℕ) → 0 < record_long t → value_in (attributes_of (drop (record_long t) t)) (record_at t).name ≡ none → Laid n (drop (record_long t) t) → Laid (suc n) t
unfolding bytes_in
laid_more n t l f r =
    let e = sym (records-more t l) in
    let w = whole t l in
    record {
      few = subst (λ (l : List Attribute). length l ≤ suc n) e (omega (arith, r.few));
      fill = subst (λ (l : List Attribute). bytes_in l ≡ length t) e (omega (arith, r.fill, w.long, w.inside, w.name-long, length-drop (record_long t) t));
      once = subst Once e (f, r.once);
      named = subst (Each Named) e (w.named, r.named);
    }

-- what is well made is laid so
pub laid : (n : ℕ) (t : List ℕ) → well_made n t ≡ true → Laid n t
laid = by-records Laid laid_none laid_more

module _ (t : List ℕ) (h : table_ok t ≡ true) where
  -- at most 32 names
  pub few-names : length (attributes_of t) ≤ 32
  few-names = (laid 32 t h).few

  -- the records fill the bytes
  pub records-fill : bytes_in (attributes_of t) ≡ length t
  records-fill = (laid 32 t h).fill

  -- no two names are the same
  pub names-differ : Different (attributes_of t)
  names-differ = once-different (attributes_of t) (laid 32 t h).once

  module _ (xs : List Attribute) (a : Attribute) (ys : List Attribute) (e : attributes_of t ≡ xs ++ (a ∷ ys)) where
    -- each name stands once
    pub name-once : value_in ys a.name ≡ none
    name-once = once-at xs a ys (subst Once e (laid 32 t h).once)

    -- and its value is the one that is found
    pub value-of-name : value_in (attributes_of t) a.name ≡ some a.value
    value-of-name = ap (λ (l : List Attribute). value_in l a.name) e ∙ once-value xs a ys (subst Once e (laid 32 t h).once)

    -- a name's length is even
    pub name-even : length a.name % 2 ≡ 0
    name-even = (each_at Named xs a ys (subst (Each Named) e (laid 32 t h).named)).even

    -- and not 0
    pub name-some : 0 < length a.name
    name-some = (each_at Named xs a ys (subst (Each Named) e (laid 32 t h).named)).some

-- an empty table is well made
pub empty-table : table_ok [] ≡ true
unfolding well_made
empty-table = refl

-- and knows no name
pub empty-knows-none : (n : List ℕ) → value_in (attributes_of []) n ≡ none
unfolding attributes_of records_in value_in
empty-knows-none n = refl

-- ---- and back: records laid end to end

-- a name that a record can hold, and a number of 64 bits
pub record Fits (a : Attribute) : Type 0 where
  pub named : Named a
  pub short : length a.name < 256 ^ 2
  pub number : a.value < 256 ^ 8

-- its bytes: the length, the name, the number
unfoldable pub record_bytes : Attribute → List ℕ
record_bytes a = spell 2 (length a.name) ++ (a.name ++ spell 8 a.value)

-- those of all, one after the other
unfoldable pub table_bytes : List Attribute → List ℕ
table_bytes [] = []
table_bytes (a ∷ rest) = record_bytes a ++ table_bytes rest

-- a name and a number
attribute : List ℕ → ℕ → Attribute
attribute n v = record { name = n; value = v }

module _ (a : Attribute) (f : Fits a) (r : List ℕ) where
  -- a record's bytes, and those behind it
  whole-bytes : List ℕ
  whole-bytes = spell 2 (length a.name) ++ (a.name ++ (spell 8 a.value ++ r))

  -- the same in other parentheses
  bytes-are : record_bytes a ++ r ≡ whole-bytes
  unfolding record_bytes whole-bytes
  bytes-are = simp append_assoc

  -- how many they are
  bytes-long : length whole-bytes ≡ 10 + length a.name + length r
  unfolding whole-bytes
  bytes-long = simp (length-append, length-spell) (omega arith)

  -- the length that stands at the front
  long-is : le 2 whole-bytes ≡ length a.name
  unfolding whole-bytes
  long-is = le-append 2 (spell 2 (length a.name)) _ (omega (arith, length-spell 2 (length a.name))) ∙ le-spell 2 (length a.name) f.short

  -- is a name's length
  name-ok : name_ok (length a.name) ≡ true
  unfolding name_ok
  name-ok = rw (lt-ltb 0 (length a.name) f.named.some, eq-eqb (length a.name % 2) 0 f.named.even)

  -- so the record is whole
  record-long : record_long whole-bytes ≡ 10 + length a.name
  unfolding record_long
  record-long = rw (long-is, name-ok, le-leb (10 + length a.name) (length whole-bytes) (omega (arith, bytes-long)))

  -- behind the length, behind the name, behind the record
  behind-length : drop 2 whole-bytes ≡ a.name ++ (spell 8 a.value ++ r)
  unfolding whole-bytes
  behind-length = drop_at (spell 2 (length a.name)) _ 2 (length-spell 2 (length a.name))

  behind-name : drop (2 + length a.name) whole-bytes ≡ spell 8 a.value ++ r
  behind-name = sym (drop-drop (length a.name) 2 whole-bytes) ∙ ap (drop (length a.name)) behind-length ∙ drop_at a.name _ (length a.name) refl

  behind-record : drop (10 + length a.name) whole-bytes ≡ r
  behind-record =
      let e : 10 + length a.name ≡ 2 + length a.name + 8 = omega arith in
      ap (λ (k : ℕ). drop k whole-bytes) e
      ∙ sym (drop-drop 8 (2 + length a.name) whole-bytes)
      ∙ ap (drop 8) behind-name
      ∙ drop_at (spell 8 a.value) r 8 (length-spell 8 a.value)

  -- its name and its number are found again
  name-there : (record_at whole-bytes).name ≡ a.name
  name-there = ap (λ (k : ℕ). take k (drop 2 whole-bytes)) long-is ∙ ap (take (length a.name)) behind-length ∙ take_at a.name _ (length a.name) refl

  value_there : (record_at whole-bytes).value ≡ a.value
  value_there =
      ap (λ (k : ℕ). le 8 (drop (2 + k) whole-bytes)) long-is
      ∙ ap (le 8) behind-name
      ∙ le-append 8 (spell 8 a.value) r (omega (arith, length-spell 8 a.value))
      ∙ le-spell 8 a.value f.number

  record-there : record_at whole-bytes ≡ a
  unfolding attribute
  record-there = ap₂ attribute name-there value_there

  -- it lies there, and the others behind it
  rest-there : drop (record_long whole-bytes) whole-bytes ≡ r
  rest-there = ap (λ (k : ℕ). drop k whole-bytes) record-long ∙ behind-record

  -- some bytes are the record's
  some-long : 0 < record_long whole-bytes
  some-long = omega (arith, record-long)

  -- the record is read, and then those behind it
  attributes-more : attributes_of (record_bytes a ++ r) ≡ a ∷ attributes_of r
  attributes-more =
      ap attributes_of bytes-are
      ∙ records-more whole-bytes some-long
      ∙ ap₂ (λ (x : Attribute) (l : List ℕ). x ∷ attributes_of l) record-there rest-there

  -- it is well made with what is behind it, where its name is new
  made_more : (n : ℕ) → well_made (suc n) (record_bytes a ++ r) ≡ (missing (value_in (attributes_of r) a.name) && well_made n r)
  unfolding well_made
  made_more n =
      rw bytes-are
      (rw (ne_eqb (length whole-bytes) 0 (λ z. omega (arith, bytes-long)), lt-ltb 0 (record_long whole-bytes) some-long, rest-there, name-there))

-- records laid end to end are read as those records
pub records-read : (all : List Attribute) → Each Fits all → attributes_of (table_bytes all) ≡ all
unfolding table_bytes attributes_of records_in
records-read [] h = refl
records-read (a ∷ rest) h = attributes-more a h.0 (table_bytes rest) ∙ ap (λ (l : List Attribute). a ∷ l) (records-read rest h.1)

-- at most n of them, each name once, are well made
records-made : (n : ℕ) (all : List Attribute) → Each Fits all → Once all → length all ≤ n → well_made n (table_bytes all) ≡ true
unfolding table_bytes well_made missing
records-made zero [] h o l = refl
records-made (suc n) [] h o l = refl
records-made zero (a ∷ rest) h o l = absurd (omega arith)
records-made (suc n) (a ∷ rest) h o l =
    made_more a h.0 (table_bytes rest) n ∙ rw (records-read rest h.1, o.0) (records-made n rest h.1 o.1 (omega arith))

-- at most 32 of them, no two names the same, are a table that is well made
pub table-made : (all : List Attribute) → Each Fits all → Different all → length all ≤ 32 → table_ok (table_bytes all) ≡ true
table-made all h o l = records-made 32 all h (different-once all o) l

-- ---- no other bytes are well made

-- a record of bytes is as it should be
record-fits : (t : List ℕ) → Bytes t → 0 < record_long t → Fits (record_at t)
record-fits t d l =
    let w = whole t l in
    record { named = w.named; short = rw w.name-long (le-lt 2 t d); number = le-lt 8 (drop (2 + le 2 t) t) (bytes_drop (2 + le 2 t) t d) }

-- a record's bytes are those that it was read from
record_same : (t : List ℕ) → Bytes t → 0 < record_long t → record_bytes (record_at t) ++ drop (record_long t) t ≡ t
unfolding record_bytes
record_same t d l =
    let w = whole t l in
    let n = le 2 t in
    let u = drop (2 + n) t in
    let i = w.inside in
    let front : spell 2 (length (record_at t).name) ≡ take 2 t = ap (spell 2) w.name-long ∙ spell-le 2 t (omega arith) d in
    let back : spell 8 (le 8 u) ≡ take 8 u = spell-le 8 u (omega (arith, length-drop (2 + n) t)) (bytes_drop (2 + n) t d) in
    let k : record_long t ≡ 2 + n + 8 = omega (arith, w.long) in
    let rest : drop (record_long t) t ≡ drop 8 u = ap (λ (m : ℕ). drop m t) k ∙ sym (drop-drop 8 (2 + n) t) in
    append_assoc (spell 2 (length (record_at t).name)) (take n (drop 2 t) ++ spell 8 (le 8 u)) (drop (record_long t) t)
    ∙ ap₂ (λ (x y : List ℕ). x ++ y) front
    (append_assoc (take n (drop 2 t)) (spell 8 (le 8 u)) (drop (record_long t) t)
    ∙ ap (λ (y : List ℕ). take n (drop 2 t) ++ y)
    (ap₂ (λ (x y : List ℕ). x ++ y) back rest ∙ take-append-drop 8 u ∙ sym (drop-drop n 2 t))
    ∙ take-append-drop n (drop 2 t))
    ∙ take-append-drop 2 t

-- the records that bytes were made of
pub record Made (t : List ℕ) : Type 0 where
  pub each : Each Fits (attributes_of t)
  pub same : table_bytes (attributes_of t) ≡ t

-- no bytes are made of no records
made_none : (n : ℕ) (t : List ℕ) → length t ≡ 0 → Bytes t → Made t
unfolding table_bytes
made_none n [] z d = let e = sym (records-none [] (long-empty [] z)) in record { each = subst (Each Fits) e tt; same = ap table_bytes (sym e) }
made_none n (b ∷ t) z d = absurd (omega arith)

-- a record before bytes that are made of records
made_some : (n : ℕ) (t : List ℕ) → 0 < record_long t → value_in (attributes_of (drop (record_long t) t)) (record_at t).name ≡ none
    → (Bytes (drop (record_long t) t) → Made (drop (record_long t) t)) → Bytes t → Made t
unfolding table_bytes
made_some n t l f again d =
    let e = sym (records-more t l) in
    let r = again (bytes_drop (record_long t) t d) in
    record {
      each = subst (Each Fits) e (record-fits t d l, r.each);
      same = ap table_bytes (sym e) ∙ ap (λ (y : List ℕ). record_bytes (record_at t) ++ y) r.same ∙ record_same t d l;
    }

-- bytes that are well made are records laid end to end, each as it should be
pub table_is : (t : List ℕ) → Bytes t → table_ok t ≡ true → Made t
table_is t d h = by-records (λ n s. Bytes s → Made s) made_none made_some 32 t h d
