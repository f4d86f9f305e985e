-- The table of names (RULES 11.5): records of a 16-bit length, a name of so many bytes, a signed 64-bit number.
use Rattle.std.specs.Prelude.{ℕ, zero, suc, ◌+◌, List, [], ◌∷◌, Bool, true, false, cond, ◌&&◌, ◌||◌, length, take, drop, eqb, leb, ltb}
use Rattle.std.proofs.Math.Option.{Option, none, some}
use Rattle.octets.specs.Bytes.{le, same_bytes}
use Rattle.condition.specs.Token.{name_ok}

-- a name and its number, 64 bits as they lie
pub record Attribute : Type 0 where
  pub name : List ℕ
  pub value : ℕ

-- how many bytes the record has that t begins with; 0 where it is cut, or its length is odd or 0
unfoldable pub record_long : List ℕ → ℕ
record_long t = cond (name_ok (le 2 t) && leb (10 + le 2 t) (length t)) (10 + le 2 t) 0

abbrev pub record_at : List ℕ → Attribute
record_at t = record { name = take (le 2 t) (drop 2 t); value = le 8 (drop (2 + le 2 t) t) }

-- the records that t begins with, one after the other: the first n of them
unfoldable pub records_in : ℕ → List ℕ → List Attribute
records_in zero t = []
records_in (suc n) t = cond (ltb 0 (record_long t)) (record_at t ∷ records_in n (drop (record_long t) t)) []

-- all of them: no more than there are bytes
unfoldable pub attributes_of : List ℕ → List Attribute
attributes_of t = records_in (length t) t

-- the number of a name, none where it is missing
unfoldable pub value_in : List Attribute → List ℕ → Option ℕ
value_in [] n = none
value_in (a ∷ rest) n = cond (same_bytes a.name n) (some a.value) (value_in rest n)

unfoldable pub missing : Option ℕ → Bool
missing none = true
missing (some w) = false

-- at most n records to the end, each name once
unfoldable pub well_made : ℕ → List ℕ → Bool
well_made zero t = eqb (length t) 0
well_made (suc n) t =
    eqb (length t) 0
    || (ltb 0 (record_long t)
    && (missing (value_in (attributes_of (drop (record_long t) t)) (record_at t).name)
    && well_made n (drop (record_long t) t)))

abbrev pub table_ok : List ℕ → Bool
table_ok t = well_made 32 t
