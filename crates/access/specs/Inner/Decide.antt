-- How the code decides: over the entries once, with the mask of the bits not yet decided.
use Rattle.std.specs.Prelude.{ℕ, ◌-◌, List, [], ◌∷◌, Bool, true, false, cond, ◌&&◌, length, get_or, eqb, leb, Option, None, Some, Result, Ok, Err}
use Rattle.std.specs.Int.Bits.{bit_xor, bit_and}
use Rattle.octets.specs.Order.{need}
use Rattle.octets.specs.Bytes.{has}
use Rattle.refusal.specs.declared.Refusal.{Refusal}
use Rattle.refusal.specs.declared.Refusal.TheVariants.{Identity, Types, Table}
use Rattle.condition.specs.Table.{table_ok}
use Rattle.list.specs.Entry.{kind_of, mask_of}
use Rattle.access.specs.Held.{held_of, reaches_end}
use Rattle.access.specs.Open.{entry_counts, is_allow}

-- no fault
abbrev pub fine : Result Unit Refusal
fine = Ok tt

-- a fault of the held bytes: no SIDs to their end, or too many of them; of the table besides
unfoldable pub held_fault : List ℕ → Result Unit Refusal
held_fault h = need (reaches_end h) (Err Identity) (need (leb (length (held_of h)) 32) (Err Types) fine)

unfoldable pub lent_fault : List ℕ → List ℕ → Result Unit Refusal
lent_fault h table =
    need (reaches_end h) (Err Identity) (need (leb (length (held_of h)) 32) (Err Types) (need (table_ok table) (Err Table) fine))

-- the byte k places before the end: of a SID 4 is the first byte of its last number
abbrev pub last_of : ℕ → List ℕ → ℕ
last_of k s = get_or s (length s - k) 0

-- a mask without the bits of another
abbrev pub without : ℕ → ℕ → ℕ
without a b = bit_xor a (bit_and a b)

-- the entry counts, and has a bit that isn't decided yet
unfoldable pub weighs : List ℕ → List ℕ → List (List ℕ) → ℕ → List ℕ → Bool
weighs type table sids left e = has left (mask_of e) && entry_counts type table sids e

-- what is left to decide behind an entry: an allow decides its bits; none where a bit is denied
unfoldable pub left_after : List ℕ → List ℕ → List (List ℕ) → ℕ → List ℕ → Option ℕ
left_after type table sids left e =
    cond (weighs type table sids left e) (cond (is_allow (kind_of e)) (Some (without left (mask_of e))) None) (Some left)

unfoldable pub if_left : Option ℕ → (ℕ → Bool) → Bool
if_left None rest = false
if_left (Some left) rest = rest left

-- over entries: yes as soon as nothing is left
unfoldable pub decided : List ℕ → List ℕ → List (List ℕ) → ℕ → List (List ℕ) → Bool
decided type table sids left [] = eqb left 0
decided type table sids left (e ∷ es) = cond (eqb left 0) true (if_left (left_after type table sids left e) (λ l. decided type table sids l es))
