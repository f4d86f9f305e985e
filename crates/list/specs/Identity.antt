-- Identities (SIDs; RULES 1.2, 1.3): one byte 1; one byte n, 0 to 15; six bytes of authority; n 32-bit numbers.
use Rattle.std.specs.Prelude.{ℕ, zero, suc, ◌+◌, ◌*◌, List, [], ◌∷◌, Bool, cond, ◌&&◌, length, get_or, take, replicate, eqb, leb, ltb, Option, Some, None, Result, Ok, Err}
use Rattle.octets.specs.Bytes.{same_bytes, front}
use Rattle.list.specs.declared.identities.Sid.{Sid}
use Rattle.list.specs.declared.identities.Placeholder.{Placeholder}
use Rattle.list.specs.declared.identities.Placeholder.TheVariants.{Owner, Group}
use Rattle.refusal.specs.Numbers.{number_of}
use Rattle.refusal.specs.declared.Refusal.{Refusal}
use Rattle.refusal.specs.declared.Refusal.TheVariants.{Identity}

-- how long the SID is that s begins with; 0 where its first byte isn't 1 or n is above 15
unfoldable pub length_of_sid : List ℕ → ℕ
length_of_sid s = cond (eqb (get_or s 0 0) 1 && leb (get_or s 1 0) 15) (8 + 4 * get_or s 1 0) 0

-- how long the SID is that s begins with and holds whole; 0 where it begins with none, or with one that is cut
unfoldable pub whole_sid : List ℕ → ℕ
whole_sid s = cond (leb (length_of_sid s) (length s)) (length_of_sid s) 0

-- exactly one SID
unfoldable pub is_sid : List ℕ → Bool
is_sid s = ltb 0 (length_of_sid s) && eqb (length s) (length_of_sid s)

-- the two placeholders: S-1-3-0, creator owner, and S-1-3-1, creator group
abbrev pub creator : ℕ → List ℕ
creator k = 1 ∷ 1 ∷ 0 ∷ 0 ∷ 0 ∷ 0 ∷ 0 ∷ 3 ∷ k ∷ 0 ∷ 0 ∷ 0 ∷ []

-- 1 for creator owner, 2 for creator group, 0 for any other bytes
unfoldable pub placeholder_of : List ℕ → ℕ
placeholder_of s = cond (same_bytes s (creator 0)) 1 (cond (same_bytes s (creator 1)) 2 0)

-- 6 where the bytes aren't exactly one SID, else which placeholder they are
unfoldable pub identity_of : List ℕ → ℕ
identity_of s = cond (is_sid s) (placeholder_of s) 6

-- which placeholder such a number says, and the number that says it
unfoldable pub placeholder_in : ℕ → Option Placeholder
placeholder_in zero = None
placeholder_in (suc zero) = Some Owner
placeholder_in (suc (suc n)) = Some Group

abbrev pub placeholder_number : Option Placeholder → ℕ
placeholder_number None = 0
placeholder_number (Some Owner) = 1
placeholder_number (Some Group) = 2

-- what such a number answers of bytes that are to be an identity, and the number that says it
unfoldable pub identity_in : ℕ → Result (Option Placeholder) Refusal
identity_in n = cond (eqb n 6) (Err Identity) (Ok (placeholder_in n))

abbrev pub identity_number : Result (Option Placeholder) Refusal → ℕ
identity_number (Ok which) = placeholder_number which
identity_number (Err why) = number_of why

-- an identity's buffer: its bytes, and zeros up to 68
abbrev pub padded : List ℕ → List ℕ
padded s = front s (replicate 68 0)

-- the bytes that an identity holds
abbrev pub bytes_of : Sid → List ℕ
bytes_of i = take i.len i.bytes

-- a placeholder as an identity
abbrev pub placeholder_sid : ℕ → Sid
placeholder_sid k = record { bytes = padded (creator k); len = 12 }

-- an identity is made of exactly one SID, and of no other bytes
unfoldable pub made_of : List ℕ → Option Sid
made_of s = cond (is_sid s) (Some (record { bytes = padded s; len = length s })) None
