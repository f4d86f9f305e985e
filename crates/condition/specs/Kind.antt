-- Which expressions are acceptable (RULES 11.3, 11.4): by the kinds of what stands on the stack.
use Rattle.std.specs.Prelude.{ℕ, zero, suc, ◌+◌, ◌*◌, ◌/◌, List, [], ◌∷◌, Bool, true, false, cond, ◌&&◌, ◌||◌, length, take, drop, eqb, ltb}
use Rattle.std.proofs.Math.Option.{Option, none, some, bind}
use Rattle.octets.specs.Bytes.{same_bytes}
use Rattle.condition.specs.Token.{Operand, number, name, Token, push, compares, exists, ands, ors, nots, long_all, tokens_in}

pub data Kind : Type 0 where
  literal : Kind
  named : Kind
  condition : Kind

unfoldable pub operand_kind : Operand → Kind
operand_kind (number w) = literal
operand_kind (name n) = named

-- a literal or a name
unfoldable pub is_operand : Kind → Bool
is_operand literal = true
is_operand named = true
is_operand condition = false

unfoldable pub is_named : Kind → Bool
is_named literal = false
is_named named = true
is_named condition = false

unfoldable pub is_condition : Kind → Bool
is_condition literal = false
is_condition named = false
is_condition condition = true

-- n places of such a kind are taken off the stack, whose top is first, and a condition is laid on it
unfoldable pub taking : (Kind → Bool) → ℕ → List Kind → Option (List Kind)
taking wanted zero ks = some (condition ∷ ks)
taking wanted (suc n) [] = none
taking wanted (suc n) (k ∷ ks) = cond (wanted k) (taking wanted n ks) none

-- the stack holds at most 16
unfoldable pub kinds_after : Token → List Kind → Option (List Kind)
kinds_after (push o) ks = cond (ltb (length ks) 16) (some (operand_kind o ∷ ks)) none
kinds_after (compares c) ks = taking is_operand 2 ks
kinds_after exists ks = taking is_named 1 ks
kinds_after ands ks = taking is_condition 2 ks
kinds_after ors ks = taking is_condition 2 ks
kinds_after nots ks = taking is_condition 1 ks

unfoldable pub kinds_from : List Token → List Kind → Option (List Kind)
kinds_from [] ks = some ks
kinds_from (t ∷ ts) ks = bind (kinds_after t ks) (kinds_from ts)

-- one condition is left, and nothing else
unfoldable pub one_left : Option (List Kind) → Bool
one_left none = false
one_left (some []) = false
one_left (some (literal ∷ ks)) = false
one_left (some (named ∷ ks)) = false
one_left (some (condition ∷ [])) = true
one_left (some (condition ∷ (k ∷ ks))) = false

-- the stored form begins with these four bytes, which are no token
unfoldable pub marked : List ℕ → Bool
marked s = same_bytes (take 4 s) (0x61 ∷ 0x72 ∷ 0x74 ∷ 0x78 ∷ [])

unfoldable pub zeros : List ℕ → Bool
zeros [] = true
zeros (b ∷ s) = eqb b 0 && zeros s

-- where the tokens end
abbrev pub tokens_end : List Token → ℕ
tokens_end ts = 4 + long_all ts

-- these tokens of the stored form s are acceptable: they leave one condition, and only zeros follow them
unfoldable pub acceptable : List ℕ → List Token → Bool
acceptable s ts = one_left (kinds_from ts []) && zeros (drop (tokens_end ts) s)

-- the tokens of an acceptable expression, at most 64 of them; none of any other bytes
unfoldable pub accepted_of : List ℕ → Option (List Token)
accepted_of s = cond (marked s) (bind (tokens_in 64 (drop 4 s)) (λ ts. cond (acceptable s ts) (some ts) none)) none

unfoldable pub end_by : Option (List Token) → ℕ
end_by none = 0
end_by (some ts) = tokens_end ts

-- where the tokens of an acceptable expression end; 0 where it isn't acceptable
abbrev pub stored_end : List ℕ → ℕ
stored_end s = end_by (accepted_of s)

-- n up to a multiple of four
unfoldable pub up_to_four : ℕ → ℕ
up_to_four n = 4 * ((n + 3) / 4)

-- an acceptable expression alone: without padding, or padded to a multiple of four
unfoldable pub stored_alone : List ℕ → Bool
stored_alone s = ltb 0 (stored_end s) && (eqb (length s) (stored_end s) || eqb (length s) (up_to_four (stored_end s)))
