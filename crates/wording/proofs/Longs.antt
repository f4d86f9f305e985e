-- How long the bytes of tokens are.
use Prim.Native.Nat.{ℕ, ◌+◌, ◌*◌}
use mathlib.Core.Path.{◌≡◌, refl, sym}
use mathlib.Core.List.{List, [], ◌∷◌, ◌++◌, append_assoc}
use native.Mathlib.Omega.{arith}
use lib.ListN.{length, length-append}
use Rattle.octets.specs.Bytes.{spell}
use Rattle.octets.proofs.Little.{length-spell}
use Rattle.condition.specs.Token.{Compare, number, name as named, Token, push, compares, ands, ors, nots}
use Rattle.wording.specs.Stored.{wide, token_bytes, bytes_all}

pub length-wide : (s : List ℕ) → length (wide s) ≡ 2 * length s
unfolding wide
length-wide [] = refl
length-wide (b ∷ s) = let e = length-wide s in omega arith

pub number-long : (m : ℕ) → length (token_bytes (push (number m))) ≡ 11
unfolding token_bytes spell
number-long m = refl

pub name-long : (s : List ℕ) → length (token_bytes (push (named (wide s)))) ≡ 5 + 2 * length s
unfolding token_bytes
name-long s =
    let e : length (spell 4 (length (wide s))) ≡ 4 = length-spell 4 (length (wide s)) in
    simp length-append (omega (arith, e, length-wide s))

-- an operator is one byte
pub sign-long : (r : Compare) → length (token_bytes (compares r)) ≡ 1
unfolding token_bytes
sign-long r = refl

pub and-long : length (token_bytes ands) ≡ 1
unfolding token_bytes
and-long = refl

pub or_long : length (token_bytes ors) ≡ 1
unfolding token_bytes
or_long = refl

pub not-long : length (token_bytes nots) ≡ 1
unfolding token_bytes
not-long = refl

-- of tokens in a row
pub bytes-append : (p q : List Token) → bytes_all (p ++ q) ≡ bytes_all p ++ bytes_all q
unfolding bytes_all
bytes-append [] q = refl
bytes-append (t ∷ p) q = rw (bytes-append p q) (sym (append_assoc (token_bytes t) (bytes_all p) (bytes_all q)))
