-- The token that bytes begin with, once it is known to be one: what it is by its first byte, and that all its bytes are there.
use mathlib.Core.Path.{◌≡◌, refl, sym, ap, ◌∙◌}
use mathlib.Core.Bool.{Bool, true, false, cond, ◌&&◌}
use mathlib.Core.List.{List, [], ◌∷◌}
use mathlib.Core.Option.{Option, none, some}
use Prim.Native.Nat.{ℕ, ◌+◌, ◌-◌, ◌≤◌, ◌<◌}
use native.Mathlib.Decide.{ℕ_discrete}
use native.Mathlib.Omega.{arith}
use lib.ListN.{length, get_or, take, drop, length-drop}
use lib.Seq.{length-take-le}
use lib.Dec.{eqb, leb}
use borrow.Author.Tests.{leb-true, ne_eqb}
use Rattle.std.specs.Prelude.{Some}
use Rattle.octets.specs.Absent.{unless_zero}
use Rattle.octets.proofs.Absent.{some-unless_zero}
use Rattle.octets.specs.Bytes.{le}
use Rattle.octets.proofs.Tests.{both_true}
use Rattle.condition.specs.Token.{Token, number, name, push, compares, exists, ands, ors, nots, name_ok, one_to_three, literal_at, name_long, name_at, comparison_of, operator_of, token_at, long}
use Rattle.condition.specs.Inner.Cells.{long_of}

-- a token that is there only where a test holds
there : (b : Bool) (t : Token) → 0 < long_of (cond b (some t) none) → b ≡ true
unfolding long_of
there true t h = refl
there false t h = absurd (omega arith)

some-there : (b : Bool) (t : Token) → b ≡ true → cond b (some t) none ≡ some t
some-there b t h = rw h

-- an operator has one byte
one-long : (b : Bool) (t : Token) (o : Option Token) → long t ≡ 1 → long_of o ≤ 1 → long_of (cond b (some t) o) ≤ 1
unfolding long_of
one-long true t o h k = omega arith
one-long false t o h k = k

operator-long : (b : ℕ) → long_of (operator_of b) ≤ 1
unfolding operator_of long_of long
operator-long b =
    one-long (leb 0x80 b && leb b 0x85) (compares (comparison_of b)) _ refl
    (one-long (eqb b 0x87) exists _ refl
    (one-long (eqb b 0xA0) ands _ refl
    (one-long (eqb b 0xA1) ors _ refl
    (one-long (eqb b 0xA2) nots none refl (omega arith)))))

-- no token begins where no byte is
bytes_of : (s : List ℕ) → 0 < long_of (token_at s) → 0 < length s
unfolding long_of token_at operator_of
bytes_of [] h = absurd (omega arith)
bytes_of (b ∷ r) h = omega arith

-- where a name's token stands: what it is, and that it ends inside the bytes
pub record NameThere (s : List ℕ) (n : ℕ) : Type 0 where
  pub is : token_at s ≡ some (push (name (take (n - 5) (drop 5 s))))
  pub five : 5 ≤ n
  pub within : n ≤ length s

-- as the code finds how long it is
module _ (s : List ℕ) (n : ℕ) (h : Some n ≡ unless_zero (long_of (token_at s))) where
  e : n ≡ long_of (token_at s)
  e = sym (some-unless_zero (long_of (token_at s)) n (sym h)).0

  p : 0 < n
  p = (some-unless_zero (long_of (token_at s)) n (sym h)).1

  literal-at : get_or s 0 0 ≡ 0x04 → token_at s ≡ literal_at s
  unfolding token_at
  literal-at z = rw z

  name-at : get_or s 0 0 ≡ 0xF8 → token_at s ≡ name_at s
  unfolding token_at
  name-at z = rw z

  -- a literal
  literal-test : get_or s 0 0 ≡ 0x04 → (leb 11 (length s) && (one_to_three (get_or s 9 0) && one_to_three (get_or s 10 0))) ≡ true
  unfolding literal_at
  literal-test z = there _ (push (number (le 8 (drop 1 s)))) (omega (arith, e, p, ap long_of (literal-at z)))

  pub literal-there : get_or s 0 0 ≡ 0x04 → token_at s ≡ some (push (number (le 8 (drop 1 s))))
  unfolding literal_at
  literal-there z = literal-at z ∙ some-there _ _ (literal-test z)

  -- a name
  name-test : get_or s 0 0 ≡ 0xF8 → (name_ok (name_long s) && leb (5 + name_long s) (length s)) ≡ true
  unfolding name_at
  name-test z = there _ (push (name (take (name_long s) (drop 5 s)))) (omega (arith, e, p, ap long_of (name-at z)))

  name-is : get_or s 0 0 ≡ 0xF8 → token_at s ≡ some (push (name (take (name_long s) (drop 5 s))))
  unfolding name_at
  name-is z = name-at z ∙ some-there _ _ (name-test z)

  pub name-there : get_or s 0 0 ≡ 0xF8 → NameThere s n
  unfolding long_of long
  name-there z =
      let w : 5 + name_long s ≤ length s = leb-true (5 + name_long s) (length s) (both_true (name_ok (name_long s)) _ (name-test z)).1 in
      let l = length-take-le (name_long s) (drop 5 s) (omega (arith, length-drop 5 s)) in
      let m : n ≡ 5 + length (take (name_long s) (drop 5 s)) = e ∙ ap long_of (name-is z) in
      let k : name_long s ≡ n - 5 = omega arith in
      record {
        is = name-is z ∙ ap (λ (j : ℕ). some (push (name (take j (drop 5 s))))) k;
        five = omega arith;
        within = omega arith;
      }

  -- an operator
  pub operator-there : (get_or s 0 0 ≡ 0x04 → ⊥) → (get_or s 0 0 ≡ 0xF8 → ⊥) → token_at s ≡ operator_of (get_or s 0 0)
  unfolding token_at
  operator-there f g = rw (ne_eqb (get_or s 0 0) 0x04 f, ne_eqb (get_or s 0 0) 0xF8 g)

  pub bytes-there : 0 < length s
  bytes-there = bytes_of s (omega (arith, e, p))

  -- all its bytes are there
  pub token-within : n ≤ length s
  unfolding long_of long
  token-within =
      elim (ℕ_discrete (get_or s 0 0) 0x04) [
        | yes z ↦ omega (arith, e, ap long_of (literal-there z), leb-true 11 (length s) (both_true (leb 11 (length s)) _ (literal-test z)).0)
        | no f ↦ elim (ℕ_discrete (get_or s 0 0) 0xF8) [
          | yes z ↦ (name-there z).within
          | no g ↦ omega (arith, e, ap long_of (operator-there f g), operator-long (get_or s 0 0), bytes-there)
        ]
      ]
