-- The formula of a tree in the grammar says what the tree means.
use mathlib.Core.Path.{◌≡◌, refl, ap, ap₂, ◌∙◌}
use mathlib.Core.List.{List}
use mathlib.Core.Option.{Option, none, some, map}
use Prim.Native.Nat.{ℕ, suc, ◌+◌, ◌-◌, ◌%◌, ◌≤◌, ◌<◌}
use native.Mathlib.Nat.{mod-eq_of_lt, add-mod_right}
use native.Mathlib.Omega.{arith}
use lib.IntN.{ℤ, pos, negsuc, sub_ℕ}
use Rattle.octets.proofs.Tests.{tests}
use Rattle.condition.specs.Token.{Compare, signed}
use Rattle.condition.specs.Table.{Attribute}
use Rattle.condition.specs.Meaning.{and_of, or_of, not_of, value_of, comparing}
use Rattle.condition.specs.Tree.{Formula, conjunction, disjunction, meaning}
use Rattle.wording.specs.Grammar.{val, Side, name, integer, Condition, last, or, Term, only, and, Factor, not, paren, compare, ValidS, ValidC, ValidT, ValidF}
use Rattle.wording.specs.Stored.{integer_of, word_for, operand_of, formula_c, or_all, formula_t, and_all, formula_f}
use Rattle.wording.specs.Meaning.{compared, value_s, means_c, means_or, means_t, means_and, means_f}
use Rattle.wording.proofs.Kept.{Fits, number_fits}

-- ---- numbers

-- a difference that isn't negative, and one that is
sub-pos : (a b n : ℕ) → a ≡ b + n → sub_ℕ a b ≡ pos n
sub-pos a b n e =
    let h : b ≤ a = omega arith in
    let d : a - b ≡ n = omega arith in
    simp (tests, d)

sub-neg : (a b n : ℕ) → b ≡ a + suc n → sub_ℕ a b ≡ negsuc n
sub-neg a b n e =
    let h : a < b = omega arith in
    let d : b - suc a ≡ n = omega arith in
    simp (tests, d)

-- the word of a number of signed 64 bits is read back as it
pub signed_word : (z : ℤ) → Fits z → signed (word_for z) ≡ z
unfolding signed word_for
signed_word (pos n) h = sub-pos ((n + 0x8000000000000000) % 0x10000000000000000) 0x8000000000000000 n (mod-eq_of_lt (omega arith) ∙ omega arith)
signed_word (negsuc n) h =
    let k = 0x7FFFFFFFFFFFFFFF - n in
    let w : 0xFFFFFFFFFFFFFFFF - n + 0x8000000000000000 ≡ k + 0x10000000000000000 = omega arith in
    let b : k < 0x10000000000000000 = omega arith in
    let m : (0xFFFFFFFFFFFFFFFF - n + 0x8000000000000000) % 0x10000000000000000 ≡ k =
    ap (λ (x : ℕ). x % 0x10000000000000000) w ∙ add-mod_right k 0x10000000000000000 ∙ mod-eq_of_lt b in
    rw m (sub-neg k 0x8000000000000000 n (omega arith))

-- two words are compared by their numbers
compared_is : (r : Compare) (x y : Option ℕ) → comparing r x y ≡ compared r (map signed x) (map signed y)
unfolding comparing compared
compared_is r none y = refl
compared_is r (some a) none = refl
compared_is r (some a) (some b) = refl

module _ (table : List Attribute) where
  -- an operand as it is laid has the number that its text has
  pub value-is : (a : Side) → ValidS a → map signed (value_of table (operand_of a)) ≡ value_s table a
  unfolding value_of value_s operand_of ValidS
  value-is (name b n) v = refl
  value-is (integer neg b n) v = ap {B = Option ℤ} some (signed_word (integer_of neg b n) (number_fits neg (val (b - 48) n) v.2))

  -- ---- trees

  mutual
    unfolding meaning formula_c means_c ValidC

    condition-means : (c : Condition) (d : ℕ) → ValidC c d → meaning table (formula_c c) ≡ means_c table c
    condition-means (last t) d v = term-means t d v
    condition-means (or t c) d v = or-means (formula_t t) c d v.1 ∙ ap (λ (x : _). means_or table x c) (term-means t d v.0)

    -- a row behind a
    or-means : (a : Formula) (c : Condition) (d : ℕ) → ValidC c d → meaning table (or_all a c) ≡ means_or table (meaning table a) c
    or-means a (last t) d v = ap (or_of (meaning table a)) (term-means t d v)
    or-means a (or t c) d v =
        or-means (disjunction a (formula_t t)) c d v.1 ∙ ap (λ (x : _). means_or table (or_of (meaning table a) x) c) (term-means t d v.0)

    term-means : (t : Term) (d : ℕ) → ValidT t d → meaning table (formula_t t) ≡ means_t table t
    term-means (only f) d v = factor-means f d v
    term-means (and f t) d v = and-means (formula_f f) t d v.1 ∙ ap (λ (x : _). means_and table x t) (factor-means f d v.0)

    and-means : (a : Formula) (t : Term) (d : ℕ) → ValidT t d → meaning table (and_all a t) ≡ means_and table (meaning table a) t
    and-means a (only f) d v = ap (and_of (meaning table a)) (factor-means f d v)
    and-means a (and f t) d v =
        and-means (conjunction a (formula_f f)) t d v.1 ∙ ap (λ (x : _). means_and table (and_of (meaning table a) x) t) (factor-means f d v.0)

    factor-means : (f : Factor) (d : ℕ) → ValidF f d → meaning table (formula_f f) ≡ means_f table f
    factor-means (not f) d v = ap not_of (factor-means f d v)
    factor-means (paren c) d v = condition-means c (d - 1) v.1
    factor-means (compare a r b) d v =
        compared_is r (value_of table (operand_of a)) (value_of table (operand_of b)) ∙ ap₂ (compared r) (value-is a v.0) (value-is b v.1)

  -- the formula says what the tree means
  pub formula-means : (c : Condition) (d : ℕ) → ValidC c d → meaning table (formula_c c) ≡ means_c table c
  formula-means c d v = condition-means c d v
