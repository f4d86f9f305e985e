-- How deep the tokens of a formula stack: what the kinds find, and what a count finds.
use mathlib.Core.Path.{◌≡◌, refl, ap, ◌∙◌}
use mathlib.Core.Bool.{Bool, true, false, cond}
use mathlib.Core.List.{List, [], ◌∷◌, ◌++◌, append_assoc, append-nil}
use mathlib.Core.Option.{Option, none, some, bind}
use Prim.Native.Nat.{ℕ, suc, ◌+◌, ◌-◌, ◌≤◌, ◌<◌, max}
use native.Mathlib.Omega.{arith}
use lib.ListN.{length}
use lib.Dec.{leb}
use Rattle.octets.proofs.Tests.{tests}
use Rattle.octets.proofs.Places.{split}
use Rattle.condition.specs.Token.{Compare, Operand, number, name, Token, push, compares, exists, ands, ors, nots}
use Rattle.condition.specs.Kind.{Kind, condition, operand_kind, is_operand, is_named, is_condition, taking, kinds_after, kinds_from, one_left}
use Rattle.condition.specs.Tree.{Formula, comparison, existence, conjunction, disjunction, negation, spelt}
use Rattle.wording.specs.Stored.{deep}
use Rattle.wording.specs.Inner.Walk.{takes}

-- ---- the kinds

-- two tests against the depth are one
within : (x y z : ℕ) (o : Option (List Kind)) → max x y ≡ z → cond (leb x 16) (cond (leb y 16) o none) none ≡ cond (leb z 16) o none
within x y z o e =
    split x 16
    (λ a. split y 16
    (λ b. let c : z ≤ 16 = omega arith in simp tests)
    (λ b. let c : 16 < z = omega arith in simp tests))
    (λ a. let c : 16 < z = omega arith in simp tests)

-- a push needs one place more
push-kinds : (o : Operand) (ts : List Token) (ks : List Kind) → kinds_from (push o ∷ ts) ks ≡ cond (leb (length ks + 1) 16) (kinds_from ts (operand_kind o ∷ ks)) none
unfolding kinds_from kinds_after bind
push-kinds o ts ks =
    split (length ks + 1) 16
    (λ a. let b : length ks < 16 = omega arith in simp tests)
    (λ a. let b : 16 ≤ length ks = omega arith in simp tests)

-- a comparison finds its operands
compare-kinds : (c : Compare) (a b : Operand) (ts : List Token) (ks : List Kind)
    → kinds_from (compares c ∷ ts) (operand_kind b ∷ operand_kind a ∷ ks) ≡ kinds_from ts (condition ∷ ks)
unfolding kinds_from kinds_after bind taking is_operand operand_kind
compare-kinds c (number v) (number w) ts ks = refl
compare-kinds c (number v) (name n) ts ks = refl
compare-kinds c (name m) (number w) ts ks = refl
compare-kinds c (name m) (name n) ts ks = refl

-- the tokens of a formula lay one condition on the stack, where it has room for them
pub kinds-spelt : (a : Formula) (ts : List Token) (ks : List Kind) → kinds_from (spelt a ++ ts) ks ≡ cond (leb (length ks + deep a) 16) (kinds_from ts (condition ∷ ks)) none
unfolding spelt deep kinds_from kinds_after bind taking is_named is_condition operand_kind
kinds-spelt (comparison c a b) ts ks =
    push-kinds a (push b ∷ compares c ∷ ts) ks
    ∙ ap (λ (o : Option (List Kind)). cond (leb (length ks + 1) 16) o none)
    (push-kinds b (compares c ∷ ts) (operand_kind a ∷ ks) ∙ rw (compare-kinds c a b ts ks))
    ∙ within (length ks + 1) (suc (length ks) + 1) (length ks + 2) _ (omega arith)
kinds-spelt (existence n) ts ks = push-kinds (name n) (exists ∷ ts) ks
kinds-spelt (conjunction a b) ts ks =
    simp append_assoc
    (kinds-spelt a (spelt b ++ (ands ∷ ts)) ks
    ∙ ap (λ (o : Option (List Kind)). cond (leb (length ks + deep a) 16) o none) (kinds-spelt b (ands ∷ ts) (condition ∷ ks))
    ∙ within (length ks + deep a) (suc (length ks) + deep b) (length ks + max (deep a) (1 + deep b)) _ (omega arith))
kinds-spelt (disjunction a b) ts ks =
    simp append_assoc
    (kinds-spelt a (spelt b ++ (ors ∷ ts)) ks
    ∙ ap (λ (o : Option (List Kind)). cond (leb (length ks + deep a) 16) o none) (kinds-spelt b (ors ∷ ts) (condition ∷ ks))
    ∙ within (length ks + deep a) (suc (length ks) + deep b) (length ks + max (deep a) (1 + deep b)) _ (omega arith))
kinds-spelt (negation a) ts ks = simp append_assoc (kinds-spelt a (nots ∷ ts) ks)

-- a test that leaves one condition or nothing
left_by : (b : Bool) → one_left (cond b (some (condition ∷ [])) none) ≡ b
unfolding one_left
left_by true = refl
left_by false = refl

-- so on an empty stack they leave one condition where they are no deeper than 16
pub one_left-is : (a : Formula) → one_left (kinds_from (spelt a) []) ≡ leb (deep a) 16
unfolding kinds_from
one_left-is a =
    let e : kinds_from (spelt a) [] ≡ cond (leb (0 + deep a) 16) (some (condition ∷ [])) none = rw append-nil at (kinds-spelt a [] []) in
    let z : 0 + deep a ≡ deep a = omega arith in
    ap one_left e ∙ left_by (leb (0 + deep a) 16) ∙ rw z

-- ---- the count

-- the most that stand on the stack, from h places and m at most so far
unfoldable pub highest : ℕ → ℕ → List Token → ℕ
highest m h [] = m
highest m h (t ∷ l) = highest (max m (h - takes t + 1)) (h - takes t + 1) l

pub deep-some : (a : Formula) → 1 ≤ deep a
unfolding deep
deep-some (comparison c a b) = omega arith
deep-some (existence n) = omega arith
deep-some (conjunction a b) = omega arith
deep-some (disjunction a b) = omega arith
deep-some (negation a) = deep-some a

-- one token leaves k places taken, where they are no higher than n
one_more : (t : Token) (ts : List Token) (m h n k : ℕ) → h - takes t + 1 ≡ k → max m k ≡ n → highest m h (t ∷ ts) ≡ highest n k ts
unfolding highest
one_more t ts m h n k p q = rw (p, q)

-- two formulas and the token that takes them
row-most : (x y h m : ℕ) → max (max (max m (h + x)) (h + 1 + y)) (h + 1) ≡ max m (h + max x (1 + y))
row-most x y h m = omega arith

-- the tokens of a formula stand as high as it is deep, and leave one place taken
pub highest-spelt : (a : Formula) (ts : List Token) (m h : ℕ) → highest m h (spelt a ++ ts) ≡ highest (max m (h + deep a)) (h + 1) ts
unfolding takes spelt deep
highest-spelt (comparison c a b) ts m h =
    one_more (push a) (push b ∷ compares c ∷ ts) m h (max m (h + 1)) (h + 1) (omega arith) refl
    ∙ one_more (push b) (compares c ∷ ts) (max m (h + 1)) (h + 1) (max m (h + 2)) (h + 2) (omega arith) (omega arith)
    ∙ one_more (compares c) ts (max m (h + 2)) (h + 2) (max m (h + 2)) (h + 1) (omega arith) (omega arith)
highest-spelt (existence n) ts m h =
    one_more (push (name n)) (exists ∷ ts) m h (max m (h + 1)) (h + 1) (omega arith) refl
    ∙ one_more exists ts (max m (h + 1)) (h + 1) (max m (h + 1)) (h + 1) (omega arith) (omega arith)
highest-spelt (conjunction a b) ts m h =
    simp append_assoc
    (highest-spelt a (spelt b ++ (ands ∷ ts)) m h
    ∙ highest-spelt b (ands ∷ ts) (max m (h + deep a)) (h + 1)
    ∙ one_more ands ts (max (max m (h + deep a)) (h + 1 + deep b)) (h + 1 + 1) _ (h + 1) (omega arith) (row-most (deep a) (deep b) h m))
highest-spelt (disjunction a b) ts m h =
    simp append_assoc
    (highest-spelt a (spelt b ++ (ors ∷ ts)) m h
    ∙ highest-spelt b (ors ∷ ts) (max m (h + deep a)) (h + 1)
    ∙ one_more ors ts (max (max m (h + deep a)) (h + 1 + deep b)) (h + 1 + 1) _ (h + 1) (omega arith) (row-most (deep a) (deep b) h m))
highest-spelt (negation a) ts m h =
    simp append_assoc
    (highest-spelt a (nots ∷ ts) m h
    ∙ one_more nots ts (max m (h + deep a)) (h + 1) _ (h + 1) (omega arith) (omega (arith, deep-some a)))

pub highest-is : (a : Formula) → highest 0 0 (spelt a) ≡ deep a
unfolding highest
highest-is a =
    let e : highest 0 0 (spelt a) ≡ max 0 (0 + deep a) = rw append-nil at (highest-spelt a [] 0 0) in
    omega arith
