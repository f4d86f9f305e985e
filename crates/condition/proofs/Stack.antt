-- The machine does what the kinds foretell: an acceptable expression always finds on its stack what each token needs, and never leaves the stack.
use mathlib.Core.Path.{◌≡◌, refl, sym, ap, ◌∙◌}
use mathlib.Core.Bool.{Bool, true, false, cond, not, false≢true}
use mathlib.Core.List.{List, [], ◌∷◌, ◌++◌}
use mathlib.Core.Option.{Option, none, some, map, bind, bind-eq-some_iff, map-eq-some_iff, map-eq-none_iff, some-injective, none-ne-some}
use Prim.Native.Nat.{ℕ, zero, suc, ◌+◌, ◌≤◌}
use native.Mathlib.Omega.{arith}
use lib.ListN.{length, drop}
use lib.Dec.{ltb}
use borrow.Author.Tests.{ltb-true, ltb-false, not-true}
use Rattle.octets.proofs.Tests.{both_true}
use Rattle.condition.specs.declared.truths.Truth.{Truth}
use Rattle.condition.specs.Token.{Operand, number, name, Token, push, compares, exists, ands, ors, nots, tokens_in}
use Rattle.condition.specs.Kind.{Kind, literal, named, condition, operand_kind, is_operand, is_named, is_condition, taking, kinds_after, kinds_from, one_left, marked, zeros, tokens_end, acceptable, accepted_of}
use Rattle.condition.specs.Table.{Attribute}
use Rattle.condition.specs.Meaning.{Sense, Item, operand, holding, on_operands, on_name, on_conditions, on_condition, after_token, run, under}

-- ---- the kinds of what stands on a stack

module _ {C : Type 0} where
  -- of one place
  unfoldable pub kind_of : Item C → Kind
  kind_of (operand o) = operand_kind o
  kind_of (holding c) = condition

  -- of all
  unfoldable pub kinds_of : List (Item C) → List Kind
  kinds_of [] = []
  kinds_of (i ∷ st) = kind_of i ∷ kinds_of st

  -- as many kinds as places
  pub kinds-length : (st : List (Item C)) → length (kinds_of st) ≡ length st
  unfolding kinds_of
  kinds-length [] = refl
  kinds-length (i ∷ st) = ap suc (kinds-length st)

-- an operand's kind fits an operand's place
operand-yes : (o : Operand) → is_operand (operand_kind o) ≡ true
unfolding is_operand operand_kind
operand-yes (number w) = refl
operand-yes (name n) = refl

-- and no condition's
condition-no : (o : Operand) → is_condition (operand_kind o) ≡ false
unfolding is_condition operand_kind
condition-no (number w) = refl
condition-no (name n) = refl

-- ---- one token

module _ {C : Type 0} where
  -- two operands are taken off, by kinds and by the machine
  operands-kinds : (f : Operand → Operand → C) (st : List (Item C)) → map kinds_of (on_operands f st) ≡ taking is_operand 2 (kinds_of st)
  unfolding kinds_of kind_of on_operands taking is_operand
  operands-kinds f [] = refl
  operands-kinds f (holding c ∷ st) = refl
  operands-kinds f (operand b ∷ []) = rw (operand-yes b)
  operands-kinds f (operand b ∷ (holding c ∷ st)) = rw (operand-yes b)
  operands-kinds f (operand b ∷ (operand a ∷ st)) = rw (operand-yes b, operand-yes a)

  -- a name is
  name-kinds : (f : List ℕ → C) (st : List (Item C)) → map kinds_of (on_name f st) ≡ taking is_named 1 (kinds_of st)
  unfolding kinds_of kind_of operand_kind on_name taking is_named
  name-kinds f [] = refl
  name-kinds f (holding c ∷ st) = refl
  name-kinds f (operand (number w) ∷ st) = refl
  name-kinds f (operand (name n) ∷ st) = refl

  -- two conditions are
  conditions-kinds : (f : C → C → C) (st : List (Item C)) → map kinds_of (on_conditions f st) ≡ taking is_condition 2 (kinds_of st)
  unfolding kinds_of kind_of on_conditions taking is_condition
  conditions-kinds f [] = refl
  conditions-kinds f (operand b ∷ st) = rw (condition-no b)
  conditions-kinds f (holding b ∷ []) = refl
  conditions-kinds f (holding b ∷ (operand a ∷ st)) = rw (condition-no a)
  conditions-kinds f (holding b ∷ (holding a ∷ st)) = refl

  -- a condition is
  condition-kinds : (f : C → C) (st : List (Item C)) → map kinds_of (on_condition f st) ≡ taking is_condition 1 (kinds_of st)
  unfolding kinds_of kind_of on_condition taking is_condition
  condition-kinds f [] = refl
  condition-kinds f (operand a ∷ st) = rw (condition-no a)
  condition-kinds f (holding a ∷ st) = refl

-- a push finds the stack full; nothing else does
unfoldable pub full_for : Token → ℕ → Bool
full_for (push o) n = not (ltb n 16)
full_for (compares c) n = false
full_for exists n = false
full_for ands n = false
full_for ors n = false
full_for nots n = false

-- what finds the stack full is a push, and 16 places are taken
full-push : (t : Token) (n : ℕ) → full_for t n ≡ true → (o : Operand) × (t ≡ push o) × (16 ≤ n)
unfolding full_for
full-push (push o) n h = (o, refl, ltb-false n 16 (not-true (ltb n 16) h))
full-push (compares c) n h = absurd (false≢true h)
full-push exists n h = absurd (false≢true h)
full-push ands n h = absurd (false≢true h)
full-push ors n h = absurd (false≢true h)
full-push nots n h = absurd (false≢true h)

-- a test turned round
cond-not : {A : Type 0} (b : Bool) (x y : A) → cond b x y ≡ cond (not b) y x
cond-not true x y = refl
cond-not false x y = refl

-- a stack of these kinds
pub record Gives {C : Type 0} (o : Option (List (Item C))) (ks : List Kind) : Type 0 where
  pub stack : List (Item C)
  pub is : o ≡ some stack
  pub kinds : kinds_of stack ≡ ks

-- why a token can't go on: what it needs isn't there, or the stack is full
pub data Stops {C : Type 0} (S : Sense C) (t : Token) (st : List (Item C)) : Type 0 where
  lacking : after_token S t st ≡ none → Stops S t st
  full : (o : Operand) → t ≡ push o → 16 ≤ length st → Stops S t st

module _ {C : Type 0} (S : Sense C) where
  -- the kinds after a token are those of the stack after it; none where the stack is full
  pub after-kinds : (t : Token) (st : List (Item C)) → kinds_after t (kinds_of st) ≡ cond (full_for t (length st)) none (map kinds_of (after_token S t st))
  unfolding kinds_after after_token kinds_of full_for kind_of
  after-kinds (push o) st = rw (kinds-length st) (cond-not (ltb (length st) 16) _ none)
  after-kinds (compares c) st = sym (operands-kinds (S.comparison c) st)
  after-kinds exists st = sym (name-kinds S.existence st)
  after-kinds ands st = sym (conditions-kinds S.conjunction st)
  after-kinds ors st = sym (conditions-kinds S.disjunction st)
  after-kinds nots st = sym (condition-kinds S.negation st)

  -- where the kinds fit, the token goes on
  pub after-some : (t : Token) (st : List (Item C)) (ks : List Kind) → kinds_after t (kinds_of st) ≡ some ks → Gives (after_token S t st) ks
  after-some t st ks h = by (full_for t (length st)) (sym (after-kinds t st) ∙ h)
    where
      by : (b : Bool) → cond b none (map kinds_of (after_token S t st)) ≡ some ks → Gives (after_token S t st) ks
      by true e = absurd (none-ne-some ks e)
      by false e = let g = (map-eq-some_iff kinds_of (after_token S t st)).0 e in record { stack = g.0; is = g.1; kinds = g.2 }

  -- where they don't, it can't
  pub after_none : (t : Token) (st : List (Item C)) → kinds_after t (kinds_of st) ≡ none → Stops S t st
  after_none t st h = by (full_for t (length st)) refl (sym (after-kinds t st) ∙ h)
    where
      by : (b : Bool) → full_for t (length st) ≡ b → cond b none (map kinds_of (after_token S t st)) ≡ none → Stops S t st
      by true q e = let p = full-push t (length st) q in full p.0 p.1 p.2
      by false q e = lacking ((map-eq-none_iff kinds_of (after_token S t st)).0 e)

-- n places are taken off and one is laid on
taking-length : (f : Kind → Bool) (n : ℕ) (ks to : List Kind) → taking f n ks ≡ some to → length to + n ≡ suc (length ks)
unfolding taking
taking-length f zero ks to h = omega (arith, ap length (some-injective (condition ∷ ks) to h))
taking-length f (suc n) [] to h = absurd (none-ne-some to h)
taking-length f (suc n) (k ∷ ks) to h = by (f k) h (taking-length f n ks to)
  where
    by : (b : Bool) → cond b (taking f n ks) none ≡ some to → (taking f n ks ≡ some to → length to + n ≡ suc (length ks)) → length to + suc n ≡ suc (suc (length ks))
    by true e again = omega (arith, again e)
    by false e again = absurd (none-ne-some to e)

-- a stack of at most 16 stays one
pub kinds-depth : (t : Token) (ks to : List Kind) → length ks ≤ 16 → kinds_after t ks ≡ some to → length to ≤ 16
unfolding kinds_after
kinds-depth (push o) ks to d h = by (ltb (length ks) 16) refl h
  where
    by : (b : Bool) → ltb (length ks) 16 ≡ b → cond b (some (operand_kind o ∷ ks)) none ≡ some to → length to ≤ 16
    by true q e = omega (arith, ltb-true (length ks) 16 q, ap length (some-injective (operand_kind o ∷ ks) to e))
    by false q e = absurd (none-ne-some to e)
kinds-depth (compares c) ks to d h = omega (arith, taking-length is_operand 2 ks to h)
kinds-depth exists ks to d h = omega (arith, taking-length is_named 1 ks to h)
kinds-depth ands ks to d h = omega (arith, taking-length is_condition 2 ks to h)
kinds-depth ors ks to d h = omega (arith, taking-length is_condition 2 ks to h)
kinds-depth nots ks to d h = omega (arith, taking-length is_condition 1 ks to h)

-- ---- many tokens

-- two steps in a row are one
bind-bind : {X Y Z : Type 0} (o : Option X) (f : X → Option Y) (g : Y → Option Z) (h : X → Option Z) → ((x : X) → h x ≡ bind (f x) g) → bind o h ≡ bind (bind o f) g
unfolding bind
bind-bind none f g h e = refl
bind-bind (some x) f g h e = e x

-- the kinds after p and then q
pub kinds-append : (p q : List Token) (ks : List Kind) → kinds_from (p ++ q) ks ≡ bind (kinds_from p ks) (kinds_from q)
unfolding kinds_from bind
kinds-append [] q ks = refl
kinds-append (t ∷ p) q ks = bind-bind (kinds_after t ks) (kinds_from p) (kinds_from q) (kinds_from (p ++ q)) (kinds-append p q)

-- also over many tokens
pub kinds-deep : (ts : List Token) (ks to : List Kind) → length ks ≤ 16 → kinds_from ts ks ≡ some to → length to ≤ 16
unfolding kinds_from
kinds-deep [] ks to d h = omega (arith, ap length (some-injective ks to h))
kinds-deep (t ∷ ts) ks to d h =
    let b = (bind-eq-some_iff (kinds_after t ks) (kinds_from ts)).0 h in
    kinds-deep ts b.0 to (kinds-depth t ks b.0 d b.1) b.2

module _ {C : Type 0} (S : Sense C) where
  -- the stack after p and then q
  pub run-append : (p q : List Token) (st : List (Item C)) → run S (p ++ q) st ≡ bind (run S p st) (run S q)
  unfolding run bind
  run-append [] q st = refl
  run-append (t ∷ p) q st = bind-bind (after_token S t st) (run S p) (run S q) (run S (p ++ q)) (run-append p q)

  -- where the kinds fit, the tokens run
  pub run-some : (ts : List Token) (st : List (Item C)) (ks : List Kind) → kinds_from ts (kinds_of st) ≡ some ks → Gives (run S ts st) ks
  unfolding run kinds_from bind
  run-some [] st ks h = record { stack = st; is = refl; kinds = some-injective (kinds_of st) ks h }
  run-some (t ∷ ts) st ks h =
      let b = (bind-eq-some_iff (kinds_after t (kinds_of st)) (kinds_from ts)).0 h in
      let g = after-some S t st b.0 b.1 in
      let r = run-some ts g.stack ks (rw g.kinds b.2) in
      record { stack = r.stack; is = rw g.is r.is; kinds = r.kinds }

-- ---- an acceptable expression

-- what is left is a condition alone
one_left-is : (o : Option (List Kind)) → one_left o ≡ true → o ≡ some (condition ∷ [])
unfolding one_left
one_left-is none h = absurd (false≢true h)
one_left-is (some []) h = absurd (false≢true h)
one_left-is (some (literal ∷ ks)) h = absurd (false≢true h)
one_left-is (some (named ∷ ks)) h = absurd (false≢true h)
one_left-is (some (condition ∷ [])) h = refl
one_left-is (some (condition ∷ (k ∷ ks))) h = absurd (false≢true h)

-- the tokens ts of the stored form s are acceptable
pub record Accepted (s : List ℕ) (ts : List Token) : Type 0 where
  pub marks : marked s ≡ true
  pub reads : tokens_in 64 (drop 4 s) ≡ some ts
  pub leaves : kinds_from ts [] ≡ some (condition ∷ [])
  pub ends : zeros (drop (tokens_end ts) s) ≡ true

-- a test that was passed
passed : {A : Type 0} (b : Bool) (x y : A) → cond b (some x) none ≡ some y → (b ≡ true) × (some x ≡ some y)
passed true x y e = (refl, e)
passed false x y e = absurd (none-ne-some y e)

-- what accepted_of finds is so
pub accepted : (s : List ℕ) (ts : List Token) → accepted_of s ≡ some ts → Accepted s ts
unfolding accepted_of acceptable
accepted s ts h = by (marked s) refl h
  where
    by : (b : Bool) → marked s ≡ b → cond b (bind (tokens_in 64 (drop 4 s)) (λ us. cond (acceptable s us) (some us) none)) none ≡ some ts → Accepted s ts
    by true m e =
        let r = (bind-eq-some_iff (tokens_in 64 (drop 4 s)) (λ us. cond (acceptable s us) (some us) none)).0 e in
        let p = passed (acceptable s r.0) r.0 ts r.2 in
        let f : acceptable s ts ≡ true = rw (some-injective r.0 ts p.1) at p.0 in
        let t = both_true (one_left (kinds_from ts [])) (zeros (drop (tokens_end ts) s)) f in
        record { marks = m; reads = r.1 ∙ p.1; leaves = one_left-is (kinds_from ts []) t.0; ends = t.1 }
    by false m e = absurd (none-ne-some ts e)

-- t, behind the tokens p, finds a stack of at most 16 with what it needs, and leaves one of at most 16
pub record SteppedBy {C : Type 0} (S : Sense C) (p : List Token) (t : Token) : Type 0 where
  pub before : List (Item C)
  pub behind : List (Item C)
  pub runs : run S p [] ≡ some before
  pub deep : length before ≤ 16
  pub steps : after_token S t before ≡ some behind
  pub deep-behind : length behind ≤ 16

-- the same under a table
abbrev pub Stepped : List Attribute → List Token → Token → Type 0
Stepped table p t = SteppedBy (under table) p t

module _ {C : Type 0} (S : Sense C) where
  -- where all kinds fit, each token steps
  kinds-stepped : (p : List Token) (t : Token) (q : List Token) (ks : List Kind) → kinds_from (p ++ (t ∷ q)) [] ≡ some ks → SteppedBy S p t
  unfolding kinds_from kinds_of
  kinds-stepped p t q ks h =
      let a = (bind-eq-some_iff (kinds_from p []) (kinds_from (t ∷ q))).0 (sym (kinds-append p (t ∷ q) []) ∙ h) in
      let b = (bind-eq-some_iff (kinds_after t a.0) (kinds_from q)).0 a.2 in
      let r = run-some S p [] a.0 a.1 in
      let g = after-some S t r.stack b.0 (rw r.kinds b.1) in
      let d = kinds-deep p [] a.0 (omega arith) a.1 in
      let e = kinds-depth t a.0 b.0 d b.1 in
      record {
        before = r.stack;
        behind = g.stack;
        runs = r.is;
        deep = omega (arith, kinds-length r.stack, ap length r.kinds);
        steps = g.is;
        deep-behind = omega (arith, kinds-length g.stack, ap length g.kinds);
      }

  -- an acceptable expression never leaves its stack, whatever conditions are
  pub never-leaves-by : (s : List ℕ) (ts : List Token) → accepted_of s ≡ some ts → (p : List Token) (t : Token) (q : List Token) → ts ≡ p ++ (t ∷ q) → SteppedBy S p t
  never-leaves-by s ts h p t q e = kinds-stepped p t q (condition ∷ []) (rw (← e) (accepted s ts h).leaves)

  -- a stack with a condition's kind alone holds one condition
  one-holding : (st : List (Item C)) → kinds_of st ≡ condition ∷ [] → (v : C) × (st ≡ holding v ∷ [])
  unfolding kinds_of kind_of is_condition
  one-holding [] e = let z : ◌≡◌ {A = ℕ} 0 1 = cc in absurd (omega arith)
  one-holding (holding v ∷ []) e = (v, refl)
  one-holding (holding v ∷ (i ∷ st)) e = let z : ◌≡◌ {A = ℕ} 0 1 = cc in absurd (omega arith)
  one-holding (operand o ∷ st) e = absurd (false≢true (cc (condition-no o)))

  -- and leaves one condition
  pub accepted-leaves-by : (s : List ℕ) (ts : List Token) → accepted_of s ≡ some ts → (v : C) × (run S ts [] ≡ some (holding v ∷ []))
  unfolding kinds_of
  accepted-leaves-by s ts h =
      let r = run-some S ts [] (condition ∷ []) (accepted s ts h).leaves in
      let o = one-holding r.stack r.kinds in
      (o.0, r.is ∙ ap {B = Option (List (Item C))} some o.1)

-- under any table an acceptable expression never leaves its stack of 16 places
pub never-leaves : (s : List ℕ) (ts : List Token) → accepted_of s ≡ some ts → (p : List Token) (t : Token) (q : List Token) → ts ≡ p ++ (t ∷ q) → (table : List Attribute)
    → Stepped table p t
never-leaves s ts h p t q e table = never-leaves-by (under table) s ts h p t q e

-- and leaves one condition
pub accepted-leaves : (s : List ℕ) (ts : List Token) → accepted_of s ≡ some ts → (table : List Attribute) → (v : Truth) × (run (under table) ts [] ≡ some (holding v ∷ []))
accepted-leaves s ts h table = accepted-leaves-by (under table) s ts h
