-- The tokens of an acceptable expression are those of one tree, and say what it says.
use mathlib.Core.Path.{◌≡◌, refl, sym, ap, subst, ◌∙◌}
use mathlib.Core.List.{List, [], ◌∷◌, ◌++◌, map, append_assoc, append-nil}
use mathlib.Core.Option
use mathlib.Core.Option.{Option, none, some, bind}
use Prim.Native.Nat.{ℕ}
use Rattle.condition.specs.declared.truths.Truth.{Truth}
use Rattle.condition.specs.Token.{number, name, Token, push, compares, exists, ands, ors, nots}
use Rattle.condition.specs.Kind.{accepted_of}
use Rattle.condition.specs.Table.{Attribute}
use Rattle.condition.specs.Meaning.{Sense, Item, operand, holding, on_operands, on_name, on_conditions, on_condition, after_token, run, under, and_of, or_of, truth_left, truth_of}
use Rattle.condition.specs.Tree.{Formula, comparison, existence, conjunction, disjunction, negation, spelt, meaning}
use Rattle.condition.proofs.Stack.{accepted-leaves-by}

-- conditions as trees
abbrev pub trees : Sense Formula
trees = record { comparison = comparison; existence = existence; conjunction = conjunction; disjunction = disjunction; negation = negation }

-- ---- a run over trees keeps the tokens

-- what an item of the stack spells, and the whole stack from the bottom up
unfoldable pub spells_of : Item Formula → List Token
spells_of (operand o) = push o ∷ []
spells_of (holding a) = spelt a

unfoldable pub spells_up : List (Item Formula) → List Token
spells_up [] = []
spells_up (i ∷ st) = spells_up st ++ spells_of i

-- a stack that was left spells w
abbrev pub Keeps : Option (List (Item Formula)) → List Token → Type 0
Keeps none w = Unit
Keeps (some st) w = spells_up st ≡ w

-- two conditions and the token that takes them
conditions-spell : (f : Formula → Formula → Formula) (t : Token) → ((a b : Formula) → spelt (f a b) ≡ spelt a ++ (spelt b ++ (t ∷ [])))
    → (st : List (Item Formula)) → Keeps (on_conditions f st) (spells_up st ++ (t ∷ []))
unfolding on_conditions spells_up spells_of
conditions-spell f t h [] = tt
conditions-spell f t h (operand b ∷ st) = tt
conditions-spell f t h (holding b ∷ []) = tt
conditions-spell f t h (holding b ∷ (operand a ∷ st)) = tt
conditions-spell f t h (holding b ∷ (holding a ∷ st)) = simp (append_assoc, h)

-- one token more is spelt
after-spells : (t : Token) (st : List (Item Formula)) → Keeps (after_token trees t st) (spells_up st ++ (t ∷ []))
unfolding after_token on_operands on_name on_condition spells_up spells_of spelt
after-spells (push o) st = refl
after-spells (compares c) [] = tt
after-spells (compares c) (holding a ∷ st) = tt
after-spells (compares c) (operand b ∷ []) = tt
after-spells (compares c) (operand b ∷ (holding a ∷ st)) = tt
after-spells (compares c) (operand b ∷ (operand a ∷ st)) = simp append_assoc
after-spells exists [] = tt
after-spells exists (holding a ∷ st) = tt
after-spells exists (operand (number w) ∷ st) = tt
after-spells exists (operand (name n) ∷ st) = simp append_assoc
after-spells ands st = conditions-spell conjunction ands (λ a b. refl) st
after-spells ors st = conditions-spell disjunction ors (λ a b. refl) st
after-spells nots [] = tt
after-spells nots (operand a ∷ st) = tt
after-spells nots (holding a ∷ st) = simp append_assoc

-- a run over trees leaves what the stack spelt and the tokens behind it
pub run-spells : (ts : List Token) (st : List (Item Formula)) → Keeps (run trees ts st) (spells_up st ++ ts)
unfolding run bind
run-spells [] st = sym (append-nil (spells_up st))
run-spells (t ∷ ts) st = by (after_token trees t st) (after-spells t st) (run-spells ts)
  where
    by : (o : Option (List (Item Formula))) → Keeps o (spells_up st ++ (t ∷ [])) → ((to : List (Item Formula)) → Keeps (run trees ts to) (spells_up to ++ ts))
        → Keeps (bind o (run trees ts)) (spells_up st ++ (t ∷ ts))
    by none e again = tt
    by (some to) e again = subst (Keeps (run trees ts to)) (ap (λ (w : List Token). w ++ ts) e ∙ append_assoc (spells_up st) (t ∷ []) ts) (again to)

-- so the one tree that is left spells the tokens
pub left-spells : (ts : List Token) (tree : Formula) → run trees ts [] ≡ some (holding tree ∷ []) → spelt tree ≡ ts
unfolding spells_up spells_of
left-spells ts tree h = subst (λ (o : Option (List (Item Formula))). Keeps o ts) h (run-spells ts [])

-- ---- a run under a table is a run over trees, with each tree's meaning

module _ (table : List Attribute) where
  -- an item with the tree's meaning in its place
  unfoldable pub means_of : Item Formula → Item Truth
  means_of (operand o) = operand o
  means_of (holding a) = holding (meaning table a)

  -- two conditions are taken alike
  conditions-mean : (f : Formula → Formula → Formula) (g : Truth → Truth → Truth) → ((a b : Formula) → meaning table (f a b) ≡ g (meaning table a) (meaning table b))
      → (st : List (Item Formula)) → on_conditions g (map means_of st) ≡ Option.map (map means_of) (on_conditions f st)
  unfolding on_conditions means_of
  conditions-mean f g h [] = refl
  conditions-mean f g h (operand b ∷ st) = refl
  conditions-mean f g h (holding b ∷ []) = refl
  conditions-mean f g h (holding b ∷ (operand a ∷ st)) = refl
  conditions-mean f g h (holding b ∷ (holding a ∷ st)) = rw (h a b)

  -- one token does the same under the table as over trees
  after-means : (t : Token) (st : List (Item Formula)) → after_token (under table) t (map means_of st) ≡ Option.map (map means_of) (after_token trees t st)
  unfolding after_token on_operands on_name on_condition means_of meaning
  after-means (push o) st = refl
  after-means (compares c) [] = refl
  after-means (compares c) (holding a ∷ st) = refl
  after-means (compares c) (operand b ∷ []) = refl
  after-means (compares c) (operand b ∷ (holding a ∷ st)) = refl
  after-means (compares c) (operand b ∷ (operand a ∷ st)) = refl
  after-means exists [] = refl
  after-means exists (holding a ∷ st) = refl
  after-means exists (operand (number w) ∷ st) = refl
  after-means exists (operand (name n) ∷ st) = refl
  after-means ands st = conditions-mean conjunction and_of (λ a b. refl) st
  after-means ors st = conditions-mean disjunction or_of (λ a b. refl) st
  after-means nots [] = refl
  after-means nots (operand a ∷ st) = refl
  after-means nots (holding a ∷ st) = refl

  -- where each tree of the stack is taken for its meaning
  pub run-means : (ts : List Token) (st : List (Item Formula)) → run (under table) ts (map means_of st) ≡ Option.map (map means_of) (run trees ts st)
  unfolding run bind
  run-means [] st = refl
  run-means (t ∷ ts) st = rw (after-means t st) (by (after_token trees t st) (run-means ts))
    where
      by : (o : Option (List (Item Formula))) → ((to : List (Item Formula)) → run (under table) ts (map means_of to) ≡ Option.map (map means_of) (run trees ts to))
          → bind (Option.map (map means_of) o) (run (under table) ts) ≡ Option.map (map means_of) (bind o (run trees ts))
      by none again = refl
      by (some to) again = again to

  -- what the tokens say is what the tree says that is left
  pub left-means : (ts : List Token) (tree : Formula) → run trees ts [] ≡ some (holding tree ∷ []) → truth_of table ts ≡ meaning table tree
  unfolding truth_left means_of
  left-means ts tree h = ap truth_left (run-means ts [] ∙ ap (Option.map (map means_of)) h)

-- ---- an acceptable expression is one tree's

-- a tree that spells the tokens, and under every table says what they say
pub record Means (ts : List Token) : Type 0 where
  pub tree : Formula
  pub spells : spelt tree ≡ ts
  pub same : (table : List Attribute) → truth_of table ts ≡ meaning table tree

-- the tokens of an acceptable expression are those of a tree, and say what it says
pub means : (s : List ℕ) (ts : List Token) → accepted_of s ≡ some ts → Means ts
means s ts h =
    let l = accepted-leaves-by trees s ts h in
    record { tree = l.0; spells = left-spells ts l.0 l.1; same = λ table. left-means table ts l.0 l.1 }

-- the tokens of a tree lay that tree on the stack
pub spelt-lays : (a : Formula) (ts : List Token) (st : List (Item Formula)) → run trees (spelt a ++ ts) st ≡ run trees ts (holding a ∷ st)
unfolding spelt run after_token bind on_operands on_name on_conditions on_condition
spelt-lays (comparison c a b) ts st = refl
spelt-lays (existence n) ts st = refl
spelt-lays (conjunction a b) ts st = simp append_assoc (spelt-lays a (spelt b ++ (ands ∷ ts)) st ∙ spelt-lays b (ands ∷ ts) (holding a ∷ st))
spelt-lays (disjunction a b) ts st = simp append_assoc (spelt-lays a (spelt b ++ (ors ∷ ts)) st ∙ spelt-lays b (ors ∷ ts) (holding a ∷ st))
spelt-lays (negation a) ts st = simp append_assoc (spelt-lays a (nots ∷ ts) st)

-- and leave it alone on an empty one
pub spelt-leaves : (a : Formula) → run trees (spelt a) [] ≡ some (holding a ∷ [])
unfolding run
spelt-leaves a = rw append-nil at (spelt-lays a [] [])

-- no two trees spell the same tokens
pub one-tree : (a b : Formula) → spelt a ≡ spelt b → a ≡ b
one-tree a b h = let p = spelt-leaves a in let q = spelt-leaves b in let e : run trees (spelt a) [] ≡ run trees (spelt b) [] = rw h in cc

-- the tokens of a tree say what it says
pub spelt-runs : (table : List Attribute) (tree : Formula) → truth_of table (spelt tree) ≡ meaning table tree
spelt-runs table tree = left-means table (spelt tree) tree (spelt-leaves tree)
