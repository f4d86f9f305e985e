-- The code's cells go the way of the machine's stack, so a run over them finds what the definitions say.
use mathlib.Core.Path.{◌≡◌, refl, sym, ap, subst, ◌∙◌}
use mathlib.Core.Bool.{Bool, true, false, cond, not, ◌&&◌, ◌||◌}
use mathlib.Core.List.{List, [], ◌∷◌, map}
use mathlib.Core.Option
use mathlib.Core.Option.{Option, none, some, bind, none-ne-some}
use Prim.Native.Nat.{ℕ, zero, suc, ◌+◌, ◌-◌, ◌≤◌, ◌<◌}
use native.Mathlib.Omega.{arith}
use lib.ListN.{length, drop, length-map, get_or-eq_default}
use lib.Seq.{drop-drop}
use lib.Dec.{eqb, ltb}
use borrow.Author.Tests.{eq-eqb, ne_eqb, ltb-true, ltb-false, eqb-false}
use Rattle.std.specs.Prelude.{Option as Maybe, None, Some, option_map}
use Rattle.std.specs.Option.{option_map_or}
use Rattle.octets.specs.Absent.{unless_zero}
use Rattle.octets.proofs.Absent.{unless_zero-some, unless_zero-none}
use Rattle.octets.proofs.Tests.{le-or}
use Rattle.condition.specs.declared.truths.Truth.{Truth}
use Rattle.condition.specs.declared.truths.Truth.TheVariants.{Unknown}
use Rattle.condition.specs.declared.cells.Cell.{Cell}
use Rattle.condition.specs.declared.cells.Cell.TheVariants.{Nothing}
use Rattle.condition.specs.declared.cells.Effect.{Effect}
use Rattle.condition.specs.declared.runs.Ran.{Ran}
use Rattle.condition.specs.Token.{Compare, Operand, number, name, Token, push, compares, exists, ands, ors, nots, long, long_all, over, token_at, tokens_in}
use Rattle.condition.specs.Kind.{Kind, literal, named, condition, operand_kind, kinds_after, kinds_from, one_left, marked, zeros, tokens_end, acceptable, accepted_of, end_by, stored_end, up_to_four, stored_alone}
use Rattle.condition.specs.Table.{Attribute, value_in, missing}
use Rattle.condition.specs.Meaning.{and_of, or_of, not_of, decided, value_of, comparing, Item, operand, holding, on_operands, on_name, on_conditions, on_condition, after_token, run, under, truth_left, truth_of, truth_by}
use Rattle.condition.specs.Inner.Cells.{long_of, found_by, found_cell, operand_cell, cell_of, operand_in, name_in, truth_in, compared, effect, pushed, of_one, of_two, effect_by, effect_at, ran, only_in, ended_by, top_of, onward, ran_from, ran_by, ran_of}
use Rattle.condition.proofs.Stack.{kind_of, kinds_of, full_for, after-kinds}
use Rattle.condition.proofs.Keys.{compare-keys}

-- ---- what a cell tells of what it stands for

-- a name's is an operand's and no condition's
found-in : (m : Maybe ℕ) → (operand_in (found_cell m) ≡ Some m) × (truth_in (found_cell m) ≡ None)
found-in None = (refl, refl)
found-in (Some k) = (refl, refl)

module _ (table : List Attribute) where
  -- and so is any operand's
  operand-is : (o : Operand) → operand_in (operand_cell table o) ≡ Some (found_by (value_of table o))
  unfolding operand_cell found_by value_of
  operand-is (number w) = refl
  operand-is (name n) = (found-in (found_by (value_in table n))).0

  no-truth : (o : Operand) → truth_in (operand_cell table o) ≡ None
  unfolding operand_cell
  no-truth (number w) = refl
  no-truth (name n) = (found-in (found_by (value_in table n))).1

-- operands compare as what they stand for
compared_is : (c : Compare) (x y : Option ℕ) → compared c (found_by x) (found_by y) ≡ comparing c x y
unfolding found_by comparing
compared_is c none y = refl
compared_is c (some w) none = refl
compared_is c (some w) (some z) = ap decided (sym (compare-keys c w z))

-- ---- what a token does to the cells

-- so many places are taken off the cells of st and one is laid on, which gives the cells of `to`
pub record Does (table : List Attribute) (e : Effect) (st to : List (Item Truth)) : Type 0 where
  pub there : e.pops ≤ length st
  pub cells : map (cell_of table) to ≡ e.cell ∷ drop e.pops (map (cell_of table) st)

-- the token is refused where the machine can't go on, and else does this
abbrev pub Effects : List Attribute → Maybe Effect → List (Item Truth) → Option (List (Item Truth)) → Type 0
Effects table m st none = m ≡ None
Effects table None st (some to) = ⊥
Effects table (Some e) st (some to) = Does table e st to

-- no place is free where 16 are taken
full_is : (n : ℕ) → eqb (16 - n) 0 ≡ not (ltb n 16)
full_is n = by (ltb n 16) refl
  where
    by : (b : Bool) → ltb n 16 ≡ b → eqb (16 - n) 0 ≡ not b
    by true e = ne_eqb (16 - n) 0 (λ z. omega (arith, ltb-true n 16 e))
    by false e = eq-eqb (16 - n) 0 (omega (arith, ltb-false n 16 e))

module _ (table : List Attribute) where
  -- the cells of a stack
  abbrev pub cells_of : List (Item Truth) → List Cell
  cells_of st = map (cell_of table) st

  -- the effect of a token on the cells of a stack
  abbrev pub effect_on : Token → List (Item Truth) → Maybe Effect
  effect_on t st = effect_by table (16 - length (cells_of st)) (top_of 0 (cells_of st)) (top_of 1 (cells_of st)) t

  -- one token of the machine, where the stack holds at most 16
  unfoldable pub step_of : Token → List (Item Truth) → Option (List (Item Truth))
  step_of t st = cond (full_for t (length st)) none (after_token (under table) t st)

  -- its kinds are those of the stack of kinds
  pub step-kinds : (t : Token) (st : List (Item Truth)) → kinds_after t (kinds_of st) ≡ Option.map kinds_of (step_of t st)
  unfolding step_of
  step-kinds t st = after-kinds (under table) t st ∙ by (full_for t (length st))
    where
      by : (b : Bool) → cond b none (Option.map kinds_of (after_token (under table) t st)) ≡ Option.map kinds_of (cond b none (after_token (under table) t st))
      by true = refl
      by false = refl

  -- where it goes on, the machine does so without the limit too
  pub step_after : (t : Token) (st to : List (Item Truth)) → step_of t st ≡ some to → after_token (under table) t st ≡ some to
  unfolding step_of
  step_after t st to h = by (full_for t (length st)) h
    where
      by : (b : Bool) → cond b none (after_token (under table) t st) ≡ some to → after_token (under table) t st ≡ some to
      by true e = absurd (none-ne-some to e)
      by false e = e

  -- an operand is laid on where there is room
  push-is : (o : Operand) (st : List (Item Truth)) → Effects table (effect_on (push o) st) st (step_of (push o) st)
  unfolding step_of full_for effect_by after_token cell_of
  push-is o st = rw (length-map st (cell_of table), full_is (length st)) (by (ltb (length st) 16))
    where
      by : (b : Bool) → Effects table (cond (not b) None (Some (effect 0 (operand_cell table o)))) st (cond (not b) none (some (operand o ∷ st)))
      by true = record { there = omega arith; cells = refl }
      by false = refl

  -- a comparison takes two operands
  compares-is : (c : Compare) (st : List (Item Truth)) → Effects table (effect_on (compares c) st) st (on_operands (λ a b. comparing c (value_of table a) (value_of table b)) st)
  unfolding effect_by on_operands cell_of
  compares-is c [] = refl
  compares-is c (holding v ∷ st) = refl
  compares-is c (operand b ∷ []) = rw (operand-is table b)
  compares-is c (operand b ∷ (holding v ∷ st)) = rw (operand-is table b)
  compares-is c (operand b ∷ (operand a ∷ st)) =
      rw (operand-is table b, operand-is table a) (record { there = omega arith; cells = rw (compared_is c (value_of table a) (value_of table b)) })

  -- a test whether a name exists takes one
  exists-is : (st : List (Item Truth)) → Effects table (effect_on exists st) st (on_name (λ n. decided (not (missing (value_in table n)))) st)
  unfolding effect_by on_name cell_of operand_cell found_by missing
  exists-is [] = refl
  exists-is (holding v ∷ st) = refl
  exists-is (operand (number w) ∷ st) = refl
  exists-is (operand (name n) ∷ st) = by (value_in table n)
    where
      by : (o : Option ℕ) → Effects table (of_one (name_in (found_cell (found_by o))) decided) (operand (name n) ∷ st) (some (holding (decided (not (missing o))) ∷ st))
      by none = record { there = omega arith; cells = refl }
      by (some w) = record { there = omega arith; cells = refl }

  -- `and` and `or` take two conditions
  conditions-are : (f : Truth → Truth → Truth) (st : List (Item Truth))
      → Effects table (of_two (truth_in (top_of 0 (cells_of st))) (truth_in (top_of 1 (cells_of st))) f) st (on_conditions f st)
  unfolding on_conditions cell_of
  conditions-are f [] = refl
  conditions-are f (operand b ∷ st) = rw (no-truth table b)
  conditions-are f (holding b ∷ []) = refl
  conditions-are f (holding b ∷ (operand a ∷ st)) = rw (no-truth table a)
  conditions-are f (holding b ∷ (holding a ∷ st)) = record { there = omega arith; cells = refl }

  -- `not` takes one
  negation-is : (st : List (Item Truth)) → Effects table (effect_on nots st) st (on_condition not_of st)
  unfolding effect_by on_condition cell_of
  negation-is [] = refl
  negation-is (operand a ∷ st) = rw (no-truth table a)
  negation-is (holding a ∷ st) = record { there = omega arith; cells = refl }

  -- a token does to the cells what it does to the stack, and is refused where it can't step
  pub effect_is : (t : Token) (st : List (Item Truth)) → Effects table (effect_on t st) st (step_of t st)
  unfolding effect_by step_of full_for after_token
  effect_is (push o) st = push-is o st
  effect_is (compares c) st = compares-is c st
  effect_is exists st = exists-is st
  effect_is ands st = conditions-are and_of st
  effect_is ors st = conditions-are or_of st
  effect_is nots st = negation-is st

-- ---- the whole run

-- two places are more than the one condition
two-left : (k l : Kind) (ks : List Kind) → one_left (some (k ∷ (l ∷ ks))) ≡ false
unfolding one_left
two-left literal l ks = refl
two-left named l ks = refl
two-left condition l ks = refl

-- where zeros are left, the tokens are over
not-over : (s : List ℕ) → over s ≡ false → zeros s ≡ false
unfolding over zeros
not-over [] h = cc
not-over (b ∷ s) h = rw h

none-either : (b : Bool) → ◌≡◌ {A = Maybe Ran} (cond b None None) None
none-either true = refl
none-either false = refl

module _ (table : List Attribute) where
  -- what the tokens ts of s say from `at` and the stack st on
  ran_with : ℕ → List ℕ → List (Item Truth) → Option (List Token) → Maybe Ran
  ran_with at s st none = None
  ran_with at s st (some ts) =
      cond (one_left (kinds_from ts (kinds_of st)) && zeros (drop (long_all ts) s)) (Some (ran (at + long_all ts) (truth_left (run (under table) ts st)))) None

  -- at the end of the tokens
  ended_is : (at : ℕ) (s : List ℕ) (st : List (Item Truth)) → ended_by at s (cells_of table st) ≡ ran_with at s st (some [])
  unfolding ended_by only_in ran_with one_left kinds_from kinds_of kind_of operand_kind long_all truth_left run cell_of operand_cell
  ended_is at s [] = none-either (zeros s)
  ended_is at s (holding v ∷ []) = let e : at + 0 ≡ at = omega arith in rw e
  ended_is at s (operand (number w) ∷ []) = none-either (zeros s)
  ended_is at s (operand (name n) ∷ []) = rw (no-truth table (name n)) (none-either (zeros s))
  ended_is at s (i ∷ (j ∷ st)) = rw (two-left (kind_of i) (kind_of j) (kinds_of st)) (none-either (zeros s))

  -- a token that isn't refused goes on
  onward_is : (m : Maybe Effect) (st to : List (Item Truth)) (rest : List Cell → Maybe Ran) → Effects table m st (some to) → onward m (cells_of table st) rest ≡ rest (cells_of table to)
  unfolding onward
  onward_is None st to rest e = absurd e
  onward_is (Some e) st to rest d = ap rest (sym d.cells)

  -- where a token steps from st to `to`, the rest says from there on what all says from st on
  with-step : (at : ℕ) (s : List ℕ) (t : Token) (st to : List (Item Truth)) → step_of table t st ≡ some to → (o : Option (List Token))
      → ran_with (at + long t) (drop (long t) s) to o ≡ ran_with at s st (Option.map (λ ts. t ∷ ts) o)
  unfolding ran_with kinds_from long_all run bind
  with-step at s t st to h none = refl
  with-step at s t st to h (some ts) =
      let e : at + long t + long_all ts ≡ at + (long t + long_all ts) = omega arith in
      rw (step-kinds table t st, h, step_after table t st to h, drop-drop (long_all ts) (long t) s, e)

  -- where it can't, nothing is acceptable
  with-stop : (at : ℕ) (s : List ℕ) (t : Token) (st : List (Item Truth)) → step_of table t st ≡ none → (o : Option (List Token))
      → None ≡ ran_with at s st (Option.map (λ ts. t ∷ ts) o)
  unfolding ran_with kinds_from bind one_left
  with-stop at s t st h none = refl
  with-stop at s t st h (some ts) = rw (step-kinds table t st, h)

  -- one turn of the run
  module _ (n at : ℕ) (s : List ℕ) (st : List (Item Truth)) (again : (m : ℕ) (r : List ℕ) (to : List (Item Truth)) → ran_from table n m r (cells_of table to) ≡ ran_with m r to (tokens_in n r)) where
    -- a token that was read
    turn-token : (t : Token) (r : Option (List (Item Truth))) → step_of table t st ≡ r → Effects table (effect_on table t st) st r
        → onward (effect_on table t st) (cells_of table st) (ran_from table n (at + long t) (drop (long t) s)) ≡ ran_with at s st (Option.map (λ ts. t ∷ ts) (tokens_in n (drop (long t) s)))
    unfolding onward
    turn-token t none h e = rw e (with-stop at s t st h (tokens_in n (drop (long t) s)))
    turn-token t (some to) h e =
        onward_is (effect_on table t st) st to (ran_from table n (at + long t) (drop (long t) s)) e
        ∙ again (at + long t) (drop (long t) s) to
        ∙ with-step at s t st to h (tokens_in n (drop (long t) s))

    -- or none
    turn_is : (o : Option Token)
        → onward (effect_at table (cells_of table st) o) (cells_of table st) (ran_from table n (at + long_of o) (drop (long_of o) s))
        ≡ ran_with at s st (bind o (λ t. Option.map (λ ts. t ∷ ts) (tokens_in n (drop (long t) s))))
    unfolding effect_at long_of bind ran_with onward
    turn_is none = refl
    turn_is (some t) = turn-token t (step_of table t st) refl (effect_is table t st)

  -- the tokens are over, or not
  at-end : (at : ℕ) (s : List ℕ) (st : List (Item Truth)) (r : Maybe Ran) (o : Option (List Token)) → r ≡ ran_with at s st o → (b : Bool)
      → cond b (ended_by at s (cells_of table st)) r ≡ ran_with at s st (cond b (some []) o)
  at-end at s st r o h true = ended_is at s st
  at-end at s st r o h false = h

  -- or no more of them may follow
  at-last : (at : ℕ) (s : List ℕ) (st : List (Item Truth)) (b : Bool) → over s ≡ b
      → ended_by at s (cells_of table st) ≡ ran_with at s st (cond b (some []) none)
  unfolding ended_by ran_with
  at-last at s st true h = ended_is at s st
  at-last at s st false h = rw (not-over s h)

  -- a run over the cells of a stack finds what the tokens say from there on
  ran-with : (n at : ℕ) (s : List ℕ) (st : List (Item Truth)) → ran_from table n at s (cells_of table st) ≡ ran_with at s st (tokens_in n s)
  unfolding ran_from tokens_in
  ran-with zero at s st = at-last at s st (over s) refl
  ran-with (suc n) at s st = at-end at s st _ _ (turn_is n at s st (ran-with n) (token_at s)) (over s)

  -- the tokens are acceptable or not
  chosen : (ts : List Token) (b : Bool) → cond b (Some (ran (tokens_end ts) (truth_of table ts))) None ≡ ran_by table (cond b (some ts) none)
  unfolding ran_by
  chosen ts true = refl
  chosen ts false = refl

  -- from the first token on that is what the definitions say
  with_all : (s : List ℕ) (o : Option (List Token)) → ran_with 4 (drop 4 s) [] o ≡ ran_by table (bind o (λ ts. cond (acceptable s ts) (some ts) none))
  unfolding ran_with acceptable kinds_of bind ran_by
  with_all s none = refl
  with_all s (some ts) = rw (drop-drop (long_all ts) 4 s) (chosen ts (acceptable s ts))

-- a run over a marked expression finds where its tokens end and what they say
pub ran-is : (table : List Attribute) (s : List ℕ) → marked s ≡ true → ran_from table 64 4 (drop 4 s) [] ≡ ran_of table s
unfolding accepted_of
ran-is table s h = ran-with table 64 4 (drop 4 s) [] ∙ rw h (with_all table s (tokens_in 64 (drop 4 s)))

-- one that isn't marked isn't acceptable
pub not-marked : (table : List Attribute) (s : List ℕ) → marked s ≡ false → ran_of table s ≡ None
unfolding accepted_of ran_by
not-marked table s h = rw h

-- ---- what a token takes off is there, and what it lays on has room

-- so many of the cells cs can be taken off, and then one be laid on
pub record Live (cs : List Cell) (e : Effect) : Type 0 where
  pub within : e.pops ≤ length cs
  pub room : length cs + 1 ≤ 16 + e.pops

module _ (cs : List Cell) (d : length cs ≤ 16) where
  -- a push has room
  live-push : (c : Cell) (e : Effect) → pushed (16 - length cs) c ≡ Some e → Live cs e
  live-push c e p = by (eqb (16 - length cs) 0) refl p
    where
      by : (b : Bool) → eqb (16 - length cs) 0 ≡ b → cond b None (Some (effect 0 c)) ≡ Some e → Live cs e
      by true q p = cc
      by false q p = let z = eqb-false (16 - length cs) 0 q in let n : 0 ≡ e.pops = cc in record { within = omega arith; room = omega arith }

  -- one or two places are taken off, which tell what nothing doesn't
  module _ {A : Type 0} (f : Cell → Maybe A) (h : f Nothing ≡ None) (g : A → Truth) where
    there-by : (k : ℕ) (x : A) → f (top_of k cs) ≡ Some x → k < length cs
    there-by k x e =
        le-or (suc k) (length cs)
        (λ l. let z : length cs ≤ k = omega arith in let n : f Nothing ≡ Some x = subst (λ (c : Cell). f c ≡ Some x) (get_or-eq_default cs Nothing z) e in cc)

    live-one : (e : Effect) → of_one (f (top_of 0 cs)) g ≡ Some e → Live cs e
    live-one e p = by (f (top_of 0 cs)) refl p
      where
        by : (m : Maybe A) → f (top_of 0 cs) ≡ m → of_one m g ≡ Some e → Live cs e
        by None q p = cc
        by (Some x) q p = let z = there-by 0 x q in let n : 1 ≡ e.pops = cc in record { within = omega arith; room = omega arith }

  live-two : {A : Type 0} (f : Cell → Maybe A) → f Nothing ≡ None → (g : A → A → Truth) (e : Effect) → of_two (f (top_of 0 cs)) (f (top_of 1 cs)) g ≡ Some e → Live cs e
  live-two {A} f h g e p = by (f (top_of 0 cs)) (f (top_of 1 cs)) refl p
    where
      by : (m n : Maybe A) → f (top_of 1 cs) ≡ n → of_two m n g ≡ Some e → Live cs e
      by None n q p = cc
      by (Some y) None q p = cc
      by (Some y) (Some x) q p = let z = there-by f h (λ _. Unknown) 1 x q in let n : 2 ≡ e.pops = cc in record { within = omega arith; room = omega arith }

  -- a token that isn't refused takes off what is there, and has room for what it lays on
  pub pops-live : (table : List Attribute) (o : Option Token) (e : Effect) → effect_at table cs o ≡ Some e → Live cs e
  unfolding effect_at effect_by
  pops-live table none e p = cc
  pops-live table (some (push o)) e p = live-push (operand_cell table o) e p
  pops-live table (some (compares c)) e p = live-two operand_in refl (compared c) e p
  pops-live table (some exists) e p = live-one name_in refl decided e p
  pops-live table (some ands) e p = live-two truth_in refl and_of e p
  pops-live table (some ors) e p = live-two truth_in refl or_of e p
  pops-live table (some nots) e p = live-one truth_in refl not_of e p

-- ---- what a run finds

module _ (table : List Attribute) (s : List ℕ) where
  -- where the tokens end, if anywhere
  pub end-found : option_map (λ (r : Ran). r.end) (ran_of table s) ≡ unless_zero (stored_end s)
  unfolding ran_by end_by
  end-found = by (accepted_of s)
    where
      by : (o : Option (List Token)) → option_map (λ (r : Ran). r.end) (ran_by table o) ≡ unless_zero (end_by o)
      by none = sym (unless_zero-none 0 refl)
      by (some ts) = sym (unless_zero-some (tokens_end ts) (omega arith))

  -- what they say
  pub truth-found : option_map_or (λ (r : Ran). r.truth) (ran_of table s) Unknown ≡ truth_by table (accepted_of s)
  unfolding ran_by truth_by
  truth-found = by (accepted_of s)
    where
      by : (o : Option (List Token)) → option_map_or (λ (r : Ran). r.truth) (ran_by table o) Unknown ≡ truth_by table o
      by none = refl
      by (some ts) = refl

  -- both at once
  pub run-found : (r : Ran) → Some r ≡ ran_of table s → (r.end ≡ stored_end s) × (0 < r.end) × (r.truth ≡ truth_by table (accepted_of s))
  unfolding ran_by end_by truth_by
  run-found r h = by (accepted_of s) h
    where
      by : (o : Option (List Token)) → Some r ≡ ran_by table o → (r.end ≡ end_by o) × (0 < r.end) × (r.truth ≡ truth_by table o)
      by none e = cc
      by (some ts) e = let z : r ≡ ran (tokens_end ts) (truth_of table ts) = cc in (ap (λ (x : Ran). x.end) z, omega (arith, ap (λ (x : Ran). x.end) z), ap (λ (x : Ran). x.truth) z)

  -- what isn't acceptable doesn't stand alone
  pub not-alone : None ≡ ran_of table s → stored_alone s ≡ false
  unfolding ran_by end_by stored_alone
  not-alone h = by (accepted_of s) h
    where
      by : (o : Option (List Token)) → None ≡ ran_by table o → (ltb 0 (end_by o) && (eqb (length s) (end_by o) || eqb (length s) (up_to_four (end_by o)))) ≡ false
      by none e = refl
      by (some ts) e = cc
