-- How the code keeps the stack: a cell for each place. Keys stand in the order of the signed numbers. What the code answers is in options of the code's
-- own kind, here `Maybe`.
use Rattle.std.specs.Prelude.{ℕ, zero, suc, ◌+◌, ◌-◌, ◌%◌, List, [], ◌∷◌, Bool, true, false, cond, not, length, get_or, take, drop, eqb, leb, ltb, option_map}
use Rattle.std.specs.Prelude.{Option as Maybe, None, Some}
use Rattle.std.proofs.Math.Option.{Option, none, some}
use Rattle.condition.specs.declared.truths.Truth.{Truth}
use Rattle.condition.specs.declared.truths.Truth.TheVariants.{Unknown}
use Rattle.condition.specs.declared.operators.Comparison.{Comparison}
use Rattle.condition.specs.declared.operators.Comparison.TheVariants.{Equal, Unequal, Below, AtMost, Above, AtLeast}
use Rattle.condition.specs.declared.operators.Operator.{Operator}
use Rattle.condition.specs.declared.operators.Operator.TheVariants.{Compares, Exists, And, Or, Not}
use Rattle.condition.specs.declared.cells.Cell.{Cell}
use Rattle.condition.specs.declared.cells.Cell.TheVariants.{Number, Found, Lacking, Says, Nothing}
use Rattle.condition.specs.declared.cells.Effect.{Effect}
use Rattle.condition.specs.declared.runs.Ran.{Ran}
use Rattle.condition.specs.Token.{Compare, equal, unequal, below, at_most, above, at_least, Operand, number, name, Token, push, compares, exists, ands, ors, nots, long, over, token_at}
use Rattle.condition.specs.Kind.{accepted_of, tokens_end, zeros}
use Rattle.condition.specs.Table.{Attribute, value_in}
use Rattle.condition.specs.Meaning.{and_of, or_of, not_of, decided, Item, operand, holding, truth_of}

-- how many bytes the token has that is there; 0 where none is
unfoldable pub long_of : Option Token → ℕ
long_of none = 0
long_of (some t) = long t

-- the operators as the code has them
abbrev pub comparison_meant : Comparison → Compare
comparison_meant Equal = equal
comparison_meant Unequal = unequal
comparison_meant Below = below
comparison_meant AtMost = at_most
comparison_meant Above = above
comparison_meant AtLeast = at_least

abbrev pub token_meant : Operator → Token
token_meant (Compares c) = compares (comparison_meant c)
token_meant Exists = exists
token_meant And = ands
token_meant Or = ors
token_meant Not = nots

abbrev pub operator_meant : Maybe Operator → Option Token
operator_meant None = none
operator_meant (Some o) = some (token_meant o)

-- 64 bits in the order of the signed numbers: the lowest one is 0
abbrev pub key_of : ℕ → ℕ
key_of w = (w + 0x8000000000000000) % 0x10000000000000000

-- the key of a number that was found
unfoldable pub found_by : Option ℕ → Maybe ℕ
found_by none = None
found_by (some w) = Some (key_of w)

abbrev pub found_cell : Maybe ℕ → Cell
found_cell None = Lacking
found_cell (Some k) = Found k

unfoldable pub operand_cell : List Attribute → Operand → Cell
operand_cell table (number w) = Number (key_of w)
operand_cell table (name n) = found_cell (found_by (value_in table n))

unfoldable pub cell_of : List Attribute → Item Truth → Cell
cell_of table (operand o) = operand_cell table o
cell_of table (holding v) = Says v

-- an operand's key, none of a missing name
abbrev pub operand_in : Cell → Maybe (Maybe ℕ)
operand_in (Number k) = Some (Some k)
operand_in (Found k) = Some (Some k)
operand_in Lacking = Some None
operand_in (Says v) = None
operand_in Nothing = None

-- whether a name has a number
abbrev pub name_in : Cell → Maybe Bool
name_in (Number k) = None
name_in (Found k) = Some true
name_in Lacking = Some false
name_in (Says v) = None
name_in Nothing = None

-- what a condition says
abbrev pub truth_in : Cell → Maybe Truth
truth_in (Number k) = None
truth_in (Found k) = None
truth_in Lacking = None
truth_in (Says v) = Some v
truth_in Nothing = None

unfoldable pub compare_keys : Compare → ℕ → ℕ → Bool
compare_keys equal x y = eqb x y
compare_keys unequal x y = not (eqb x y)
compare_keys below x y = ltb x y
compare_keys at_most x y = leb x y
compare_keys above x y = ltb y x
compare_keys at_least x y = leb y x

-- two operands compared
abbrev pub compared : Compare → Maybe ℕ → Maybe ℕ → Truth
compared c None y = Unknown
compared c (Some x) None = Unknown
compared c (Some x) (Some y) = decided (compare_keys c x y)

-- what a token does: so many places are taken off, and a cell is laid on top
abbrev pub effect : ℕ → Cell → Effect
effect pops c = record { pops = pops; cell = c }

-- an operand is laid on where there is room
abbrev pub pushed : ℕ → Cell → Maybe Effect
pushed top c = cond (eqb top 0) None (Some (effect 0 c))

-- a condition takes the place of one or two that are there: the top one is first here, and last in what is made of them
module _ {A : Type 0} where
  abbrev pub of_one : Maybe A → (A → Truth) → Maybe Effect
  of_one None f = None
  of_one (Some x) f = Some (effect 1 (Says (f x)))

  abbrev pub of_two : Maybe A → Maybe A → (A → A → Truth) → Maybe Effect
  of_two None x f = None
  of_two (Some y) None f = None
  of_two (Some y) (Some x) f = Some (effect 2 (Says (f x y)))

-- none where what it needs isn't there: `top` more places may be laid on; a is on top and b below it
unfoldable pub effect_by : List Attribute → ℕ → Cell → Cell → Token → Maybe Effect
effect_by table top a b (push o) = pushed top (operand_cell table o)
effect_by table top a b (compares c) = of_two (operand_in a) (operand_in b) (compared c)
effect_by table top a b exists = of_one (name_in a) decided
effect_by table top a b ands = of_two (truth_in a) (truth_in b) and_of
effect_by table top a b ors = of_two (truth_in a) (truth_in b) or_of
effect_by table top a b nots = of_one (truth_in a) not_of

-- the cells that stand on the stack, the top one first, where so many places of its array are free
abbrev pub live : List Cell → ℕ → List Cell
live cells top = take (16 - top) (drop top cells)

-- the place k below the top
abbrev pub top_of : ℕ → List Cell → Cell
top_of k cs = get_or cs k Nothing

unfoldable pub effect_at : List Attribute → List Cell → Option Token → Maybe Effect
effect_at table cs none = None
effect_at table cs (some t) = effect_by table (16 - length cs) (top_of 0 cs) (top_of 1 cs) t

-- what the one condition says that is left
unfoldable pub only_in : List Cell → Maybe Truth
only_in [] = None
only_in (c ∷ []) = truth_in c
only_in (c ∷ (d ∷ cs)) = None

-- what a run finds: where the tokens end and what they say; none where they aren't acceptable
abbrev pub ran : ℕ → Truth → Ran
ran end truth = record { end = end; truth = truth }

-- at the end of the tokens, where s lies
unfoldable pub ended_by : ℕ → List ℕ → List Cell → Maybe Ran
ended_by at s cs = cond (zeros s) (option_map (ran at) (only_in cs)) None

unfoldable pub onward : Maybe Effect → List Cell → (List Cell → Maybe Ran) → Maybe Ran
onward None cs rest = None
onward (Some e) cs rest = rest (e.cell ∷ drop e.pops cs)

-- from `at` on, where s lies, at most n tokens, with the cells cs
unfoldable pub ran_from : List Attribute → ℕ → ℕ → List ℕ → List Cell → Maybe Ran
ran_from table zero at s cs = ended_by at s cs
ran_from table (suc n) at s cs =
    cond (over s) (ended_by at s cs)
    (onward (effect_at table cs (token_at s)) cs (ran_from table n (at + long_of (token_at s)) (drop (long_of (token_at s)) s)))

-- the same by the definitions
unfoldable pub ran_by : List Attribute → Option (List Token) → Maybe Ran
ran_by table none = None
ran_by table (some ts) = Some (ran (tokens_end ts) (truth_of table ts))

abbrev pub ran_of : List Attribute → List ℕ → Maybe Ran
ran_of table s = ran_by table (accepted_of s)
