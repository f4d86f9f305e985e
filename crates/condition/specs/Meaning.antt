-- What an expression says under a table (RULES 11.6, 11.7): token by token, with an operand or a condition at each place of the stack.
use Rattle.std.specs.Prelude.{ℕ, List, [], ◌∷◌, Bool, cond, not, ◌&&◌, ℤ, Result, Ok, Err}
use Rattle.std.proofs.Math.Option.{Option, none, some, bind}
use Rattle.std.specs.Int.Signed.{lt_z, le_z}
use Rattle.refusal.specs.declared.Refusal.{Refusal}
use Rattle.refusal.specs.declared.Refusal.TheVariants.{Expression, Table}
use Rattle.octets.specs.Order.{need}
use Rattle.condition.specs.declared.truths.Truth.{Truth}
use Rattle.condition.specs.declared.truths.Truth.TheVariants.{False, True, Unknown}
use Rattle.condition.specs.Token.{Compare, equal, unequal, below, at_most, above, at_least, Operand, number, name, Token, push, compares, exists, ands, ors, nots, signed}
use Rattle.condition.specs.Kind.{accepted_of, stored_alone}
use Rattle.condition.specs.Table.{Attribute, attributes_of, value_in, missing, table_ok}

-- three-valued and, or, not
unfoldable pub and_of : Truth → Truth → Truth
and_of False b = False
and_of True b = b
and_of Unknown False = False
and_of Unknown True = Unknown
and_of Unknown Unknown = Unknown

unfoldable pub or_of : Truth → Truth → Truth
or_of True b = True
or_of False b = b
or_of Unknown True = True
or_of Unknown False = Unknown
or_of Unknown Unknown = Unknown

unfoldable pub not_of : Truth → Truth
not_of False = True
not_of True = False
not_of Unknown = Unknown

abbrev pub decided : Bool → Truth
decided b = cond b True False

-- two signed numbers compared
unfoldable pub compare_of : Compare → ℤ → ℤ → Bool
compare_of equal a b = le_z a b && le_z b a
compare_of unequal a b = not (le_z a b && le_z b a)
compare_of below a b = lt_z a b
compare_of at_most a b = le_z a b
compare_of above a b = lt_z b a
compare_of at_least a b = le_z b a

-- an operand's number, none of a missing name
unfoldable pub value_of : List Attribute → Operand → Option ℕ
value_of table (number w) = some w
value_of table (name n) = value_in table n

-- a missing name is unknown in a comparison
unfoldable pub comparing : Compare → Option ℕ → Option ℕ → Truth
comparing c none b = Unknown
comparing c (some a) none = Unknown
comparing c (some a) (some b) = decided (compare_of c (signed a) (signed b))

-- what conditions are made of: from operands, a name, conditions
pub record Sense (C : Type 0) : Type 0 where
  pub comparison : Compare → Operand → Operand → C
  pub existence : List ℕ → C
  pub conjunction : C → C → C
  pub disjunction : C → C → C
  pub negation : C → C

-- under a table a condition is true, false or unknown
abbrev pub under : List Attribute → Sense Truth
under table =
    record {
      comparison = λ c a b. comparing c (value_of table a) (value_of table b);
      existence = λ n. decided (not (missing (value_in table n)));
      conjunction = and_of;
      disjunction = or_of;
      negation = not_of;
    }

-- what stands at a place of the stack
pub data Item (C : Type 0) : Type 0 where
  operand : Operand → Item C
  holding : C → Item C

module _ {C : Type 0} where
  -- what is on top, the last one first: two operands, a name, two conditions, a condition; none where something else is
  unfoldable pub on_operands : (Operand → Operand → C) → List (Item C) → Option (List (Item C))
  on_operands f [] = none
  on_operands f (holding c ∷ st) = none
  on_operands f (operand b ∷ []) = none
  on_operands f (operand b ∷ (holding c ∷ st)) = none
  on_operands f (operand b ∷ (operand a ∷ st)) = some (holding (f a b) ∷ st)

  unfoldable pub on_name : (List ℕ → C) → List (Item C) → Option (List (Item C))
  on_name f [] = none
  on_name f (holding c ∷ st) = none
  on_name f (operand (number w) ∷ st) = none
  on_name f (operand (name n) ∷ st) = some (holding (f n) ∷ st)

  unfoldable pub on_conditions : (C → C → C) → List (Item C) → Option (List (Item C))
  on_conditions f [] = none
  on_conditions f (operand b ∷ st) = none
  on_conditions f (holding b ∷ []) = none
  on_conditions f (holding b ∷ (operand a ∷ st)) = none
  on_conditions f (holding b ∷ (holding a ∷ st)) = some (holding (f a b) ∷ st)

  unfoldable pub on_condition : (C → C) → List (Item C) → Option (List (Item C))
  on_condition f [] = none
  on_condition f (operand a ∷ st) = none
  on_condition f (holding a ∷ st) = some (holding (f a) ∷ st)

  -- one token: an operand is laid on the stack, an operator takes what it needs and lays its condition there
  unfoldable pub after_token : Sense C → Token → List (Item C) → Option (List (Item C))
  after_token S (push o) st = some (operand o ∷ st)
  after_token S (compares c) st = on_operands (S.comparison c) st
  after_token S exists st = on_name S.existence st
  after_token S ands st = on_conditions S.conjunction st
  after_token S ors st = on_conditions S.disjunction st
  after_token S nots st = on_condition S.negation st

  unfoldable pub run : Sense C → List Token → List (Item C) → Option (List (Item C))
  run S [] st = some st
  run S (t ∷ ts) st = bind (after_token S t st) (run S ts)

-- the one condition that is left
unfoldable pub truth_left : Option (List (Item Truth)) → Truth
truth_left none = Unknown
truth_left (some []) = Unknown
truth_left (some (operand o ∷ st)) = Unknown
truth_left (some (holding v ∷ st)) = v

-- what tokens say
abbrev pub truth_of : List Attribute → List Token → Truth
truth_of table ts = truth_left (run (under table) ts [])

-- what an acceptable expression says; any other bytes say nothing
unfoldable pub truth_by : List Attribute → Option (List Token) → Truth
truth_by table none = Unknown
truth_by table (some ts) = truth_of table ts

abbrev pub said_by : List ℕ → List ℕ → Truth
said_by s table = truth_by (attributes_of table) (accepted_of s)

-- the evaluator's answer: 15, not an acceptable expression alone; 23, not a table so made; then what it says
unfoldable pub evaluate_of : List ℕ → List ℕ → Result Truth Refusal
evaluate_of s table =
    need (stored_alone s) (Err Expression)
    (need (table_ok table) (Err Table)
    (Ok (said_by s table)))
