-- The five branches of the computation, by the table of RULES 2.10.
use Rattle.std.specs.Prelude.{ℕ, List, [], ◌++◌, Bool, true, false, not, cond, ◌&&◌, eqb}
use Rattle.std.proofs.Math.Option.{none, some}
use Rattle.list.specs.List.{MaybeList}
use Rattle.list.specs.Entry.{Family, access}
use Rattle.inherit.specs.Asked.{Asked, Given, given_in, entries_if}
use Rattle.inherit.specs.Copies.{any_heritable, from_parent, own_entries, from_creator}
use Rattle.inherit.specs.Last.{last_step}

-- an absent list, or a list's entries with the control bits
pub data Result : Type 0 where
  absent : Result
  holds : List (List ℕ) → ℕ → Result

-- the control bit of a list that inherited automatically
unfoldable pub inherited_bit : Family → ℕ
inherited_bit access = 0x0400

-- P: the parent's part if auto inherit is yes and protected is no, with its control bit; otherwise empty, and control is 0
abbrev pub takes_p : Asked → Bool
takes_p a = a.auto-inherit && not a.protected

abbrev pub control : Family → Asked → ℕ
control f a = cond (takes_p a) (inherited_bit f) 0

abbrev pub parent_part : Family → Asked → List (List ℕ) → List (List ℕ)
parent_part f a es = cond (takes_p a) (from_parent f (given_in a) es) []

-- the parent has an inheritable entry, and the creator's list is present: default descriptor, else rule 1, else rule 2
unfoldable pub with_creator : Family → Asked → List (List ℕ) → List (List ℕ) → Result
with_creator f a parent creator =
    cond a.default-descriptor
    (holds (last_step (given_in a) true (from_parent f (given_in a) parent)) 0)
    (cond (eqb a.rule 1)
    (holds (last_step (given_in a) true (from_creator f (given_in a) creator ++ parent_part f a parent)) (control f a))
    (holds (last_step (given_in a) false (own_entries creator ++ parent_part f a parent)) (control f a)))

-- the parent has no inheritable entry, and the creator's list is absent: the default list
unfoldable pub from_default : Given → MaybeList → Result
from_default g none = absent
from_default g (some d) = holds (last_step g false (entries_if (some d))) 0

-- the table: whether the parent has an inheritable entry, and whether the creator's list is present
unfoldable pub branch : Family → Asked → Bool → List (List ℕ) → MaybeList → Result
branch f a true parent none = holds (last_step (given_in a) true (from_parent f (given_in a) parent)) 0
branch f a true parent (some c) = with_creator f a parent (entries_if (some c))
branch f a false parent none = from_default (given_in a) a.default
branch f a false parent (some c) = holds (last_step (given_in a) false (own_entries (entries_if (some c)))) 0

-- the list that is asked for; an absent parent has no inheritable entry
unfoldable pub result_of : Family → Asked → Result
result_of f a = branch f a (any_heritable (entries_if a.parent)) (entries_if a.parent) a.creator
