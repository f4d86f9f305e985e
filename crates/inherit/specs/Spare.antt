-- What is asked, without spare bytes (RULES 1.4) in any of the lists.
use Rattle.std.specs.Prelude.{ℕ, ◌≡◌, List, length}
use Rattle.std.proofs.Math.Option.{none, some}
use Rattle.list.specs.Entry.{access}
use Rattle.list.specs.List.{count_of, check_of, read_as, MaybeList}
use Rattle.list.specs.Spare.{bare}
use Rattle.inherit.specs.Asked.{Asked}

unfoldable pub bare_if : MaybeList → MaybeList
bare_if none = none
bare_if (some s) = some (bare access s)

-- what is asked, with other lists for the parent, the creator and the default
abbrev pub with_lists : MaybeList → MaybeList → MaybeList → Asked → Asked
with_lists parent creator default a =
    record {
      rule = a.rule;
      parent = parent;
      creator = creator;
      default = default;
      container = a.container;
      types = a.types;
      owner = a.owner;
      group = a.group;
      mapping = a.mapping;
      auto-inherit = a.auto-inherit;
      default-descriptor = a.default-descriptor;
      protected = a.protected;
    }

abbrev pub bare_asked : Asked → Asked
bare_asked a = with_lists (bare_if a.parent) (bare_if a.creator) (bare_if a.default) a

-- a list that is present has no spare bytes: its entries end at its length
abbrev pub NoSpare : MaybeList → Type 0
NoSpare none = Unit
NoSpare (some s) = check_of access s ≡ read_as (length s) (count_of s) (length s)

-- a list that is present has P
abbrev pub Each : (List ℕ → Type 0) → MaybeList → Type 0
Each P none = Unit
Each P (some s) = P s

-- each of the three lists has P: is made of bytes, for one
pub record Lists (P : List ℕ → Type 0) (a : Asked) : Type 0 where
  pub parent : Each P a.parent
  pub creator : Each P a.creator
  pub default : Each P a.default
