-- What a computation is asked (RULES 2.1).
use Rattle.std.specs.Prelude.{ℕ, ◌%◌, ◌/◌, List, [], ◌∷◌, Bool, ◌&&◌, length, take, eqb, leb, Option, Some, None}
use Rattle.std.specs.Borrow.{Bor}
use Rattle.std.proofs.Math.Option.{none, some}
use Rattle.octets.specs.Bytes.{guid_at}
use Rattle.list.specs.List.{entries_of, MaybeList}
use Rattle.inherit.specs.declared.Mapping.{Mapping}

-- a list that is lent, or none
abbrev pub lent_list : Option (Bor (List ℕ)) → MaybeList
lent_list None = none
lent_list (Some s) = some s.now

-- an absent list has no entries
unfoldable pub entries_if : MaybeList → List (List ℕ)
entries_if none = []
entries_if (some s) = entries_of s

-- the rule number; the parent's, the creator's and the default list; container or not; the object types, in their bytes; owner and group; the
-- mapping masks; and the three settings
pub record Asked : Type 0 where
  pub rule : ℕ
  pub parent : MaybeList
  pub creator : MaybeList
  pub default : MaybeList
  pub container : Bool
  pub types : List ℕ
  pub owner : List ℕ
  pub group : List ℕ
  pub mapping : Mapping
  pub auto-inherit : Bool
  pub default-descriptor : Bool
  pub protected : Bool

-- the object types in their bytes: a multiple of 16, at most 64
unfoldable pub types_ok : List ℕ → Bool
types_ok b = leb (length b) 64 && eqb (length b % 16) 0

-- the first four GUIDs of b; and as many of them as b holds
abbrev pub four_of : List ℕ → List (List ℕ)
four_of b = guid_at b 0 ∷ guid_at b 16 ∷ guid_at b 32 ∷ guid_at b 48 ∷ []

unfoldable pub types_of : List ℕ → List (List ℕ)
types_of b = take (length b / 16) (four_of b)

-- the part of it that says how one entry is copied, with the object types as GUIDs
pub record Given : Type 0 where
  pub rule : ℕ
  pub container : Bool
  pub mapping : Mapping
  pub types : List (List ℕ)
  pub owner : List ℕ
  pub group : List ℕ

abbrev pub given_in : Asked → Given
given_in a =
    record {
      rule = a.rule;
      container = a.container;
      mapping = a.mapping;
      types = types_of a.types;
      owner = a.owner;
      group = a.group;
    }
