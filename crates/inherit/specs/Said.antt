-- Words of theorems alone (RULES 2.15): no promise cites them.
use Rattle.std.specs.Prelude.{◌≡◌, true, false, List, ◌∷◌, ◌++◌, ◌⊎◌, ℕ, ◌^◌, ◌<◌}
use Rattle.std.proofs.Math.Option.{none, some}
use Rattle.octets.specs.Bytes.{has}
use Rattle.list.specs.Entry.{kind_of, flags_of, mask_of, tail_of}
use Rattle.list.specs.List.{entries_of, MaybeList}
use Rattle.list.specs.Good.{Every}
use Rattle.inherit.specs.declared.Mapping.{Mapping}
use Rattle.inherit.specs.Asked.{Asked, given_in, entries_if}
use Rattle.inherit.specs.Copies.{any_heritable, takes_first, takes_own}
use Rattle.inherit.specs.Branch.{takes_p}

-- the same question with another mapping
abbrev pub with_mapping : Asked → Mapping → Asked
with_mapping a m =
    record {
      rule = a.rule;
      parent = a.parent;
      creator = a.creator;
      default = a.default;
      container = a.container;
      types = a.types;
      owner = a.owner;
      group = a.group;
      mapping = m;
      auto-inherit = a.auto-inherit;
      default-descriptor = a.default-descriptor;
      protected = a.protected;
    }

-- an entry's mask is below the generic bits
abbrev pub Low : List ℕ → Type 0
Low e = mask_of e < 2 ^ 28

-- no mask of a list, where there is one, has a generic bit
abbrev pub NoGeneric : MaybeList → Type 0
NoGeneric none = Unit
NoGeneric (some s) = Every (λ e. has 0xF0000000 (mask_of e) ≡ false) (entries_of s)

-- an entry stands among others
pub record Stands (e : List ℕ) (es : List (List ℕ)) : Type 0 where
  pub before : List (List ℕ)
  pub after : List (List ℕ)
  pub is : es ≡ before ++ (e ∷ after)

-- an entry of the parent's list that the first part takes, where the parent's part is taken: its copy has ID alone
pub record Inherited (a : Asked) (e : List ℕ) (flags : ℕ) : Type 0 where
  pub stands : Stands e (entries_if a.parent)
  pub takes : takes_first (given_in a) e ≡ true
  pub taken : (a.creator ≡ none) ⊎ ((a.default-descriptor ≡ true) ⊎ (takes_p a ≡ true))
  pub flags-are : flags ≡ 0x10

-- one of the creator's own entries, where rule 2 takes them: its copy has its flags
pub record Own (a : Asked) (e : List ℕ) (flags : ℕ) : Type 0 where
  pub stands : Stands e (entries_if a.creator)
  pub takes : takes_own e ≡ true
  pub taken : (any_heritable (entries_if a.parent) ≡ false) ⊎ (a.default-descriptor ≡ false)
  pub flags-are : flags ≡ flags_of e

-- one of the default list's entries, where nothing is inherited and no creator's list is given: its copy has its flags
pub record Default (a : Asked) (e : List ℕ) (flags : ℕ) : Type 0 where
  pub stands : Stands e (entries_if a.default)
  pub nothing : any_heritable (entries_if a.parent) ≡ false
  pub alone : a.creator ≡ none
  pub flags-are : flags ≡ flags_of e

-- an entry of a list that was given, and the flags of its copy in the result
abbrev pub Copied : Asked → List ℕ → ℕ → Type 0
Copied a e flags = Inherited a e flags ⊎ (Own a e flags ⊎ Default a e flags)

-- the entries of all lists that were given
abbrev pub given_entries : Asked → List (List ℕ)
given_entries a = entries_if a.parent ++ (entries_if a.creator ++ entries_if a.default)

-- x has the type of one of these entries and, byte for byte, what follows that one's SID: a conditional entry's expression
pub record Kept (es : List (List ℕ)) (x : List ℕ) : Type 0 where
  pub entry : List ℕ
  pub stands : Stands entry es
  pub kind : kind_of x ≡ kind_of entry
  pub tail : tail_of x ≡ tail_of entry
