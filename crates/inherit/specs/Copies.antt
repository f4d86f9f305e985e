-- What is copied from the parent's list and from the creator's, before the last step (RULES 2.2 to 2.6). An entry is its bytes.
use Rattle.std.specs.Prelude.{ℕ, List, [], ◌∷◌, ◌++◌, Bool, true, false, not, cond, ◌&&◌, ◌||◌, set}
use Rattle.std.specs.Int.Bits.{bit_or}
use Rattle.octets.specs.Bytes.{guid_at, has, among}
use Rattle.list.specs.Entry.{Family, access, object_kind, kind_of, flags_of, word_of}
use Rattle.inherit.specs.Asked.{Given}

-- OI or CI is set
abbrev pub heritable : List ℕ → Bool
heritable e = has 0x03 (flags_of e)

unfoldable pub any_heritable : List (List ℕ) → Bool
any_heritable [] = false
any_heritable (e ∷ es) = heritable e || any_heritable es

-- types 00, 01, 09 and 0A always; types 05 and 06 if the entry has an ObjectType that is among the object types
unfoldable pub type_applies : Given → List ℕ → Bool
type_applies g e = cond (object_kind (kind_of e)) (has 1 (word_of e) && among (guid_at e 12) g.types) true

-- one pass: the entries that are taken, in order, each with its new flags
unfoldable pub pass : (List ℕ → Bool) → (ℕ → ℕ) → List (List ℕ) → List (List ℕ)
pass takes flags [] = []
pass takes flags (e ∷ es) = cond (takes e) (set e 1 (flags (flags_of e)) ∷ pass takes flags es) (pass takes flags es)

-- the flags that a copy keeps in the first part: none in an access list
unfoldable pub kept_flags : Family → ℕ → ℕ
kept_flags access flags = 0

-- first part: each entry with CI (container) or OI (not a container) whose type applies
unfoldable pub takes_first : Given → List ℕ → Bool
takes_first g e = has (cond g.container 0x02 0x01) (flags_of e) && type_applies g e

unfoldable pub first_part : Family → Given → ℕ → List (List ℕ) → List (List ℕ)
first_part f g become es = pass (takes_first g) (λ flags. bit_or (kept_flags f flags) become) es

-- second part, only for a container: each inheritable entry without the bit that stops it
unfoldable pub takes_second : Given → ℕ → List ℕ → Bool
takes_second g stop e = g.container && (heritable e && not (has stop (flags_of e)))

unfoldable pub second_part : Given → ℕ → ℕ → List (List ℕ) → List (List ℕ)
second_part g stop added es = pass (takes_second g stop) (λ flags. bit_or flags added) es

-- from the parent: the copy's flags become ID alone; then those without NP, with ID and IO added
unfoldable pub from_parent : Family → Given → List (List ℕ) → List (List ℕ)
from_parent f g es = first_part f g 0x10 es ++ second_part g 0x04 0x18 es

-- own entries: the creator's entries without ID
abbrev pub takes_own : List ℕ → Bool
takes_own e = not (has 0x10 (flags_of e))

unfoldable pub own_entries : List (List ℕ) → List (List ℕ)
own_entries es = pass takes_own (λ flags. flags) es

-- from the creator: the same over the own entries, but flags 0, then IO only, and NP isn't looked at
unfoldable pub from_creator : Family → Given → List (List ℕ) → List (List ℕ)
from_creator f g es = first_part f g 0x00 (own_entries es) ++ second_part g 0x00 0x08 (own_entries es)
