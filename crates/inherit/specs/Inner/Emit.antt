-- How the code goes over a list: by passes, each entry through its pass and the last step at once.
use Rattle.std.specs.Prelude.{ℕ, ◌+◌, Bool, true, cond, ◌||◌, length, set, Option}
use Rattle.std.specs.Bool.{then_some}
use mathlib.Core.List.{List, [], ◌∷◌, ◌++◌, flatten}
use Rattle.std.specs.Int.Bits.{bit_or}
use Rattle.list.specs.Identity.{placeholder_of}
use Rattle.list.specs.Entry.{access, kind_of, flags_of, mask_of, middle_of, sid_of, tail_of, EntryParts, entry_bytes}
use Rattle.inherit.specs.declared.copies.Pass.{Pass}
use Rattle.inherit.specs.declared.copies.Pass.TheVariants.{First, Second, Own, All}
use Rattle.inherit.specs.declared.copies.Origin.{Origin}
use Rattle.inherit.specs.declared.copies.Origin.TheVariants.{Own as Origin-as-Own, Parent, Default}
use Rattle.inherit.specs.declared.terms.Terms.{Terms}
use Rattle.inherit.specs.declared.passes.Measure.{Measure}
use Rattle.inherit.specs.Asked.{Given}
use Rattle.inherit.specs.Copies.{kept_flags, takes_first, takes_second, takes_own}
use Rattle.inherit.specs.Last.{in_place, last_mask, resolved}
use Rattle.inherit.specs.Compute.{any_object}
use Rattle.inherit.specs.Inner.Rules.{number_by}

-- what the code is given, as the definitions have it
abbrev pub given_by : Terms → Given
given_by t =
    record { rule = number_by t.rule; container = t.container; mapping = t.mapping; types = t.types.now; owner = t.owner.now; group = t.group.now }

-- the parent's first part, its second, the creator's own entries, all of the default list
unfoldable pub takes_by : Given → Pass → List ℕ → Bool
takes_by g First e = takes_first g e
takes_by g Second e = takes_second g 0x04 e
takes_by g Own e = takes_own e
takes_by g All e = true

unfoldable pub flags_by : Pass → ℕ → ℕ
flags_by First flags = bit_or (kept_flags access flags) 0x10
flags_by Second flags = bit_or flags 0x18
flags_by Own flags = flags
flags_by All flags = flags

-- the flags of an entry's copy, where a pass takes it
abbrev pub picked : Given → Pass → List ℕ → Option ℕ
picked g p e = then_some (takes_by g p e) (flags_by p (flags_of e))

-- what stands in the SID's place
abbrev pub put_in : List ℕ → List ℕ → List ℕ → List ℕ
put_in t owner group = in_place (placeholder_of (sid_of t)) (sid_of t) owner group

-- how long a copy of the entry that t begins with is
abbrev pub copy_length : List ℕ → List ℕ → List ℕ → ℕ
copy_length t owner group = 8 + (length (middle_of t) + (length (put_in t owner group) + length (tail_of t)))

-- the parts of a copy, with these flags and this mask
abbrev pub copy_parts : ℕ → ℕ → List ℕ → List ℕ → List ℕ → EntryParts
copy_parts flags mask t owner group =
    record { kind = kind_of t; flags = flags; mask = mask; middle = middle_of t; sid = put_in t owner group; tail = tail_of t }

-- a copy of the entry that t begins with, with its flags, as the last step leaves it
unfoldable pub copy_of : Given → ℕ → List ℕ → List ℕ
copy_of g flags t = entry_bytes (copy_parts flags (last_mask g.rule g.mapping (mask_of t)) t g.owner g.group)

-- one entry: none, or the one that is written
unfoldable pub emit_of : Given → Pass → List ℕ → List (List ℕ)
emit_of g p e = cond (takes_by g p e) (resolved g (set e 1 (flags_by p (flags_of e))) ∷ []) []

unfoldable pub emit_all : Given → Pass → List (List ℕ) → List (List ℕ)
emit_all g p [] = []
emit_all g p (e ∷ es) = emit_of g p e ++ emit_all g p es

-- how many bytes and entries, and whether an object entry is among them
abbrev pub measure_of : List (List ℕ) → Measure
measure_of es = record { bytes = length (flatten es); count = length es; object = any_object es }

abbrev pub both : Measure → Measure → Measure
both a b = record { bytes = a.bytes + b.bytes; count = a.count + b.count; object = a.object || b.object }

-- how many copies an entry gives, by the list it comes from, and how much they measure
abbrev pub once : Bool → ℕ
once taken = cond taken 1 0

unfoldable pub times_of : Given → Origin → List ℕ → ℕ
times_of g Origin-as-Own e = once (takes_by g Own e)
times_of g Parent e = once (takes_by g First e) + once (takes_by g Second e)
times_of g Default e = once (takes_by g All e)

unfoldable pub measure_from : Given → Origin → List ℕ → Measure
measure_from g Origin-as-Own e = measure_of (emit_of g Own e)
measure_from g Parent e = both (measure_of (emit_of g First e)) (measure_of (emit_of g Second e))
measure_from g Default e = measure_of (emit_of g All e)

unfoldable pub measure_all : Given → Origin → List (List ℕ) → Measure
measure_all g o [] = measure_of []
measure_all g o (e ∷ es) = both (measure_from g o e) (measure_all g o es)
