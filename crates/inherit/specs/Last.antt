-- The last step (RULES 2.7 to 2.9): entries pass by a filter; a placeholder becomes the owner or the group; generic bits are mapped, by the rule.
use Rattle.std.specs.Prelude.{ℕ, List, [], ◌∷◌, ◌++◌, Bool, not, cond, ◌||◌, eqb}
use Rattle.std.specs.Int.Bits.{bit_and, bit_or}
use Rattle.octets.specs.Bytes.{has}
use Rattle.list.specs.Identity.{placeholder_of}
use Rattle.list.specs.Entry.{kind_of, flags_of, mask_of, middle_of, sid_of, tail_of, entry_bytes}
use Rattle.inherit.specs.declared.Mapping.{Mapping}
use Rattle.inherit.specs.Asked.{Given}

-- what stands in a SID's place: for creator owner the owner's bytes, for creator group the group's, else its own
unfoldable pub in_place : ℕ → List ℕ → List ℕ → List ℕ → List ℕ
in_place which sid owner group = cond (eqb which 1) owner (cond (eqb which 2) group sid)

-- a mapping is joined where the mask as it came has the bit
abbrev pub joined : ℕ → ℕ → ℕ → ℕ → ℕ
joined bit came mask mapping = cond (has bit came) (bit_or mask mapping) mask

-- the printed text: 80000000 joins the read mapping, 40000000 the write mapping, 20000000 the execute mapping; they stay, and 10000000 adds nothing
unfoldable pub mapped : Mapping → ℕ → ℕ
mapped m mask =
    joined 0x20000000 mask (joined 0x40000000 mask (joined 0x80000000 mask mask m.read) m.write) m.execute

-- the rules that mend the printed text: rule 2
unfoldable pub mends : ℕ → Bool
mends rule = eqb rule 2

-- mended: 10000000 joins the "all" mapping too; then the four generic bits are cleared, whether they came or a mapping brought them in
unfoldable pub mended : Mapping → ℕ → ℕ
mended m mask = bit_and (joined 0x10000000 mask (mapped m mask) m.all) 0x0FFFFFFF

-- the mask as the last step leaves it, by the rule
unfoldable pub last_mask : ℕ → Mapping → ℕ → ℕ
last_mask rule m mask = cond (mends rule) (mended m mask) (mapped m mask)

-- an entry as the last step leaves it
unfoldable pub resolved : Given → List ℕ → List ℕ
resolved g e =
    entry_bytes
    (record {
      kind = kind_of e;
      flags = flags_of e;
      mask = last_mask g.rule g.mapping (mask_of e);
      middle = middle_of e;
      sid = in_place (placeholder_of (sid_of e)) (sid_of e) g.owner g.group;
      tail = tail_of e;
    })

-- the filter: all, or ID only
abbrev pub passes_filter : Bool → List ℕ → Bool
passes_filter only_id e = not only_id || has 0x10 (flags_of e)

-- what becomes of one entry: none or one
unfoldable pub last_of : Given → Bool → List ℕ → List (List ℕ)
last_of g only_id e = cond (passes_filter only_id e) (resolved g e ∷ []) []

unfoldable pub last_step : Given → Bool → List (List ℕ) → List (List ℕ)
last_step g only_id [] = []
last_step g only_id (e ∷ es) = last_of g only_id e ++ last_step g only_id es
