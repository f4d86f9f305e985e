-- Words of theorems alone (RULES 10.5): no promise cites them.
use Rattle.std.specs.Prelude.{ℕ, List, [], ◌∷◌, Bool, false, cond, ◌&&◌, ◌||◌, eqb}
use Rattle.octets.specs.Bytes.{has}
use Rattle.list.specs.Identity.{placeholder_of}
use Rattle.list.specs.Entry.{mask_of}
use Rattle.list.specs.List.{MaybeList}
use Rattle.access.specs.Open.{Question, entry_counts}

-- the same question, of another list, with another mask wanted, with other bytes held
abbrev pub asking : Question → MaybeList → Question
asking q list = record { list = list; type = q.type; held = q.held; wanted = q.wanted; table = q.table }

abbrev pub asks : Question → ℕ → Question
asks q w = record { list = q.list; type = q.type; held = q.held; wanted = w; table = q.table }

abbrev pub holding : Question → List ℕ → Question
holding q held = record { list = q.list; type = q.type; held = held; wanted = q.wanted; table = q.table }

-- some entry counts and has the bit
unfoldable pub spoken : List ℕ → List ℕ → List (List ℕ) → ℕ → List (List ℕ) → Bool
spoken type table sids bit [] = false
spoken type table sids bit (e ∷ es) = (entry_counts type table sids e && has bit (mask_of e)) || spoken type table sids bit es

-- the SIDs that are no placeholders, in order
unfoldable pub ordinary_of : List (List ℕ) → List (List ℕ)
ordinary_of [] = []
ordinary_of (s ∷ ss) = cond (eqb (placeholder_of s) 0) (s ∷ ordinary_of ss) (ordinary_of ss)
