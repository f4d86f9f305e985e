-- How the code finds the first entry at or after a place: by the sizes of entries that were tested.
use Rattle.std.specs.Prelude.{ℕ, zero, suc, ◌+◌, ◌≤◌, ◌≡◌, List, cond, length, drop, leb}
use Rattle.list.specs.Entry.{access, size_of}
use Rattle.list.specs.List.{rev_of, entries_end}
use Rattle.list.specs.Good.{Passes}

-- k good entries are left from `at` on, and they end where s does
pub record Walking (s : List ℕ) (k at : ℕ) : Type 0 where
  pub within : at ≤ length s
  pub rest : Passes access (rev_of s) k (drop at s)
  pub ends : entries_end k at (drop at s) ≡ length s

-- of k entries from `at` on the first one that begins at or after the place, or where they end
unfoldable pub seek_from : ℕ → List ℕ → ℕ → ℕ → ℕ
seek_from zero s at place = at
seek_from (suc k) s at place = cond (leb place at) at (seek_from k s (at + size_of (drop at s)) place)
