-- Of a good entry: its SID lies in it, and it lies in what it begins.
use Prim.Native.Nat.{ℕ, ◌≤◌}
use mathlib.Core.List.{List}
use lib.ListN.{length, drop}
use Rattle.list.specs.Entry.{access, size_of, sid_at, sid_len_of, sid_end}
use Rattle.list.specs.Good.{Sound}
use Rattle.list.proofs.Sids.{sid-length}
use Rattle.list.proofs.Remade.{bounds}

pub record SidIn (t : List ℕ) : Type 0 where
  pub inside : sid_end t ≤ size_of t
  pub whole : size_of t ≤ length t
  pub eight : 8 ≤ sid_len_of t

pub sid-in : (rev : ℕ) (t : List ℕ) → Sound access rev t → SidIn t
sid-in rev t s =
    let b = bounds access rev t s in
    record { inside = b.sid; whole = b.inside; eight = (sid-length (drop (sid_at t) t) s.sid).least }
