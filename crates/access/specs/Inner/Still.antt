-- The held SIDs that are still to come.
use Rattle.std.specs.Prelude.{ℕ, List}
use Rattle.access.specs.Held.{held_of}
use Rattle.access.specs.declared.held.HeldSid.{HeldSid}
use Rattle.access.specs.declared.held.Sids.{Sids}

-- a SID's bytes
abbrev pub own_bytes : HeldSid → List ℕ
own_bytes s = s.bytes.now

-- those that are still to come, each as its bytes
abbrev pub still : Sids → List (List ℕ)
still s = held_of s.bytes.now
