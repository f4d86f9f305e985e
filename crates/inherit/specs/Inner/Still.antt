-- The entries that are still to come.
use Rattle.std.specs.Prelude.{ℕ, List, [], Option, Some, None}
use Rattle.list.specs.List.{cut}
use Rattle.inherit.specs.declared.entries.Entry.{Entry}
use Rattle.inherit.specs.declared.entries.Entries.{Entries}

-- an entry's bytes
abbrev pub own_bytes : Entry → List ℕ
own_bytes e = e.bytes.now

-- the entries that are still to come, each as its bytes
abbrev pub still : Entries → List (List ℕ)
still s = cut s.left s.bytes.now

-- those of a list that may be absent
abbrev pub held : Option Entries → List (List ℕ)
held None = []
held (Some s) = still s
