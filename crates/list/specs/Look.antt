-- One look at an entry: its fields as they lie there, whatever the bytes are (those that are not there count as 0).
use Rattle.std.specs.Prelude.{List, ℕ}
use Rattle.list.specs.Entry.{kind_of, flags_of, size_of, mask_of, word_of, sid_at}
use Rattle.list.specs.declared.looks.Look.{Look}

abbrev pub look_of : List ℕ → Look
look_of t = record { kind = kind_of t; flags = flags_of t; size = size_of t; mask = mask_of t; word = word_of t; sid = sid_at t }
