-- The byte of each kind of step, as a room has it (docs/ROOM.md).
use Rattle.std.specs.Prelude.{ℕ}
use Rattle.tree.specs.declared.tags.Tag.{Tag}
use Rattle.tree.specs.declared.tags.Tag.TheVariants.{Add, Alter}

abbrev pub tag_byte : Tag → ℕ
tag_byte Add = 1
tag_byte Alter = 2
