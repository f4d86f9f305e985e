-- The number that document 01 fixes for each refusal (RULES 4.1).
use Rattle.std.specs.Prelude.{ℕ}
use Rattle.refusal.specs.declared.Refusal.{Refusal}
use Rattle.refusal.specs.declared.Refusal.TheVariants.{Header, Size, Kind, Bits, Sid, Identity, Types, Room, Object, Full, NoStep, Rule, Tree, Generic, Expression, Text, Large, Many, Table}

abbrev pub number_of : Refusal → ℕ
number_of Header = 1
number_of Size = 2
number_of Kind = 3
number_of Bits = 4
number_of Sid = 5
number_of Identity = 6
number_of Types = 7
number_of Room = 8
number_of Object = 9
number_of Full = 10
number_of NoStep = 11
number_of Rule = 12
number_of Tree = 13
number_of Generic = 14
number_of Expression = 15
number_of Text = 16
number_of Large = 17
number_of Many = 22
number_of Table = 23
