-- The program's text (RULES 6.3, 6.6), in ASCII: the listing, or the line that says where a script is bad.
use Rattle.std.specs.Prelude.{ℕ, zero, suc, ◌+◌, ◌/◌, ◌%◌, List, [], ◌∷◌, ◌++◌, Bool, true, false, cond, length, get_or, ltb}
use Rattle.std.proofs.Math.Option.{none, some}
use Rattle.list.specs.List.{count_of, MaybeList}

-- n in decimal, with no zeros in front: all digits but the last, if there are more, then the last
unfoldable pub digits : ℕ → ℕ → List ℕ
digits zero n = []
digits (suc more) n = cond (ltb n 10) [] (digits more (n / 10)) ++ ((48 + n % 10) ∷ [])

unfoldable pub decimal : ℕ → List ℕ
decimal n = digits (suc n) n

-- "objects ", "none 0", "bad at "
abbrev pub objects_text : List ℕ
objects_text = 111 ∷ 98 ∷ 106 ∷ 101 ∷ 99 ∷ 116 ∷ 115 ∷ 32 ∷ []

abbrev pub none_text : List ℕ
none_text = 110 ∷ 111 ∷ 110 ∷ 101 ∷ 32 ∷ 48 ∷ []

abbrev pub bad_text : List ℕ
bad_text = 98 ∷ 97 ∷ 100 ∷ 32 ∷ 97 ∷ 116 ∷ 32 ∷ []

abbrev pub space : List ℕ
space = 32 ∷ []

abbrev pub newline : List ℕ
newline = 10 ∷ []

-- a length and an entry count, where there is a list
unfoldable pub columns_by : ℕ → Bool → ℕ → List ℕ
columns_by n true k = decimal n ++ (space ++ decimal k)
columns_by n false k = none_text

-- a computed list: its length and its entry count
unfoldable pub columns : MaybeList → List ℕ
columns none = columns_by 0 false 0
columns (some s) = columns_by (length s) true (count_of s)

-- object i's line
unfoldable pub line : ℕ → MaybeList → List ℕ
line i o = decimal i ++ (space ++ (columns o ++ newline))

-- the first n lines
unfoldable pub lines : ℕ → List MaybeList → List ℕ
lines zero os = []
lines (suc n) os = lines n os ++ line n (get_or os n none)

-- how many objects stand
unfoldable pub heading : ℕ → List ℕ
heading n = objects_text ++ (decimal n ++ newline)

-- the listing of all objects' computed lists
unfoldable pub listing : List MaybeList → List ℕ
listing os = heading (length os) ++ lines (length os) os

-- the line that ends a run
unfoldable pub bad_line : ℕ → List ℕ
bad_line n = bad_text ++ (decimal n ++ newline)
