-- As the code has it: a buffer whose first n bytes are held, and the place that says how many these are.
use Rattle.std.specs.Prelude.{ℕ, ◌+◌, ◌≤◌, min, ◌≡◌, true, List, take, Some, None, Result, Ok, Err}
use Rattle.tree.specs.Formed.{formed}
use Rattle.axs.specs.declared.End.{End}
use Rattle.axs.specs.declared.End.TheVariants.{Whole, Bad, Failed}
use Rattle.axs.specs.Counts.{Answered}
use Rattle.axs.specs.declared.place.Place.{Place}
use Rattle.axs.specs.Reads.{Read, Gave, Broke, Stand, Course, On, Over}

unfoldable pub stand_at : ℕ → ℕ → List ℕ → List ℕ → Stand
stand_at at n b r = record { at = at; left = take n b; room = r }

-- a run goes on from a place, or is over
unfoldable pub course_at : Result Place End → List ℕ → List ℕ → Course
course_at (Ok p) b r = On (stand_at p.at p.held b r)
course_at (Err e) b r = Over e r

-- what a read answered that was lent the n bytes of which t are the first afterwards
unfoldable pub read_by : Answered → ℕ → List ℕ → Read
read_by (Some k) n t = Gave (take (min k n) t)
read_by None n t = Broke

-- where n bytes were held from offset `at` on, all of them are played or still held
unfoldable pub Onward : ℕ → ℕ → Result Place End → Type 0
Onward at n (Ok p) = at + n ≤ p.at + p.held
Onward at n (Err e) = Unit

-- a room that is listed is a well-formed tree
unfoldable pub Listable : End → List ℕ → Type 0
Listable Whole r = formed r ≡ true
Listable (Bad n) r = Unit
Listable Failed r = Unit
