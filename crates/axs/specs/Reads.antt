-- What the program makes of what its reads gave, one after another.
use Rattle.std.specs.Prelude.{ℕ, ◌+◌, ◌≡◌, List, [], ◌∷◌, ◌++◌, cond, length, drop, eqb, leb, ltb}
use Rattle.script.specs.Fold.{run_of}
use Rattle.script.specs.Play.{script_head_ok, fresh}
use Rattle.axs.specs.declared.End.{End}
use Rattle.axs.specs.declared.End.TheVariants.{Whole, Bad, Failed}

-- what a read gave: bytes, of which there are none where the input ends; or it failed
pub data Read : Type 0 where
  Gave : List ℕ → Read
  Broke : Read

-- where a run stands: the bytes that are held, the offset of the first of them (0 before the head is whole), and the room
pub record Stand : Type 0 where
  pub at : ℕ
  pub left : List ℕ
  pub room : List ℕ

-- a run goes on, or is over: how it ended, and the room
pub data Course : Type 0 where
  On : Stand → Course
  Over : End → List ℕ → Course

-- the longest input
abbrev pub most : ℕ
most = 9223372036854775808

-- ---- bytes that came

-- t is what is held, from offset `at` on: its whole records are played, and a bad one ends the run
unfoldable pub on_records : ℕ → List ℕ → List ℕ → Course
on_records at t r =
    cond (leb (at + (run_of t r).used) most)
    (cond (run_of t r).bad (Over (Bad (at + (run_of t r).used)) (run_of t r).room)
    (On (record { at = at + (run_of t r).used; left = drop (run_of t r).used t; room = (run_of t r).room })))
    (Over Failed (run_of t r).room)

-- s is all that came: the head has five bytes, and records stand behind it
unfoldable pub on_head : List ℕ → List ℕ → Course
on_head s r =
    cond (ltb (length s) 5) (On (record { at = 0; left = s; room = r }))
    (cond (script_head_ok s) (on_records 5 (drop 5 s) fresh)
    (Over (Bad 0) r))

unfoldable pub on_bytes : Stand → List ℕ → Course
on_bytes g p = cond (eqb g.at 0) (on_head (g.left ++ p) g.room) (on_records g.at (g.left ++ p) g.room)

-- ---- reads

-- the input ends while n bytes are held
unfoldable pub end_at : ℕ → ℕ → End
end_at at n = cond (eqb at 0) (Bad at) (cond (eqb n 0) Whole (Bad at))

unfoldable pub after_read : Stand → Read → Course
after_read g Broke = Over Failed g.room
after_read g (Gave []) = Over (end_at g.at (length g.left)) g.room
after_read g (Gave (b ∷ p)) = on_bytes g (b ∷ p)

-- nothing is read once the run is over
unfoldable pub then_read : Course → Read → Course
then_read (On g) x = after_read g x
then_read (Over e r) x = Over e r

unfoldable pub course_of : List Read → Course → Course
course_of [] c = c
course_of (x ∷ xs) c = course_of xs (then_read c x)

-- nothing has been read
unfoldable pub nothing_read : List ℕ → Course
nothing_read r = On (record { at = 0; left = []; room = r })

-- a run from the room r is over: there are reads after which it is
unfoldable pub Reached : List ℕ → End → List ℕ → Type 0
Reached r e q = (rs : List Read) × (course_of rs (nothing_read r) ≡ Over e q)

-- s is the input: what the reads gave is its front, and all of it where one of them found its end
unfoldable pub InputOf : List Read → List ℕ → Type 0
InputOf [] s = Unit
InputOf (Gave [] ∷ xs) s = s ≡ []
InputOf (Gave (b ∷ p) ∷ xs) s = (t : List ℕ) × ((s ≡ (b ∷ p) ++ t) × InputOf xs t)
InputOf (Broke ∷ xs) s = ⊥
