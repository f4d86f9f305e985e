-- What the program says once a run is over, and where.
use Rattle.std.specs.Prelude.{ℕ, ◌-◌, ◌≡◌, Bool, true, false, cond, List, [], ◌∷◌, eqb}
use Rattle.std.proofs.Math.Option.{Option, some, none}
use Rattle.tree.specs.Shown.{lists_in}
use Rattle.script.specs.Play.{Listed, BadAt, text_of}
use Rattle.axs.specs.declared.End.{End}
use Rattle.axs.specs.declared.End.TheVariants.{Whole, Bad, Failed}
use Rattle.axs.specs.declared.Channel.{Channel}
use Rattle.axs.specs.declared.Channel.TheVariants.{Output, Error}
use Rattle.axs.specs.declared.Said.{Said}
use Rattle.axs.specs.Counts.{Answered, clamp_len}
use Rattle.axs.specs.Reads.{Read, Course, On, Over, course_of, nothing_read}

-- a text, and where it is written: to standard output or standard error
pub record Speech : Type 0 where
  pub to : Channel
  pub text : List ℕ

-- "axs: standard input could not be read" and a newline
abbrev pub unread_text : List ℕ
unread_text =
    97 ∷ 120 ∷ 115 ∷ 58 ∷ 32
    ∷ 115 ∷ 116 ∷ 97 ∷ 110 ∷ 100 ∷ 97 ∷ 114 ∷ 100 ∷ 32
    ∷ 105 ∷ 110 ∷ 112 ∷ 117 ∷ 116 ∷ 32
    ∷ 99 ∷ 111 ∷ 117 ∷ 108 ∷ 100 ∷ 32
    ∷ 110 ∷ 111 ∷ 116 ∷ 32 ∷ 98 ∷ 101 ∷ 32
    ∷ 114 ∷ 101 ∷ 97 ∷ 100 ∷ 10 ∷ []

-- the listing, or the line that says where the script is bad; nothing is listed of an input that could not be read to its end
unfoldable pub speech : End → List ℕ → Speech
speech Whole r = record { to = Output; text = text_of (Listed (lists_in r)) }
speech (Bad n) r = record { to = Output; text = text_of (BadAt n) }
speech Failed r = record { to = Error; text = unread_text }

unfoldable pub speech_of : Course → Option Speech
speech_of (On g) = none
speech_of (Over e r) = some (speech e r)

-- ---- what a function promises that gives a text and a place

-- r is what is said
pub record Spoken (r : Said) (s : Speech) : Type 0 where
  pub to : r.to ≡ s.to
  pub text : r.text.now ≡ s.text

-- there are reads after which a run from the room r is over and says x
pub record RunSays (r : List ℕ) (x : Said) : Type 0 where
  pub reads : List Read
  pub speaks : Speech
  pub is : speech_of (course_of reads (nothing_read r)) ≡ some speaks
  pub said : Spoken x speaks

-- ---- writing

-- whether a text of n bytes was taken whole, by the answers of the writes: each was lent all that is left, and one that takes nothing is the last
unfoldable pub whole_by : List Answered → ℕ → Bool
whole_by [] n = eqb n 0
whole_by (z ∷ zs) n = cond (eqb n 0) true (cond (eqb (clamp_len z n) 0) false (whole_by zs (n - clamp_len z n)))

-- there are writes by which it was, or wasn't
unfoldable pub Written : ℕ → Bool → Type 0
Written n whole = (zs : List Answered) × (whole ≡ whole_by zs n)
