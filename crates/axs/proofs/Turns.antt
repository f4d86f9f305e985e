-- The reads of a run, one after another.
use mathlib.Core.Path.{◌≡◌, refl, sym, ◌∙◌}
use mathlib.Core.List.{List, [], ◌∷◌, ◌++◌}
use Prim.Native.Nat.{ℕ}
use lib.ListN.{take}
use Rattle.axs.specs.declared.End.{End}
use Rattle.axs.specs.Reads.{Read, Course, On, Over, after_read, then_read, course_of, nothing_read, Reached}
use Rattle.axs.specs.Inner.Buffered.{stand_at}

-- there are reads after which a run from the room r holds the first n bytes of b, from offset `at` on, and has left the room as q
pub record Stands (r : List ℕ) (at n : ℕ) (b q : List ℕ) : Type 0 where
  pub reads : List Read
  pub stands : course_of reads (nothing_read r) ≡ On (stand_at at n b q)

pub stands-none : (r b : List ℕ) → Stands r 0 0 b r
unfolding course_of nothing_read stand_at
stands-none r b = record { reads = []; stands = refl }

-- the reads xs, and one more
pub one_more : (xs : List Read) (x : Read) (c : Course) → course_of (xs ++ (x ∷ [])) c ≡ then_read (course_of xs c) x
unfolding course_of
one_more [] x c = refl
one_more (y ∷ xs) x c = one_more xs x (then_read c y)

-- one more read, into c, which holds what b held
module _ {r b q : List ℕ} {at n : ℕ} (s : Stands r at n b q) (c : List ℕ) (kept : take n c ≡ take n b) (x : Read) where
  reads_on : course_of (s.reads ++ (x ∷ [])) (nothing_read r) ≡ after_read (stand_at at n c q) x
  unfolding then_read stand_at
  reads_on = one_more s.reads x (nothing_read r) ∙ rw (s.stands, kept) refl

  pub stands-more : {b' q' : List ℕ} {at' n' : ℕ} → On (stand_at at' n' b' q') ≡ after_read (stand_at at n c q) x → Stands r at' n' b' q'
  stands-more e = record { reads = s.reads ++ (x ∷ []); stands = reads_on ∙ sym e }

  pub stands-over : {e : End} {q' : List ℕ} → Over e q' ≡ after_read (stand_at at n c q) x → Reached r e q'
  unfolding Reached
  stands-over f = (s.reads ++ (x ∷ []), reads_on ∙ sym f)
