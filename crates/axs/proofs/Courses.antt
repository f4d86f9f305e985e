-- What a read leads to, case by case, as the code has it.
use mathlib.Core.Path.{◌≡◌, refl, sym, ap, ◌∙◌}
use mathlib.Core.Bool.{Bool, true, false, cond}
use mathlib.Core.List.{List, [], ◌∷◌}
use Prim.Native.Nat.{ℕ, min, ◌+◌, ◌-◌, ◌≤◌, ◌<◌}
use native.Mathlib.Omega.{arith}
use lib.ListN.{length, take, drop, length-take, length-drop, drop_of_length-le}
use lib.Seq.{take_at, take-add, length-take-le}
use lib.Dec.{eqb}
use borrow.Author.Tests.{eq-eqb, ne_eqb}
use Rattle.octets.specs.Bytes.{Bytes, front}
use Rattle.octets.proofs.Tests.{tests}
use Rattle.script.specs.Fold.{run_of}
use Rattle.script.specs.Play.{script_head_ok, begin_to}
use Rattle.script.proofs.Folds.{run_none, run-used, left-short}
use Rattle.script.proofs.Listings.{bytes_take}
use Rattle.script.proofs.Plays.{begin-any}
use Rattle.axs.specs.declared.End.{End}
use Rattle.axs.specs.declared.End.TheVariants.{Whole, Bad, Failed}
use Rattle.axs.specs.declared.place.Place.{Place}
use Rattle.std.specs.Prelude.{Result, Ok, Err, Some, None}
use Rattle.axs.specs.Reads.{Gave, Course, On, Over, most, on_records, on_head, on_bytes, end_at, after_read}
use Rattle.axs.specs.Inner.Bounds.{bound_at}
use Rattle.axs.specs.Inner.Buffered.{stand_at, course_at, read_by, Onward}

-- ---- where a read ends, and where the input does

pub bound-head : (at : ℕ) → at ≡ 0 → 5 ≡ bound_at at
unfolding bound_at
bound-head at h = simp tests

pub bound-records : (at : ℕ) → (at ≡ 0 → ⊥) → 66112 ≡ bound_at at
unfolding bound_at
bound-records at h = simp tests

pub bound-most : (at : ℕ) → bound_at at ≤ 66112
unfolding bound_at
bound-most at = by (eqb at 0)
  where
    by : (x : Bool) → cond x 5 66112 ≤ 66112
    by true = omega arith
    by false = omega arith

pub bound_some : (at : ℕ) → 0 < bound_at at
unfolding bound_at
bound_some at = by (eqb at 0)
  where
    by : (x : Bool) → 0 < cond x 5 66112
    by true = omega arith
    by false = omega arith

module _ (at n : ℕ) where
  pub end-head : at ≡ 0 → Bad at ≡ end_at at n
  unfolding end_at
  end-head h = simp tests

  pub end_whole : (at ≡ 0 → ⊥) → n ≡ 0 → Whole ≡ end_at at n
  unfolding end_at
  end_whole h k = simp tests

  pub end-cut : (at ≡ 0 → ⊥) → (n ≡ 0 → ⊥) → Bad at ≡ end_at at n
  unfolding end_at
  end-cut h k = simp tests

pub over-onward : (at n : ℕ) (e : End) → Onward at n (Err e)
unfolding Onward
over-onward at n e = tt

pub onward-from : (at n m : ℕ) (x : Result Place End) → n ≤ m → Onward at m x → Onward at n x
unfolding Onward
onward-from at n m (Ok p) l o = omega arith
onward-from at n m (Err e) l o = tt

-- the run goes on from a place
module _ {x : Result Place End} {p : Place} (e : x ≡ Ok p) where
  pub on-onward : (at n : ℕ) → Onward at n x → at + n ≤ p.at + p.held
  unfolding Onward
  on-onward at n o = rw e at o

  pub on-course : (b r : List ℕ) {c : Course} → course_at x b r ≡ c → On (stand_at p.at p.held b r) ≡ c
  unfolding course_at
  on-course b r f = rw e at f

-- it is over
pub over-course : {x : Result Place End} {v : End} → x ≡ Err v → (b r : List ℕ) {c : Course} → course_at x b r ≡ c → Over v r ≡ c
unfolding course_at
over-course e b r f = rw e at f

-- ---- records: n bytes of the buffer b were held, u of them were whole records, which left the room as q, and w says whether a bad one comes next

module _ (at n : ℕ) (b r : List ℕ) (u : ℕ) (w : Bool) (q : List ℕ)
    (eu : u ≡ (run_of (take n b) r).used) (ew : w ≡ (run_of (take n b) r).bad) (eq : q ≡ (run_of (take n b) r).room) where
  pub used-most : u ≤ n
  used-most = omega (arith, eu, run-used (take n b) r, length-take n b)

  pub records-far : most < at + u → Over Failed q ≡ on_records at (take n b) r
  unfolding on_records
  records-far h = rw (← eu, ← eq) (simp tests)

  pub records-bad : at + u ≤ most → w ≡ true → Over (Bad (at + u)) q ≡ on_records at (take n b) r
  unfolding on_records
  records-bad h e = rw (← eu, ← ew, ← eq, e) (simp tests)

  module _ (l : n ≤ length b) (h : at + u ≤ most) (e : w ≡ false) where
    left_is : take (n - u) (front (drop u (take n b)) b) ≡ drop u (take n b)
    left_is = take_at (drop u (take n b)) _ (n - u) (length-drop u (take n b) ∙ ap (λ (x : ℕ). x - u) (length-take-le n b l))

    pub records-on : On (stand_at (at + u) (n - u) (front (drop u (take n b)) b) q) ≡ on_records at (take n b) r
    unfolding on_records stand_at
    records-on = rw (left_is, ← eu, ← ew, ← eq, e) (simp tests)

    -- there is room for more
    pub records-room : Bytes b → 1 ≤ at → n - u < bound_at (at + u)
    unfolding bound_at
    records-room d z =
        let s = left-short (take n b) r (bytes_take n b d) (sym ew ∙ e) in
        let m : n - u < 66112 = omega (arith, s, eu, length-take-le n b l) in
        rw (ne_eqb (at + u) 0 (λ x. omega arith)) m

-- ---- the head: n bytes of the buffer b are held

module _ (n : ℕ) (b r : List ℕ) (l : n ≤ length b) where
  long : length (take n b) ≡ n
  long = length-take-le n b l

  pub head-short : n < 5 → On (stand_at 0 n b r) ≡ on_head (take n b) r
  unfolding on_head stand_at
  head-short h = let k : length (take n b) < 5 = omega (arith, long) in simp tests

  pub head-bad : 5 ≤ n → script_head_ok (take n b) ≡ false → Over (Bad 0) r ≡ on_head (take n b) r
  unfolding on_head
  head-bad h e = let k : 5 ≤ length (take n b) = omega (arith, long) in simp (tests, e)

  pub head-good : n ≡ 5 → script_head_ok (take n b) ≡ true → length r ≡ 55400 → (q : List ℕ) → q ≡ (begin_to r).bytes → On (stand_at 5 0 b q) ≡ on_head (take n b) r
  unfolding on_head on_records stand_at
  head-good h e m q f =
      let k : 5 ≤ length (take n b) = omega (arith, long) in
      let d : drop 5 (take n b) ≡ [] = let m : length (take n b) ≤ 5 = omega (arith, long) in drop_of_length-le (take n b) m in
      rw (f ∙ begin-any r m) (simp (tests, e, d, run_none))

-- ---- what a read answered

pub read-fails : (at n : ℕ) (b r : List ℕ) → Over Failed r ≡ after_read (stand_at at n b r) (read_by None (bound_at at - n) (drop n b))
unfolding stand_at after_read read_by
read-fails at n b r = refl

-- a read that was lent the bytes of the buffer b from n on, up to the bound, moved z bytes, of which k are taken
pub record Came (at n z k : ℕ) (b : List ℕ) : Type 0 where
  pub held : n < bound_at at
  pub within : bound_at at ≤ length b
  pub took : k ≡ min z (bound_at at - n)

-- m is the bound
pub came : (at n z k m : ℕ) (b : List ℕ) → length b ≡ 66112 → n < bound_at at → m ≡ bound_at at → k ≡ min z (m - n) → Came at n z k b
came at n z k m b l h e t =
    record { held = h; within = omega (arith, bound-most at); took = t ∙ ap (λ (x : ℕ). min z (x - n)) e }

module _ {at n z k : ℕ} {b : List ℕ} (c : Came at n z k b) (r : List ℕ) where
  pub came-most : n + k ≤ bound_at at
  came-most = omega (arith, c.held, c.took)

  gave : read_by (Some z) (bound_at at - n) (drop n b) ≡ Gave (take k (drop n b))
  unfolding read_by
  gave = rw c.took refl

  pub read-ends : k ≡ 0 → {e : End} → e ≡ end_at at n → Over e r ≡ after_read (stand_at at n b r) (read_by (Some z) (bound_at at - n) (drop n b))
  unfolding stand_at after_read
  read-ends h f =
      let l : n ≤ length b = omega (arith, c.held, c.within) in
      rw (gave, h) (rw (f, length-take-le n b l) refl)

  -- some came
  module _ (h : k ≡ 0 → ⊥) where
    not_end : (p : List ℕ) → (length p ≡ 0 → ⊥) → after_read (stand_at at n b r) (Gave p) ≡ on_bytes (stand_at at n b r) p
    unfolding after_read
    not_end [] f = absurd (f refl)
    not_end (x ∷ p) f = refl

    came-on : after_read (stand_at at n b r) (read_by (Some z) (bound_at at - n) (drop n b)) ≡ on_bytes (stand_at at n b r) (take k (drop n b))
    came-on =
        let l : length (take k (drop n b)) ≡ k = length-take-le k (drop n b) (rw length-drop (omega (arith, came-most, c.within))) in
        rw gave (not_end (take k (drop n b)) (λ q. h (sym l ∙ q)))

    pub read_head : at ≡ 0 → (d : Course) → d ≡ on_head (take (n + k) b) r → d ≡ after_read (stand_at at n b r) (read_by (Some z) (bound_at at - n) (drop n b))
    unfolding stand_at on_bytes
    read_head f d e = rw (came-on, eq-eqb at 0 f, ← take-add n k b) e

    pub read-records : (at ≡ 0 → ⊥) → (d : Course) → d ≡ on_records at (take (n + k) b) r → d ≡ after_read (stand_at at n b r) (read_by (Some z) (bound_at at - n) (drop n b))
    unfolding stand_at on_bytes
    read-records f d e = rw (came-on, ne_eqb at 0 f, ← take-add n k b) e
