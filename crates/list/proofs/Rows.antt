-- The row of offsets, filled one element a turn.
use mathlib.Core.Path.{◌≡◌, refl, sym, ap, ◌∙◌}
use mathlib.Core.List.{List, ◌∷◌, ◌++◌, append_assoc, append-nil}
use Prim.Native.Nat.{ℕ, zero, suc, ◌+◌, ◌-◌, ◌≤◌, ◌<◌}
use native.Mathlib.Nat.{not-suc-le-zero, sub-zero}
use native.Mathlib.Numerals.{sub-one, add-one}
use native.Mathlib.Omega.{arith}
use lib.ListN.{length, take, drop, set, length-set, length-drop, take-append-drop}
use lib.Seq.{take-suc-set, drop-set-lt, drop-drop}
use Rattle.list.specs.Entry.{Family, size_of}
use Rattle.list.specs.List.{offsets, rev_of}
use Rattle.list.specs.Good.{Sound, Passes, Listed}

-- i offsets are in the row, the next entry lies at `at`, and the rest of the entries are good
pub record Filled (f : Family) (s : List ℕ) (n : ℕ) (row₀ row : List ℕ) (at i : ℕ) : Type 0 where
  pub most : i ≤ n
  pub within : at ≤ length s
  pub rest : Passes f (rev_of s) (n - i) (drop at s)
  pub long : length row ≡ length row₀
  pub front : take i row ++ offsets (n - i) at (drop at s) ≡ offsets n 8 (drop 8 s)
  pub back : drop i row ≡ drop i row₀

pub filled_none : (f : Family) (s : List ℕ) (n : ℕ) (row : List ℕ) → Listed f s n → Filled f s n row row 8 0
filled_none f s n row r =
    record { most = omega arith; within = r.head.long; rest = rw sub-zero r.passes; long = refl; front = rw sub-zero; back = refl }

pub passes-turn : (f : Family) (rev n : ℕ) (t : List ℕ) → 0 < n → Passes f rev n t → Sound f rev t × Passes f rev (n - 1) (drop (size_of t) t)
passes-turn f rev zero t p h = absurd (not-suc-le-zero p)
passes-turn f rev (suc n) t p h = (h.0, rw (sub-one (suc n)) h.1)

offsets-turn : (n at : ℕ) (t : List ℕ) → 0 < n → offsets n at t ≡ at ∷ offsets (n - 1) (at + size_of t) (drop (size_of t) t)
unfolding offsets
offsets-turn zero at t p = absurd (not-suc-le-zero p)
offsets-turn (suc n) at t p = rw sub-one

module _ (f : Family) (s : List ℕ) (n : ℕ) (row₀ row : List ℕ) (at i : ℕ) (g : Filled f s n row₀ row at i) where
  pub next : i < n → Sound f (rev_of s) (drop at s) × Passes f (rev_of s) (n - i - 1) (drop (size_of (drop at s)) (drop at s))
  next p = passes-turn f (rev_of s) (n - i) (drop at s) (omega arith) g.rest

  pub filled_more : i < n → i < length row → Filled f s n row₀ (set row i at) (at + size_of (drop at s)) (i + 1)
  filled_more p q =
      let e = next p in
      let m : n - (i + 1) ≡ n - i - 1 = omega arith in
      record {
        most = omega arith;
        within = omega (arith, length-drop at s, e.0.within);
        rest = rw (m, ← drop-drop (size_of (drop at s)) at s) e.1;
        long = simp length-set g.long;
        front =
            rw (m, add-one i, take-suc-set, append_assoc, ← drop-drop (size_of (drop at s)) at s, ← offsets-turn (n - i) at (drop at s) (omega arith))
            g.front;
        back = drop-set-lt (i + 1) row i at (omega arith) ∙ sym (drop-drop 1 i row) ∙ ap (drop 1) g.back ∙ drop-drop 1 i row₀;
      }

  pub filled-all : n ≤ i → row ≡ offsets n 8 (drop 8 s) ++ drop n row₀
  unfolding offsets
  filled-all p =
      let z : n - i ≡ 0 = omega arith in
      let e : i ≡ n = omega arith in
      let fr : take i row ≡ offsets n 8 (drop 8 s) = simp (z, append-nil) at g.front in
      rw (← fr, ← e, ← g.back) (sym (take-append-drop i row))
