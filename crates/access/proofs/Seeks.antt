-- How the code finds the first entry at or after a place, and that it is the one that the definition says.
use mathlib.Core.Path.{◌≡◌, sym, ap, ◌∙◌}
use mathlib.Core.List.{List, ◌∷◌}
use Prim.Native.Nat.{ℕ, zero, suc, ◌+◌, ◌-◌, ◌≤◌, ◌<◌}
use native.Mathlib.Omega.{arith}
use lib.ListN.{length, drop, length-drop}
use borrow.Author.Tests.{le-leb, lt-leb}
use Rattle.list.specs.Entry.{size_of, fields_of}
use Rattle.list.specs.List.{cut}
use Rattle.octets.proofs.Places.{split}
use Rattle.access.specs.declared.steps.Found.{Found}
use Rattle.std.specs.Prelude.{Some}
use Rattle.access.specs.Walk.{found_at, walk_over, first_from, step_at}
use Rattle.access.specs.Inner.Seek.{Walking, seek_from}
use Rattle.access.proofs.Walks.{walking-end, walking-step, walking-more, told_more}

module _ (s : List ℕ) (place : ℕ) where
  -- ---- one step

  module _ (k at : ℕ) where
    seek-here : place ≤ at → seek_from (suc k) s at place ≡ at
    unfolding seek_from
    seek-here l = rw (le-leb place at)

    seek-on : at < place → seek_from (suc k) s at place ≡ seek_from k s (at + size_of (drop at s)) place
    unfolding seek_from
    seek-on l = rw (lt-leb place at)

  -- ---- the loop, with `i` entries gone past

  pub record Seeking (count i at : ℕ) : Type 0 where
    pub walking : Walking s (count - i) at
    pub same : seek_from count s 8 place ≡ seek_from (count - i) s at place

  pub seeking-first : (count : ℕ) → Walking s count 8 → Seeking count 0 8
  seeking-first count w = let z : count - 0 ≡ count = omega arith in record { walking = rw z w; same = rw z }

  module _ (count i at : ℕ) (k : Seeking count i at) where
    pub seeking-end : count ≤ i → at ≡ seek_from count s 8 place
    unfolding seek_from
    seeking-end e =
        let z : count - i ≡ 0 = omega arith in
        sym (k.same ∙ ap (λ (n : ℕ). seek_from n s at place) z)

    module _ (some : i < count) where
      abbrev fewer : count - i ≡ suc (count - (i + 1))
      fewer = omega arith

      walking-some : Walking s (suc (count - (i + 1))) at
      walking-some = rw (← fewer) k.walking

      pub seeking-here : place ≤ at → at ≡ seek_from count s 8 place
      seeking-here l = sym (k.same ∙ ap (λ (n : ℕ). seek_from n s at place) fewer ∙ seek-here (count - (i + 1)) at l)

      -- the entry there lies in s
      pub seeking-size : at + size_of (drop at s) ≤ length s
      seeking-size = omega (arith, walking-some.rest.0.within, length-drop at s, k.walking.within)

      pub seeking-more : at < place → Seeking count (i + 1) (at + size_of (drop at s))
      seeking-more l =
          record {
            walking = walking-more s (count - (i + 1)) at walking-some;
            same = k.same ∙ ap (λ (n : ℕ). seek_from n s at place) fewer ∙ seek-on (count - (i + 1)) at l;
          }

  -- ---- what stands there is the first entry at or after the place

  first-here : (f : Found) (r : List Found) → place ≤ f.at → first_from place (f ∷ r) ≡ Some f
  unfolding first_from
  first-here f r l = rw (le-leb place f.at)

  first_on : (f : Found) (r : List Found) → f.at < place → first_from place (f ∷ r) ≡ first_from place r
  unfolding first_from
  first_on f r l = rw (lt-leb place f.at)

  pub found_first : (k at : ℕ) → Walking s k at → step_at s (seek_from k s at place) ≡ first_from place (walk_over at (cut k (drop at s)))
  unfolding cut walk_over first_from seek_from
  found_first zero at w = walking-end s at w
  found_first (suc k) at w =
      let t = drop at s in
      let z = size_of t in
      let r = walk_over (at + z) (cut k (drop (at + z) s)) in
      split place at
      (λ p. ap (step_at s) (seek-here k at p) ∙ walking-step s k at w ∙ sym (ap (first_from place) (told_more s k at w) ∙ first-here (found_at at (fields_of t)) r p))
      (λ p.
      ap (step_at s) (seek-on k at p)
      ∙ found_first k (at + z) (walking-more s k at w)
      ∙ sym (ap (first_from place) (told_more s k at w) ∙ first_on (found_at at (fields_of t)) r p))
