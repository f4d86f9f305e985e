-- Tests and the facts that they stand for: the head of a room, a well-formed room, and the laws of the loop over the steps.
use mathlib.Core.Path.{◌≡◌, sym, ◌∙◌}
use mathlib.Core.List.{List}
use mathlib.Core.Bool.{Bool, true, false, cond, ◌&&◌}
use mathlib.Core.Option.{some}
use Prim.Native.Nat.{ℕ, suc, ◌+◌, ◌-◌, ◌≤◌, ◌<◌}
use native.Mathlib.Omega.{arith}
use lib.ListN.{length, drop, length-take, length-drop}
use lib.Dec.{eqb}
use borrow.Author.Tests.{leb-true, le-leb}
use Rattle.octets.specs.Bytes.{le, part}
use Rattle.octets.proofs.Places.{part-most}
use Rattle.octets.proofs.Tests.{both_true}
use Rattle.tree.specs.General.{every}
use Rattle.list.specs.List.{lent}
use Rattle.tree.specs.Held.{has_list, bytes_in, held}
use Rattle.tree.specs.Room.{object_limit, objects, kept_steps, settings, own_data, step, step_tag}
use Rattle.tree.specs.Formed.{counts_ok, settings_ok, object_ok, step_ok, standing, steps_ok, formed}
use Rattle.tree.specs.Inner.Heads.{Head}

-- ---- a callee's answer, tested by `!`

pub refused : {x b : Bool} → x ≡ b → x ≡ false → b ≡ false
refused e n = sym e ∙ n

pub passed : {x b : Bool} → x ≡ b → x ≡ true → b ≡ true
passed e n = sym e ∙ n

-- ---- the head of a room

pub head-says : (r : List ℕ) → counts_ok r ≡ true → Head r
unfolding counts_ok
head-says r e =
    let a = both_true _ _ e in
    let b = both_true _ _ a.1 in
    let c = both_true _ _ b.1 in
    let d = both_true _ _ c.1 in
    let f = both_true _ _ d.1 in
    let g = both_true _ _ f.1 in
    record {
      long = leb-true _ _ a.0;
      some-limit = leb-true _ _ b.0;
      limit-64 = leb-true _ _ c.0;
      steps-64 = leb-true _ _ d.0;
      within = leb-true _ _ f.0;
      kept-within = leb-true _ _ g.0;
      room-enough = leb-true _ _ g.1;
    }

pub head-said : (r : List ℕ) → Head r → counts_ok r ≡ true
unfolding counts_ok
head-said r h =
    simp (
      le-leb _ _ h.long,
      le-leb _ _ h.some-limit,
      le-leb _ _ h.limit-64,
      le-leb _ _ h.steps-64,
      le-leb _ _ h.within,
      le-leb _ _ h.kept-within,
      le-leb _ _ h.room-enough,
    )

-- ---- a well-formed room

pub record Forms (r : List ℕ) : Type 0 where
  pub head_ok : counts_ok r ≡ true
  pub settings-ok : settings_ok (settings r) ≡ true
  pub objects-ok : every (object_ok r) (objects r) ≡ true
  pub steps-ok : steps_ok (λ i. own_data i r) (λ j. step (object_limit r) j r) (kept_steps r) 0 (objects r) ≡ true

pub formed-parts : (r : List ℕ) → formed r ≡ true → Forms r
unfolding formed
formed-parts r e =
    let a = both_true _ _ e in
    let b = both_true _ _ a.1 in
    let c = both_true _ _ b.1 in
    record { head_ok = a.0; settings-ok = b.0; objects-ok = c.0; steps-ok = c.1 }

pub formed-from : (r : List ℕ) → Forms r → formed r ≡ true
unfolding formed
formed-from r f = rw (f.head_ok, f.settings-ok, f.objects-ok) f.steps-ok

-- ---- the steps

-- a turn: a step that does not apply, and one that does
module _ (f g : ℕ → List ℕ) (m j c : ℕ) (h : j < m) where
  steps-turn : steps_ok f g (m - j) j c ≡ (step_ok f c (g j) && steps_ok f g (m - (j + 1)) (j + 1) (standing c (g j)))
  unfolding steps_ok
  steps-turn =
      let e : m - j ≡ suc (m - (j + 1)) = omega arith in
      rw e

  pub steps-no : step_ok f c (g j) ≡ false → steps_ok f g (m - j) j c ≡ false
  steps-no e = steps-turn ∙ rw e

  pub steps-more : {k : ℕ} → step_ok f c (g j) ≡ true → k ≡ standing c (g j) → steps_ok f g (m - j) j c ≡ steps_ok f g (m - (j + 1)) (j + 1) k
  steps-more e p = steps-turn ∙ rw (e, p)

-- none are left
pub steps_all : (f g : ℕ → List ℕ) (m j c : ℕ) → m ≤ j → steps_ok f g (m - j) j c ≡ true
unfolding steps_ok
steps_all f g m j c h =
    let e : m - j ≡ 0 = omega arith in
    rw e

-- no more stand before a step than after it
pub standing-most : (c : ℕ) (u : List ℕ) → standing c u ≤ c
standing-most c u = by (eqb (step_tag u) 1)
  where
    by : (b : Bool) → cond b (c - 1) c ≤ c
    by true = omega arith
    by false = omega arith

-- ---- the list in a slot

pub part-within : (a n : ℕ) (l : List ℕ) → length (part a n l) ≤ length l
unfolding part
part-within a n l = simp (length-take, length-drop) (omega arith)

pub bytes_most : (s : List ℕ) → length (bytes_in s) ≤ 1024
unfolding bytes_in
bytes_most s = omega (arith, part-most 3 1024 s, part-within 0 (le 2 (drop 1 s)) (part 3 1024 s))

pub held-most : (s b : List ℕ) → some b ≡ held s → length b ≤ 1024
held-most s b e = by (has_list s) e
  where
    by : (h : Bool) → some b ≡ lent h (bytes_in s) → length b ≤ 1024
    by true q = let z : b ≡ bytes_in s = cc in rw z (bytes_most s)
    by false q = let z : ◌≡◌ {A = ℕ} 0 1 = cc in absurd (omega arith)
