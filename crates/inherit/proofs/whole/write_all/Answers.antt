-- Four passes, each behind the ones before it (`four-front`). Assumes nothing.
use native.Mathlib.Omega.{arith}
use mathlib.Core.Path.{◌≡◌, refl, sym, ap, ◌∙◌}
use mathlib.Core.List.{List, flatten}
use Prim.Native.Nat.{ℕ, ◌+◌, ◌≤◌}
use lib.ListN.{length}
use Rattle.octets.specs.Bytes.{front}
use Rattle.inherit.specs.declared.copies.Pass.TheVariants.{First, Second, Own, All}
use Rattle.inherit.specs.declared.terms.Terms.{Terms}
use Rattle.inherit.specs.declared.whole.Parts.{Parts}
use Rattle.inherit.specs.Inner.Still.{still}
use Rattle.inherit.specs.Inner.Emit.{given_by, emit_all}
use Rattle.inherit.specs.Inner.Plan.{gathered, onward}
use Rattle.inherit.proofs.Gather.{flatten-four, length-four, onward-length, four-front}
use Rattle.inherit.proofs.whole.write_all.Goals as goal

-- what each pass gives, and that there is room for all of it
module _ (t : Terms) (n : Parts) where
  abbrev own : List ℕ
  own = flatten (emit_all (given_by t) Own (still n.own))

  abbrev first : List ℕ
  first = flatten (emit_all (given_by t) First (still n.parent))

  abbrev second : List ℕ
  second = flatten (emit_all (given_by t) Second (still n.parent))

  abbrev all : List ℕ
  all = flatten (emit_all (given_by t) All (still n.default))

  module _ (out : List ℕ) (h : length (flatten (gathered (given_by t) n)) ≤ length out) where
    room : length own + length first + length second + length all ≤ length out
    room =
        let g = given_by t in
        omega (arith, length-four (emit_all g Own (still n.own)) (emit_all g First (still n.parent)) (emit_all g Second (still n.parent)) (emit_all g All (still n.default)), h)

-- a pass leaves the buffer as long as it was
long : (at : ℕ) (w x y d : List ℕ) → y ≡ onward at w x → length x ≡ length d → at + length w ≤ length d → length y ≡ length d
long at w x y d e l h = ap (λ (z : List ℕ). length z) e ∙ onward-length at w x (omega arith) ∙ l

pub write_next-own-requires : goal.write_next-own-requires
write_next-own-requires c =
    let a = c.args in
    omega (arith, room a.terms.now a.parts a.out.now c.requires)

pub write_next-first-requires : goal.write_next-first-requires
write_next-first-requires c =
    let a = c.args in
    let r = room a.terms.now a.parts a.out.now c.requires in
    let w1 = c.write_next-own in
    let l1 = long 0 (own a.terms.now a.parts) a.out.now w1.new.out a.out.now w1.ensures.1 refl (omega (arith, r)) in
    omega (arith, r, l1, w1.ensures.0)

pub write_next-second-requires : goal.write_next-second-requires
write_next-second-requires c =
    let a = c.args in
    let r = room a.terms.now a.parts a.out.now c.requires in
    let w1 = c.write_next-own in
    let w2 = c.write_next-first in
    let l1 = long 0 (own a.terms.now a.parts) a.out.now w1.new.out a.out.now w1.ensures.1 refl (omega (arith, r)) in
    let l2 = long w1.result (first a.terms.now a.parts) w1.new.out w2.new.out a.out.now w2.ensures.1 l1 (omega (arith, r, w1.ensures.0)) in
    omega (arith, r, l2, w1.ensures.0, w2.ensures.0)

pub write_next-requires : goal.write_next-requires
write_next-requires c =
    let a = c.args in
    let r = room a.terms.now a.parts a.out.now c.requires in
    let w1 = c.write_next-own in
    let w2 = c.write_next-first in
    let w3 = c.write_next-second in
    let l1 = long 0 (own a.terms.now a.parts) a.out.now w1.new.out a.out.now w1.ensures.1 refl (omega (arith, r)) in
    let l2 = long w1.result (first a.terms.now a.parts) w1.new.out w2.new.out a.out.now w2.ensures.1 l1 (omega (arith, r, w1.ensures.0)) in
    let l3 = long w2.result (second a.terms.now a.parts) w2.new.out w3.new.out a.out.now w3.ensures.1 l2 (omega (arith, r, w1.ensures.0, w2.ensures.0)) in
    omega (arith, r, l3, w1.ensures.0, w2.ensures.0, w3.ensures.0)

pub returns : goal.returns
returns c =
    let a = c.args in
    let t = a.terms.now in
    let n = a.parts in
    let g = given_by t in
    let w1 = c.write_next-own in
    let w2 = c.write_next-first in
    let w3 = c.write_next-second in
    let w4 = c.write_next in
    four-front (own t n) (first t n) (second t n) (all t n) a.out.now w1.new.out w2.new.out w3.new.out w4.new.out
    _ _ _ (room t n a.out.now c.requires) w1.ensures.0 w2.ensures.0 w3.ensures.0 w1.ensures.1 w2.ensures.1 w3.ensures.1 w4.ensures.1
    ∙ ap (λ (x : List ℕ). front x a.out.now)
    (sym (flatten-four (emit_all g Own (still n.own)) (emit_all g First (still n.parent)) (emit_all g Second (still n.parent)) (emit_all g All (still n.default))))
