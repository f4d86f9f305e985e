-- An entry that is taken or not, in the fields that a look found. Assumes nothing.
use native.Mathlib.Omega.{arith}
use mathlib.Core.Path.{◌≡◌, refl, sym, ap, ◌∙◌}
use mathlib.Core.Bool.{Bool, true, false}
use mathlib.Core.List.{List}
use Prim.Native.Nat.{ℕ}
use lib.ListN.{length}
use Rattle.std.proofs.Common.{Option, Some, None}
use Rattle.std.specs.Bool.{then_some}
use Rattle.octets.specs.Bytes.{front}
use Rattle.inherit.specs.Inner.Emit.{given_by}
use Rattle.inherit.proofs.One.{writes-none, length-one, writes_one}
use Rattle.inherit.proofs.passes.write_one.Goals as goal

-- what is picked tells whether it is taken
picked-none : (b : Bool) (x : ℕ) (o : Option ℕ) → o ≡ then_some b x → o ≡ None → b ≡ false
picked-none true x o p q = let z = sym p ∙ q in cc
picked-none false x o p q = refl

record Picked (b : Bool) (x f : ℕ) : Type 0 where
  taken : b ≡ true
  flags : f ≡ x

picked-some : (b : Bool) (x f : ℕ) (o : Option ℕ) → o ≡ then_some b x → o ≡ Some f → Picked b x f
picked-some true x f o p q = record { taken = refl; flags = let z = sym q ∙ p in cc }
picked-some false x f o p q = let z = sym p ∙ q in cc

pub returns-in_default : goal.returns-in_default
returns-in_default c =
    let a = c.args in
    let e = a.entry.now in
    let n = writes-none 4 e.bytes.now e.whole.sound (given_by a.terms.now) a.pass (picked-none _ _ _ c.pick.ensures c.in_default.is) in
    (sym (ap length n), sym (ap (λ (w : List ℕ). front w a.out.now) n))

pub put_copy-requires : goal.put_copy-requires
put_copy-requires c =
    let a = c.args in
    let e = a.entry.now in
    let p = picked-some _ _ _ _ c.pick.ensures c.in-Some.is in
    let n = length-one 4 e.bytes.now e.whole.sound (given_by a.terms.now) a.pass p.taken in
    omega (arith, c.requires, n)

pub returns : goal.returns
returns c =
    let a = c.args in
    let e = a.entry.now in
    let t = a.terms.now in
    let p = picked-some _ _ _ _ c.pick.ensures c.in-Some.is in
    let n = length-one 4 e.bytes.now e.whole.sound (given_by t) a.pass p.taken in
    let o = writes_one 4 e.bytes.now e.whole.sound (given_by t) a.pass p.taken in
    let z = rw p.flags at c.put_copy.ensures.1 in
    (c.put_copy.ensures.0 ∙ sym n, z ∙ ap (λ (x : List ℕ). front x a.out.now) (sym o))
