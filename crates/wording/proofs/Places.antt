-- Places of a text and what its readers give there.
use mathlib.Core.Path.{◌≡◌, refl, sym, ap, ◌∙◌}
use mathlib.Core.Bool.{Bool, true, false}
use mathlib.Core.List.{List, [], ◌∷◌}
use Prim.Native.Nat.{ℕ, suc, ◌+◌, ◌-◌, ◌≤◌, ◌<◌}
use native.Mathlib.Omega.{arith}
use native.Mathlib.Numerals.{add-one}
use lib.Dec.{eqb}
use lib.ListN.{length, drop, get_or, length-drop}
use lib.Seq.{drop-cons, get_or-drop}
use borrow.Author.Tests.{eqb-true}
use Rattle.condition.specs.Token.{Token}
use Rattle.std.specs.Prelude.{Result, Ok, Err}
use Rattle.wording.specs.declared.walk.Place.{Place}
use Rattle.wording.specs.declared.walk.Wrong.{Wrong}
use Rattle.wording.specs.declared.operators.Operator.{Operator}
use Rattle.wording.specs.Inner.Walk.{Outcome, is_at}
use Rattle.wording.specs.Reader.{Res, expect, bad, onward, choose, good, head0, is, out, pick}
use Rattle.wording.specs.declared.tallies.Tally.{Tally}

-- ---- places and what stands there

pub head_at : (s : List ℕ) (p : ℕ) → head0 (drop p s) ≡ get_or s p 0
head_at s p = first (drop p s) ∙ (get_or-drop p s 0 0 ∙ ap (λ (n : ℕ). get_or s n 0) (let e : p + 0 ≡ p = omega arith in e))
  where
    first : (l : List ℕ) → head0 l ≡ get_or l 0 0
    first [] = refl
    first (b ∷ l) = refl

pub byte-here : (s : List ℕ) (p x : ℕ) → is_at s p x ≡ true → p < length s → drop p s ≡ x ∷ drop (p + 1) s
byte-here s p x e h = rw (add-one, drop-cons s p 0) (ap (λ (b : ℕ). b ∷ drop (suc p) s) (eqb-true (get_or s p 0) x e))

pub not-here : (s : List ℕ) (p x : ℕ) → is_at s p x ≡ false → is x (head0 (drop p s)) ≡ false
not-here s p x e = ap (is x) (head_at s p) ∙ e

pub expect-no : {A : Type 0} (x : ℕ) (q : List ℕ → Res A) (l : List ℕ) → is x (head0 l) ≡ false → expect x q l ≡ bad l
expect-no x q [] e = refl
expect-no x q (b ∷ l) e = ap (λ (y : Bool). choose y (λ m. q l) bad (b ∷ l)) e

pub expect-yes : {A : Type 0} (x : ℕ) (q : List ℕ → Res A) (s : List ℕ) (p : ℕ) → is_at s p x ≡ true → p < length s → eqb x x ≡ true → expect x q (drop p s) ≡ q (drop (p + 1) s)
expect-yes x q s p e h z = ap (expect x q) (byte-here s p x e h) ∙ ap (λ (y : Bool). choose y (λ m. q (drop (p + 1) s)) bad (x ∷ drop (p + 1) s)) z

pub pick_is : {A : Type 0} (b : Bool) (t : ℕ → Bool) (p q : List ℕ → Res A) (l : List ℕ) → t (head0 l) ≡ b → pick t p q l ≡ choose b p q l
pick_is b t p q l e = ap (λ (y : Bool). choose y p q l) e

pub back : (s : List ℕ) (p : ℕ) → p ≤ length s → length s - length (drop p s) ≡ p
back s p h = omega (arith, length-drop p s)

-- a refusal stays one
pub bad-on : {A B : Type 0} (ta : A → List Token) (tb : B → List Token) (s : List ℕ) (w v : Tally) (o y : List ℕ) (k : A → List ℕ → Res B) (x : Res A) (r : Result Place Wrong) (q : List ℕ) (m : Wrong)
    → r ≡ Err m → Outcome ta s w o x r q → Outcome tb s v y (onward x k) (Err m) q
bad-on ta tb s w v o y k (good t l) r q m e g = let a = g.0 in cc
bad-on ta tb s w v o y k (bad l) r q m e g = (sym e ∙ g.0, tt)
bad-on ta tb s w v o y k out r q m e g = g

-- an answer has one place, one sign or one error
pub same-error : {A : Type 0} (r : Result A Wrong) (x y : Wrong) → r ≡ Err x → r ≡ Err y → x ≡ y
same-error r x y a b = cc

pub same-place : (r : Result Place Wrong) (x y : Place) → r ≡ Ok x → r ≡ Ok y → x ≡ y
same-place r x y a b = cc

pub same-sign : (r : Result (Operator × ℕ) Wrong) (x y : Operator × ℕ) → r ≡ Ok x → r ≡ Ok y → x ≡ y
same-sign r x y a b = cc
