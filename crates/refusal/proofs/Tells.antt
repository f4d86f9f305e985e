-- A number tells which refusal it is: no two have the same.
use mathlib.Core.Path.{◌≡◌, refl, ap, sym, ◌∙◌}
use Rattle.std.specs.Prelude.{ℕ, cond, eqb}
use Rattle.refusal.specs.Numbers.{number_of}
use Rattle.refusal.specs.declared.Refusal.{Refusal}
use Rattle.refusal.specs.declared.Refusal.TheVariants.{Header, Size, Kind, Bits, Sid, Identity, Types, Room, Object, Full, NoStep, Rule, Tree, Generic, Expression, Text, Large, Many, Table}

abbrev named : ℕ → Refusal
named n =
    cond (eqb n 1) Header
    (cond (eqb n 2) Size
    (cond (eqb n 3) Kind
    (cond (eqb n 4) Bits
    (cond (eqb n 5) Sid
    (cond (eqb n 6) Identity
    (cond (eqb n 7) Types
    (cond (eqb n 8) Room
    (cond (eqb n 9) Object
    (cond (eqb n 10) Full
    (cond (eqb n 11) NoStep
    (cond (eqb n 12) Rule
    (cond (eqb n 13) Tree
    (cond (eqb n 14) Generic
    (cond (eqb n 15) Expression
    (cond (eqb n 16) Text
    (cond (eqb n 17) Large
    (cond (eqb n 22) Many
    Table)))))))))))))))))

named-number : (r : Refusal) → named (number_of r) ≡ r
named-number Header = refl
named-number Size = refl
named-number Kind = refl
named-number Bits = refl
named-number Sid = refl
named-number Identity = refl
named-number Types = refl
named-number Room = refl
named-number Object = refl
named-number Full = refl
named-number NoStep = refl
named-number Rule = refl
named-number Tree = refl
named-number Generic = refl
named-number Expression = refl
named-number Text = refl
named-number Large = refl
named-number Many = refl
named-number Table = refl

pub number-tells : (a b : Refusal) → number_of a ≡ number_of b → a ≡ b
number-tells a b e = sym (named-number a) ∙ (ap named e ∙ named-number b)
