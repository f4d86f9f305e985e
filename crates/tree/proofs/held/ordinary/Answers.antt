-- The number 0, as an answer that is no placeholder. Assumes nothing.
use mathlib.Core.Path.{◌≡◌, refl, sym, ◌∙◌}
use mathlib.Core.Bool.{Bool, true, false, cond}
use Prim.Native.Nat.{ℕ, zero, suc}
use native.Mathlib.Omega.{arith}
use lib.Dec.{eqb}
use borrow.Author.Tests.{ne_eqb}
use Rattle.std.proofs.Common.{Option, Some, None, Result, Ok, Err}
use Rattle.std.specs.Option.{option_eq}
use Rattle.std.specs.Result.{result_eq}
use Rattle.refusal.specs.declared.Refusal.{Refusal}
use Rattle.refusal.specs.declared.Refusal.TheVariants.{Identity}
use Rattle.list.specs.declared.identities.Placeholder.{Placeholder}
use Rattle.list.specs.declared.identities.Placeholder.TheVariants.{Group}
use Rattle.list.specs.Identity.{placeholder_in, identity_of, identity_in}
use Rattle.tree.proofs.held.ordinary.Goals as goal

module _ (P : Placeholder → Placeholder → Bool) (R : Refusal → Refusal → Bool) where
  abbrev plain : Result (Option Placeholder) Refusal → Bool
  plain r = result_eq (option_eq P) R r (Ok None)

  other : (b : Bool) → plain (cond b (Err Identity) (Ok (Some Group))) ≡ false
  other true = refl
  other false = refl

  plain_in : (n : ℕ) → plain (identity_in n) ≡ eqb n 0
  unfolding identity_in placeholder_in
  plain_in zero = refl
  plain_in (suc zero) = refl
  plain_in (suc (suc n)) = other (eqb (suc (suc n)) 6) ∙ sym (ne_eqb (suc (suc n)) 0 (λ e. absurd (omega arith)))

pub returns : goal.returns
returns c = let e = rw c.identity.ensures at c.eq.ensures in e ∙ plain_in _ _ (identity_of c.args.s.now)
