-- What is told of a number that is an option, where a refusal stands in place of none.
use mathlib.Core.Path.{◌≡◌, refl, sym, ap, subst, ◌∙◌}
use mathlib.Core.List.{List}
use mathlib.Core.Logic.{◌⊎◌}
use denote.Bor.{Bor}
use lib.ListN.{length, take, drop}
use Prim.Native.Nat.{ℕ, zero, suc, ◌+◌, ◌-◌, ◌<◌, ◌≤◌}
use native.Mathlib.Omega.{arith}
use Rattle.std.specs.Prelude.{Option, Some, None, unwrap_or, Result, Ok, Err}
use Rattle.std.specs.Option.{ok_or, MatchOption}
use Rattle.std.specs.List.{slice_range}
use Rattle.std.specs.Slice.{IsGetRangeResult}
use Rattle.octets.specs.Absent.{unless_zero}
use Rattle.refusal.specs.declared.Refusal.{Refusal}

-- by cases: there is none, or it is that
some-ok : (n m : ℕ) (why : Refusal) → ok_or (unless_zero n) why ≡ Ok m → (n ≡ m) × (0 < m)
unfolding unless_zero
some-ok zero m why h = cc
some-ok (suc n) m why h = let q : suc n ≡ m = cc in (q, omega (arith, q))

none-ok : (n : ℕ) (why or : Refusal) → ok_or (unless_zero n) why ≡ Err or → (n ≡ 0) × (why ≡ or)
unfolding unless_zero
none-ok zero why or h = (refl, cc)
none-ok (suc n) why or h = cc

pub or-zero : (n : ℕ) → unwrap_or (unless_zero n) 0 ≡ n
unfolding unless_zero
or-zero zero = refl
or-zero (suc n) = refl

module _ (n : ℕ) (why : Refusal) {o : Option ℕ} {r : Result ℕ Refusal} (a : o ≡ unless_zero n) (b : r ≡ ok_or o why) where
  same : ok_or (unless_zero n) why ≡ r
  same = ap (λ (x : Option ℕ). ok_or x why) (sym a) ∙ sym b

  pub found : {m : ℕ} → r ≡ Ok m → (n ≡ m) × (0 < m)
  found {m} e = some-ok n m why (same ∙ e)

  pub missed : {or : Refusal} → r ≡ Err or → (n ≡ 0) × (why ≡ or)
  missed {or} e = none-ok n why or (same ∙ e)

-- of a part of a slice: it is there, or the bounds are wrong
module _ (why : Refusal) (t : List ℕ) (from to : ℕ) (o : Option (Bor (List ℕ))) {r : Result (Bor (List ℕ)) Refusal} (a : IsGetRangeResult t from to o) (b : r ≡ ok_or o why) where
  pub part-found : (x : Bor (List ℕ)) → r ≡ Ok x → (from ≤ to) × (x.now ≡ take (to - from) (drop from t))
  part-found x e = by o a.0 (sym b ∙ e)
    where
      by : (o : Option (Bor (List ℕ))) → MatchOption o ((to < from) ⊎ (length t < to)) (λ x. (from ≤ to) × (to ≤ length t) × (x.now ≡ slice_range t from to) × (length x.now + from ≡ to))
          → ok_or o why ≡ Ok x → (from ≤ to) × (x.now ≡ take (to - from) (drop from t))
      by None m h = cc
      by (Some y) m h = let q : y ≡ x = cc in subst (λ (z : Bor (List ℕ)). (from ≤ to) × (z.now ≡ take (to - from) (drop from t))) q (m.0, m.2)

  pub part-missed : (or : Refusal) → r ≡ Err or → ((to < from) ⊎ (length t < to)) × (why ≡ or)
  part-missed or e = by o a.0 (sym b ∙ e)
    where
      by : (o : Option (Bor (List ℕ))) → MatchOption o ((to < from) ⊎ (length t < to)) (λ x. (from ≤ to) × (to ≤ length t) × (x.now ≡ slice_range t from to) × (length x.now + from ≡ to))
          → ok_or o why ≡ Err or → ((to < from) ⊎ (length t < to)) × (why ≡ or)
      by None m h = (m, cc)
      by (Some y) m h = cc
