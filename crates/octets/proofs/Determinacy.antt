-- What it is for a contract to determine a result: stated over the contract that is generated of a function.
use mathlib.Core.Path.{◌≡◌}
use mathlib.Core.List.{List}
use Prim.Native.Nat.{ℕ}
use contract.Lifetimes.{Lfts}
use borrow.Fn.Kinds.{ParamKind, ResultKind, Out, Dens, res_t, ended_of}
use denote.Triple.Clauses.{AtExit}

-- two results that a contract allows, with what was lent as it is then, agree in what `Agree` says
abbrev pub Determines : (n : ℕ) (ps : List (ParamKind n)) (r : ResultKind n)
    → ((κs : Lfts n) → (res_t r κs).Denot → (res_t r κs).Denot → AtExit (ended_of n ps r) κs → AtExit (ended_of n ps r) κs → Type 0) → Out n ps r → Type 0
Determines n ps r Agree learnt =
    (κs : Lfts n) (a : Dens κs ps) (x y : (res_t r κs).Denot) (s t : AtExit (ended_of n ps r) κs) → learnt κs a x s → learnt κs a y t → Agree κs x y s t

-- they are equal: enough where nothing is lent to be changed
abbrev pub OneResult : (n : ℕ) (ps : List (ParamKind n)) (r : ResultKind n) → Out n ps r → Type 0
OneResult n ps r = Determines n ps r (λ κs x y s t. x ≡ y)
