-- The SIDs that a person holds (RULES 10.1): laid end to end, each as its bytes.
use Rattle.std.specs.Prelude.{ℕ, zero, suc, Bool, cond, length, take, drop, eqb, ltb}
use mathlib.Core.List.{List, [], ◌∷◌, flatten}
use Rattle.list.specs.Identity.{whole_sid}

-- the SIDs that h begins with, one after the other: the first n of them
unfoldable pub sids_in : ℕ → List ℕ → List (List ℕ)
sids_in zero h = []
sids_in (suc n) h = cond (ltb 0 (whole_sid h)) (take (whole_sid h) h ∷ sids_in n (drop (whole_sid h) h)) []

-- all of them: no more than there are bytes
unfoldable pub held_of : List ℕ → List (List ℕ)
held_of h = sids_in (length h) h

-- the held bytes are SIDs to their end
abbrev pub reaches_end : List ℕ → Bool
reaches_end h = eqb (length (flatten (held_of h))) (length h)
