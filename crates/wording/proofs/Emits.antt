-- The tally and the lent bytes, token by token.
use mathlib.Core.Path.{◌≡◌, refl}
use mathlib.Core.List.{List, [], ◌∷◌, ◌++◌}
use Prim.Native.Nat.{ℕ, ◌+◌, ◌<◌}
use native.Mathlib.Omega.{arith}
use lib.ListN.{length}
use Rattle.condition.specs.Token.{Token}
use Rattle.wording.specs.Inner.Walk.{note_all, note_b, put_all, put_b, takes, up_by}
use Rattle.wording.specs.Stored.{token_bytes}
use Rattle.wording.specs.declared.tallies.Tally.{Tally}

pub note-append : (a b : List Token) (w : Tally) → note_all (a ++ b) w ≡ note_all b (note_all a w)
unfolding note_all
note-append [] b w = refl
note-append (t ∷ a) b w = note-append a b (note_b (length (token_bytes t)) (takes t) w)

pub put-append : (a b : List Token) (w : Tally) (o : List ℕ) → put_all (a ++ b) w o ≡ put_all b (note_all a w) (put_all a w o)
unfolding note_all put_all
put-append [] b w o = refl
put-append (t ∷ a) b w o = put-append a b (note_b (length (token_bytes t)) (takes t) w) (put_b (token_bytes t) w o)

-- ---- below their bound counts are exact

pub up-yes : (a k : ℕ) → a + k < 100000 → a + k ≡ up_by a k
unfolding up_by
up-yes a k h = omega arith
