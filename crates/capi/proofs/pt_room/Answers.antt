-- The number that says none is 0. Assumes nothing.
use Rattle.std.proofs.Common.{◌≡◌, ℕ, ap, refl, ◌∙◌}
use Rattle.std.specs.Prelude.{zero, suc, Option, unwrap_or}
use Rattle.octets.specs.Absent.{unless_zero}
use Rattle.tree.specs.Room.{room_of}
use Rattle.capi.proofs.pt_room.Goals as goal

or-zero : (n : ℕ) → unwrap_or (unless_zero n) 0 ≡ n
unfolding unless_zero
or-zero zero = refl
or-zero (suc n) = refl

pub returns : goal.returns
returns c = c.unwrap_or.ensures ∙ (ap (λ (o : Option ℕ). unwrap_or o 0) c.room.ensures ∙ or-zero (room_of c.args.objects c.args.steps))
