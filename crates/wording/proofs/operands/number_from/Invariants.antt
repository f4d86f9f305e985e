-- What is found behind v, from the digit at `at + i` on, is what is found behind `first`, from `at` on.
use Rattle.std.proofs.Common.{◌≡◌, ◌+◌, length, drop}
use Rattle.std.specs.Prelude.{Result}
use Rattle.wording.specs.declared.operands.Operand.{Operand}
use Rattle.wording.specs.declared.walk.Wrong.{Wrong}
use Rattle.wording.specs.Reader.{read_digits}
use Rattle.wording.specs.Inner.Leaf.{digits_found}
use Rattle.wording.proofs.operands.number_from.Given as goal

abbrev pub invariant-loop-i : goal.invariant-loop-i
invariant-loop-i l =
    (r : Result Operand Wrong) → r ≡ digits_found (length l.s) l.neg l.v (read_digits l.neg l.v (drop (l.at + l.i) l.s))
    → r ≡ digits_found (length l.s) l.neg l.first (read_digits l.neg l.first (drop l.at l.s))
