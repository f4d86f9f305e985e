-- Condition, term and factor call each other: the bytes that are left and, at one place of the text, the level fall; a row and then its parts come behind it.
use Prim.Native.Nat.{◌+◌, ◌*◌}
use Rattle.wording.specs.Reader.{condition, term, factor}
use Rattle.wording.specs.Inner.Walk.{steps_at}
use Rattle.wording.specs.Inner.Rows.{row_of}
use Rattle.wording.proofs.conditions.+read_condition_read_factor_read_term.Given as goal

abbrev pub decreases-read_condition : goal.decreases-read_condition
decreases-read_condition l = 3 * steps_at condition l.s.now.bytes.now l.at + 2

abbrev pub decreases-read_term : goal.decreases-read_term
decreases-read_term l = 3 * steps_at term l.s.now.bytes.now l.at + 2

abbrev pub decreases-read_row : goal.decreases-read_row
decreases-read_row l = 3 * steps_at (row_of l.row) l.s.now.bytes.now l.at + 1

abbrev pub decreases-read_part : goal.decreases-read_part
decreases-read_part l = 3 * steps_at (row_of l.row) l.s.now.bytes.now l.at

abbrev pub decreases-read_factor : goal.decreases-read_factor
decreases-read_factor l = 3 * steps_at factor l.s.now.bytes.now l.at + 2
