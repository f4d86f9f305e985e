-- How far an entry was found good.
use Rattle.std.specs.Prelude.{◌≡◌, true, List, ℕ, ◌≤◌, cond, length, eqb, ltb, Result, Ok, Err}
use Rattle.octets.specs.Order.{need}
use Rattle.condition.specs.Kind.{stored_end}
use Rattle.list.specs.Entry.{Family, kind_ok, flags_ok, conditional_kind, tail_long, kind_of, size_of, flags_of}
use Rattle.list.specs.declared.entries.Entry.{Entry}
use Rattle.refusal.specs.Faults.{fault_at}
use Rattle.refusal.specs.declared.Fault.{Fault}
use Rattle.refusal.specs.declared.Refusal.{Refusal}
use Rattle.refusal.specs.declared.Refusal.TheVariants.{Size, Expression}

-- t passes (a) to (c)
pub record Begun (f : Family) (rev : ℕ) (t : List ℕ) : Type 0 where
  pub four : 4 ≤ length t
  pub within : size_of t ≤ length t
  pub kind : kind_ok f (kind_of t) rev ≡ true
  pub flags : flags_ok f (flags_of t) ≡ true

-- whether `tail`, which follows the SID of an entry of type k, is as it must be: an acceptable expression, then by (h) as long as it must be
unfoldable pub tail_check : ℕ → List ℕ → Result (Unit {0}) Refusal
tail_check k tail =
    need (cond (conditional_kind k) (ltb 0 (stored_end tail)) true) (Err Expression)
    (need (eqb (tail_long k tail) (length tail)) (Err Size)
    (Ok tt))

-- a good entry's size, or the fault of one that lies at `at`
unfoldable pub sized : ℕ → Result Entry Refusal → Result ℕ Fault
sized at (Ok e) = Ok e.size
sized at (Err why) = Err (fault_at why at)
