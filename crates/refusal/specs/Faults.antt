-- A refusal, the list that it concerns and the offset of its entry (RULES 4.2).
use Rattle.std.specs.Prelude.{ℕ}
use Rattle.refusal.specs.declared.Refusal.{Refusal}
use Rattle.refusal.specs.declared.Fault.{Fault}

-- of the entry at an offset, of a list that the caller knows
abbrev pub fault_at : Refusal → ℕ → Fault
fault_at why at = record { why = why; list = 0; at = at }

-- of no list
abbrev pub plain : Refusal → Fault
plain why = fault_at why 0

-- the same, of that list
abbrev pub in_list : ℕ → Fault → Fault
in_list list f = record { why = f.why; list = list; at = f.at }
