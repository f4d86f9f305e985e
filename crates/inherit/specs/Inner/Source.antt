-- What the code finds of a list that may be absent: the entries that it has, or its refusal.
use Rattle.std.specs.Prelude.{◌≡◌, Bool, true, false, ℕ, Option, Result, Ok, Err}
use Rattle.std.specs.Option.{is_some}
use Rattle.std.specs.Result.{is_ok}
use Rattle.std.proofs.Math.Option.{none, some}
use Rattle.refusal.specs.Numbers.{number_of}
use Rattle.refusal.specs.declared.Fault.{Fault}
use Rattle.list.specs.Entry.{access}
use Rattle.list.specs.List.{check_of, MaybeList}
use Rattle.list.specs.Answer.{Values, refused}
use Rattle.inherit.specs.declared.entries.Entries.{Entries}
use Rattle.inherit.specs.Asked.{entries_if}
use Rattle.inherit.specs.Compute.{readable}
use Rattle.inherit.specs.Inner.Still.{held}

-- a list is present
abbrev pub given : MaybeList → Bool
given none = false
given (some s) = true

-- it is absent, or reads as done
unfoldable pub reads_if : MaybeList → Bool
reads_if none = true
reads_if (some s) = is_ok (check_of access s)

-- its entries, where the answer leaves it to what follows; or the refusal that is the answer
pub record Sourced (o : MaybeList) (which : ℕ) (s : Option Entries) : Type 0 where
  pub entries : held s ≡ entries_if o
  pub present : is_some s ≡ given o
  pub over : (rest : Values) → readable o which rest ≡ rest

abbrev pub Sources : MaybeList → ℕ → Result (Option Entries) Fault → Type 0
Sources o which (Ok s) = Sourced o which s
Sources o which (Err fault) = (rest : Values) → readable o which rest ≡ refused (number_of fault.why) fault.list fault.at
