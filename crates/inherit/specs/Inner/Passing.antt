-- Good entries one after another, as a fact that a value carries: it has one proof at most.
use Rattle.std.specs.Prelude.{ℕ, zero, suc, List, drop}
use Rattle.std.specs.Coded.{×_prop, Unit-prop}
use Rattle.std.proofs.Props.{props}
use Rattle.list.specs.Entry.{access, size_of}
use Rattle.list.specs.Good.{Passes}

pub passes-prop : (rev n : ℕ) (t : List ℕ) → IsProp (Passes access rev n t)
passes-prop rev zero t = Unit-prop
passes-prop rev (suc n) t = ×_prop (Prim.hlevel props) (passes-prop rev n (drop (size_of t) t))
