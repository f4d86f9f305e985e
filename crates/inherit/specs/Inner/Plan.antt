-- Which passes the code makes over which list, in which branch, and what they give together.
use Rattle.std.specs.Prelude.{ℕ, List, [], ◌++◌, Bool, true, false, not, cond, ◌&&◌, take, drop, eqb, Option, Some, None}
use Rattle.std.specs.Bool.{then_some}
use Rattle.octets.specs.Bytes.{front}
use Rattle.list.specs.Entry.{access}
use Rattle.inherit.specs.declared.Settings.{Settings}
use Rattle.inherit.specs.declared.branch.Plan.{Plan}
use Rattle.inherit.specs.declared.whole.Parts.{Parts}
use Rattle.inherit.specs.declared.copies.Pass.TheVariants.{First, Second, Own, All}
use Rattle.inherit.specs.Asked.{Given}
use Rattle.inherit.specs.Branch.{Result, absent, holds, inherited_bit}
use Rattle.inherit.specs.Inner.Still.{still}
use Rattle.inherit.specs.Inner.Emit.{emit_all}

-- from the parent alone
abbrev pub parent_only : Plan
parent_only = record { own = false; parent = true; default = false; control = 0 }

-- own entries, which rule 1's filter drops, and P
abbrev pub merged_of : Bool → Bool → Bool → Plan
merged_of own auto protect =
    record { own = own; parent = auto && not protect; default = false; control = cond (auto && not protect) (inherited_bit access) 0 }

abbrev pub own_only : Plan
own_only = record { own = true; parent = false; default = false; control = 0 }

-- the default list, possibly absent
abbrev pub default_only : Bool → Option Plan
default_only given = then_some given (record { own = false; parent = false; default = true; control = 0 })

-- none where there is no list at all
unfoldable pub plan_of : ℕ → Settings → Bool → Bool → Bool → Option Plan
plan_of rule s heritable creator default =
    cond heritable
    (Some (cond (creator && not s.defaulted) (merged_of (not (eqb rule 1)) s.auto s.protect) parent_only))
    (cond creator (Some own_only) (default_only default))

-- the entries that a plan gives, of the parent's, the creator's and the default list's
unfoldable pub planned : Given → Option Plan → List (List ℕ) → List (List ℕ) → List (List ℕ) → List (List ℕ)
planned g None parent creator default = []
planned g (Some p) parent creator default =
    emit_all g Own (cond p.own creator [])
    ++ (emit_all g First (cond p.parent parent [])
    ++ (emit_all g Second (cond p.parent parent []) ++ emit_all g All (cond p.default default [])))

unfoldable pub result_by : Option Plan → List (List ℕ) → Result
result_by None es = absent
result_by (Some p) es = holds es p.control

-- what is gathered of the parts that the code goes over
abbrev pub gathered : Given → Parts → List (List ℕ)
gathered g n =
    emit_all g Own (still n.own)
    ++ (emit_all g First (still n.parent) ++ (emit_all g Second (still n.parent) ++ emit_all g All (still n.default)))

-- x after w was written from `at` on
abbrev pub onward : ℕ → List ℕ → List ℕ → List ℕ
onward at w x = take at x ++ front w (drop at x)
