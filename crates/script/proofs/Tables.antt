-- The tables of records, line by line.
use mathlib.Core.Path.{◌≡◌, refl}
use mathlib.Core.Bool.{Bool, true, not, ◌&&◌}
use mathlib.Core.List.{List}
use Prim.Native.Nat.{ℕ, ◌+◌}
use lib.ListN.{get_or, drop}
use lib.Dec.{eqb}
use borrow.Author.Tests.{ne_eqb}
use Rattle.list.specs.List.{MaybeList, lent}
use Rattle.tree.proofs.Lent.{lent-then}
use Rattle.octets.specs.Bytes.{le, part, guid_at}
use Rattle.script.specs.Record.{record_number, name_in, name_end, names_end, list_in, list_end, flag_ok, flag, parent_named, record_size, form_ok, new_in}

module _ (t : List ℕ) where
  module _ (h : record_number t ≡ 1) where
    pub size-1 : record_size t ≡ list_end (names_end 20 t) t
    unfolding record_size
    size-1 = rw h refl

    pub form-1 : form_ok t ≡ (flag_ok 2 t && flag_ok 3 t)
    unfolding form_ok
    form-1 = rw h refl

  module _ (h : record_number t ≡ 2) where
    pub size-2 : record_size t ≡ list_end 2 t
    unfolding record_size
    size-2 = rw h refl

    pub form-2 : form_ok t ≡ true
    unfolding form_ok
    form-2 = rw h refl

  module _ (h : record_number t ≡ 3) where
    pub size-3 : record_size t ≡ 3
    unfolding record_size
    size-3 = rw h refl

    pub form-3 : form_ok t ≡ flag_ok 2 t
    unfolding form_ok
    form-3 = rw h refl

  module _ (h : record_number t ≡ 4) where
    pub size-4 : record_size t ≡ names_end 2 t
    unfolding record_size
    size-4 = rw h refl

    pub form-4 : form_ok t ≡ true
    unfolding form_ok
    form-4 = rw h refl

  module _ (n1 : record_number t ≡ 1 → ⊥) (n2 : record_number t ≡ 2 → ⊥) (n3 : record_number t ≡ 3 → ⊥) (n4 : record_number t ≡ 4 → ⊥) where
    pub size-5 : record_size t ≡ 1
    unfolding record_size
    size-5 = simp (ne_eqb, n1, n2, n3, n4)

    pub form-5 : form_ok t ≡ eqb (record_number t) 5
    unfolding form_ok
    form-5 = simp (ne_eqb, n1, n2, n3, n4)

-- ---- a record's parts as the calls take them

-- an owner or a group
pub name_by : (t p : List ℕ) (at n : ℕ) → n ≡ get_or t at 0 → p ≡ part (at + 1) n t → p ≡ name_in at t
name_by t p at n e h = rw (← e) h

-- a list, given where its length isn't 0
pub list-by : (t p : List ℕ) (at n : ℕ) → n ≡ le 2 (drop at t) → p ≡ part (at + 2) n t → lent (not (eqb n 0)) p ≡ list_in at t
list-by t p at n e h = rw (h, e) refl

-- the object that record 1 adds, field by field
module _ (t : List ℕ) (p : ℕ) (c m : Bool) (k o g : List ℕ) (l : MaybeList) where
  pub new_by : p ≡ parent_named (get_or t 1 0) → c ≡ flag 2 t → m ≡ flag 3 t → k ≡ guid_at t 4 → o ≡ name_in 20 t → g ≡ name_in (name_end 20 t) t
      → l ≡ list_in (names_end 20 t) t
      → record { parent = p; container = c; mark = m; type = k; owner = o; group = g; list = l } ≡ new_in t
  new_by hp hc hm hk ho hg hl = rw (hp, hc, hm, hk, ho, hg, hl) refl

pub ruleset part_rules = (lent-then, list-by, new_by)
