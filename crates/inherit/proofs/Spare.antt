-- The computation doesn't depend on spare bytes, and what it gives has none.
use mathlib.Core.Path.{◌≡◌, refl, ap, ap₂, ◌∙◌}
use mathlib.Core.Bool.{Bool, true, false}
use mathlib.Core.List.{List, [], ◌∷◌}
use mathlib.Core.Option.{none, some}
use Prim.Native.Nat.{ℕ}
use lib.ListN.{length}
use Rattle.octets.specs.Bytes.{Bytes, le, spell}
use Rattle.list.specs.Entry.{Family, access}
use Rattle.list.specs.List.{entries_of, check_of, header_ok, rev_ok, walk_of, finish, read_as, MaybeList}
use Rattle.list.specs.Answer.{Values}
use Rattle.list.specs.Spare.{with_spare, bare_by, Sized}
use Rattle.std.proofs.Common.{Result, Ok, Err}
use Rattle.refusal.specs.declared.Fault.{Fault}
use Rattle.list.specs.declared.readings.Read.{Read}
use Rattle.list.proofs.Spare.{bare_reading, bytes-sized, bare-reads, bare-entries}
use Rattle.inherit.specs.Asked.{Asked, given_in, entries_if}
use Rattle.inherit.specs.Copies.{any_heritable, own_entries}
use Rattle.inherit.specs.Last.{last_step}
use Rattle.inherit.specs.Branch.{Result as Computation, holds, with_creator, from_default, branch, result_of}
use Rattle.inherit.specs.Compute.{on_reading, readable, compute_of, bytes_for, written, out_of}
use Rattle.inherit.specs.Spare.{bare_if, with_lists, bare_asked, NoSpare, Each, Lists}
use Rattle.inherit.proofs.Theorems.{computes, present-fits}

-- ---- one list

reading-unseen : (r : Result Read Fault) (which : ℕ) (rest : Values) → on_reading (bare_reading r) which rest ≡ on_reading r which rest
unfolding on_reading bare_reading
reading-unseen (Ok r) which rest = refl
reading-unseen (Err fault) which rest = refl

pub readable-unseen : (o : MaybeList) (which : ℕ) (rest : Values) → Each (Sized access) o → readable (bare_if o) which rest ≡ readable o which rest
unfolding readable bare_if
readable-unseen none which rest z = refl
readable-unseen (some s) which rest z =
    ap (λ (r : Result Read Fault). on_reading r which rest) (bare-reads access s z) ∙ reading-unseen (check_of access s) which rest

-- ---- what is computed

-- both absent, or both present with the same entries
abbrev pub Like : MaybeList → MaybeList → Type 0
Like none none = Unit
Like none (some t) = ⊥
Like (some s) none = ⊥
Like (some s) (some t) = entries_of s ≡ entries_of t

pub like-same : (o : MaybeList) → Like o o
like-same none = tt
like-same (some s) = refl

pub like-bare : (o : MaybeList) → Each (Sized access) o → Like (bare_if o) o
unfolding bare_if
like-bare none z = tt
like-bare (some s) z = bare-entries access s z

like-entries : (o p : MaybeList) → Like o p → entries_if o ≡ entries_if p
unfolding entries_if
like-entries none none h = refl
like-entries none (some t) h = absurd h
like-entries (some s) none h = absurd h
like-entries (some s) (some t) h = h

-- the result is a matter of entries alone
module _ (f : Family) (a : Asked) (parent creator default : MaybeList) where
  default-like : (d e : MaybeList) → Like d e → from_default (given_in a) d ≡ from_default (given_in a) e
  unfolding from_default
  default-like none none h = refl
  default-like none (some t) h = absurd h
  default-like (some s) none h = absurd h
  default-like (some s) (some t) h = ap (λ (es : List (List ℕ)). holds (last_step (given_in a) false es) 0) (like-entries (some s) (some t) h)

  branch-like : (h : Bool) (es : List (List ℕ)) (c e : MaybeList) → Like c e → Like default a.default
      → branch f (with_lists parent creator default a) h es c ≡ branch f a h es e
  unfolding branch with_creator
  branch-like h es none (some t) y z = absurd y
  branch-like h es (some s) none y z = absurd y
  branch-like true es none none y z = refl
  branch-like true es (some s) (some t) y z = ap (with_creator f a es) (like-entries (some s) (some t) y)
  branch-like false es none none y z = default-like default a.default z
  branch-like false es (some s) (some t) y z =
      ap (λ (own : List (List ℕ)). holds (last_step (given_in a) false (own_entries own)) 0) (like-entries (some s) (some t) y)

  pub result-like : Like parent a.parent → Like creator a.creator → Like default a.default
      → result_of f (with_lists parent creator default a) ≡ result_of f a
  unfolding result_of
  result-like p c d =
      ap (λ (es : List (List ℕ)). branch f (with_lists parent creator default a) (any_heritable es) es creator) (like-entries parent a.parent p)
      ∙ branch-like (any_heritable (entries_if a.parent)) (entries_if a.parent) creator a.creator c d

result-unseen : (a : Asked) → Lists (Sized access) a → result_of access (bare_asked a) ≡ result_of access a
result-unseen a z =
    result-like access a _ _ _ (like-bare a.parent z.parent) (like-bare a.creator z.creator) (like-bare a.default z.default)

module _ (a : Asked) (z : Lists (Sized access) a) where
  answer-unseen : (room : ℕ) → compute_of (bare_asked a) room ≡ compute_of a room
  unfolding compute_of
  answer-unseen room =
      rw (result-unseen a z)
      (rw (readable-unseen a.parent 1 _ z.parent, readable-unseen a.creator 2 _ z.creator, readable-unseen a.default 3 _ z.default) refl)

-- ---- for any bytes

sized_of : (o : MaybeList) → Each Bytes o → Each (Sized access) o
sized_of none b = tt
sized_of (some s) b = bytes-sized access s b

sized : (a : Asked) → Lists Bytes a → Lists (Sized access) a
sized a b =
    record {
      parent = sized_of a.parent b.parent;
      creator = sized_of a.creator b.creator;
      default = sized_of a.default b.default;
    }

-- whatever is asked, spare bytes change neither the answer nor a byte of the buffer
pub record Unseen (a : Asked) : Type 0 where
  pub answer : (room : ℕ) → compute_of (bare_asked a) room ≡ compute_of a room
  pub buffer : (out : List ℕ) → out_of (bare_asked a) out ≡ out_of a out

pub spare-unseen : (a : Asked) → Lists Bytes a → Unseen a
spare-unseen a b =
    let z = sized a b in
    record {
      answer = answer-unseen a z;
      buffer = λ out. ap₂ (λ (v : Values) (r : Computation). written v (bytes_for r) out) (answer-unseen a z (length out)) (result-unseen a z);
    }

-- a computed list has none: its entries end at its length
pub computed-end : (a : Asked) (room : ℕ) → (compute_of a room).present ≡ 1 → NoSpare (some (bytes_for (result_of access a)))
computed-end a room h =
    let c = computes a room h in
    c.done ∙ ap₂ (λ (l n : ℕ). read_as l n l) (present-fits a room h).0 c.listed.count

-- by computation: an empty list with a spare byte
pub bare-worked : (bare_if (some (2 ∷ 0 ∷ 9 ∷ 0 ∷ 0 ∷ 0 ∷ 0 ∷ 0 ∷ 7 ∷ [])) ≡ some (2 ∷ 0 ∷ 8 ∷ 0 ∷ 0 ∷ 0 ∷ 0 ∷ 0 ∷ [])) × (bare_if none ≡ none)
unfolding bare_if bare_by with_spare spell le check_of header_ok rev_ok walk_of finish
bare-worked = (refl, refl)
