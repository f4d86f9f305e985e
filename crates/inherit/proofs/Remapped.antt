-- Where every list that is given has masks below the generic bits, as lists computed under rule 2 have, the mapping isn't looked at.
use mathlib.Core.Path.{◌≡◌, refl, ap, ap₂, ◌∙◌}
use mathlib.Core.Bool.{Bool, true, false, not, cond, ◌&&◌}
use mathlib.Core.List.{List, [], ◌∷◌, ◌++◌}
use mathlib.Core.Option.{none, some}
use Prim.Native.Nat.{ℕ}
use lib.ListN.{length, set}
use lib.Dec.{eqb}
use Rattle.list.specs.Entry.{Family, access, flags_of, mask_of}
use Rattle.list.specs.List.{MaybeList}
use Rattle.list.specs.Answer.{Values}
use Rattle.list.specs.Good.{Every}
use Rattle.list.proofs.Remade.{set-mask}
use Rattle.list.proofs.Revisions.{every_append, every-cond}
use Rattle.inherit.specs.declared.Mapping.{Mapping}
use Rattle.inherit.specs.Asked.{Asked, Given, given_in, entries_if}
use Rattle.inherit.specs.Copies.{any_heritable, type_applies, pass, takes_first, first_part, takes_second, second_part, from_parent, own_entries, from_creator}
use Rattle.inherit.specs.Last.{resolved, last_of, last_step}
use Rattle.inherit.specs.Branch.{Result, holds, inherited_bit, with_creator, from_default, branch, result_of}
use Rattle.inherit.specs.Compute.{compute_of, bytes_for, written, out_of}
use Rattle.inherit.specs.Said.{Low, with_mapping}
use Rattle.inherit.proofs.Masks.{last-same}

-- the same terms with another mapping
abbrev remapped : Given → Mapping → Given
remapped g m = record { rule = g.rule; container = g.container; mapping = m; types = g.types; owner = g.owner; group = g.group }

module _ (g : Given) (m : Mapping) where
  -- the last step over such entries
  resolved-low : (e : List ℕ) → Low e → resolved (remapped g m) e ≡ resolved g e
  unfolding resolved
  resolved-low e l = rw (last-same m (mask_of e) l g.rule, last-same g.mapping (mask_of e) l g.rule)

  last-low : (o : Bool) (es : List (List ℕ)) → Every Low es → last_step (remapped g m) o es ≡ last_step g o es
  unfolding last_step last_of
  last-low o [] a = refl
  last-low o (e ∷ es) a = rw (resolved-low e a.0, last-low o es a.1)

  -- which entries are copied doesn't depend on it
  pass_same : (p q : List ℕ → Bool) (flags : ℕ → ℕ) → ((e : List ℕ) → p e ≡ q e) → (es : List (List ℕ)) → pass p flags es ≡ pass q flags es
  unfolding pass
  pass_same p q flags f [] = refl
  pass_same p q flags f (e ∷ es) = rw (f e, pass_same p q flags f es)

  both-same : (f : Family) (become stop added : ℕ) (es : List (List ℕ))
      → first_part f (remapped g m) become es ++ second_part (remapped g m) stop added es ≡ first_part f g become es ++ second_part g stop added es
  unfolding first_part second_part takes_first takes_second type_applies
  both-same f become stop added es = ap₂ (λ (xs ys : List (List ℕ)). xs ++ ys) (pass_same _ _ _ (λ e. refl) es) (pass_same _ _ _ (λ e. refl) es)

  parent-same : (f : Family) (es : List (List ℕ)) → from_parent f (remapped g m) es ≡ from_parent f g es
  unfolding from_parent
  parent-same f es = both-same f 0x10 0x04 0x18 es

  creator-same : (f : Family) (es : List (List ℕ)) → from_creator f (remapped g m) es ≡ from_creator f g es
  unfolding from_creator
  creator-same f es = both-same f 0x00 0x00 0x08 (own_entries es)

-- copies keep the masks
pass-low : (takes : List ℕ → Bool) (flags : ℕ → ℕ) (es : List (List ℕ)) → Every Low es → Every Low (pass takes flags es)
unfolding pass
pass-low takes flags [] a = tt
pass-low takes flags (e ∷ es) a = by (takes e) (pass-low takes flags es a.1)
  where
    by : (b : Bool) → Every Low (pass takes flags es) → Every Low (cond b (set e 1 (flags (flags_of e)) ∷ pass takes flags es) (pass takes flags es))
    by true l = (rw (set-mask e (flags (flags_of e))) a.0, l)
    by false l = l

both-low : (f : Family) (g : Given) (become stop added : ℕ) (es : List (List ℕ)) → Every Low es → Every Low (first_part f g become es ++ second_part g stop added es)
unfolding first_part second_part
both-low f g become stop added es a = every_append Low (first_part f g become es) (second_part g stop added es) (pass-low _ _ es a) (pass-low _ _ es a)

module _ (f : Family) (g : Given) (es : List (List ℕ)) (a : Every Low es) where
  parent-low : Every Low (from_parent f g es)
  unfolding from_parent
  parent-low = both-low f g 0x10 0x04 0x18 es a

  own-low : Every Low (own_entries es)
  unfolding own_entries
  own-low = pass-low _ _ es a

  creator-low : Every Low (from_creator f g es)
  unfolding from_creator
  creator-low = both-low f g 0x00 0x00 0x08 (own_entries es) own-low

module _ (f : Family) (a : Asked) (m : Mapping) (p : Every Low (entries_if a.parent)) (d : Every Low (entries_if a.default)) where
  abbrev g : Given
  g = given_in a

  abbrev ps : List (List ℕ)
  ps = entries_if a.parent

  -- from the parent
  parent_row : (o : Bool) → last_step (remapped g m) o (from_parent f (remapped g m) ps) ≡ last_step g o (from_parent f g ps)
  parent_row o = ap (last_step (remapped g m) o) (parent-same g m f ps) ∙ last-low g m o (from_parent f g ps) (parent-low f g ps p)

  -- what comes from the creator's list, then P
  then-row : (o t : Bool) (xs ys : List (List ℕ)) → xs ≡ ys → Every Low ys
      → last_step (remapped g m) o (xs ++ cond t (from_parent f (remapped g m) ps) []) ≡ last_step g o (ys ++ cond t (from_parent f g ps) [])
  then-row o t xs ys e l =
      ap₂ (λ (us vs : List (List ℕ)). last_step (remapped g m) o (us ++ cond t vs [])) e (parent-same g m f ps)
      ∙ last-low g m o _ (every_append Low ys _ l (every-cond Low t (from_parent f g ps) (parent-low f g ps p)))

  creator-row : (cs : List (List ℕ)) → Every Low cs → with_creator f (with_mapping a m) ps cs ≡ with_creator f a ps cs
  unfolding with_creator
  creator-row cs c = by a.default-descriptor (eqb a.rule 1) (a.auto-inherit && not a.protected)
    where
      by : (x y t : Bool) → cond x (holds (last_step (remapped g m) true (from_parent f (remapped g m) ps)) 0)
          (cond y
          (holds (last_step (remapped g m) true (from_creator f (remapped g m) cs ++ cond t (from_parent f (remapped g m) ps) [])) (cond t (inherited_bit f) 0))
          (holds (last_step (remapped g m) false (own_entries cs ++ cond t (from_parent f (remapped g m) ps) [])) (cond t (inherited_bit f) 0)))
          ≡ cond x (holds (last_step g true (from_parent f g ps)) 0)
          (cond y (holds (last_step g true (from_creator f g cs ++ cond t (from_parent f g ps) [])) (cond t (inherited_bit f) 0))
          (holds (last_step g false (own_entries cs ++ cond t (from_parent f g ps) [])) (cond t (inherited_bit f) 0)))
      by true y t = ap (λ (es : List (List ℕ)). holds es 0) (parent_row true)
      by false true t = ap (λ (es : List (List ℕ)). holds es (cond t (inherited_bit f) 0)) (then-row true t (from_creator f (remapped g m) cs) (from_creator f g cs) (creator-same g m f cs) (creator-low f g cs c))
      by false false t = ap (λ (es : List (List ℕ)). holds es (cond t (inherited_bit f) 0)) (then-row false t (own_entries cs) (own_entries cs) refl (own-low f g cs c))

  default_row : (o : MaybeList) → Every Low (entries_if o) → from_default (remapped g m) o ≡ from_default g o
  unfolding from_default
  default_row none l = refl
  default_row (some s) l = ap (λ (es : List (List ℕ)). holds es 0) (last-low g m false (entries_if (some s)) l)

  -- the table's rows
  rows : (h : Bool) (o : MaybeList) → Every Low (entries_if o) → branch f (with_mapping a m) h ps o ≡ branch f a h ps o
  unfolding branch
  rows true none c = ap (λ (es : List (List ℕ)). holds es 0) (parent_row true)
  rows true (some s) c = creator-row (entries_if (some s)) c
  rows false none c = default_row a.default d
  rows false (some s) c = ap (λ (es : List (List ℕ)). holds es 0) (last-low g m false _ (own-low f g (entries_if (some s)) c))

  result-same : Every Low (entries_if a.creator) → result_of f (with_mapping a m) ≡ result_of f a
  unfolding result_of
  result-same c = rows (any_heritable ps) a.creator c

-- where every list that is given has such masks, the answer and every byte of the buffer are the same whatever the mapping
pub mapping-unseen : (a : Asked) (m : Mapping) → Every Low (entries_if a.parent) → Every Low (entries_if a.creator) → Every Low (entries_if a.default)
    → ((room : ℕ) → compute_of (with_mapping a m) room ≡ compute_of a room) × ((out : List ℕ) → out_of (with_mapping a m) out ≡ out_of a out)
unfolding compute_of
mapping-unseen a m p c d =
    let r = result-same access a m p d c in
    let answers : (room : ℕ) → compute_of (with_mapping a m) room ≡ compute_of a room = λ room. rw r in
    (answers, λ out. ap₂ (λ (v : Values) (x : Result). written v (bytes_for x) out) (answers (length out)) r)
