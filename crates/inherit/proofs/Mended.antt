-- Rule 2's masks: no mask of a computed list has a generic bit, and computing again from such a list changes no mask, whatever the rule and the mapping.
use mathlib.Core.Path.{◌≡◌, refl, sym, ap, ap₂, subst, ◌∙◌}
use mathlib.Core.Bool.{true, false}
use mathlib.Core.List.{List, [], ◌∷◌}
use mathlib.Core.Logic.{inl, inr}
use mathlib.Core.Option.{none, some}
use Prim.Native.Nat.{ℕ}
use native.Mathlib.Omega.{arith}
use lib.ListN.{set}
use Rattle.list.specs.Entry.{access, flags_ok, mask_of}
use Rattle.list.specs.List.{entries_of}
use Rattle.list.specs.Good.{Whole, Every}
use Rattle.octets.proofs.Bits.{below-generic}
use Rattle.list.proofs.Revisions.{flags-ok, every-to}
use Rattle.inherit.specs.declared.Mapping.{Mapping}
use Rattle.inherit.specs.Asked.{Asked, Given, given_in, entries_if}
use Rattle.inherit.specs.Copies.{any_heritable}
use Rattle.inherit.specs.Last.{mends, last_mask, resolved, last_of, last_step}
use Rattle.inherit.specs.Branch.{holds, from_default, result_of}
use Rattle.inherit.specs.Compute.{compute_of, bytes_for}
use Rattle.inherit.specs.Said.{Low, NoGeneric, Stands, Copied}
use Rattle.inherit.proofs.Masks.{last-same}
use Rattle.inherit.proofs.Emits.{resolved-set}
use Rattle.inherit.proofs.Results.{Small, Copy, copy_is, planned-low, planned-again, every-is}
use Rattle.inherit.proofs.Copied.{stands-every, planned-stands, copied-whole}
use Rattle.inherit.proofs.Sources.{wholes-of}
use Rattle.inherit.proofs.Theorems.{made, made-entries, computed-every, computed-small, not-heritable}

two-mends : {rule : ℕ} → rule ≡ 2 → mends rule ≡ true
unfolding mends
two-mends e = rw e

-- ---- under rule 2 a computed list

module _ (a : Asked) (room : ℕ) (r : a.rule ≡ 2) (h : (compute_of a room).present ≡ 1) where
  -- its masks are below the generic bits
  pub computed-low : Every Low (entries_of (bytes_for (result_of access a)))
  computed-low = let m = made a room h in computed-every a room h _ (planned-low (given_in a) m.owner.0 m.group.0 (two-mends r) _)

  -- so none has one of them
  pub no-generic : NoGeneric (some (bytes_for (result_of access a)))
  no-generic = every-to _ _ (λ e l. below-generic (mask_of e) l) (entries_of (bytes_for (result_of access a))) computed-low

  -- a further last step, under any rule and with any mapping, changes no mask
  pub masks-again : (rule : ℕ) (m : Mapping) → Every (λ e. last_mask rule m (mask_of e) ≡ mask_of e) (entries_of (bytes_for (result_of access a)))
  masks-again rule m = every-to _ _ (λ e l. last-same m (mask_of e) l rule) (entries_of (bytes_for (result_of access a))) computed-low

  -- nor any other byte
  pub entries-again : Every (λ e. (g : Given) → resolved g e ≡ e) (entries_of (bytes_for (result_of access a)))
  entries-again =
      let m = made a room h in
      every-is _ (entries_of (bytes_for (result_of access a))) (computed-small a room h)
      (computed-every a room h _ (planned-again (given_in a) m.owner.0 m.group.0 (two-mends r) m.owner.1 m.group.1 _))

last-again : (g : Given) (es : List (List ℕ)) → Every (λ e. (h : Given) → resolved h e ≡ e) es → last_step g false es ≡ es
unfolding last_step last_of
last-again g [] a = refl
last-again g (e ∷ es) a = ap₂ (λ (x : List ℕ) (xs : List (List ℕ)). x ∷ xs) (a.0 g) (last-again g es a.1)

-- a list computed under rule 2 that is computed again, as a default list, comes out as it is, under any rule, for any owner, group and mapping
pub computed-again : (a : Asked) (room : ℕ) → a.rule ≡ 2 → (compute_of a room).present ≡ 1
    → (b : Asked) → any_heritable (entries_if b.parent) ≡ false → b.creator ≡ none → b.default ≡ some (bytes_for (result_of access a))
    → bytes_for (result_of access b) ≡ bytes_for (result_of access a)
unfolding bytes_for from_default entries_if
computed-again a room r h b n c d =
    let m = made a room h in
    let q = entries-again a room r h in
    ap bytes_for (not-heritable b n c ∙ ap (from_default (given_in b)) d)
    ∙ ap (λ (xs : List (List ℕ)). bytes_for (holds xs 0)) (last-again (given_in b) _ q ∙ made-entries a room m)
    ∙ sym (ap bytes_for m.told.is)

-- ---- an entry of a list that was given, and its copy in a list computed under rule 2

-- its flags are known
copied-flags : (a : Asked) (e : List ℕ) (flags : ℕ) → Whole access 4 e → Copied a e flags → flags_ok access flags ≡ true
copied-flags a e flags w (inl i) = rw i.flags-are (flags-ok 0x10 (omega arith))
copied-flags a e flags w (inr (inl o)) = rw o.flags-are w.sound.flags
copied-flags a e flags w (inr (inr d)) = rw d.flags-are w.sound.flags

module _ (a : Asked) (room : ℕ) (r : a.rule ≡ 2) (h : (compute_of a room).present ≡ 1) (e : List ℕ) (flags : ℕ) (c : Copied a e flags) where
  -- its copy stands in the computed list
  pub copied-stands : Stands (resolved (given_in a) (set e 1 flags)) (entries_of (bytes_for (result_of access a)))
  copied-stands = let m = made a room h in rw (made-entries a room m, m.plan) (planned-stands a r e flags c)

  -- and is made of it
  pub copied_is : Copy (given_in a) e flags (resolved (given_in a) (set e 1 flags))
  copied_is =
      let m = made a room h in
      let v = m.passed in
      let w = copied-whole a _ _ _ (wholes-of a.parent v.parent) (wholes-of a.creator v.creator) (wholes-of a.default v.default) e flags c in
      let x = resolved-set (given_in a) e flags (omega (arith, w.sound.four)) in
      let small = subst Small x (stands-every Small _ _ (computed-small a room h) copied-stands) in
      rw x (copy_is (given_in a) m.owner.0 m.group.0 4 e w flags (copied-flags a e flags w c) (two-mends r) small)
