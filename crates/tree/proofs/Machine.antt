-- What History's machine makes of own data that is given by number: an alteration, an add, an undo, and the refusals.
use mathlib.Core.Path.{◌≡◌, refl, sym, ap, ◌∙◌}
use mathlib.Core.Bool.{true, false, ◌&&◌}
use mathlib.Core.Logic.{◌≢◌}
use mathlib.Core.List.{List, [], ◌∷◌, ◌++◌}
use mathlib.Core.Option.{Option, none, some}
use Prim.Native.Nat.{ℕ, ◌+◌, ◌-◌, ◌<◌}
use native.Mathlib.Omega.{arith}
use lib.ListN.{get_or, take, set}
use lib.Dec.{ltb}
use borrow.Author.Tests.{lt-ltb, le-ltb}
use Rattle.list.specs.List.{MaybeList}
use Rattle.octets.specs.Bytes.{put_at}
use Rattle.octets.proofs.Places.{split}
use Rattle.tree.specs.General.{tab}
use Rattle.tree.specs.Held.{parent_in, block_for}
use Rattle.tree.specs.Room.{step_tag, step_object, step_data}
use Rattle.tree.specs.Formed.{placed_in}
use Rattle.tree.specs.Calls.{Edit, edit_at, edit_bytes, New, nobody, object_for, add, alter}
use Rattle.tree.proofs.History.{edit, undo, settled, edited, undone, after}
use Rattle.tree.proofs.Replay.{Undo, off, again, Blocks, fine, addable, change, keep, back, work, rules, undo_in}
use Rattle.tree.proofs.Tab.{length-tab, get_d-tab, tab-set, tab-ext, tab-last, tab-take}
use Rattle.tree.proofs.Applied.{upd, upd_same, upd_other}

-- own data with one block replaced, one more, one less
pub set-tab : (n i : ℕ) (x : List ℕ) (f : ℕ → List ℕ) → i < n → set (tab n f) i x ≡ tab n (upd i x f)
set-tab n i x f h = sym (tab-set n i f (upd i x f) x h (upd_same i x f) (λ j k q. upd_other i x f j q))

apart : (j n : ℕ) → j < n → (j ≢ n)
apart j n h e = omega arith

pub more-tab : (n : ℕ) (x : List ℕ) (f : ℕ → List ℕ) → tab n f ++ (x ∷ []) ≡ tab (n + 1) (upd n x f)
more-tab n x f =
    sym
    (tab-last n (upd n x f)
    ∙ ap (λ (d : Blocks). d ++ (upd n x f n ∷ [])) (tab-ext n (upd n x f) f (λ j h. upd_other n x f j (apart j n h)))
    ∙ ap (λ (b : List ℕ). tab n f ++ (b ∷ [])) (upd_same n x f))

pub less-tab : (n : ℕ) (x : List ℕ) (f : ℕ → List ℕ) → take (n - 1) (tab n f) ≡ tab (n - 1) (upd (n - 1) x f)
less-tab n x f =
    tab-take [] (n - 1) n f (omega arith) ∙ tab-ext (n - 1) f (upd (n - 1) x f) (λ j h. sym (upd_other (n - 1) x f j (apart j (n - 1) h)))

-- a place below own data that is given by number
pub placed-tab : (n : ℕ) (q : Option ℕ) (f : ℕ → List ℕ) → placed_in (λ j. get_or (tab n f) j []) n q ≡ placed_in f n q
unfolding placed_in
placed-tab n none f = refl
placed-tab n (some p) f =
    split n p
    (λ h. rw (le-ltb p n h) refl)
    (λ h. rw (get_d-tab n f p [] h) refl)

module _ (N S : ℕ) (e : List ℕ) (n : ℕ) (f : ℕ → List ℕ) (ls : List MaybeList) (us : List Undo) where
  pub alter-after : (i : ℕ) (ed : Edit) → i < n → fine ed ≡ true
      → after (rules N e) S (record { own = tab n f; lists = ls; kept = us }) (edit (alter i ed))
      ≡ settled (rules N e) S (tab n (upd i (put_at (edit_at ed) (edit_bytes ed) (f i)) f)) (take S (again i (f i) ∷ us))
      (work e (tab n (upd i (put_at (edit_at ed) (edit_bytes ed) (f i)) f)))
  unfolding after edited rules change keep
  alter-after i ed h g =
      rw (length-tab n f, lt-ltb i n h, g, get_d-tab n f i [] h, set-tab n i (put_at (edit_at ed) (edit_bytes ed) (f i)) f h) refl

  pub alter-none : (i : ℕ) (ed : Edit) → (ltb i n && fine ed) ≡ false
      → after (rules N e) S (record { own = tab n f; lists = ls; kept = us }) (edit (alter i ed)) ≡ none
  unfolding after edited rules change
  alter-none i ed h = rw (length-tab n f, h) refl

  pub add-after : (new : New) → addable N new n f ≡ true
      → after (rules N e) S (record { own = tab n f; lists = ls; kept = us }) (edit (add new))
      ≡ settled (rules N e) S (tab (n + 1) (upd n (block_for (object_for new)) f)) (take S (off ∷ us)) (work e (tab (n + 1) (upd n (block_for (object_for new)) f)))
  unfolding after edited rules change keep
  add-after new h = rw (length-tab n f, placed-tab n (parent_in nobody new.parent) f, h, more-tab n (block_for (object_for new)) f) refl

  pub add_none : (new : New) → addable N new n f ≡ false → after (rules N e) S (record { own = tab n f; lists = ls; kept = us }) (edit (add new)) ≡ none
  unfolding after edited rules change
  add_none new h = rw (length-tab n f, placed-tab n (parent_in nobody new.parent) f, h) refl

  pub undo-none : us ≡ [] → after (rules N e) S (record { own = tab n f; lists = ls; kept = us }) undo ≡ none
  unfolding after undone
  undo-none h = rw h refl

  -- how an undo goes by its step
  undo-by : (u : List ℕ) (vs : List Undo) (d : Blocks) → us ≡ undo_in u ∷ vs → back (undo_in u) (tab n f) ≡ d
      → after (rules N e) S (record { own = tab n f; lists = ls; kept = us }) undo ≡ settled (rules N e) S d vs (work e d)
  unfolding after undone rules
  undo-by u vs d h g = rw (h, g) refl

  pub undo-off : (u : List ℕ) (vs : List Undo) → us ≡ undo_in u ∷ vs → step_tag u ≡ 1
      → after (rules N e) S (record { own = tab n f; lists = ls; kept = us }) undo
      ≡ settled (rules N e) S (tab (n - 1) (upd (n - 1) (step_data u) f)) vs (work e (tab (n - 1) (upd (n - 1) (step_data u) f)))
  unfolding undo_in back
  undo-off u vs h t = undo-by u vs _ h (rw (t, length-tab n f) (less-tab n (step_data u) f))

  pub undo-again : (u : List ℕ) (vs : List Undo) → us ≡ undo_in u ∷ vs → step_tag u ≡ 2 → step_object u < n
      → after (rules N e) S (record { own = tab n f; lists = ls; kept = us }) undo
      ≡ settled (rules N e) S (tab n (upd (step_object u) (step_data u) f)) vs (work e (tab n (upd (step_object u) (step_data u) f)))
  unfolding undo_in back
  undo-again u vs h t l = undo-by u vs _ h (rw t (set-tab n (step_object u) (step_data u) f l))
