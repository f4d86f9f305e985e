-- What a change and an undo make of a room's area, part by part; where they are refused, so is working the lists out in the order of the objects' numbers.
use mathlib.Core.Path.{◌≡◌, sym, ap, ◌∙◌, subst}
use mathlib.Core.Bool.{true}
use mathlib.Core.Logic.{◌⊎◌, inl, inr}
use mathlib.Core.List.{List, ◌∷◌}
use mathlib.Core.Option.{Option, none, some}
use Prim.Native.Nat.{ℕ, zero, suc, ◌+◌, ◌-◌, ◌*◌, ◌≤◌, ◌<◌, min}
use native.Mathlib.Nat.{add-zero}
use native.Mathlib.Decide.{ℕ_discrete}
use native.Mathlib.Omega.{arith}
use lib.ListN.{length, get_or, set, length-set}
use lib.Seq.{get_or-set_same}
use borrow.Author.Tests.{eq-eqb, ne_eqb}
use Rattle.octets.specs.Bytes.{part, put_at}
use Rattle.octets.proofs.Places.{split, length_part, length-put, part-put-before, part-put-after, part-put-on, put_whole, byte-same}
use Rattle.tree.specs.General.{tab}
use Rattle.tree.specs.Held.{held, slot_ok}
use Rattle.tree.specs.Room.{object_limit, step_limit, objects, kept_steps, own_at, steps_at, settings, own_data, slot, step, step_object, step_data}
use Rattle.tree.specs.Calls.{Put, step_kept, step_gone, reworked_with, changed, latest, standing_after, step_taken_back}
use Rattle.tree.proofs.Tab.{tab-ext}
use Rattle.tree.proofs.Paths.{in_order}
use Rattle.tree.proofs.Applied.{upd, ahead}
use Rattle.tree.proofs.Areas.{Ready}
use Rattle.tree.proofs.Stepping.{Aside, OneMore, OneLess, one_more, one_less, part-set}
use Rattle.tree.proofs.Reworks.{Worked, Linked, linked, settings-stay, own-stays}

-- w₃ is w with n objects whose own data is f, their lists worked out from it, and the k steps g
pub record Became (w w₃ : List ℕ) (n : ℕ) (f : ℕ → List ℕ) (k : ℕ) (g : ℕ → List ℕ) : Type 0 where
  pub size : length w₃ ≡ length w
  pub limits : object_limit w₃ ≡ object_limit w
  pub step-limits : step_limit w₃ ≡ step_limit w
  pub count : objects w₃ ≡ n
  pub steps : kept_steps w₃ ≡ k
  pub same-settings : settings w₃ ≡ settings w
  pub owns : (j : ℕ) → j < n → own_data j w₃ ≡ f j
  pub stepped : (j : ℕ) → j < k → step (object_limit w) j w₃ ≡ g j
  pub slots : (j : ℕ) → j < n → slot_ok (slot j w₃) ≡ true
  pub lists : in_order (settings w) (tab n f) n ≡ some (tab n (λ j. held (slot j w₃)))

-- ---- own data written, and the number of objects set

abbrev written : ℕ → ℕ → List ℕ → ℕ → List ℕ → List ℕ
written i at b n w = set (put_at (own_at i + at) b w) 2 n

-- what is to be known of computed lists
-- w₁ is w but for the steps: own data of object i is written in it, and n objects stand
module _
    (w w₁ : List ℕ) (ready : Ready w) (same : (a k : ℕ) → Aside (object_limit w) a k → part a k w₁ ≡ part a k w) (size : length w₁ ≡ length w)
    (i at : ℕ) (b : List ℕ) (n : ℕ) (hi : i < object_limit w) (hn : n ≤ object_limit w) (fits : at + length b ≤ 1184) where
  put-size : length (put_at (own_at i + at) b w₁) ≡ length w
  put-size = length-put (own_at i + at) b w₁ (omega arith) ∙ size

  written-size : length (written i at b n w₁) ≡ length w
  written-size = length-set (put_at (own_at i + at) b w₁) 2 n ∙ put-size

  written_count : objects (written i at b n w₁) ≡ n
  written_count = get_or-set_same (put_at (own_at i + at) b w₁) 2 n 0 (omega (arith, put-size))

  -- a part that holds neither
  written-part : (a k : ℕ) → (a + k ≤ 2) ⊎ (2 < a) → (a + k ≤ own_at i) ⊎ (own_at i + 1184 ≤ a) → part a k (written i at b n w₁) ≡ part a k w₁
  written-part a k q (inl m) =
      part-set a k 2 n (put_at (own_at i + at) b w₁) q (omega (arith, put-size))
      ∙ part-put-before a k (own_at i + at) b w₁ (omega arith) (omega arith)
  written-part a k q (inr m) =
      part-set a k 2 n (put_at (own_at i + at) b w₁) q (omega (arith, put-size))
      ∙ part-put-after a k (own_at i + at) b w₁ (omega arith) (omega arith)

  written-settings : settings (written i at b n w₁) ≡ settings w
  unfolding settings
  written-settings = written-part 4 1044 (inr (omega arith)) (inl (omega arith)) ∙ same 4 1044 (inr (omega arith), omega arith)

  written_step : (j : ℕ) → step (object_limit w) j (written i at b n w₁) ≡ step (object_limit w) j w₁
  unfolding step
  written_step j = written-part (steps_at (object_limit w) + j * 1186) 1186 (inr (omega arith)) (inr (omega arith))

  own-aside : (j : ℕ) → j < object_limit w → own_data j w₁ ≡ own_data j w
  unfolding own_data
  own-aside j h = same (own_at j) 1184 (inr (omega arith), omega arith)

  written-here : own_data i (written i at b n w₁) ≡ put_at at b (own_data i w)
  unfolding own_data
  written-here =
      part-set (own_at i) 1184 2 n (put_at (own_at i + at) b w₁) (inr (omega arith)) (omega (arith, put-size))
      ∙ part-put-on (own_at i) 1184 at b w₁ fits (omega arith)
      ∙ ap (put_at at b) (own-aside i hi)

  written-there : (j : ℕ) → j < object_limit w → (j ≡ i → ⊥) → own_data j (written i at b n w₁) ≡ own_data j w
  unfolding own_data
  written-there j h q =
      written-part (own_at j) 1184 (inr (omega arith)) (split j i (λ m. inl (omega arith)) (λ m. inr (omega arith)))
      ∙ own-aside j h

  written-own : (j : ℕ) → j < n → own_data j (written i at b n w₁) ≡ upd i (put_at at b (own_data i w)) (λ m. own_data m w) j
  unfolding upd
  written-own j h =
      elim (ℕ_discrete j i) [
        | yes q ↦ rw (eq-eqb j i q, q) written-here
        | no q ↦ rw (ne_eqb j i q) (written-there j (omega arith) q)
      ]

  written-order : in_order (settings (written i at b n w₁)) (tab n (λ j. own_data j (written i at b n w₁))) n
      ≡ in_order (settings w) (tab n (upd i (put_at at b (own_data i w)) (λ m. own_data m w))) n
  written-order = rw (written-settings, tab-ext n (λ j. own_data j (written i at b n w₁)) (upd i (put_at at b (own_data i w)) (λ m. own_data m w)) written-own)

  -- a byte of the head, but for the number of objects
  head_byte : (w₃ : List ℕ) → Worked n (written i at b n w₁) w₃ → (c : ℕ) → (c + 1 ≤ 2) ⊎ (2 < c) → c < 4 → get_or w₃ c 0 ≡ get_or w₁ c 0
  head_byte w₃ k c q h =
      byte-same c w₃ w₁ (k.rest c 1 (λ j m. inl (omega arith)) ∙ written-part c 1 q (inl (omega arith)))

  step_stays : (w₃ : List ℕ) → Worked n (written i at b n w₁) w₃ → (j : ℕ) → step (object_limit w) j w₃ ≡ step (object_limit w) j (written i at b n w₁)
  unfolding step
  step_stays w₃ k j = k.rest (steps_at (object_limit w) + j * 1186) 1186 (λ c h. inr (omega arith))

  worked-became : (m : ℕ) (g : ℕ → List ℕ) → kept_steps w₁ ≡ m → ((j : ℕ) → j < m → step (object_limit w) j w₁ ≡ g j)
      → (w₃ : List ℕ) → Worked n (written i at b n w₁) w₃ → Became w w₃ n (upd i (put_at at b (own_data i w)) (λ j. own_data j w)) m g
  worked-became m g e s w₃ k = record {
    size = k.size ∙ written-size;
    limits = head_byte w₃ k 0 (inl (omega arith)) (omega arith) ∙ byte-same 0 w₁ w (same 0 1 (inl (omega arith), omega arith));
    step-limits = head_byte w₃ k 1 (inl (omega arith)) (omega arith) ∙ byte-same 1 w₁ w (same 1 1 (inl (omega arith), omega arith));
    count = byte-same 2 w₃ (written i at b n w₁) (k.rest 2 1 (λ j q. inl (omega arith))) ∙ written_count;
    steps = head_byte w₃ k 3 (inr (omega arith)) (omega arith) ∙ e;
    same-settings = settings-stay n (written i at b n w₁) w₃ k ∙ written-settings;
    owns = λ j h. own-stays n (written i at b n w₁) w₃ k j ∙ written-own j h;
    stepped = λ j h. step_stays w₃ k j ∙ written_step j ∙ s j h;
    slots = k.slots;
    lists = sym written-order ∙ k.lists;
  }

  settled-as : (o : Option (List ℕ)) → reworked_with (own_at i + at) b n w₁ ≡ o → Linked n (written i at b n w₁) o
  unfolding reworked_with
  settled-as o e =
      subst (λ (x : Option (List ℕ)). Linked n (written i at b n w₁) x) e
      (linked n (written i at b n w₁) (omega arith) (omega (arith, written-size)))

  settled-became : (m : ℕ) (g : ℕ → List ℕ) → kept_steps w₁ ≡ m → ((j : ℕ) → j < m → step (object_limit w) j w₁ ≡ g j)
      → (w₃ : List ℕ) → reworked_with (own_at i + at) b n w₁ ≡ some w₃ → Became w w₃ n (upd i (put_at at b (own_data i w)) (λ j. own_data j w)) m g
  settled-became m g e s w₃ q = worked-became m g e s w₃ (settled-as (some w₃) q)

  settled-refused : reworked_with (own_at i + at) b n w₁ ≡ none → in_order (settings w) (tab n (upd i (put_at at b (own_data i w)) (λ j. own_data j w))) n ≡ none
  settled-refused q = sym written-order ∙ settled-as none q

-- ---- a change

-- the step that it keeps, and own data of each object afterwards
abbrev pub step_of : Put → List ℕ → List ℕ
step_of p w = p.tag ∷ p.object ∷ own_data p.object w

abbrev pub own_of : Put → List ℕ → ℕ → List ℕ
own_of p w = upd p.object (put_at p.place p.bytes (own_data p.object w)) (λ j. own_data j w)

module _ (w : List ℕ) (ready : Ready w) (p : Put) (hi : p.object < object_limit w) (hn : p.standing ≤ object_limit w) (fits : p.place + length p.bytes ≤ 1184) where
  keeps : OneMore (step_of p w) w (step_kept (step_of p w) w)
  unfolding own_data
  keeps = one_more w ready (step_of p w) (let l = length_part (own_at p.object) 1184 w (omega arith) in omega arith)

  keeps-steps : (j : ℕ) → j < min (step_limit w) (suc (kept_steps w))
      → step (object_limit w) j (step_kept (step_of p w) w) ≡ ahead (step_of p w) (λ m. step (object_limit w) m w) j
  unfolding ahead
  keeps-steps zero h = keeps.first (omega arith)
  keeps-steps (suc j) h = keeps.later j (omega arith)

  pub change-became : (w₃ : List ℕ) → changed p w ≡ some w₃
      → Became w w₃ p.standing (own_of p w) (min (step_limit w) (suc (kept_steps w))) (ahead (step_of p w) (λ j. step (object_limit w) j w))
  unfolding changed
  change-became = settled-became w _ ready keeps.same keeps.size p.object p.place p.bytes p.standing hi hn fits _ _ keeps.count keeps-steps

  pub change-refused : changed p w ≡ none → in_order (settings w) (tab p.standing (own_of p w)) p.standing ≡ none
  unfolding changed
  change-refused = settled-refused w _ ready keeps.same keeps.size p.object p.place p.bytes p.standing hi hn fits

-- ---- an undo

module _ (w : List ℕ) (ready : Ready w) (p : 0 < kept_steps w) (hi : step_object (latest w) < object_limit w) (hn : standing_after w ≤ object_limit w) where
  takes : OneLess w (step_gone w)
  takes = one_less w ready p

  saved-length : length (step_data (latest w)) ≡ 1184
  unfolding step
  saved-length =
      let l = length_part (steps_at (object_limit w) + 0 * 1186) 1186 w (omega arith) in
      length_part 2 1184 (latest w) (omega arith)

  -- all of own data is put back
  saved-whole : put_at 0 (step_data (latest w)) (own_data (step_object (latest w)) w) ≡ step_data (latest w)
  unfolding own_data
  saved-whole =
      let l = length_part (own_at (step_object (latest w))) 1184 w (omega arith) in
      put_whole (step_data (latest w)) (own_data (step_object (latest w)) w) (saved-length ∙ sym l)

  undone-as : step_taken_back w ≡ reworked_with (own_at (step_object (latest w)) + 0) (step_data (latest w)) (standing_after w) (step_gone w)
  unfolding step_taken_back
  undone-as = rw (add-zero (own_at (step_object (latest w))))

  pub undo-became : (w₃ : List ℕ) → step_taken_back w ≡ some w₃
      → Became w w₃ (standing_after w) (upd (step_object (latest w)) (step_data (latest w)) (λ j. own_data j w)) (kept_steps w - 1) (λ j. step (object_limit w) (suc j) w)
  undo-became w₃ e =
      subst (λ (x : List ℕ). Became w w₃ (standing_after w) (upd (step_object (latest w)) x (λ j. own_data j w)) (kept_steps w - 1) (λ j. step (object_limit w) (suc j) w)) saved-whole
      (settled-became w _ ready takes.same takes.size (step_object (latest w)) 0 (step_data (latest w)) (standing_after w) hi hn (omega (arith, saved-length)) _ _
      takes.count
      (λ j h. takes.later j (omega arith)) w₃ (sym undone-as ∙ e))

  pub undo-refused : step_taken_back w ≡ none → in_order (settings w) (tab (standing_after w) (upd (step_object (latest w)) (step_data (latest w)) (λ j. own_data j w))) (standing_after w) ≡ none
  undo-refused e =
      subst (λ (x : List ℕ). in_order (settings w) (tab (standing_after w) (upd (step_object (latest w)) x (λ j. own_data j w))) (standing_after w) ≡ none) saved-whole
      (settled-refused w _ ready takes.same takes.size (step_object (latest w)) 0 (step_data (latest w)) (standing_after w) hi hn (omega (arith, saved-length))
      (sym undone-as ∙ e))
