-- What holds of every answer: with more SIDs held, with other spare bytes, and of placeholders where no entry names one.
use mathlib.Core.Path.{◌≡◌, refl, sym, ap, ap₂, ◌∙◌}
use mathlib.Core.Bool.{Bool, true, false, cond}
use mathlib.Core.List.{List, [], ◌∷◌, flatten}
use mathlib.Core.Option.{none, some}
use Prim.Native.Nat.{ℕ, ◌≤◌}
use native.Mathlib.Omega.{arith}
use lib.ListN.{length}
use lib.Dec.{eqb}
use Rattle.octets.specs.Bytes.{has, among}
use Rattle.list.specs.Identity.{is_sid, placeholder_of}
use Rattle.list.specs.Entry.{access, kind_of, sid_of}
use Rattle.list.specs.List.{MaybeList, entries_of, check_of}
use Rattle.list.specs.Good.{Every}
use Rattle.list.specs.Spare.{bare, Sized}
use Rattle.list.specs.declared.readings.Read.{Read}
use Rattle.refusal.specs.declared.Fault.{Fault}
use Rattle.list.proofs.Spare.{bare_reading, bare-reads, bare-entries}
use Rattle.access.specs.Held.{held_of, reaches_end}
use Rattle.access.specs.Open.{Question, is_allow, opens_by, opens, may_open_of}
use Rattle.access.specs.Said.{asking, holding, ordinary_of}
use Rattle.access.specs.Inner.Decide.{lent_fault}
use Rattle.refusal.specs.declared.Refusal.{Refusal}
use Rattle.std.specs.Prelude.{Result, Ok, Err}
use Rattle.access.proofs.Holds.{held-sids, held-built, built-whole}
use Rattle.access.proofs.Opens.{told_by, wants-generic, without-list, unread, read, fine-fault}
use Rattle.access.proofs.Theorems.{yes-exactly, more-held, placeholders-unseen}

-- ---- more SIDs held

-- each entry of a list, where there is one
abbrev pub EveryEntry : (List ℕ → Type 0) → MaybeList → Type 0
EveryEntry P none = Unit
EveryEntry P (some s) = Every P (entries_of s)

-- held bytes of which all that was held is a part, and of which only allow entries name what is new: a yes stays a yes
pub answer-more : (q : Question) (h : List ℕ) → reaches_end h ≡ true → length (held_of h) ≤ 32
    → ((x : List ℕ) → among x (held_of q.held) ≡ true → among x (held_of h) ≡ true)
    → EveryEntry (λ e. among (sid_of e) (held_of h) ≡ true → among (sid_of e) (held_of q.held) ≡ false → is_allow (kind_of e) ≡ true) q.list
    → may_open_of q ≡ Ok true → may_open_of (holding q h) ≡ Ok true
unfolding opens
answer-more q h e n more only y =
    let m = (yes-exactly q).0 y in
    (yes-exactly (holding q h)).1 (record { specific = m.specific; reads = m.reads; to_end = e; few = n; made = m.made; opened = still q.list only m.opened })
  where
    still : (list : MaybeList)
        → EveryEntry (λ x. among (sid_of x) (held_of h) ≡ true → among (sid_of x) (held_of q.held) ≡ false → is_allow (kind_of x) ≡ true) list
        → opens q list ≡ true → opens (holding q h) list ≡ true
    still none f o = o
    still (some s) f o = more-held q.type q.table (held_of q.held) (held_of h) q.wanted (entries_of s) more f o

-- ---- spare bytes

-- a generic bit is wanted, or none
on_test {ℓ} : {X : Type ℓ} (b c : Bool) → c ≡ b → (c ≡ true → X) → (c ≡ false → X) → X
on_test true c e f g = f e
on_test false c e f g = g e

by-generic {ℓ} : {X : Type ℓ} (w : ℕ) → (has 0xF0000000 w ≡ true → X) → (has 0xF0000000 w ≡ false → X) → X
by-generic w f g = on_test (has 0xF0000000 w) (has 0xF0000000 w) refl f g

-- a list's spare bytes taken off, with the size that then fits: the answer is the same
pub spare-unopened : (q : Question) (s : List ℕ) → Sized access s → q.list ≡ some s → may_open_of (asking q (some (bare access s))) ≡ may_open_of q
unfolding bare_reading
spare-unopened q s z e =
    by-generic q.wanted (λ g. wants-generic (asking q (some (bare access s))) g ∙ sym (wants-generic q g)) (λ g. by g (check_of access s) refl (bare-reads access s z))
  where
    by : has 0xF0000000 q.wanted ≡ false → (r : Result Read Fault) → check_of access s ≡ r → check_of access (bare access s) ≡ bare_reading (check_of access s)
        → may_open_of (asking q (some (bare access s))) ≡ may_open_of q
    by g (Ok r) c d =
        read (asking q (some (bare access s))) g (bare access s) refl r.end r.count r.end (d ∙ ap bare_reading c)
        ∙ ap (λ (es : List (List ℕ)). told_by (lent_fault q.held q.table) (opens_by q.type q.table (held_of q.held) q.wanted es)) (bare-entries access s z)
        ∙ sym (read q g s e r.length r.count r.end c)
    by g (Err fault) c d = unread (asking q (some (bare access s))) g (bare access s) refl fault (d ∙ ap bare_reading c) ∙ sym (unread q g s e fault c)

-- ---- placeholders

ordinary-sids : (ss : List (List ℕ)) → Every (λ s. is_sid s ≡ true) ss → Every (λ s. is_sid s ≡ true) (ordinary_of ss)
unfolding ordinary_of
ordinary-sids [] a = tt
ordinary-sids (s ∷ ss) a = by (eqb (placeholder_of s) 0) (ordinary-sids ss a.1)
  where
    by : (b : Bool) → Every (λ x. is_sid x ≡ true) (ordinary_of ss) → Every (λ x. is_sid x ≡ true) (cond b (s ∷ ordinary_of ss) (ordinary_of ss))
    by true r = (a.0, r)
    by false r = r

ordinary-few : (ss : List (List ℕ)) → length (ordinary_of ss) ≤ length ss
unfolding ordinary_of
ordinary-few [] = omega arith
ordinary-few (s ∷ ss) = by (eqb (placeholder_of s) 0) (ordinary-few ss)
  where
    by : (b : Bool) → length (ordinary_of ss) ≤ length ss → length (cond b (s ∷ ordinary_of ss) (ordinary_of ss)) ≤ length (s ∷ ss)
    by true r = omega arith
    by false r = omega arith

module _ (q : Question) (fine : reaches_end q.held ≡ true) (few : length (held_of q.held) ≤ 32) where
  abbrev ordinary : List (List ℕ)
  ordinary = ordinary_of (held_of q.held)

  are-sids : Every (λ s. is_sid s ≡ true) ordinary
  unfolding held_of
  are-sids = ordinary-sids (held_of q.held) (held-sids (length q.held) q.held)

  -- the placeholders that are held taken out
  abbrev pub without_them : Question
  without_them = holding q (flatten ordinary)

  no-fault-either : lent_fault (flatten ordinary) q.table ≡ lent_fault q.held q.table
  no-fault-either =
      let h = held-built ordinary are-sids in
      fine-fault (flatten ordinary) q.table (built-whole ordinary are-sids) (omega (arith, ap length h, ordinary-few (held_of q.held)))
      ∙ sym (fine-fault q.held q.table fine few)

  -- where no entry names a placeholder, none that is held decides: without them the answer is the same
  pub ordinary-answer : EveryEntry (λ e. placeholder_of (sid_of e) ≡ 0) q.list → may_open_of without_them ≡ may_open_of q
  ordinary-answer names =
      by-generic q.wanted (λ g. wants-generic without_them g ∙ sym (wants-generic q g)) (λ g. on g q.list refl names)
    where
      on : has 0xF0000000 q.wanted ≡ false → (list : MaybeList) → q.list ≡ list → EveryEntry (λ e. placeholder_of (sid_of e) ≡ 0) list
          → may_open_of without_them ≡ may_open_of q
      on g none e a = without-list without_them g e ∙ ap (λ (f : Result Unit Refusal). told_by f true) no-fault-either ∙ sym (without-list q g e)
      on g (some s) e a = by (check_of access s) refl
        where
          by : (r : Result Read Fault) → check_of access s ≡ r → may_open_of without_them ≡ may_open_of q
          by (Err fault) c = unread without_them g s e fault c ∙ sym (unread q g s e fault c)
          by (Ok r) c =
              read without_them g s e r.length r.count r.end c
              ∙ ap₂ (λ (f : Result Unit Refusal) (ss : List (List ℕ)). told_by f (opens_by q.type q.table ss q.wanted (entries_of s))) no-fault-either (held-built ordinary are-sids)
              ∙ ap (told_by (lent_fault q.held q.table)) (sym (placeholders-unseen q.type q.table (held_of q.held) q.wanted (entries_of s) a))
              ∙ sym (read q g s e r.length r.count r.end c)
