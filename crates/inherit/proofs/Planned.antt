-- The plan gives the table's result: the last step over each part is a pass, and each branch has its passes.
use mathlib.Core.Path.{◌≡◌, refl, sym, ap, ap₂, ◌∙◌}
use mathlib.Core.Bool.{Bool, true, false, not, cond, ◌&&◌}
use mathlib.Core.List.{List, [], ◌∷◌, ◌++◌, append_assoc, append-nil}
use mathlib.Core.Option.{none, some}
use Rattle.std.proofs.Common.{Option, Some}
use Prim.Native.Nat.{ℕ, ◌≤◌, ◌<◌}
use native.Mathlib.Omega.{arith}
use lib.ListN.{length, set}
use lib.Seq.{set-get_or}
use lib.Dec.{eqb}
use lib.Bits.{bit_or}
use Rattle.octets.specs.Bytes.{has}
use Rattle.list.specs.List.{MaybeList, lent}
use Rattle.list.specs.Entry.{access, flags_of}
use Rattle.list.specs.Good.{Whole, Every}
use Rattle.list.proofs.Remade.{set-flags}
use Rattle.list.proofs.Revisions.{flags-le, every-to}
use Rattle.inherit.specs.declared.Settings.{Settings}
use Rattle.inherit.specs.declared.Mapping.{Mapping}
use Rattle.inherit.specs.declared.branch.Plan.{Plan}
use Rattle.inherit.specs.declared.copies.Pass.{Pass}
use Rattle.inherit.specs.declared.copies.Pass.TheVariants.{First, Second, Own, All}
use Rattle.inherit.specs.Inner.Source.{given}
use Rattle.inherit.specs.Asked.{Asked, Given, given_in, entries_if}
use Rattle.inherit.specs.Copies.{any_heritable, pass, kept_flags, takes_first, takes_second, first_part, second_part, from_parent, own_entries, from_creator}
use Rattle.inherit.specs.Last.{resolved, passes_filter, last_of, last_step}
use Rattle.inherit.specs.Branch.{Result, holds, inherited_bit, with_creator, from_default, branch, result_of}
use Rattle.inherit.specs.Compute.{asked_by}
use Rattle.inherit.specs.Inner.Emit.{takes_by, flags_by, emit_of, emit_all}
use Rattle.inherit.specs.Inner.Plan.{parent_only, merged_of, own_only, default_only, plan_of, planned, result_by}
use Rattle.inherit.proofs.Flags.{has-inherited, first-has, only-not}

-- the last step over entries end to end
pub last-append : (g : Given) (o : Bool) (xs ys : List (List ℕ)) → last_step g o (xs ++ ys) ≡ last_step g o xs ++ last_step g o ys
unfolding last_step
last-append g o [] ys = refl
last-append g o (x ∷ xs) ys = rw (last-append g o xs ys) (sym (append_assoc (last_of g o x) (last_step g o xs) (last_step g o ys)))

-- one entry more: kept by the filter, or dropped
last-kept : (g : Given) (o b : Bool) (x : List ℕ) (xs ys : List (List ℕ)) → passes_filter o x ≡ true → last_step g o xs ≡ ys
    → last_step g o (cond b (x ∷ xs) xs) ≡ cond b (resolved g x ∷ []) [] ++ ys
unfolding last_step last_of
last-kept g o true x xs ys h e = rw (h, e)
last-kept g o false x xs ys h e = e

last-dropped : (g : Given) (o b : Bool) (x : List ℕ) (xs : List (List ℕ)) → passes_filter o x ≡ false → last_step g o xs ≡ []
    → last_step g o (cond b (x ∷ xs) xs) ≡ []
unfolding last_step last_of
last-dropped g o true x xs h e = rw (h, e)
last-dropped g o false x xs h e = e

-- a part whose entries the filter keeps, or drops
module _ (g : Given) (o : Bool) (P : List ℕ → Type 0) where
  part-kept : (p : Pass) → ((e : List ℕ) → P e → passes_filter o (set e 1 (flags_by p (flags_of e))) ≡ true)
      → (es : List (List ℕ)) → Every P es → last_step g o (pass (takes_by g p) (flags_by p) es) ≡ emit_all g p es
  unfolding last_step pass emit_of emit_all
  part-kept p k [] a = refl
  part-kept p k (e ∷ es) a =
      last-kept g o (takes_by g p e) (set e 1 (flags_by p (flags_of e))) (pass (takes_by g p) (flags_by p) es) (emit_all g p es)
      (k e a.0) (part-kept p k es a.1)

  part-dropped : (takes : List ℕ → Bool) (flags : ℕ → ℕ) → ((e : List ℕ) → P e → passes_filter o (set e 1 (flags (flags_of e))) ≡ false)
      → (es : List (List ℕ)) → Every P es → last_step g o (pass takes flags es) ≡ []
  unfolding last_step pass
  part-dropped takes flags k [] a = refl
  part-dropped takes flags k (e ∷ es) a =
      last-dropped g o (takes e) (set e 1 (flags (flags_of e))) (pass takes flags es) (k e a.0) (part-dropped takes flags k es a.1)

-- all of a list
pub all-is : (g : Given) (es : List (List ℕ)) → last_step g false es ≡ emit_all g All es
unfolding last_step last_of emit_of emit_all takes_by flags_by
all-is g [] = refl
all-is g (e ∷ es) = rw (set-get_or e 1 0, all-is g es)

-- what is asked of an entry: two bytes are there, and its flags are known
record Known (e : List ℕ) : Type 0 where
  two : 1 < length e
  flags : flags_of e ≤ 31

known : (rev : ℕ) (e : List ℕ) → Whole access rev e → Known e
known rev e w = record { two = omega (arith, w.sound.four); flags = flags-le (flags_of e) w.sound.flags }

-- the parent's parts have ID, so that either filter keeps them
module _ (g : Given) (es : List (List ℕ)) (a : Every Known es) where
  first-is : (o : Bool) → last_step g o (first_part access g 0x10 es) ≡ emit_all g First es
  unfolding first_part takes_by flags_by
  first-is true = part-kept g true Known First (λ e k. rw (set-flags e (flags_by First (flags_of e)) k.two) (first-has (flags_of e))) es a
  first-is false = part-kept g false Known First (λ e k. refl) es a

  second_is : (o : Bool) → last_step g o (second_part g 0x04 0x18 es) ≡ emit_all g Second es
  unfolding second_part takes_by flags_by
  second_is true = part-kept g true Known Second (λ e k. rw (set-flags e (bit_or (flags_of e) 0x18) k.two) (has-inherited (flags_of e) k.flags)) es a
  second_is false = part-kept g false Known Second (λ e k. refl) es a

  parent_is : (o : Bool) → last_step g o (from_parent access g es) ≡ emit_all g First es ++ emit_all g Second es
  unfolding from_parent
  parent_is o =
      last-append g o (first_part access g 0x10 es) (second_part g 0x04 0x18 es)
      ∙ ap₂ (λ (x y : List (List ℕ)). x ++ y) (first-is o) (second_is o)

  own_is : last_step g false (own_entries es) ≡ emit_all g Own es
  unfolding own_entries takes_by flags_by
  own_is = part-kept g false Known Own (λ e k. refl) es a

-- an own entry has no ID
record Mine (e : List ℕ) : Type 0 where
  known : Known e
  fresh : has 0x10 (flags_of e) ≡ false

mine : (es : List (List ℕ)) → Every Known es → Every Mine (own_entries es)
unfolding own_entries pass
mine [] a = tt
mine (e ∷ es) a = rw (set-get_or e 1 0) (by (has 0x10 (flags_of e)) refl (mine es a.1))
  where
    by : (b : Bool) → has 0x10 (flags_of e) ≡ b → Every Mine (own_entries es) → Every Mine (cond (not b) (e ∷ own_entries es) (own_entries es))
    by true q m = m
    by false q m = (record { known = a.0; fresh = q }, m)

-- nor has a copy of one, so that the filter drops them
module _ (g : Given) (es : List (List ℕ)) (a : Every Mine es) where
  first-none : last_step g true (first_part access g 0x00 es) ≡ []
  unfolding first_part kept_flags
  first-none = part-dropped g true Mine (takes_first g) _ (λ e m. rw (set-flags e 0 m.known.two)) es a

  second_none : last_step g true (second_part g 0x00 0x08 es) ≡ []
  unfolding second_part
  second_none =
      part-dropped g true Mine (takes_second g 0x00) _
      (λ e m. rw (set-flags e (bit_or (flags_of e) 0x08) m.known.two) (only-not (flags_of e) m.known.flags m.fresh)) es a

creator-none : (g : Given) (es : List (List ℕ)) → Every Known es → last_step g true (from_creator access g es) ≡ []
unfolding from_creator
creator-none g es a =
    last-append g true (first_part access g 0x00 (own_entries es)) (second_part g 0x00 0x08 (own_entries es))
    ∙ ap₂ (λ (x y : List (List ℕ)). x ++ y) (first-none g (own_entries es) (mine es a)) (second_none g (own_entries es) (mine es a))

-- what a plan gives of the parent's, the creator's and the default list's entries
abbrev by_plan : Given → List (List ℕ) → List (List ℕ) → List (List ℕ) → Option Plan → Result
by_plan g ps cs ds p = result_by p (planned g p ps cs ds)

-- the plan that merges, with its test for P already taken
abbrev merging : Bool → Bool → Plan
merging own parent = record { own = own; parent = parent; default = false; control = cond parent (inherited_bit access) 0 }

-- the branches, one by one
module _ (g : Given) (ps cs ds : List (List ℕ)) (kp : Every Known ps) (kc : Every Known cs) where
  parent-only : holds (last_step g true (from_parent access g ps)) 0 ≡ by_plan g ps cs ds (Some parent_only)
  unfolding planned result_by emit_all
  parent-only = rw append-nil (ap (λ (es : List (List ℕ)). holds es 0) (parent_is g ps kp true))

  own-only : holds (last_step g false (own_entries cs)) 0 ≡ by_plan g ps cs ds (Some own_only)
  unfolding planned result_by emit_all
  own-only = rw (own_is g cs kc, append-nil (emit_all g Own cs))

  -- P, for either filter
  part-is : (o t : Bool) → last_step g o (cond t (from_parent access g ps) []) ≡ emit_all g First (cond t ps []) ++ (emit_all g Second (cond t ps []) ++ [])
  unfolding last_step emit_all
  part-is o true = rw append-nil (parent_is g ps kp o)
  part-is o false = refl

  dropping-is : (t : Bool)
      → holds (last_step g true (from_creator access g cs ++ cond t (from_parent access g ps) [])) (cond t (inherited_bit access) 0)
      ≡ by_plan g ps cs ds (Some (merging false t))
  unfolding planned result_by emit_all
  dropping-is t = rw (last-append, creator-none g cs kc, part-is true t)

  keeping-is : (t : Bool)
      → holds (last_step g false (own_entries cs ++ cond t (from_parent access g ps) [])) (cond t (inherited_bit access) 0)
      ≡ by_plan g ps cs ds (Some (merging true t))
  unfolding planned result_by emit_all
  keeping-is t = rw (last-append, own_is g cs kc, part-is false t)

  with-is : (a : Asked) → g ≡ given_in a → with_creator access a ps cs
      ≡ by_plan g ps cs ds (Some (cond (not a.default-descriptor) (merged_of (not (eqb a.rule 1)) a.auto-inherit a.protected) parent_only))
  unfolding with_creator
  with-is a e = rw (← e) (by a.default-descriptor (eqb a.rule 1) (a.auto-inherit && not a.protected))
    where
      by : (d r t : Bool) → cond d (holds (last_step g true (from_parent access g ps)) 0)
          (cond r
          (holds (last_step g true (from_creator access g cs ++ cond t (from_parent access g ps) [])) (cond t (inherited_bit access) 0))
          (holds (last_step g false (own_entries cs ++ cond t (from_parent access g ps) [])) (cond t (inherited_bit access) 0)))
          ≡ by_plan g ps cs ds (Some (cond (not d) (merging (not r) t) parent_only))
      by true r t = parent-only
      by false true t = dropping-is t
      by false false t = keeping-is t

-- the plan, with the lists lent or not
abbrev plan_with : Asked → Bool → Bool → Bool → Option Plan
plan_with a heritable creator default =
    cond heritable
    (Some (cond (creator && not a.default-descriptor) (merged_of (not (eqb a.rule 1)) a.auto-inherit a.protected) parent_only))
    (cond creator (Some own_only) (default_only default))

branch-is : (a : Asked) (ps : List (List ℕ)) (h : Bool) (c d : MaybeList) → a.default ≡ d → Every Known ps → Every Known (entries_if c)
    → branch access a h ps c ≡ by_plan (given_in a) ps (entries_if c) (entries_if d) (plan_with a h (given c) (given d))
unfolding branch from_default planned result_by emit_all
branch-is a ps true (some c) d e kp kc = with-is (given_in a) ps (entries_if (some c)) (entries_if d) kp kc a refl
branch-is a ps true none d e kp kc = parent-only (given_in a) ps (entries_if none) (entries_if d) kp kc
branch-is a ps false (some c) d e kp kc = own-only (given_in a) ps (entries_if (some c)) (entries_if d) kp kc
branch-is a ps false none (some d) e kp kc =
    ap (from_default (given_in a)) e ∙ ap (λ (es : List (List ℕ)). holds es 0) (all-is (given_in a) (entries_if (some d)))
branch-is a ps false none none e kp kc = ap (from_default (given_in a)) e

-- the plan for what is asked; its passes give the table's result
abbrev pub plan_for : Asked → Option Plan
plan_for a = plan_with a (any_heritable (entries_if a.parent)) (given a.creator) (given a.default)

pub plan-is : (a : Asked) (rp rc : ℕ) → Every (Whole access rp) (entries_if a.parent) → Every (Whole access rc) (entries_if a.creator)
    → result_of access a
    ≡ result_by (plan_for a) (planned (given_in a) (plan_for a) (entries_if a.parent) (entries_if a.creator) (entries_if a.default))
unfolding result_of
plan-is a rp rc wp wc =
    let ps = entries_if a.parent in
    let cs = entries_if a.creator in
    branch-is a ps (any_heritable ps) a.creator a.default refl (every-to _ Known (known rp) ps wp) (every-to _ Known (known rc) cs wc)

-- a list that is lent is given, another one isn't
pub given-lent : (b : Bool) (s : List ℕ) → given (lent b s) ≡ b
given-lent true s = refl
given-lent false s = refl

-- the plan that the code makes
pub plan-made : (rule : ℕ) (s : Settings) (m : Mapping) (P C D : MaybeList) (types owner group : List ℕ)
    → plan_of rule s (any_heritable (entries_if P)) (given C) (given D) ≡ plan_for (asked_by rule s m P C D types owner group)
unfolding plan_of
plan-made rule s m P C D types owner group = refl
