-- An entry that the rules say is copied: it is whole, and its copy stands among the entries that the plan gives.
use mathlib.Core.Path.{◌≡◌, refl, sym, ap}
use mathlib.Core.Bool.{Bool, true, false, not, cond, ◌&&◌, and-false, or-true}
use mathlib.Core.List.{List, [], ◌∷◌, ◌++◌, append_assoc}
use mathlib.Core.Logic.{◌⊎◌, inl, inr}
use mathlib.Core.Option.{none, some}
use Rattle.std.proofs.Common.{Option, Some}
use Prim.Native.Nat.{ℕ}
use native.Mathlib.Omega.{arith}
use lib.ListN.{length, set, length-append}
use Rattle.octets.specs.Bytes.{has}
use Rattle.list.specs.List.{MaybeList}
use Rattle.list.specs.Entry.{access, flags_of}
use Rattle.list.specs.Good.{Whole, Every}
use Rattle.octets.proofs.Bits.{has-common}
use Rattle.octets.proofs.Tests.{both_true}
use Rattle.list.proofs.Revisions.{whole_four}
use Rattle.inherit.specs.declared.branch.Plan.{Plan}
use Rattle.inherit.specs.declared.copies.Pass.{Pass}
use Rattle.inherit.specs.declared.copies.Pass.TheVariants.{First, Second, Own, All}
use Rattle.inherit.specs.Asked.{Asked, Given, given_in, entries_if}
use Rattle.inherit.specs.Copies.{heritable, any_heritable, type_applies, kept_flags, takes_first}
use Rattle.inherit.specs.Branch.{takes_p}
use Rattle.inherit.specs.Last.{resolved}
use Rattle.inherit.specs.Said.{Stands, Copied}
use Rattle.inherit.specs.Inner.Source.{given}
use Rattle.inherit.specs.Inner.Emit.{takes_by, flags_by, emit_of, emit_all}
use Rattle.inherit.specs.Inner.Plan.{parent_only, merged_of, own_only, planned}
use Rattle.inherit.proofs.Planned.{plan_for}

-- an entry that stands among some stands among more: with others after them, or before them
module _ (e : List ℕ) (xs ys : List (List ℕ)) where
  pub stands-before : Stands e xs → Stands e (xs ++ ys)
  stands-before s = record { before = s.before; after = s.after ++ ys; is = rw s.is (append_assoc s.before (e ∷ s.after) ys) }

  pub stands_after : Stands e ys → Stands e (xs ++ ys)
  stands_after s = record { before = xs ++ s.before; after = s.after; is = rw s.is (sym (append_assoc xs s.before (e ∷ s.after))) }

-- what each of several entries has, one that stands among them has
pub stands-every : (P : List ℕ → Type 0) (e : List ℕ) (es : List (List ℕ)) → Every P es → Stands e es → P e
stands-every P e es a s = by s.before (rw s.is at a)
  where
    by : (xs : List (List ℕ)) → Every P (xs ++ (e ∷ s.after)) → P e
    by [] b = b.0
    by (x ∷ xs) b = by xs b.1

-- one that is inheritable makes them have an inheritable one
stands-heritable : (e : List ℕ) (es : List (List ℕ)) → heritable e ≡ true → Stands e es → any_heritable es ≡ true
unfolding any_heritable
stands-heritable e es h s = rw s.is (by s.before)
  where
    by : (xs : List (List ℕ)) → any_heritable (xs ++ (e ∷ s.after)) ≡ true
    by [] = rw h
    by (x ∷ xs) = rw (by xs) (or-true (heritable x))

-- a list in which one stands is present
stands-given : (e : List ℕ) (o : MaybeList) → Stands e (entries_if o) → given o ≡ true
unfolding entries_if
stands-given e none s = absurd (omega (arith, simp length-append at (ap length s.is)))
stands-given e (some b) s = refl

-- one that a pass takes stands, copied, among what the pass gives
stands-emitted : (g : Given) (p : Pass) (e : List ℕ) (es : List (List ℕ)) → takes_by g p e ≡ true → Stands e es
    → Stands (resolved g (set e 1 (flags_by p (flags_of e)))) (emit_all g p es)
unfolding emit_all emit_of
stands-emitted g p e es h s = rw s.is (by s.before)
  where
    by : (xs : List (List ℕ)) → Stands (resolved g (set e 1 (flags_by p (flags_of e)))) (emit_all g p (xs ++ (e ∷ s.after)))
    by [] = rw h (record { before = []; after = emit_all g p s.after; is = refl })
    by (x ∷ xs) = stands_after _ (emit_of g p x) (emit_all g p (xs ++ (e ∷ s.after))) (by xs)

-- a plan of the parent's, the creator's and the default list's entries
module _ (g : Given) (q : Plan) (ps cs ds : List (List ℕ)) where
  -- the entries that a pass goes over, and what it gives of them
  abbrev over : Pass → List (List ℕ)
  over First = cond q.parent ps []
  over Second = cond q.parent ps []
  over Own = cond q.own cs []
  over All = cond q.default ds []

  abbrev part : Pass → List (List ℕ)
  part p = emit_all g p (over p)

  -- what a pass gives, the plan gives
  stands-planned : (p : Pass) (e : List ℕ) → Stands e (part p) → Stands e (planned g (Some q) ps cs ds)
  unfolding planned
  stands-planned Own e s = stands-before e (part Own) _ s
  stands-planned First e s = stands_after e (part Own) _ (stands-before e (part First) _ s)
  stands-planned Second e s = stands_after e (part Own) _ (stands_after e (part First) _ (stands-before e (part Second) _ s))
  stands-planned All e s = stands_after e (part Own) _ (stands_after e (part First) _ (stands_after e (part Second) _ s))

  -- so an entry that a pass goes over and takes stands, copied, among what the plan gives
  in-plan : (p : Pass) (e : List ℕ) (flags : ℕ) → flags ≡ flags_by p (flags_of e) → takes_by g p e ≡ true → Stands e (over p)
      → Stands (resolved g (set e 1 flags)) (planned g (Some q) ps cs ds)
  in-plan p e flags f h s = rw f (stands-planned p _ (stands-emitted g p e (over p) h s))

-- an entry that the first part takes is inheritable
first-heritable : (g : Given) (e : List ℕ) → takes_first g e ≡ true → heritable e ≡ true
unfolding takes_first
first-heritable g e h = by g.container (both_true (has (cond g.container 0x02 0x01) (flags_of e)) (type_applies g e) h).0
  where
    by : (c : Bool) → has (cond c 0x02 0x01) (flags_of e) ≡ true → heritable e ≡ true
    by true b = has-common 1 (flags_of e) 0x03 b refl
    by false b = has-common 0 (flags_of e) 0x03 b refl

-- of two plans that take a list, either takes it
either-takes : (takes : Plan → Bool) (b : Bool) (x y : Plan) → takes x ≡ true → takes y ≡ true → takes (cond b x y) ≡ true
either-takes takes true x y h k = h
either-takes takes false x y h k = k

-- there is a plan, and it takes a list
pub record Takes (takes : Plan → Bool) (o : Option Plan) : Type 0 where
  pub plan : Plan
  pub is : o ≡ Some plan
  pub takes-it : takes plan ≡ true

-- the plan takes the parent's entries, the creator's, the default list's
module _ (a : Asked) where
  takes-parent : any_heritable (entries_if a.parent) ≡ true → (a.creator ≡ none) ⊎ ((a.default-descriptor ≡ true) ⊎ (takes_p a ≡ true))
      → Takes (λ q. q.parent) (plan_for a)
  takes-parent h (inl n) = rw (h, n) (record { plan = _; is = refl; takes-it = refl })
  takes-parent h (inr (inl d)) = rw (h, d, and-false (given a.creator)) (record { plan = _; is = refl; takes-it = refl })
  takes-parent h (inr (inr t)) =
      rw h
      (record { plan = _; is = refl; takes-it = either-takes (λ q. q.parent) (given a.creator && not a.default-descriptor) _ parent_only t refl })

  takes-own : a.rule ≡ 2 → given a.creator ≡ true → (any_heritable (entries_if a.parent) ≡ false) ⊎ (a.default-descriptor ≡ false)
      → Takes (λ q. q.own) (plan_for a)
  takes-own r c (inl n) = rw (n, c) (record { plan = _; is = refl; takes-it = refl })
  takes-own r c (inr d) = rw (r, c, d) (by (any_heritable (entries_if a.parent)))
    where
      by : (h : Bool) → Takes (λ q. q.own) (cond h (Some (merged_of true a.auto-inherit a.protected)) (Some own_only))
      by true = record { plan = _; is = refl; takes-it = refl }
      by false = record { plan = _; is = refl; takes-it = refl }

  takes-default : any_heritable (entries_if a.parent) ≡ false → a.creator ≡ none → given a.default ≡ true → Takes (λ q. q.default) (plan_for a)
  takes-default n c d = rw (n, c, d) (record { plan = _; is = refl; takes-it = refl })

-- an entry of a list that was given stands, copied, among the entries that the plan gives
pub planned-stands : (a : Asked) → a.rule ≡ 2 → (e : List ℕ) (flags : ℕ) → Copied a e flags
    → Stands (resolved (given_in a) (set e 1 flags)) (planned (given_in a) (plan_for a) (entries_if a.parent) (entries_if a.creator) (entries_if a.default))
unfolding takes_by flags_by kept_flags
planned-stands a r e flags (inl i) =
    let h = stands-heritable e _ (first-heritable (given_in a) e i.takes) i.stands in
    let t = takes-parent a h i.taken in
    rw t.is (in-plan (given_in a) t.plan _ _ _ First e flags i.flags-are i.takes (rw t.takes-it i.stands))
planned-stands a r e flags (inr (inl o)) =
    let h = stands-given e a.creator o.stands in
    let t = takes-own a r h o.taken in
    rw t.is (in-plan (given_in a) t.plan _ _ _ Own e flags o.flags-are o.takes (rw t.takes-it o.stands))
planned-stands a r e flags (inr (inr d)) =
    let h = stands-given e a.default d.stands in
    let t = takes-default a d.nothing d.alone h in
    rw t.is (in-plan (given_in a) t.plan _ _ _ All e flags d.flags-are refl (rw t.takes-it d.stands))

-- and it is whole
pub copied-whole : (a : Asked) (rp rc rd : ℕ) → Every (Whole access rp) (entries_if a.parent) → Every (Whole access rc) (entries_if a.creator)
    → Every (Whole access rd) (entries_if a.default) → (e : List ℕ) (flags : ℕ) → Copied a e flags → Whole access 4 e
copied-whole a rp rc rd wp wc wd e flags (inl i) = whole_four access rp e (stands-every _ e _ wp i.stands)
copied-whole a rp rc rd wp wc wd e flags (inr (inl o)) = whole_four access rc e (stands-every _ e _ wc o.stands)
copied-whole a rp rc rd wp wc wd e flags (inr (inr d)) = whole_four access rd e (stands-every _ e _ wd d.stands)
