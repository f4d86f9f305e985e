-- No condition is made up and none is lost on the way: each entry of a computed list has the type and the expression of an entry that was given.
use mathlib.Core.Path.{◌≡◌, refl, sym, subst, ◌∙◌}
use mathlib.Core.Bool.{true}
use mathlib.Core.List.{List, [], ◌∷◌, ◌++◌, append_assoc}
use Prim.Native.Nat.{ℕ}
use Rattle.list.specs.Identity.{is_sid}
use Rattle.list.specs.Entry.{access, kind_of, tail_of}
use Rattle.list.specs.List.{entries_of, MaybeList}
use Rattle.list.specs.Good.{Whole, Every}
use Rattle.list.proofs.Revisions.{every-to}
use Rattle.inherit.specs.declared.copies.Pass.{Pass}
use Rattle.inherit.specs.Asked.{Asked, Given, given_in, entries_if}
use Rattle.inherit.specs.Branch.{result_of}
use Rattle.inherit.specs.Compute.{compute_of, bytes_for}
use Rattle.inherit.specs.Said.{Stands, Kept, given_entries}
use Rattle.inherit.specs.Inner.Emit.{emit_of}
use Rattle.inherit.specs.Inner.Source.{reads_if}
use Rattle.inherit.proofs.Planned.{plan_for}
use Rattle.inherit.proofs.Sources.{wholes-of}
use Rattle.inherit.proofs.Results.{Small, every-is, emit-kept, every-planned-by}
use Rattle.inherit.proofs.Copied.{stands-before, stands_after}
use Rattle.inherit.proofs.Theorems.{made, made-entries, computed-small}

-- what each has, and what each has besides
every-both : (P Q : List ℕ → Type 0) (es : List (List ℕ)) → Every P es → Every Q es → Every (λ e. P e × Q e) es
every-both P Q [] a b = tt
every-both P Q (e ∷ es) a b = ((a.0, b.0), every-both P Q es a.1 b.1)

-- each of some entries stands among them
each-behind : (before es : List (List ℕ)) → Every (λ e. Stands e (before ++ es)) es
each-behind before [] = tt
each-behind before (e ∷ es) = (
  record { before = before; after = es; is = refl },
  subst (λ (all : List (List ℕ)). Every (λ x. Stands x all) es) (append_assoc before (e ∷ []) es) (each-behind (before ++ (e ∷ [])) es),
)

module _ (all : List (List ℕ)) where
  -- an entry of a list that was given: it is whole, and stands among all of them
  abbrev Noted : ℕ → List ℕ → Type 0
  Noted rev e = Whole access rev e × Stands e all

  noted : (o : MaybeList) → reads_if o ≡ true → ((e : List ℕ) → Stands e (entries_if o) → Stands e all) → Every (Noted 4) (entries_if o)
  noted o h f = every-both (Whole access 4) (λ e. Stands e all) (entries_if o) (wholes-of o h) (every-to (λ e. Stands e (entries_if o)) (λ e. Stands e all) f (entries_if o) (each-behind [] (entries_if o)))

  -- what it gives in a pass has its type and expression
  noted-kept : (g : Given) → is_sid g.owner ≡ true → is_sid g.group ≡ true → (rev : ℕ) (p : Pass) (e : List ℕ) → Noted rev e → Every (λ x. Small x → Kept all x) (emit_of g p e)
  noted-kept g o r rev p e n =
      every-to (λ x. Small x → (kind_of x ≡ kind_of e) × (tail_of x ≡ tail_of e)) (λ x. Small x → Kept all x)
      (λ x k small. record { entry = e; stands = n.1; kind = (k small).0; tail = (k small).1 })
      (emit_of g p e) (emit-kept g o r p rev e n.0)

-- each entry of a computed list has the type and, byte for byte, the expression of an entry of the lists that were given, under either rule
pub conditions-kept : (a : Asked) (room : ℕ) → (compute_of a room).present ≡ 1 → Every (Kept (given_entries a)) (entries_of (bytes_for (result_of access a)))
conditions-kept a room h =
    let m = made a room h in
    let v = m.passed in
    let all = given_entries a in
    let g = given_in a in
    let ps = entries_if a.parent in
    let cs = entries_if a.creator in
    let ds = entries_if a.default in
    let gives = noted-kept all g m.owner.0 m.group.0 in
    every-is (Kept all) (entries_of (bytes_for (result_of access a))) (computed-small a room h)
    (subst (Every (λ x. Small x → Kept all x)) (sym (made-entries a room m ∙ m.plan))
    (every-planned-by g (λ x. Small x → Kept all x) _ _ _ (gives _) (gives _) (gives _) (plan_for a) ps cs ds
    (noted all a.parent v.parent (λ e s. stands-before e ps (cs ++ ds) s))
    (noted all a.creator v.creator (λ e s. stands_after e ps (cs ++ ds) (stands-before e cs ds s)))
    (noted all a.default v.default (λ e s. stands_after e ps (cs ++ ds) (stands_after e cs ds s)))))
