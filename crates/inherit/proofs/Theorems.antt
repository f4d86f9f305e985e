-- What demand 2 asks of every result, for any arguments: a list that was computed reads as done, with the count it says, and names no placeholder;
-- on good arguments the only refusal left is 8; and what a parent without inheritable entries gives.
use mathlib.Core.Path.{◌≡◌, refl, sym, ap, subst, ◌∙◌}
use mathlib.Core.Bool.{Bool, true, false, cond}
use mathlib.Core.List.{List, []}
use mathlib.Core.Logic.{◌⊎◌, inl, inr}
use mathlib.Core.Option.{none, some}
use Rattle.std.proofs.Common.{Option, Some, None}
use Prim.Native.Nat.{ℕ, ◌≤◌}
use native.Mathlib.Omega.{arith}
use lib.ListN.{length}
use lib.Dec.{leb}
use borrow.Author.Tests.{leb-true}
use Rattle.list.specs.Identity.{is_sid, placeholder_of}
use Rattle.list.specs.Entry.{access, sid_of}
use Rattle.list.specs.List.{entries_of, render, check_of, read_as, MaybeList}
use Rattle.list.specs.Good.{Whole, Listed, Every}
use Rattle.octets.proofs.Tests.{both_true, true-or}
use Rattle.list.proofs.Told.{reads}
use Rattle.list.proofs.Parts.{Rendered, rendered, length-render}
use Rattle.list.proofs.Revisions.{rev-known}
use Rattle.list.specs.Answer.{Values, done, refused}
use Rattle.inherit.specs.Asked.{Asked, given_in, entries_if, types_ok}
use Rattle.inherit.specs.Copies.{any_heritable, own_entries}
use Rattle.inherit.specs.Last.{last_step}
use Rattle.inherit.specs.Branch.{Result, absent, holds, from_default, branch, result_of}
use Rattle.inherit.specs.Compute.{any_object, rev_for, size_for, fits, with_room, ordinary, rule_ok, compute_of, bytes_for}
use Rattle.inherit.specs.declared.branch.Plan.{Plan}
use Rattle.inherit.specs.Inner.Plan.{planned, result_by}
use Rattle.inherit.specs.Inner.Source.{reads_if}
use Rattle.inherit.proofs.Sources.{wholes-of, readable-good, readable-bad}
use Rattle.inherit.proofs.Refusals.{bad-rule, bad-parent, bad-creator, bad-default, bad-owner, bad-group, bad-types, all-good}
use Rattle.inherit.proofs.Planned.{plan_for, plan-is}
use Rattle.inherit.proofs.Results.{Small, every-small, every-is, rev-whole, planned-four, planned-ordinary}
use Rattle.inherit.proofs.Runs.{one-sid-of}

-- every test but the room's was passed
pub record Passed (a : Asked) : Type 0 where
  pub rule : rule_ok a.rule ≡ true
  pub parent : reads_if a.parent ≡ true
  pub creator : reads_if a.creator ≡ true
  pub default : reads_if a.default ≡ true
  pub owner : ordinary a.owner ≡ true
  pub group : ordinary a.group ≡ true
  pub kinds : types_ok a.types ≡ true

pub passed-room : (a : Asked) (room : ℕ) → Passed a → compute_of a room ≡ with_room room (result_of access a)
passed-room a room h =
    all-good a room h.rule (readable-good a.parent 1 h.parent) (readable-good a.creator 2 h.creator) (readable-good a.default 3 h.default)
    h.owner h.group h.kinds

clash : {o : Values} {j w at : ℕ} → o.present ≡ 1 → refused j w at ≡ o → ⊥
clash p q = let z = ap (λ (v : Values). v.present) q in omega arith

-- a list was computed only where every test was passed
pub passed : (a : Asked) (room : ℕ) → (compute_of a room).present ≡ 1 → Passed a
passed a room h =
    let r : rule_ok a.rule ≡ true = true-or _ (λ x. clash h (bad-rule a room x)) in
    let hp : reads_if a.parent ≡ true = true-or _ (λ x. let f = readable-bad a.parent 1 x in clash h (bad-parent a room r _ f.is)) in
    let p = readable-good a.parent 1 hp in
    let hc : reads_if a.creator ≡ true = true-or _ (λ x. let f = readable-bad a.creator 2 x in clash h (bad-creator a room r p _ f.is)) in
    let c = readable-good a.creator 2 hc in
    let hd : reads_if a.default ≡ true = true-or _ (λ x. let f = readable-bad a.default 3 x in clash h (bad-default a room r p c _ f.is)) in
    let d = readable-good a.default 3 hd in
    let o : ordinary a.owner ≡ true = true-or _ (λ x. clash h (bad-owner a room r p c d x)) in
    let q : ordinary a.group ≡ true = true-or _ (λ x. clash h (bad-group a room r p c d o x)) in
    let t : types_ok a.types ≡ true = true-or _ (λ x. clash h (bad-types a room r p c d o q x)) in
    record { rule = r; parent = hp; creator = hc; default = hd; owner = o; group = q; kinds = t }

-- what an answer with a list says of the result
pub record Told (room : ℕ) (r : Result) (v : Values) : Type 0 where
  pub entries : List (List ℕ)
  pub control : ℕ
  pub is : r ≡ holds entries control
  pub values : v ≡ done (size_for entries) 1 (length entries) control
  pub fitting : size_for entries ≤ room
  pub most : size_for entries ≤ 65532

told-fits : (b : Bool) (room : ℕ) (es : List (List ℕ)) (k : ℕ) → fits room es ≡ b
    → (cond b (done (size_for es) 1 (length es) k) (refused 8 0 0)).present ≡ 1
    → Told room (holds es k) (cond b (done (size_for es) 1 (length es) k) (refused 8 0 0))
told-fits true room es k e h =
    let f = both_true (leb (size_for es) room) (leb (size_for es) 65532) e in
    record {
      entries = es;
      control = k;
      is = refl;
      values = refl;
      fitting = leb-true (size_for es) room f.0;
      most = leb-true (size_for es) 65532 f.1;
    }
told-fits false room es k e h = absurd (omega arith)

told-room : (room : ℕ) (r : Result) → (with_room room r).present ≡ 1 → Told room r (with_room room r)
unfolding with_room
told-room room absent h = absurd (omega arith)
told-room room (holds es k) h = told-fits (fits room es) room es k refl h

pub told-present : (a : Asked) (room : ℕ) → (compute_of a room).present ≡ 1 → Told room (result_of access a) (compute_of a room)
told-present a room h =
    let e = passed-room a room (passed a room h) in
    subst (Told room (result_of access a)) (sym e) (told-room room (result_of access a) (ap (λ (v : Values). v.present) (sym e) ∙ h))

-- its bytes are as many as it says, and there is room for them
pub present-fits : (a : Asked) (room : ℕ) → (compute_of a room).present ≡ 1
    → ((compute_of a room).length ≡ length (bytes_for (result_of access a))) × ((compute_of a room).length ≤ room)
unfolding bytes_for
present-fits a room h =
    let t = told-present a room h in
    let l = ap (λ (v : Values). v.length) t.values in
    let e : length (bytes_for (result_of access a)) ≡ size_for t.entries =
    ap (λ (r : Result). length (bytes_for r)) t.is ∙ length-render (rev_for t.entries) t.entries in
    (l ∙ sym e, omega (arith, l, t.fitting))

by-plan : (q : Option Plan) (xs es : List (List ℕ)) (k : ℕ) → result_by q xs ≡ holds es k → es ≡ xs
unfolding result_by
by-plan None xs es k h = let z : ◌≡◌ {A = ℕ} 0 1 = cc in absurd (omega arith)
by-plan (Some q) xs es k h = cc

-- the entries of a computed list: what the plan gives of whole entries
pub record Made (a : Asked) (room : ℕ) : Type 0 where
  pub passed : Passed a
  pub told : Told room (result_of access a) (compute_of a room)
  pub plan : told.entries ≡ planned (given_in a) (plan_for a) (entries_if a.parent) (entries_if a.creator) (entries_if a.default)
  pub owner : (is_sid a.owner ≡ true) × (placeholder_of a.owner ≡ 0)
  pub group : (is_sid a.group ≡ true) × (placeholder_of a.group ≡ 0)

pub made : (a : Asked) (room : ℕ) → (compute_of a room).present ≡ 1 → Made a room
made a room h =
    let v = passed a room h in
    let t = told-present a room h in
    record {
      passed = v;
      told = t;
      plan =
          by-plan (plan_for a) _ t.entries t.control
          (sym (plan-is a _ _ (wholes-of a.parent v.parent) (wholes-of a.creator v.creator)) ∙ t.is);
      owner = one-sid-of a.owner v.owner;
      group = one-sid-of a.group v.group;
    }

module _ (a : Asked) (room : ℕ) (m : Made a room) where
  abbrev made_es : List (List ℕ)
  made_es = m.told.entries

  -- what holds of all that a plan gives of whole entries holds of them
  made_every : (P : List ℕ → Type 0)
      → ((ps cs ds : List (List ℕ)) (rp rc rd : ℕ) → Every (Whole access rp) ps → Every (Whole access rc) cs → Every (Whole access rd) ds
      → Every P (planned (given_in a) (plan_for a) ps cs ds))
      → Every P made_es
  made_every P f =
      let v = m.passed in
      subst (Every P) (sym m.plan)
      (f _ _ _ _ _ _ (wholes-of a.parent v.parent) (wholes-of a.creator v.creator) (wholes-of a.default v.default))

  made-small : Every Small made_es
  made-small = every-small made_es (omega (arith, m.told.most))

  made-whole : Every (Whole access (rev_for made_es)) made_es
  made-whole =
      rev-whole made_es
      (every-is (Whole access 4) made_es made-small
      (made_every (λ x. Small x → Whole access 4 x) (planned-four (given_in a) m.owner.0 m.group.0 (plan_for a))))

  made_list : Rendered access (rev_for made_es) made_es
  made_list = rendered access (rev_for made_es) made_es (rev-known (any_object made_es)) made-whole (omega (arith, m.told.most))

  -- they are the entries of the result's bytes
  pub made-entries : entries_of (bytes_for (result_of access a)) ≡ made_es
  unfolding bytes_for
  made-entries = ap (λ (r : Result). entries_of (bytes_for r)) m.told.is ∙ made_list.entries

-- what holds of all that the plan gives of whole entries holds of a computed list's entries
pub computed-every : (a : Asked) (room : ℕ) → (h : (compute_of a room).present ≡ 1) (P : List ℕ → Type 0)
    → ((ps cs ds : List (List ℕ)) (rp rc rd : ℕ) → Every (Whole access rp) ps → Every (Whole access rc) cs → Every (Whole access rd) ds
    → Every P (planned (given_in a) (plan_for a) ps cs ds))
    → Every P (entries_of (bytes_for (result_of access a)))
computed-every a room h P f = let m = made a room h in subst (Every P) (sym (made-entries a room m)) (made_every a room m P f)

-- each of them is small
pub computed-small : (a : Asked) (room : ℕ) → (compute_of a room).present ≡ 1 → Every Small (entries_of (bytes_for (result_of access a)))
computed-small a room h = let m = made a room h in subst (Every Small) (sym (made-entries a room m)) (made-small a room m)

-- a computed list: it reads as done, with the length and the count that the answer says, its entries end at its length, and none of them names a placeholder
pub record Computes (bytes : List ℕ) (l n : ℕ) : Type 0 where
  pub listed : Listed access bytes n
  pub done : check_of access bytes ≡ read_as l n l
  pub ordinary-sids : Every (λ e. placeholder_of (sid_of e) ≡ 0) (entries_of bytes)

pub computes : (a : Asked) (room : ℕ) → (compute_of a room).present ≡ 1
    → Computes (bytes_for (result_of access a)) (compute_of a room).length (compute_of a room).count
unfolding bytes_for
computes a room h =
    let m = made a room h in
    let t = m.told in
    let l = made_list a room m in
    let size = ap (λ (x : Values). x.length) t.values in
    let count = ap (λ (x : Values). x.count) t.values in
    let named =
    computed-every a room h (λ x. placeholder_of (sid_of x) ≡ 0)
    (planned-ordinary (given_in a) m.owner.0 m.group.0 m.owner.1 m.group.1 (plan_for a)) in
    let bytes : bytes_for (result_of access a) ≡ render (rev_for t.entries) t.entries = ap bytes_for t.is in
    record {
      listed = rw (bytes, count) l.listed;
      done = rw (bytes, size, count) l.done;
      ordinary-sids = named;
    }

-- good arguments, that is a known rule, lists that read as done where they are present, ordinary identities and object types that are GUIDs: 8 is left
pub only-room : (a : Asked) (room : ℕ) → Passed a → ((compute_of a room).number ≡ 0) ⊎ (compute_of a room ≡ refused 8 0 0)
unfolding with_room
only-room a room v = rw (passed-room a room v) (by (result_of access a))
  where
    fitted : (b : Bool) (es : List (List ℕ)) (k : ℕ) → let x = cond b (done (size_for es) 1 (length es) k) (refused 8 0 0) in (x.number ≡ 0) ⊎ (x ≡ refused 8 0 0)
    fitted true es k = inl refl
    fitted false es k = inr refl

    by : (r : Result) → ((with_room room r).number ≡ 0) ⊎ (with_room room r ≡ refused 8 0 0)
    by absent = inl refl
    by (holds es k) = fitted (fits room es) es k

-- a list of good entries passes its test
pub listed-source : (s : List ℕ) (n : ℕ) → Listed access s n → reads_if (some s) ≡ true
unfolding reads_if
listed-source s n r = rw (reads access s n r)

pub absent-source : reads_if none ≡ true
unfolding reads_if
absent-source = refl

-- a parent without inheritable entries, an empty one or an absent one among them, gives the default list, or the creator's own entries
pub not-heritable : (a : Asked) → any_heritable (entries_if a.parent) ≡ false → a.creator ≡ none → result_of access a ≡ from_default (given_in a) a.default
unfolding result_of branch
not-heritable a h c = rw (h, c)

pub not-heritable-own : (a : Asked) (c : List ℕ) → any_heritable (entries_if a.parent) ≡ false → a.creator ≡ some c
    → result_of access a ≡ holds (last_step (given_in a) false (own_entries (entries_if (some c)))) 0
unfolding result_of branch
not-heritable-own a c h e = rw (h, e)

pub no-entries : (p : MaybeList) → entries_if p ≡ [] → any_heritable (entries_if p) ≡ false
unfolding any_heritable
no-entries p e = rw e
