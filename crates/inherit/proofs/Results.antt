-- What a result is: whole entries under the revision that they ask for, and no placeholder among them.
use mathlib.Core.Path.{◌≡◌, refl, ap, ◌∙◌}
use mathlib.Core.Bool.{Bool, true, false, cond, ◌||◌}
use mathlib.Core.List.{List, [], ◌∷◌, ◌++◌, flatten}
use Prim.Native.Nat.{ℕ, ◌^◌, ◌<◌}
use native.Mathlib.Omega.{arith}
use lib.ListN.{length, length-append}
use lib.Dec.{eqb}
use borrow.Author.Tests.{eqb-false}
use Rattle.std.proofs.Common.{Option, Some, None}
use Rattle.list.specs.Identity.{is_sid, placeholder_of}
use Rattle.list.specs.Entry.{access, flags_ok, object_kind, kind_of, flags_of, mask_of, word_of, sid_of, tail_of}
use Rattle.list.specs.Good.{Whole, Every}
use Rattle.list.proofs.Sids.{OneSid, one-sid}
use Rattle.list.proofs.Remade.{remade-kind, remade-flags, remade-mask, remade-word, remade-sid, remade-tail, remade-again, remade-whole}
use Rattle.list.proofs.Revisions.{flags-le, flags-ok, whole_four, whole_plain, one-own, no-placeholder, every_append, every-cond, every-to}
use Rattle.inherit.specs.declared.branch.Plan.{Plan}
use Rattle.inherit.specs.declared.copies.Pass.{Pass}
use Rattle.inherit.specs.declared.copies.Pass.TheVariants.{First, Second, Own, All}
use Rattle.inherit.specs.Asked.{Given}
use Rattle.inherit.specs.Last.{in_place, mends, mended, last_mask, resolved}
use Rattle.inherit.specs.Compute.{any_object, rev_for}
use Rattle.inherit.specs.Said.{Low}
use Rattle.inherit.specs.Inner.Emit.{takes_by, flags_by, copy_of, emit_of, emit_all}
use Rattle.inherit.specs.Inner.Plan.{planned}
use Rattle.inherit.proofs.Flags.{by_le}
use Rattle.inherit.proofs.Masks.{mended-low, last-mended, last-same}
use Rattle.inherit.proofs.Emits.{emit-yes, emit-no}

-- what stands in a SID's place is one SID, and no placeholder
cond-one : (b : Bool) (x y : List ℕ) → OneSid x → OneSid y → OneSid (cond b x y)
cond-one true x y h k = h
cond-one false x y h k = k

in-place-one : (k : ℕ) (sid owner group : List ℕ) → OneSid sid → OneSid owner → OneSid group → OneSid (in_place k sid owner group)
unfolding in_place
in-place-one k sid owner group s o g = cond-one (eqb k 1) owner _ o (cond-one (eqb k 2) group sid g s)

-- what is no placeholder stays
in-place-own : (s owner group : List ℕ) → placeholder_of s ≡ 0 → in_place (placeholder_of s) s owner group ≡ s
unfolding in_place
in-place-own s owner group h = rw h

pub in-place-ordinary : (s owner group : List ℕ) → placeholder_of owner ≡ 0 → placeholder_of group ≡ 0
    → placeholder_of (in_place (placeholder_of s) s owner group) ≡ 0
unfolding in_place
in-place-ordinary s owner group o g = by (eqb (placeholder_of s) 1) (eqb (placeholder_of s) 2) refl refl
  where
    by : (a b : Bool) → eqb (placeholder_of s) 1 ≡ a → eqb (placeholder_of s) 2 ≡ b → placeholder_of (cond a owner (cond b group s)) ≡ 0
    by true b p q = o
    by false true p q = g
    by false false p q = no-placeholder s (eqb-false _ 1 p) (eqb-false _ 2 q)

-- an entry whose size can be said; in a list of at most 65,532 bytes each is
abbrev pub Small : List ℕ → Type 0
Small x = length x < 65536

pub every-small : (es : List (List ℕ)) → length (flatten es) < 65536 → Every Small es
unfolding flatten
every-small [] h = tt
every-small (e ∷ es) h = let l = length-append e (flatten es) in (omega arith, every-small es (omega arith))

-- what holds of small entries holds of entries that are small
pub every-is : (P : List ℕ → Type 0) (es : List (List ℕ)) → Every Small es → Every (λ x. Small x → P x) es → Every P es
every-is P [] a b = tt
every-is P (e ∷ es) a b = (b.0 a.0, every-is P es a.1 b.1)

-- the fields of an entry's copy x, with these flags, under a rule that mends
pub record Copy (g : Given) (e : List ℕ) (flags : ℕ) (x : List ℕ) : Type 0 where
  pub kind : kind_of x ≡ kind_of e
  pub flags-are : flags_of x ≡ flags
  pub word : word_of x ≡ word_of e
  pub tail : tail_of x ≡ tail_of e
  pub sid : sid_of x ≡ in_place (placeholder_of (sid_of e)) (sid_of e) g.owner g.group
  pub mask : mask_of x ≡ mended g.mapping (mask_of e)

-- a whole entry's copy
module _ (g : Given) (o : is_sid g.owner ≡ true) (r : is_sid g.group ≡ true) (rev : ℕ) (e : List ℕ) (w : Whole access rev e) (flags : ℕ)
    (ok : flags_ok access flags ≡ true) where
  abbrev put : List ℕ
  put = in_place (placeholder_of (sid_of e)) (sid_of e) g.owner g.group

  abbrev mask : ℕ
  mask = last_mask g.rule g.mapping (mask_of e)

  one : OneSid put
  one = in-place-one (placeholder_of (sid_of e)) (sid_of e) g.owner g.group (one-own access rev e w.sound) (one-sid g.owner o) (one-sid g.group r)

  copy-whole : Small (copy_of g flags e) → Whole access rev (copy_of g flags e)
  unfolding copy_of
  copy-whole small = remade-whole access rev e w flags mask ok put one small

  copy-kind : kind_of (copy_of g flags e) ≡ kind_of e
  unfolding copy_of
  copy-kind = remade-kind access rev e w flags mask ok put one

  -- what follows the SID is copied as it is
  copy-tail : Small (copy_of g flags e) → tail_of (copy_of g flags e) ≡ tail_of e
  unfolding copy_of
  copy-tail small = remade-tail access rev e w flags mask ok put one small

  copy-flags : flags_of (copy_of g flags e) ≡ flags
  unfolding copy_of
  copy-flags = remade-flags access rev e w flags mask ok put one

  copy-sid : sid_of (copy_of g flags e) ≡ put
  unfolding copy_of
  copy-sid = remade-sid access rev e w flags mask ok put one

  -- under a rule that mends
  module _ (m : mends g.rule ≡ true) where
    mask_low : mask < 2 ^ 28
    mask_low = rw (last-mended g.rule g.mapping (mask_of e) m) (mended-low g.mapping (mask_of e))

    mask_is : mask_of (copy_of g flags e) ≡ mask
    unfolding copy_of
    mask_is = remade-mask access rev e w flags mask ok put one (omega (arith, mask_low))

    pub copy_is : Small (copy_of g flags e) → Copy g e flags (copy_of g flags e)
    unfolding copy_of
    copy_is small =
        record {
          kind = copy-kind;
          flags-are = copy-flags;
          word = remade-word access rev e w flags mask ok put one;
          tail = copy-tail small;
          sid = copy-sid;
          mask = mask_is ∙ last-mended g.rule g.mapping (mask_of e) m;
        }

    copy-low : Low (copy_of g flags e)
    copy-low = rw mask_is mask_low

    -- another last step, under any rule, leaves the copy as it is
    copy-again : placeholder_of g.owner ≡ 0 → placeholder_of g.group ≡ 0 → Small (copy_of g flags e) → (h : Given) → resolved h (copy_of g flags e) ≡ copy_of g flags e
    unfolding resolved copy_of
    copy-again po pr small h =
        let x = copy_of g flags e in
        let s : in_place (placeholder_of (sid_of x)) (sid_of x) h.owner h.group ≡ put =
        in-place-own (sid_of x) h.owner h.group (ap placeholder_of copy-sid ∙ in-place-ordinary (sid_of e) g.owner g.group po pr) ∙ copy-sid in
        let k : last_mask h.rule h.mapping (mask_of x) ≡ mask = last-same h.mapping (mask_of x) copy-low h.rule ∙ mask_is in
        rw (s, k, copy-flags) (remade-again access rev e w flags mask ok put one small)

-- what an entry gives in a pass
module _ (g : Given) (o : is_sid g.owner ≡ true) (r : is_sid g.group ≡ true) (p : Pass) (rev : ℕ) (e : List ℕ) (w : Whole access rev e) where
  two : 1 < length e
  two = omega (arith, w.sound.four)

  known : flags_ok access (flags_by p (flags_of e)) ≡ true
  known = flags-ok _ (by_le p (flags_of e) (flags-le (flags_of e) w.sound.flags))

  -- what holds of the copy holds of what the entry gives
  every_given : (P : List ℕ → Type 0) → P (copy_of g (flags_by p (flags_of e)) e) → Every P (emit_of g p e)
  every_given P h = by (takes_by g p e) refl
    where
      by : (b : Bool) → takes_by g p e ≡ b → Every P (emit_of g p e)
      by true q = rw (emit-yes g p e q two) (h, tt)
      by false q = rw (emit-no g p e q) tt

  -- a whole entry gives whole entries
  pub emit-whole : Every (λ x. Small x → Whole access rev x) (emit_of g p e)
  emit-whole = every_given (λ x. Small x → Whole access rev x) (copy-whole g o r rev e w (flags_by p (flags_of e)) known)

  -- and none that names a placeholder
  pub emit-ordinary : placeholder_of g.owner ≡ 0 → placeholder_of g.group ≡ 0 → Every (λ x. placeholder_of (sid_of x) ≡ 0) (emit_of g p e)
  emit-ordinary po pr =
      every_given _ (rw (copy-sid g o r rev e w (flags_by p (flags_of e)) known) (in-place-ordinary (sid_of e) g.owner g.group po pr))

  -- each has the entry's type, and what follows its SID
  pub emit-kept : Every (λ x. Small x → (kind_of x ≡ kind_of e) × (tail_of x ≡ tail_of e)) (emit_of g p e)
  emit-kept =
      let flags = flags_by p (flags_of e) in
      every_given _ (λ small. (copy-kind g o r rev e w flags known, copy-tail g o r rev e w flags known small))

  -- under a rule that mends, each with a mask below the generic bits
  pub emit-low : mends g.rule ≡ true → Every Low (emit_of g p e)
  emit-low m = every_given _ (copy-low g o r rev e w (flags_by p (flags_of e)) known m)

  -- that no other last step changes
  pub emit-again : mends g.rule ≡ true → placeholder_of g.owner ≡ 0 → placeholder_of g.group ≡ 0
      → Every (λ x. Small x → (h : Given) → resolved h x ≡ x) (emit_of g p e)
  emit-again m po pr = every_given _ (copy-again g o r rev e w (flags_by p (flags_of e)) known m po pr)

-- what each entry gives, a pass gives, and a plan
module _ (g : Given) (P : List ℕ → Type 0) where
  every-emitted : (Q : List ℕ → Type 0) (p : Pass) → ((e : List ℕ) → Q e → Every P (emit_of g p e))
      → (es : List (List ℕ)) → Every Q es → Every P (emit_all g p es)
  unfolding emit_all
  every-emitted Q p f [] a = tt
  every-emitted Q p f (e ∷ es) a = every_append P (emit_of g p e) (emit_all g p es) (f e a.0) (every-emitted Q p f es a.1)

  under : (Q : List ℕ → Type 0) (p : Pass) → ((e : List ℕ) → Q e → Every P (emit_of g p e)) → (b : Bool) (es : List (List ℕ)) → Every Q es → Every P (emit_all g p (cond b es []))
  under Q p f b es a = every-emitted Q p f (cond b es []) (every-cond Q b es a)

  -- of entries of which something is known, by the list that they are of
  module _ (Qp Qc Qd : List ℕ → Type 0) (fp : (p : Pass) (e : List ℕ) → Qp e → Every P (emit_of g p e)) (fc : (p : Pass) (e : List ℕ) → Qc e → Every P (emit_of g p e))
      (fd : (p : Pass) (e : List ℕ) → Qd e → Every P (emit_of g p e)) where
    pub every-planned-by : (q : Option Plan) (ps cs ds : List (List ℕ)) → Every Qp ps → Every Qc cs → Every Qd ds → Every P (planned g q ps cs ds)
    unfolding planned
    every-planned-by None ps cs ds hp hc hd = tt
    every-planned-by (Some q) ps cs ds hp hc hd =
        let mine = emit_all g Own (cond q.own cs []) in
        let first = emit_all g First (cond q.parent ps []) in
        let second = emit_all g Second (cond q.parent ps []) in
        let rest = emit_all g All (cond q.default ds []) in
        every_append P mine (first ++ (second ++ rest)) (under Qc Own (fc Own) q.own cs hc)
        (every_append P first (second ++ rest) (under Qp First (fp First) q.parent ps hp)
        (every_append P second rest (under Qp Second (fp Second) q.parent ps hp) (under Qd All (fd All) q.default ds hd)))

  -- of whole ones
  every-planned : ((p : Pass) (rev : ℕ) (e : List ℕ) → Whole access rev e → Every P (emit_of g p e)) → (q : Option Plan) (ps cs ds : List (List ℕ)) (rp rc rd : ℕ)
      → Every (Whole access rp) ps → Every (Whole access rc) cs → Every (Whole access rd) ds → Every P (planned g q ps cs ds)
  every-planned f q ps cs ds rp rc rd = every-planned-by (Whole access rp) (Whole access rc) (Whole access rd) (λ p. f p rp) (λ p. f p rc) (λ p. f p rd) q ps cs ds

-- entries that are whole under revision 4 are so under the revision that they ask for
or-false : (a b : Bool) → (a || b) ≡ false → (a ≡ false) × (b ≡ false)
or-false true b h = let z : ◌≡◌ {A = ℕ} 0 1 = cc in absurd (omega arith)
or-false false b h = (refl, h)

plain-all : (r : ℕ) (es : List (List ℕ)) → any_object es ≡ false → Every (Whole access 4) es → Every (Whole access r) es
unfolding any_object
plain-all r [] h a = tt
plain-all r (e ∷ es) h a =
    let n = or-false (object_kind (kind_of e)) (any_object es) h in
    (whole_plain access 4 r e a.0 n.0, plain-all r es n.1 a.1)

pub rev-whole : (es : List (List ℕ)) → Every (Whole access 4) es → Every (Whole access (rev_for es)) es
rev-whole es a = by (any_object es) refl
  where
    by : (b : Bool) → any_object es ≡ b → Every (Whole access (cond b 4 2)) es
    by true q = a
    by false q = plain-all 2 es q a

-- the results of a pass and of a plan
module _ (g : Given) (o : is_sid g.owner ≡ true) (r : is_sid g.group ≡ true) where
  pub planned-four : (q : Option Plan) (ps cs ds : List (List ℕ)) (rp rc rd : ℕ)
      → Every (Whole access rp) ps → Every (Whole access rc) cs → Every (Whole access rd) ds
      → Every (λ x. Small x → Whole access 4 x) (planned g q ps cs ds)
  planned-four =
      every-planned g (λ x. Small x → Whole access 4 x)
      (λ p rev e w. every-to (λ x. Small x → Whole access rev x) (λ x. Small x → Whole access 4 x) (λ x h l. whole_four access rev x (h l)) (emit_of g p e) (emit-whole g o r p rev e w))

  module _ (po : placeholder_of g.owner ≡ 0) (pr : placeholder_of g.group ≡ 0) where
    pub planned-ordinary : (q : Option Plan) (ps cs ds : List (List ℕ)) (rp rc rd : ℕ)
        → Every (Whole access rp) ps → Every (Whole access rc) cs → Every (Whole access rd) ds
        → Every (λ x. placeholder_of (sid_of x) ≡ 0) (planned g q ps cs ds)
    planned-ordinary = every-planned g _ (λ p rev e w. emit-ordinary g o r p rev e w po pr)

  module _ (m : mends g.rule ≡ true) where
    pub planned-low : (q : Option Plan) (ps cs ds : List (List ℕ)) (rp rc rd : ℕ)
        → Every (Whole access rp) ps → Every (Whole access rc) cs → Every (Whole access rd) ds
        → Every Low (planned g q ps cs ds)
    planned-low = every-planned g _ (λ p rev e w. emit-low g o r p rev e w m)

    pub planned-again : placeholder_of g.owner ≡ 0 → placeholder_of g.group ≡ 0
        → (q : Option Plan) (ps cs ds : List (List ℕ)) (rp rc rd : ℕ)
        → Every (Whole access rp) ps → Every (Whole access rc) cs → Every (Whole access rd) ds
        → Every (λ x. Small x → (h : Given) → resolved h x ≡ x) (planned g q ps cs ds)
    planned-again po pr = every-planned g _ (λ p rev e w. emit-again g o r p rev e w m po pr)
