-- What flags and types are known, what a revision leaves of an entry, and an entry's own SID.
use mathlib.Core.Path.{◌≡◌, refl, sym, ap, ◌∙◌}
use mathlib.Core.Bool.{Bool, true, false, cond, ◌&&◌, ◌||◌}
use mathlib.Core.List.{List, [], ◌∷◌, ◌++◌}
use Prim.Native.Nat.{ℕ, ◌≤◌, ◌<◌}
use native.Mathlib.Omega.{arith}
use lib.ListN.{length, take, drop, take-append-drop, length-drop}
use lib.Seq.{length-take-le}
use lib.Dec.{eqb}
use borrow.Author.Tests.{leb-true, le-leb}
use Rattle.octets.specs.Bytes.{same_bytes}
use Rattle.list.specs.Identity.{length_of_sid, creator, placeholder_of}
use Rattle.list.specs.Entry.{Family, access, plain_of, object_of, object_kind, kind_ok, flags_ok, kind_of, sid_at, sid_of}
use Rattle.list.specs.List.{rev_ok}
use Rattle.list.specs.Good.{Sound, Whole, Every}
use Rattle.list.proofs.Sids.{OneSid, sid-append, sid-length}
use Rattle.list.proofs.Remade.{bounds}

-- known flags are those up to 31
pub flags-le : (x : ℕ) → flags_ok access x ≡ true → x ≤ 31
unfolding flags_ok
flags-le x h = leb-true x 31 h

pub flags-ok : (x : ℕ) → x ≤ 31 → flags_ok access x ≡ true
unfolding flags_ok
flags-ok x h = le-leb x 31 h

-- revision 4 has every type that another has
four-or : (p o b : Bool) → (p || (b && o)) ≡ true → (p || o) ≡ true
four-or true o b h = refl
four-or false o true h = h
four-or false true false h = refl
four-or false false false h = h

pub kind-four : (f : Family) (k rev : ℕ) → kind_ok f k rev ≡ true → kind_ok f k 4 ≡ true
unfolding kind_ok
kind-four f k rev h = four-or (plain_of f k) (object_of f k) (eqb rev 4) h

-- a type that is no object type is in every revision
plain-or : (p b c : Bool) → (p || (b && false)) ≡ true → (p || (c && false)) ≡ true
plain-or true b c h = refl
plain-or false true true h = h
plain-or false true false h = h
plain-or false false true h = h
plain-or false false false h = h

pub kind-plain : (f : Family) (k rev r : ℕ) → kind_ok f k rev ≡ true → object_kind k ≡ false → kind_ok f k r ≡ true
unfolding kind_ok object_kind
kind-plain access k rev r h o = rw o (plain-or (plain_of access k) (eqb rev 4) (eqb r 4) (rw o at h))

-- an entry under another revision that has its type
whole-under : (f : Family) (rev r : ℕ) (e : List ℕ) → Whole f rev e → kind_ok f (kind_of e) r ≡ true → Whole f r e
whole-under f rev r e w k =
    let s = w.sound in
    record {
      sound =
          record {
            four = s.four;
            within = s.within;
            kind = k;
            flags = s.flags;
            head = s.head;
            word = s.word;
            eight = s.eight;
            sid = s.sid;
            expression = s.expression;
            tail = s.tail;
          };
      whole = w.whole;
    }

-- an entry that is whole under any revision is so under 4, and one that is no object entry under every revision
pub whole_four : (f : Family) (rev : ℕ) (e : List ℕ) → Whole f rev e → Whole f 4 e
whole_four f rev e w = whole-under f rev 4 e w (kind-four f (kind_of e) rev w.sound.kind)

pub whole_plain : (f : Family) (rev r : ℕ) (e : List ℕ) → Whole f rev e → object_kind (kind_of e) ≡ false → Whole f r e
whole_plain f rev r e w o = whole-under f rev r e w (kind-plain f (kind_of e) rev r w.sound.kind o)

-- a SID cut out is exactly one SID
pub one-cut : (s : List ℕ) → 0 < length_of_sid s → length_of_sid s ≤ length s → OneSid (take (length_of_sid s) s)
one-cut s h l =
    let n : length (take (length_of_sid s) s) ≡ length_of_sid s = length-take-le (length_of_sid s) s l in
    let e : length_of_sid (take (length_of_sid s) s) ≡ length_of_sid s =
    sym (sid-append (take (length_of_sid s) s) (drop (length_of_sid s) s) (omega (arith, sid-length s h))) ∙ ap length_of_sid (take-append-drop (length_of_sid s) s) in
    record { some = rw e h; exact = n ∙ sym e }

-- so is a good entry's
pub one-own : (f : Family) (rev : ℕ) (t : List ℕ) → Sound f rev t → OneSid (sid_of t)
one-own f rev t s =
    let b = bounds f rev t s in
    one-cut (drop (sid_at t) t) s.sid (omega (arith, length-drop (sid_at t) t, b.sid, b.inside))

-- bytes that are neither placeholder are none
neither : (a b : Bool) (n : ℕ) → n ≡ cond a 1 (cond b 2 0) → (n ≡ 1 → ⊥) → (n ≡ 2 → ⊥) → n ≡ 0
neither true b n e f g = absurd (f e)
neither false true n e f g = absurd (g e)
neither false false n e f g = e

pub no-placeholder : (s : List ℕ) → (placeholder_of s ≡ 1 → ⊥) → (placeholder_of s ≡ 2 → ⊥) → placeholder_of s ≡ 0
unfolding placeholder_of
no-placeholder s f g = neither (same_bytes s (creator 0)) (same_bytes s (creator 1)) (placeholder_of s) refl f g

-- what each of several entries has: of two lists of them, of one that may be left out, and where it gives something else
module _ (P : List ℕ → Type 0) where
  pub every_append : (xs ys : List (List ℕ)) → Every P xs → Every P ys → Every P (xs ++ ys)
  every_append [] ys a b = b
  every_append (x ∷ xs) ys a b = (a.0, every_append xs ys a.1 b)

  pub every-cond : (b : Bool) (xs : List (List ℕ)) → Every P xs → Every P (cond b xs [])
  every-cond true xs a = a
  every-cond false xs a = tt

  pub every-to : (Q : List ℕ → Type 0) → ((e : List ℕ) → P e → Q e) → (es : List (List ℕ)) → Every P es → Every Q es
  every-to Q f [] a = tt
  every-to Q f (e ∷ es) a = (f e a.0, every-to Q f es a.1)

-- both revisions are known
pub rev-known : (b : Bool) → rev_ok (cond b 4 2) ≡ true
unfolding rev_ok
rev-known true = refl
rev-known false = refl
