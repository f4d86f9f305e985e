-- What an answer can tell: offsets up to 512, up to 64 tokens, and up to 1,255 bytes, so that many always suffice.
use mathlib.Core.Path.{◌≡◌, refl, sym, ap, subst}
use mathlib.Core.Bool.{Bool, true, false}
use mathlib.Core.List.{List}
use Prim.Native.Nat.{ℕ, ◌≤◌}
use native.Mathlib.Omega.{arith}
use lib.Dec.{leb}
use borrow.Author.Tests.{leb-true, leb-false}
use lib.ListN.{length}
use Rattle.octets.specs.Order.{need}
use Rattle.octets.proofs.Tests.{both_true}
use Rattle.std.specs.Prelude.{Result, Ok, Err}
use Rattle.refusal.specs.declared.Refusal.{Refusal}
use Rattle.refusal.specs.declared.Refusal.TheVariants.{Text, Large, Room}
use Rattle.wording.specs.declared.Stored.{Stored}
use Rattle.wording.specs.declared.TextFault.{TextFault}
use Rattle.wording.specs.Grammar.{Condition, text_c}
use Rattle.wording.specs.Reader.{Reading, accepted, refused, reading}
use Rattle.wording.specs.Stored.{formula_c, tokens_of, deep, stored_of}
use Rattle.wording.specs.Translation.{done_with, refused_at, holdable, storing, answer_by, translation_of}
use Rattle.wording.proofs.Flat.{tokens-flat}
use Rattle.wording.proofs.Reading.{sound, offset}
use Rattle.wording.proofs.Small.{small-C}
use Rattle.wording.proofs.Decides.{stored-length, same-why}

-- a stored form that its check would take has at most 16 comparisons
pub stored-small : (c : Condition) → length (text_c c) ≤ 512 → holdable c ≡ true → (length (tokens_of c) ≤ 64) × (length (stored_of c) ≤ 1255)
stored-small c h e =
    let n = leb-true (length (tokens_of c)) 64 (both_true (leb (length (tokens_of c)) 64) (leb (deep (formula_c c)) 16) e).0 in
    let s = small-C c in
    let m = s.many in
    let z = s.size in
    let f = ap length (tokens-flat c) in
    (n, omega (arith, stored-length c))

abbrev pub Told : Result Stored TextFault → Type 0
Told (Ok n) = (n.size ≤ 1255) × (n.tokens ≤ 64)
Told (Err f) = f.at ≤ 512

storing-told : (room : ℕ) (c : Condition) → length (text_c c) ≤ 512 → Told (storing room c)
unfolding storing need
storing-told room c h = by (holdable c) (leb (length (stored_of c)) room) refl
  where
    by : (x y : Bool) → holdable c ≡ x → Told (need x (refused_at Large 0) (need y (refused_at Room 0) (done_with (length (stored_of c)) (length (tokens_of c)))))
    by false y e = omega arith
    by true false e = omega arith
    by true true e = let s = stored-small c h e in (s.1, s.0)

pub told : (s : List ℕ) (room : ℕ) → Told (translation_of s room)
unfolding translation_of need answer_by
told s room = by (leb (length s) 512) refl
  where
    on : (x : Reading) → reading s ≡ x → length s ≤ 512 → Told (answer_by room x)
    on (accepted c) r h = storing-told room c (omega (arith, ap length (sound s c r).0))
    on (refused k) r h = omega (arith, (offset s k r).inside)

    by : (x : Bool) → leb (length s) 512 ≡ x → Told (need x (refused_at Text 512) (answer_by room (reading s)))
    by true e = on (reading s) refl (leb-true (length s) 512 e)
    by false e = omega arith

pub told-done : (s : List ℕ) (room n k : ℕ) → done_with n k ≡ translation_of s room → (n ≤ 1255) × (k ≤ 64)
told-done s room n k e = subst Told (sym e) (told s room)

pub told-refused : (s : List ℕ) (room : ℕ) (k : Refusal) (m : ℕ) → refused_at k m ≡ translation_of s room → m ≤ 512
told-refused s room k m e = subst Told (sym e) (told s room)

-- 8 is never told where 1,255 bytes are lent
pub room-enough : (s : List ℕ) (room : ℕ) → 1255 ≤ room → translation_of s room ≡ refused_at Room 0 → ⊥
unfolding translation_of need answer_by storing
room-enough s room l e = by (leb (length s) 512) refl e
  where
    on : (x : Reading) → reading s ≡ x → length s ≤ 512 → answer_by room x ≡ refused_at Room 0 → ⊥
    on (refused k) r h e = let v = same-why Text Room k 0 e in cc
    on (accepted c) r h e = at (holdable c) (leb (length (stored_of c)) room) refl refl e
      where
        at : (x y : Bool) → holdable c ≡ x → leb (length (stored_of c)) room ≡ y
            → need x (refused_at Large 0) (need y (refused_at Room 0) (done_with (length (stored_of c)) (length (tokens_of c)))) ≡ refused_at Room 0 → ⊥
        at false y f g e = let v = same-why Large Room 0 0 e in cc
        at true false f g e = omega (arith, leb-false (length (stored_of c)) room g, (stored-small c (omega (arith, ap length (sound s c r).0)) f).1)
        at true true f g e = cc

    by : (x : Bool) → leb (length s) 512 ≡ x → need x (refused_at Text 512) (answer_by room (reading s)) ≡ refused_at Room 0 → ⊥
    by true f e = on (reading s) refl (leb-true (length s) 512 f) e
    by false f e = let v = same-why Text Room 512 0 e in cc
