-- Laws of identities.
use mathlib.Core.Path.{◌≡◌, refl, sym, ap, ◌∙◌}
use mathlib.Core.Bool.{Bool, true, false, cond, ◌&&◌}
use mathlib.Core.List.{List, [], ◌∷◌, ◌++◌}
use Prim.Native.Nat.{ℕ, zero, suc, ◌+◌, ◌*◌, ◌≤◌, ◌<◌}
use native.Mathlib.Omega.{arith}
use native.Mathlib.Decide.{ℕ_discrete}
use lib.ListN.{length, take, drop, replicate, get_or, length-append, length-take, take-append-drop, get_or-append}
use lib.Seq.{take_at, length-take-le}
use lib.Dec.{eqb, leb, ltb}
use borrow.Author.Tests.{eq-eqb, ne_eqb, lt-ltb, le-leb, lt-leb, eqb-true, leb-true, ltb-true}
use Rattle.list.specs.Identity.{length_of_sid, whole_sid, is_sid, creator, placeholder_of, placeholder_in, placeholder_number, identity_of, identity_in, identity_number, bytes_of, made_of}
use Rattle.list.specs.declared.identities.Sid.{Sid}
use Rattle.list.specs.declared.identities.Placeholder.TheVariants.{Owner, Group}
use Rattle.std.specs.Prelude.{Some, None, IsSomeAnd, Ok}
use Rattle.std.specs.Option.{option_eq}
use Rattle.octets.specs.Absent.{unless_zero}
use Rattle.octets.specs.Bytes.{same_bytes}
use Rattle.octets.proofs.Tests.{both_true}
use Rattle.octets.proofs.Same.{same-no, same_length}
use Rattle.octets.proofs.Writes.{length_front}
use Rattle.octets.proofs.Places.{split}

-- a SID has 8 to 68 bytes
pub record SidLength (n : ℕ) : Type 0 where
  pub least : 8 ≤ n
  pub most : n ≤ 68

-- by cases: none, or n of 32-bit numbers
sid-cases : (s : List ℕ) (P : ℕ → Type 0) → P 0 → ((n : ℕ) → n ≤ 15 → P (8 + 4 * n)) → P (length_of_sid s)
unfolding length_of_sid
sid-cases s P none some = by (eqb (get_or s 0 0) 1 && leb (get_or s 1 0) 15) refl
  where
    by : (b : Bool) → (eqb (get_or s 0 0) 1 && leb (get_or s 1 0) 15) ≡ b → P (cond b (8 + 4 * get_or s 1 0) 0)
    by true e = some (get_or s 1 0) (leb-true (get_or s 1 0) 15 (both_true (eqb (get_or s 0 0) 1) (leb (get_or s 1 0) 15) e).1)
    by false e = none

pub sid-length : (s : List ℕ) → 0 < length_of_sid s → SidLength (length_of_sid s)
sid-length s = sid-cases s (λ (n : ℕ). 0 < n → SidLength n) (λ h. absurd (omega arith)) (λ n h p. record { least = omega arith; most = omega arith })

-- none begins where nothing is
pub sid-some : (s : List ℕ) → 0 < length_of_sid s → 0 < length s
unfolding length_of_sid
sid-some [] h = absurd (omega arith)
sid-some (b ∷ s) h = omega arith

pub sid-most : (s : List ℕ) → length_of_sid s ≤ 68
sid-most s = sid-cases s (λ (n : ℕ). n ≤ 68) (omega arith) (λ n h. omega arith)

-- what follows a SID's first two bytes doesn't count for its length
pub sid-append : (a b : List ℕ) → 2 ≤ length a → length_of_sid (a ++ b) ≡ length_of_sid a
unfolding length_of_sid
sid-append a b h = rw (get_or-append a b 0 0 (omega arith), get_or-append a b 0 1 (omega arith))

-- one that is whole: none in fewer than eight bytes, and none that is longer than what is there
pub whole-cut : (s : List ℕ) → length s < length_of_sid s → whole_sid s ≡ 0
unfolding whole_sid
whole-cut s h = rw (lt-leb (length_of_sid s) (length s))

pub whole-there : (s : List ℕ) → length_of_sid s ≤ length s → whole_sid s ≡ length_of_sid s
unfolding whole_sid
whole-there s h = rw (le-leb (length_of_sid s) (length s))

pub whole-short : (s : List ℕ) → length s < 8 → whole_sid s ≡ 0
unfolding whole_sid
whole-short s h = sid-cases s (λ (n : ℕ). cond (leb n (length s)) n 0 ≡ 0) (rw (le-leb 0 (length s) (omega arith))) (λ n p. rw (lt-leb (8 + 4 * n) (length s) (omega arith)))

pub record WholeSid (s : List ℕ) : Type 0 where
  pub least : 8 ≤ whole_sid s
  pub most : whole_sid s ≤ length s
  pub is : is_sid (take (whole_sid s) s) ≡ true

pub whole-sid : (s : List ℕ) → 0 < whole_sid s → WholeSid s
unfolding is_sid
whole-sid s h = split (length_of_sid s) (length s) there (λ l. absurd (omega (arith, whole-cut s l)))
  where
    there : length_of_sid s ≤ length s → WholeSid s
    there l =
        let e = whole-there s l in
        let z = sid-length s (omega (arith, e)) in
        let t = take (length_of_sid s) s in
        let n : length t ≡ length_of_sid s = length-take-le (length_of_sid s) s l in
        let q : length_of_sid t ≡ length_of_sid s = sym (sid-append t (drop (length_of_sid s) s) (omega (arith, n, z))) ∙ ap length_of_sid (take-append-drop (length_of_sid s) s) in
        record {
          least = omega (arith, e, z);
          most = omega (arith, e);
          is = rw (e, q, n, lt-ltb 0 (length_of_sid s) (omega (arith, z)), eq-eqb (length_of_sid s) (length_of_sid s) refl);
        }

-- its second byte says how long it is
number-says : (s : List ℕ) → 0 < length_of_sid s → length_of_sid s ≡ 8 + 4 * get_or s 1 0
unfolding length_of_sid
number-says s = by (eqb (get_or s 0 0) 1 && leb (get_or s 1 0) 15)
  where
    by : (b : Bool) → 0 < cond b (8 + 4 * get_or s 1 0) 0 → cond b (8 + 4 * get_or s 1 0) 0 ≡ 8 + 4 * get_or s 1 0
    by true h = refl
    by false h = absurd (omega arith)

pub whole_says : (s : List ℕ) → 0 < whole_sid s → whole_sid s ≡ 8 + 4 * get_or s 1 0
whole_says s h =
    split (length_of_sid s) (length s)
    (λ l. let e = whole-there s l in e ∙ number-says s (omega (arith, e)))
    (λ l. absurd (omega (arith, whole-cut s l)))

-- what the number of a placeholder tells, and back
pub neither-in : (s : List ℕ) → placeholder_in (placeholder_of s) ≡ None → placeholder_of s ≡ 0
unfolding placeholder_in placeholder_of
neither-in s h = by (same_bytes s (creator 0)) (same_bytes s (creator 1)) h
  where
    by : (a b : Bool) → placeholder_in (cond a 1 (cond b 2 0)) ≡ None → ◌≡◌ {A = ℕ} (cond a 1 (cond b 2 0)) 0
    by true b h = cc
    by false true h = cc
    by false false h = refl

pub owner-in : (s : List ℕ) → placeholder_in (placeholder_of s) ≡ Some Owner → placeholder_of s ≡ 1
unfolding placeholder_in placeholder_of
owner-in s h = by (same_bytes s (creator 0)) (same_bytes s (creator 1)) h
  where
    by : (a b : Bool) → placeholder_in (cond a 1 (cond b 2 0)) ≡ Some Owner → ◌≡◌ {A = ℕ} (cond a 1 (cond b 2 0)) 1
    by true b h = refl
    by false true h = cc
    by false false h = cc

pub group-in : (s : List ℕ) → placeholder_in (placeholder_of s) ≡ Some Group → placeholder_of s ≡ 2
unfolding placeholder_in placeholder_of
group-in s h = by (same_bytes s (creator 0)) (same_bytes s (creator 1)) h
  where
    by : (a b : Bool) → placeholder_in (cond a 1 (cond b 2 0)) ≡ Some Group → ◌≡◌ {A = ℕ} (cond a 1 (cond b 2 0)) 2
    by true b h = cc
    by false true h = refl
    by false false h = cc

pub in-neither : (n : ℕ) → n ≡ 0 → placeholder_in n ≡ None
unfolding placeholder_in
in-neither n e = rw e refl

pub in-identity : (s : List ℕ) → identity_in (placeholder_of s) ≡ Ok (placeholder_in (placeholder_of s))
unfolding identity_in placeholder_of
in-identity s = by (same_bytes s (creator 0)) (same_bytes s (creator 1))
  where
    by : (a b : Bool) → identity_in (cond a 1 (cond b 2 0)) ≡ Ok (placeholder_in (cond a 1 (cond b 2 0)))
    by true b = refl
    by false true = refl
    by false false = refl

-- of an identity: the answer's number is the definition's
identity-cases : (a b c : Bool) → identity_number (identity_in (cond a (cond b 1 (cond c 2 0)) 6)) ≡ cond a (cond b 1 (cond c 2 0)) 6
unfolding identity_in placeholder_in
identity-cases true true c = refl
identity-cases true false true = refl
identity-cases true false false = refl
identity-cases false b c = refl

pub identity-number : (s : List ℕ) → identity_number (identity_in (identity_of s)) ≡ identity_of s
unfolding identity_of placeholder_of
identity-number s = identity-cases (is_sid s) (same_bytes s (creator 0)) (same_bytes s (creator 1))

-- exactly one SID
pub record OneSid (s : List ℕ) : Type 0 where
  pub some : 0 < length_of_sid s
  pub exact : length s ≡ length_of_sid s

pub one-sid : (s : List ℕ) → is_sid s ≡ true → OneSid s
unfolding is_sid
one-sid s h =
    let f = both_true (ltb 0 (length_of_sid s)) _ h in
    record { some = ltb-true _ _ f.0; exact = eqb-true _ _ f.1 }

-- fewer than eight bytes are no SID
pub short-sid : (s : List ℕ) → length s < 8 → is_sid s ≡ false
unfolding is_sid
short-sid s h =
    sid-cases s (λ (n : ℕ). (ltb 0 n && eqb (length s) n) ≡ false) refl
    (λ n p. rw (lt-ltb 0 (8 + 4 * n) (omega arith), ne_eqb (length s) (8 + 4 * n) (λ e. omega arith)))

-- so the test compares with what the reader of lengths answers
pub eqb-turned : (a b : ℕ) → eqb a b ≡ eqb b a
eqb-turned a b =
    elim (ℕ_discrete a b) [
      | yes e ↦ rw e refl
      | no f ↦ ne_eqb a b f ∙ sym (ne_eqb b a (λ e. f (sym e)))
    ]

pub sid-eq : (n m : ℕ) → option_eq eqb (unless_zero n) (Some m) ≡ (ltb 0 n && eqb m n)
unfolding unless_zero
sid-eq zero m = refl
sid-eq (suc n) m = rw (lt-ltb 0 (suc n) (omega arith)) (eqb-turned (suc n) m)

-- a placeholder is twelve bytes long
pub not-twelve : (s : List ℕ) → (length s ≡ 12 → ⊥) → placeholder_of s ≡ 0
unfolding placeholder_of
not-twelve s f = rw (same_length s (creator 0) f, same_length s (creator 1) f)

-- fewer bytes hold none
pub short-placeholder : (n : ℕ) (s : List ℕ) → length s < 12 → placeholder_of (take n s) ≡ 0
short-placeholder n s h = not-twelve (take n s) (λ e. omega (arith, length-take n s))

-- and it says its own length: so the twelve bytes that a SID begins with tell, however long it is
says-twelve : (k n : ℕ) (s : List ℕ) → take n s ≡ creator k → length_of_sid s ≡ 12
unfolding length_of_sid
says-twelve k n s e =
    ap length_of_sid (sym (take-append-drop n s) ∙ ap (λ (l : List ℕ). l ++ drop n s) e) ∙ sid-append (creator k) (drop n s) (omega arith)

other_length : (n : ℕ) (s : List ℕ) → (length_of_sid s ≡ 12 → ⊥) → placeholder_of (take n s) ≡ 0
unfolding placeholder_of
other_length n s f =
    rw (same-no (take n s) (creator 0) (λ e. f (says-twelve 0 n s e)), same-no (take n s) (creator 1) (λ e. f (says-twelve 1 n s e)))

pub placeholder-twelve : (s : List ℕ) → placeholder_of (take (length_of_sid s) s) ≡ placeholder_of (take 12 s)
placeholder-twelve s =
    elim (ℕ_discrete (length_of_sid s) 12) [
      | yes e ↦ ap (λ (n : ℕ). placeholder_of (take n s)) e
      | no f ↦ other_length (length_of_sid s) s f ∙ sym (other_length 12 s f)
    ]

-- so a SID is whole in front of anything
pub whole-joined : (s u : List ℕ) → is_sid s ≡ true → whole_sid (s ++ u) ≡ length s
whole-joined s u h =
    let o = one-sid s h in
    let e : length_of_sid (s ++ u) ≡ length_of_sid s = sid-append s u (omega (arith, o.exact, sid-length s o.some)) in
    whole-there (s ++ u) (omega (arith, e, o.exact, length-append s u)) ∙ e ∙ sym o.exact

-- an ordinary identity: exactly one SID, and no placeholder
pub identity-zero : (s : List ℕ) → identity_of s ≡ 0 → (is_sid s ≡ true) × (placeholder_of s ≡ 0)
unfolding identity_of
identity-zero s h = by (is_sid s) refl h
  where
    by : (b : Bool) → is_sid s ≡ b → cond b (placeholder_of s) 6 ≡ 0 → (is_sid s ≡ true) × (placeholder_of s ≡ 0)
    by true e z = (e, z)
    by false e z = absurd (omega arith)

-- an identity that was made holds the bytes it was made of
pub record Holds (s : List ℕ) (i : Sid) : Type 0 where
  pub whole : bytes_of i ≡ s
  pub long : i.len ≡ length s
  pub most : i.len ≤ 68
  pub wide : length i.bytes ≡ 68

pub made_holds : (s : List ℕ) → is_sid s ≡ true → IsSomeAnd (made_of s) (Holds s)
unfolding made_of
made_holds s h =
    let o = one-sid s h in
    let m : length s ≤ 68 = omega (arith, o.exact, sid-most s) in
    rw h
    (record {
      whole = take_at s (drop (length s) (replicate 68 0)) (length s) refl;
      long = refl;
      most = m;
      wide = length_front s (replicate 68 0) m;
    })
