-- Laws of the texts: a number in decimal, and bytes laid at a place, as many as there is room for.
use mathlib.Core.Path.{◌≡◌, refl, sym, ap, ◌∙◌}
use mathlib.Core.List.{List, [], ◌∷◌, ◌++◌, append_assoc, append-nil}
use Prim.Native.Nat.{ℕ, zero, suc, ◌+◌, ◌-◌, ◌*◌, ◌/◌, ◌%◌, ◌≤◌, ◌<◌}
use native.Mathlib.Nat.{le_refl}
use native.Mathlib.Omega.{arith}
use lib.ListN.{length, take, drop, set, length-set, length-append, length-drop, drop_of_length-le, take-append-drop}
use lib.Seq.{drop-cons, get_or-set_same, drop-set-lt, take_all, take-nil, drop-nil}
use Rattle.octets.specs.Bytes.{front, put_on}
use Rattle.octets.proofs.Places.{split}
use Rattle.octets.proofs.Tests.{tests}
use Rattle.octets.proofs.Writes.{put_all}
use Rattle.script.specs.Text.{digits, decimal}
use Rattle.script.specs.Inner.Laying.{laid_at}

-- ---- a number in decimal

-- how many steps are given does not matter, where they are more than the number
digits_more : (f g n : ℕ) → n < f → n < g → digits f n ≡ digits g n
unfolding digits
digits_more zero g n p q = absurd (omega arith)
digits_more (suc f) zero n p q = absurd (omega arith)
digits_more (suc f) (suc g) n p q =
    split 10 n
    (λ h. simp tests (ap (λ (l : List ℕ). l ++ ((48 + n % 10) ∷ [])) (digits_more f g (n / 10) (omega arith) (omega arith))))
    (λ h. simp tests)

pub decimal-last : (n : ℕ) → n < 10 → decimal n ≡ (48 + n) ∷ []
unfolding decimal digits
decimal-last n h = let e : n % 10 ≡ n = omega arith in rw e (simp tests)

pub decimal-more : (n : ℕ) → 10 ≤ n → decimal n ≡ decimal (n / 10) ++ ((48 + n % 10) ∷ [])
unfolding decimal digits
decimal-more n h = simp tests (ap (λ (l : List ℕ). l ++ ((48 + n % 10) ∷ [])) (digits_more n (suc (n / 10)) (n / 10) (omega arith) (omega arith)))

-- 10 to the power k
abbrev tens : ℕ → ℕ
tens zero = 1
tens (suc k) = 10 * tens k

decimal-most : (k n : ℕ) → n < tens (suc k) → length (decimal n) ≤ suc k
decimal-most zero n h = rw (decimal-last n (omega arith)) (omega arith)
decimal-most (suc k) n h =
    split 10 n
    (λ m.
    let z : length (decimal (n / 10)) ≤ suc k = decimal-most k (n / 10) (omega arith) in
    rw (decimal-more n m, length-append) (omega arith))
    (λ m. rw (decimal-last n m) (omega arith))

pub decimal-20 : (n : ℕ) → n < 18446744073709551616 → length (decimal n) ≤ 20
decimal-20 n h = decimal-most 19 n (omega arith)

pub decimal-some : (n : ℕ) → 1 ≤ length (decimal n)
decimal-some n = split 10 n (λ m. rw (decimal-more n m, length-append) (omega arith)) (λ m. rw (decimal-last n m) (omega arith))

-- a number whose digits are stored from the last to the first: all but those that stand in t from i on are still to come
pub record Spelt (n rest i : ℕ) (t : List ℕ) : Type 0 where
  pub room : length (decimal rest) ≤ i
  pub within : i ≤ length t
  pub whole : decimal rest ++ drop i t ≡ decimal n

-- a byte stored before i
drop-store : (i x : ℕ) (t : List ℕ) → 1 ≤ i → i ≤ length t → drop (i - 1) (set t (i - 1) x) ≡ x ∷ drop i t
drop-store i x t h k =
    let e : suc (i - 1) ≡ i = omega arith in
    drop-cons (set t (i - 1) x) (i - 1) 0 (rw length-set (omega arith))
    ∙ rw (get_or-set_same t (i - 1) x 0 (omega arith), drop-set-lt (suc (i - 1)) t (i - 1) x (omega arith), e)

pub spelt-none : (n : ℕ) (t : List ℕ) → length t ≡ 20 → n < 18446744073709551616 → Spelt n n 20 t
spelt-none n t e h =
    let all : drop 20 t ≡ [] = let l : length t ≤ 20 = omega arith in drop_of_length-le t l in
    record { room = decimal-20 n h; within = omega arith; whole = rw all (append-nil (decimal n)) }

module _ (n rest i : ℕ) (t : List ℕ) (s : Spelt n rest i t) where
  spelt-left : 1 ≤ i
  spelt-left = omega (arith, decimal-some rest, s.room)

  pub spelt-more : 10 ≤ rest → Spelt n (rest / 10) (i - 1) (set t (i - 1) (48 + rest % 10))
  spelt-more h =
      record {
        room = omega (arith, s.room, rw length-append at (ap length (decimal-more rest h)));
        within = rw length-set (omega (arith, s.within));
        whole =
            rw (drop-store i (48 + rest % 10) t spelt-left s.within)
            (sym (append_assoc (decimal (rest / 10)) ((48 + rest % 10) ∷ []) (drop i t))
            ∙ ap (λ (l : List ℕ). l ++ drop i t) (sym (decimal-more rest h))
            ∙ s.whole);
      }

  pub spelt-all : rest < 10 → drop (i - 1) (set t (i - 1) (48 + rest % 10)) ≡ decimal n
  spelt-all h =
      let e : rest % 10 ≡ rest = omega arith in
      drop-store i (48 + rest % 10) t spelt-left s.within
      ∙ rw e (ap (λ (l : List ℕ). l ++ drop i t) (sym (decimal-last rest h)))
      ∙ s.whole

-- the end of a text, as the code takes it
pub text-end : (m n from : ℕ) (t : List ℕ) → length t ≡ m → drop from t ≡ decimal n → take (m - from) (drop from t) ≡ decimal n
text-end m n from t e d = take_all (m - from) (drop from t) (rw length-drop (omega arith)) ∙ d

-- ---- bytes laid at a place

laid_none : (at : ℕ) (s : List ℕ) → laid_at at s [] ≡ []
unfolding laid_at put_on
laid_none zero s = refl
laid_none (suc at) s = refl

-- no bytes
pub laid-nothing : (at : ℕ) (d : List ℕ) → laid_at at [] d ≡ d
unfolding laid_at put_on
laid-nothing at d = rw (take-nil {A = ℕ} (length (drop at d))) (take-append-drop at d)

pub laid-length : (at : ℕ) (s d : List ℕ) → length (laid_at at s d) ≡ length d
unfolding laid_at put_on
laid-length zero [] d = ap length (laid-nothing zero d)
laid-length zero (x ∷ s) [] = refl
laid-length zero (x ∷ s) (y ∷ d) = ap suc (laid-length zero s d)
laid-length (suc at) s [] = refl
laid-length (suc at) s (x ∷ d) = ap suc (laid-length at s d)

-- one text and then another behind it
pub laid-append : (at : ℕ) (a b d : List ℕ) → laid_at (at + length a) b (laid_at at a d) ≡ laid_at at (a ++ b) d
unfolding laid_at put_on
laid-append zero [] b d = ap (laid_at zero b) (laid-nothing zero d)
laid-append zero (x ∷ a) b [] = laid_none (0 + suc (length a)) b
laid-append zero (x ∷ a) b (y ∷ d) = let e : 0 + suc (length a) ≡ suc (0 + length a) = omega arith in rw e (ap (λ (l : List ℕ). x ∷ l) (laid-append zero a b d))
laid-append (suc at) a b [] = laid_none (suc at + length a) b
laid-append (suc at) a b (x ∷ d) = let e : suc at + length a ≡ suc (at + length a) = omega arith in rw e (ap (λ (l : List ℕ). x ∷ l) (laid-append at a b d))

-- what a writer of s at `at` does: it answers where s ends, and s is laid in d
pub record Lays (at : ℕ) (s d : List ℕ) (r : ℕ) (out : List ℕ) : Type 0 where
  pub ends : r ≡ at + length s
  pub text : out ≡ laid_at at s d

pub lays : (at : ℕ) (s d : List ℕ) (r : ℕ) (out : List ℕ) → r ≡ at + length s → out ≡ laid_at at s d → Lays at s d r out
lays at s d r out e t = record { ends = e; text = t }

-- one writer and then another where it ended
pub lays-then : {at r q : ℕ} {a b d out done : List ℕ} → Lays at a d r out → Lays r b out q done → Lays at (a ++ b) d q done
lays-then {at} {r} {q} {a} {b} {d} f g =
    record {
      ends = g.ends ∙ rw (f.ends, length-append) (omega arith);
      text = g.text ∙ rw (f.text, f.ends) (laid-append at a b d);
    }

pub lays-length : {at r : ℕ} {s d out : List ℕ} → Lays at s d r out → length out ≡ length d
lays-length {at} {s = s} {d = d} l = ap length l.text ∙ laid-length at s d

-- all of it, where there is room
pub laid-all : (s d : List ℕ) → length s ≤ length d → laid_at 0 s d ≡ front s d
unfolding laid_at
laid-all s d h = put_all s d h

-- where there is no room
pub laid-past : (at : ℕ) (s d : List ℕ) → length d ≤ at → laid_at at s d ≡ d
unfolding laid_at put_on
laid-past at s d h = rw (take_all at d h, drop_of_length-le d h, drop-nil) (append-nil d)

-- how the code lays them: on the front of the tail from `at` on
pub laid-tail : (at : ℕ) (s xs ys : List ℕ) → ys ≡ put_on s (take (length xs - at) (drop at xs))
    → take at xs ++ (ys ++ drop (length xs - at) (drop at xs)) ≡ laid_at at s xs
unfolding laid_at
laid-tail at s xs ys e =
    let m : length (drop at xs) ≤ length xs - at = rw length-drop (le_refl _) in
    rw (e, take_all (length xs - at) (drop at xs) m, drop_of_length-le (drop at xs) m, append-nil)

pub ruleset put_rules = (laid-past, laid-tail)

pub ruleset text_rules = (laid-append, length-append)

pub ruleset number_rules = (text-end, decimal-20)
