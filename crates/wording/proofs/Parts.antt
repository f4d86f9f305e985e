-- The parts of a comparison are read rightly: names, numbers, the six comparisons.
use mathlib.Core.Path.{◌≡◌, refl, sym, ap, ◌∙◌}
use mathlib.Core.Bool.{◌&&◌, Bool, true, false}
use mathlib.Core.List.{List, [], ◌∷◌, ◌++◌, append_assoc, append-nil}
use Prim.Native.Nat.{ℕ, ◌+◌, ◌-◌, ◌*◌, ◌≤◌}
use native.Mathlib.Omega.{arith}
use lib.Dec.{leb}
use borrow.Author.Tests.{leb-true}
use Rattle.octets.proofs.Tests.{both_true}
use Rattle.condition.specs.Token.{Compare, above, at_least, at_most, below, equal, unequal}
use Rattle.wording.proofs.Keeps.{Ok, ok-expect, ok-as, ok-give, ok-one, ok-one-at, ok-pick, ok-stop, ok-then}
use Rattle.wording.specs.Grammar.{Factor, Goes, Side, ValidF, ValidS, all, alnum, compare, digit, integer, letter, limit, name, text_f, text_s, text_r, val}
use Rattle.wording.specs.Reader.{Res, expect, and_then, bad, onward, choose, give, good, head0, is, one, pick, read_comparison, read_digits, read_number, read_operand, read_rest, read_sign, stop}

pub both_is : (a b : Bool) → a ≡ true → b ≡ true → (a && b) ≡ true
both_is a b e f = ap (λ (x : Bool). x && b) e ∙ f

pub clash : false ≡ true → ⊥
clash e = cc

-- ---- letters and digits

abbrev pub Alnums : List ℕ → Type 0
Alnums n = all alnum n ≡ true

abbrev pub itself : List ℕ → List ℕ
itself n = n

-- where the next byte is another, nothing more is read; else that byte is
pub rest-no : (l : List ℕ) → alnum (head0 l) ≡ false → read_rest l ≡ good [] l
unfolding read_rest
rest-no [] e = refl
rest-no (b ∷ r) e = ap (λ (x : Bool). choose x (λ l. onward (read_rest r) (λ n l. good (b ∷ n) l)) (good []) (b ∷ r)) e

pub rest-yes : (b : ℕ) (r : List ℕ) → alnum b ≡ true → read_rest (b ∷ r) ≡ onward (read_rest r) (λ n l. good (b ∷ n) l)
unfolding read_rest
rest-yes b r e = ap (λ (x : Bool). choose x (λ l. onward (read_rest r) (λ n l. good (b ∷ n) l)) (good []) (b ∷ r)) e

-- as a reader of one byte and then the rest
abbrev rest_one : ℕ → List ℕ → Res (List ℕ)
rest_one b = and_then read_rest (λ n. give (b ∷ n))

rest-as : (l : List ℕ) → alnum (head0 l) ≡ true → read_rest l ≡ one alnum rest_one l
unfolding alnum letter digit
rest-as [] e = absurd (clash e)
rest-as (b ∷ r) e = rest-yes b r e ∙ sym (ap (λ (x : Bool). choose x (λ l. rest_one b r) bad (b ∷ r)) e)

alnums-cons : (b : ℕ) (n : List ℕ) → alnum b ≡ true → Alnums n → Alnums (b ∷ n)
unfolding all
alnums-cons b n e f = both_is (alnum b) (all alnum n) e f

alnums-nil : Alnums []
unfolding all
alnums-nil = refl

pub alnum-zero : alnum 0 ≡ false
unfolding alnum letter digit
alnum-zero = refl

-- one byte more, and the end
rest-step : (b : ℕ) (r : List ℕ) → alnum b ≡ true → Ok itself Alnums [] read_rest r → Ok itself Alnums [] read_rest (b ∷ r)
rest-step b r e h =
    ok-as itself Alnums [] (one alnum rest_one) read_rest (b ∷ r) (λ l f. rest-as l (ap alnum f ∙ e))
    (ok-one-at itself Alnums [] alnum rest_one b r e
    (ok-then itself Alnums (b ∷ []) itself Alnums read_rest (λ n. give (b ∷ n)) r h
    (λ n v. record { rest = []; tree = b ∷ n; valid = alnums-cons b n e v; spelt = append-nil (b ∷ n) })
    (λ n l v. ok-give itself Alnums (b ∷ n) (b ∷ n) l refl (alnums-cons b n e v))))

rest_end : (s : List ℕ) → alnum (head0 s) ≡ false → Ok itself Alnums [] read_rest s
rest_end s e = ok-as itself Alnums [] (give []) read_rest s (λ l f. rest-no l (ap alnum f ∙ e)) (ok-give itself Alnums [] [] s refl alnums-nil)

pub ok-rest : (s : List ℕ) → Ok itself Alnums [] read_rest s
ok-rest [] = rest_end [] alnum-zero
ok-rest (b ∷ r) = by (alnum b) refl (ok-rest r)
  where
    by : (x : Bool) → alnum b ≡ x → Ok itself Alnums [] read_rest r → Ok itself Alnums [] read_rest (b ∷ r)
    by true e h = rest-step b r e h
    by false e h = rest_end (b ∷ r) e

-- ---- digits in the range

digit-zero : digit 0 ≡ false
unfolding digit
digit-zero = refl

module _ (neg : Bool) where
  -- digits that keep the number behind v in the range
  abbrev pub Digits : ℕ → List ℕ → Type 0
  Digits v n = (all digit n ≡ true) × (val v n ≤ limit neg)

  abbrev pub nextv : ℕ → ℕ → ℕ
  nextv v b = v * 10 + (b - 48)

  abbrev digits_then : ℕ → ℕ → List ℕ → Res (List ℕ)
  digits_then v b = and_then (read_digits neg (nextv v b)) (λ n. give (b ∷ n))

  -- no digit, a digit in the range, a digit that leaves it
  pub digits-no : (v : ℕ) (l : List ℕ) → digit (head0 l) ≡ false → read_digits neg v l ≡ good [] l
  unfolding read_digits
  digits-no v [] e = refl
  digits-no v (b ∷ r) e =
      ap (λ (x : Bool). choose x (choose (leb (nextv v b) (limit neg)) (λ l. digits_then v b r) bad) (good []) (b ∷ r)) e

  pub digits-yes : (v b : ℕ) (r : List ℕ) → digit b ≡ true → leb (nextv v b) (limit neg) ≡ true → read_digits neg v (b ∷ r) ≡ digits_then v b r
  unfolding read_digits
  digits-yes v b r e f =
      ap (λ (x : Bool). choose x (choose (leb (nextv v b) (limit neg)) (λ l. digits_then v b r) bad) (good []) (b ∷ r)) e
      ∙ ap (λ (x : Bool). choose x (λ l. digits_then v b r) bad (b ∷ r)) f

  pub digits-over : (v : ℕ) (l : List ℕ) → digit (head0 l) ≡ true → leb (nextv v (head0 l)) (limit neg) ≡ false → read_digits neg v l ≡ bad l
  unfolding read_digits digit
  digits-over v [] e f = absurd (clash e)
  digits-over v (b ∷ r) e f =
      ap (λ (x : Bool). choose x (choose (leb (nextv v b) (limit neg)) (λ l. digits_then v b r) bad) (good []) (b ∷ r)) e
      ∙ ap (λ (x : Bool). choose x (λ l. digits_then v b r) bad (b ∷ r)) f

  -- as a reader of one digit and then the others
  digits-as : (v : ℕ) (l : List ℕ) → digit (head0 l) ≡ true → leb (nextv v (head0 l)) (limit neg) ≡ true → read_digits neg v l ≡ one digit (digits_then v) l
  unfolding digit
  digits-as v [] e f = absurd (clash e)
  digits-as v (b ∷ r) e f = digits-yes v b r e f ∙ sym (ap (λ (x : Bool). choose x (λ l. digits_then v b r) bad (b ∷ r)) e)

  digits-cons : (v b : ℕ) (n : List ℕ) → digit b ≡ true → Digits (nextv v b) n → Digits v (b ∷ n)
  unfolding all val
  digits-cons v b n e f = (both_is (digit b) (all digit n) e f.0, f.1)

  digits-nil : (v : ℕ) → v ≤ limit neg → Digits v []
  unfolding all val
  digits-nil v h = (refl, h)

  -- one digit more, the end, and where the range is left
  digits_step : (v b : ℕ) (r : List ℕ) → digit b ≡ true → leb (nextv v b) (limit neg) ≡ true → Ok itself (Digits (nextv v b)) [] (read_digits neg (nextv v b)) r
      → Ok itself (Digits v) [] (read_digits neg v) (b ∷ r)
  digits_step v b r e f h =
      ok-as itself (Digits v) [] (one digit (digits_then v)) (read_digits neg v) (b ∷ r)
      (λ l g. digits-as v l (ap digit g ∙ e) (ap (λ (x : ℕ). leb (nextv v x) (limit neg)) g ∙ f))
      (ok-one-at itself (Digits v) [] digit (digits_then v) b r e
      (ok-then itself (Digits v) (b ∷ []) itself (Digits (nextv v b)) (read_digits neg (nextv v b)) (λ n. give (b ∷ n)) r h
      (λ n w. record { rest = []; tree = b ∷ n; valid = digits-cons v b n e w; spelt = append-nil (b ∷ n) })
      (λ n l w. ok-give itself (Digits v) (b ∷ n) (b ∷ n) l refl (digits-cons v b n e w))))

  digits-end : (v : ℕ) (s : List ℕ) → v ≤ limit neg → digit (head0 s) ≡ false → Ok itself (Digits v) [] (read_digits neg v) s
  digits-end v s h e =
      ok-as itself (Digits v) [] (give []) (read_digits neg v) s (λ l f. digits-no v l (ap digit f ∙ e)) (ok-give itself (Digits v) [] [] s refl (digits-nil v h))

  digits-stop : (v : ℕ) (s : List ℕ) → v ≤ limit neg → digit (head0 s) ≡ true → leb (nextv v (head0 s)) (limit neg) ≡ false → Ok itself (Digits v) [] (read_digits neg v) s
  digits-stop v s h e f =
      ok-as itself (Digits v) [] stop (read_digits neg v) s
      (λ l g. digits-over v l (ap digit g ∙ e) (ap (λ (x : ℕ). leb (nextv v x) (limit neg)) g ∙ f))
      (ok-stop itself (Digits v) [] s (record { rest = []; tree = []; valid = digits-nil v h; spelt = refl }))

  pub ok-digits : (s : List ℕ) (v : ℕ) → v ≤ limit neg → Ok itself (Digits v) [] (read_digits neg v) s
  ok-digits [] v h = digits-end v [] h digit-zero
  ok-digits (b ∷ r) v h = by (digit b) (leb (nextv v b) (limit neg)) refl refl (ok-digits r (nextv v b))
    where
      by : (x y : Bool) → digit b ≡ x → leb (nextv v b) (limit neg) ≡ y
          → (nextv v b ≤ limit neg → Ok itself (Digits (nextv v b)) [] (read_digits neg (nextv v b)) r) → Ok itself (Digits v) [] (read_digits neg v) (b ∷ r)
      by true true e f g = digits_step v b r e f (g (leb-true (nextv v b) (limit neg) f))
      by true false e f g = digits-stop v (b ∷ r) h e f
      by false true e f g = digits-end v (b ∷ r) h e
      by false false e f g = digits-end v (b ∷ r) h e

pub digit-range : (b : ℕ) → digit b ≡ true → (48 ≤ b) × (b ≤ 57)
unfolding digit
digit-range b e =
    let h = both_true (leb 48 b) (leb b 57) e in
    (leb-true 48 b h.0, leb-true b 57 h.1)

pub digit-small : (neg : Bool) (b : ℕ) → digit b ≡ true → b - 48 ≤ limit neg
digit-small true b e = let h = digit-range b e in omega arith
digit-small false b e = let h = digit-range b e in omega arith

-- the minus, and an integer's text with it or without
abbrev pub sign : Bool → List ℕ
sign true = 45 ∷ []
sign false = []

pub text-integer : (neg : Bool) (b : ℕ) (n : List ℕ) → text_s (integer neg b n) ≡ sign neg ++ (b ∷ n)
unfolding text_s
text-integer true b n = refl
text-integer false b n = refl

-- the number 1, or minus 1
pub unit-valid : (neg : Bool) → ValidS (integer neg 49 [])
unfolding ValidS digit all val
unit-valid true = (refl, refl, omega arith)
unit-valid false = (refl, refl, omega arith)

pub goes_number : (neg : Bool) → Goes text_s ValidS (sign neg)
goes_number neg = record { rest = 49 ∷ []; tree = integer neg 49 []; valid = unit-valid neg; spelt = sym (text-integer neg 49 []) }

valid-integer : (neg : Bool) (b : ℕ) (n : List ℕ) → digit b ≡ true → Digits neg (b - 48) n → ValidS (integer neg b n)
unfolding ValidS
valid-integer neg b n e v = (e, v.0, v.1)

valid-name : (b : ℕ) (n : List ℕ) → letter b ≡ true → Alnums n → ValidS (name b n)
unfolding ValidS
valid-name b n e v = (e, v)

pub ok-number : (neg : Bool) (s : List ℕ) → Ok text_s ValidS (sign neg) (read_number neg) s
unfolding read_number
ok-number neg s =
    ok-one text_s ValidS (sign neg) digit (λ b. and_then (read_digits neg (b - 48)) (λ n. give (integer neg b n))) s digit-zero (goes_number neg)
    (λ b r e. ok-then text_s ValidS (sign neg ++ (b ∷ [])) itself (Digits neg (b - 48)) (read_digits neg (b - 48)) (λ n. give (integer neg b n)) r
    (ok-digits neg r (b - 48) (digit-small neg b e))
    (λ n v. record { rest = []; tree = integer neg b n; valid = valid-integer neg b n e v; spelt = append-nil _ ∙ (append_assoc (sign neg) (b ∷ []) n ∙ sym (text-integer neg b n)) })
    (λ n l v. ok-give text_s ValidS _ (integer neg b n) l (append_assoc (sign neg) (b ∷ []) n ∙ sym (text-integer neg b n)) (valid-integer neg b n e v)))

letter-zero : letter 0 ≡ false
unfolding letter
letter-zero = refl

text-name : (b : ℕ) (n : List ℕ) → (b ∷ n) ≡ text_s (name b n)
unfolding text_s
text-name b n = refl

pub ok-operand : (s : List ℕ) → Ok text_s ValidS [] read_operand s
unfolding read_operand
ok-operand s =
    ok-pick text_s ValidS [] letter (one letter (λ b. and_then read_rest (λ n. give (name b n)))) (pick (is 45) (expect 45 (read_number true)) (read_number false)) s
    (ok-one text_s ValidS [] letter (λ b. and_then read_rest (λ n. give (name b n))) s letter-zero (goes_number false)
    (λ b r e. ok-then text_s ValidS (b ∷ []) itself Alnums read_rest (λ n. give (name b n)) r (ok-rest r)
    (λ n v. record { rest = []; tree = name b n; valid = valid-name b n e v; spelt = append-nil _ ∙ text-name b n })
    (λ n l v. ok-give text_s ValidS (b ∷ n) (name b n) l (text-name b n) (valid-name b n e v))))
    (ok-pick text_s ValidS [] (is 45) (expect 45 (read_number true)) (read_number false) s
    (ok-expect text_s ValidS [] 45 (read_number true) s refl (goes_number false) (ok-number true))
    (ok-number false s))

-- ---- the six comparisons

abbrev pub AnyR : Compare → Type 0
AnyR r = Unit {0}

-- bytes that go on to a comparison
goes-r : (pre w : List ℕ) (r : Compare) → pre ++ w ≡ text_r r → Goes text_r AnyR pre
goes-r pre w r e = record { rest = w; tree = r; valid = tt; spelt = e }

pub ok-sign : (s : List ℕ) → Ok text_r AnyR [] read_sign s
unfolding read_sign text_r
ok-sign s =
    ok-pick text_r AnyR [] (is 61) (expect 61 (expect 61 (give equal))) _ s
    (ok-expect text_r AnyR [] 61 (expect 61 (give equal)) s refl (goes-r [] (61 ∷ 61 ∷ []) equal refl)
    (λ l. ok-expect text_r AnyR (61 ∷ []) 61 (give equal) l refl (goes-r (61 ∷ []) (61 ∷ []) equal refl) (λ m. ok-give text_r AnyR (61 ∷ 61 ∷ []) equal m refl tt)))
    (ok-pick text_r AnyR [] (is 33) (expect 33 (expect 61 (give unequal))) _ s
    (ok-expect text_r AnyR [] 33 (expect 61 (give unequal)) s refl (goes-r [] (61 ∷ 61 ∷ []) equal refl)
    (λ l. ok-expect text_r AnyR (33 ∷ []) 61 (give unequal) l refl (goes-r (33 ∷ []) (61 ∷ []) unequal refl) (λ m. ok-give text_r AnyR (33 ∷ 61 ∷ []) unequal m refl tt)))
    (ok-pick text_r AnyR [] (is 60) (expect 60 (pick (is 61) (expect 61 (give at_most)) (give below))) _ s
    (ok-expect text_r AnyR [] 60 (pick (is 61) (expect 61 (give at_most)) (give below)) s refl (goes-r [] (61 ∷ 61 ∷ []) equal refl)
    (λ l. ok-pick text_r AnyR (60 ∷ []) (is 61) (expect 61 (give at_most)) (give below) l
    (ok-expect text_r AnyR (60 ∷ []) 61 (give at_most) l refl (goes-r (60 ∷ []) [] below refl) (λ m. ok-give text_r AnyR (60 ∷ 61 ∷ []) at_most m refl tt))
    (ok-give text_r AnyR (60 ∷ []) below l refl tt)))
    (ok-expect text_r AnyR [] 62 (pick (is 61) (expect 61 (give at_least)) (give above)) s refl (goes-r [] (61 ∷ 61 ∷ []) equal refl)
    (λ l. ok-pick text_r AnyR (62 ∷ []) (is 61) (expect 61 (give at_least)) (give above) l
    (ok-expect text_r AnyR (62 ∷ []) 61 (give at_least) l refl (goes-r (62 ∷ []) [] above refl) (λ m. ok-give text_r AnyR (62 ∷ 61 ∷ []) at_least m refl tt))
    (ok-give text_r AnyR (62 ∷ []) above l refl tt)))))

-- ---- a comparison

module _ (d : ℕ) where
  abbrev pub ValF : Factor → Type 0
  ValF t = ValidF t d

  -- bytes that go on to a comparison with its operands
  goes-f : (pre w : List ℕ) (a : Side) (r : Compare) (b : Side) → ValidS a → ValidS b → pre ++ w ≡ text_s a ++ (text_r r ++ text_s b) → Goes text_f ValF pre
  unfolding text_f ValidF
  goes-f pre w a r b v u e = record { rest = w; tree = compare a r b; valid = (v, u); spelt = e }

  spelt-eq : (a : Side) → text_s a ++ (61 ∷ 61 ∷ 49 ∷ []) ≡ text_s a ++ (text_r equal ++ text_s (integer false 49 []))
  unfolding text_s text_r
  spelt-eq a = refl

  spelt-one : (a : Side) (r : Compare) → (text_s a ++ text_r r) ++ (49 ∷ []) ≡ text_s a ++ (text_r r ++ text_s (integer false 49 []))
  unfolding text_s
  spelt-one a r = append_assoc (text_s a) (text_r r) (49 ∷ [])

  done-f : (a : Side) (r : Compare) (b : Side) (l : List ℕ) → ValidS a → ValidS b → Ok text_f ValF ((text_s a ++ text_r r) ++ text_s b) (give (compare a r b)) l
  unfolding text_f ValidF
  done-f a r b l v u = ok-give text_f ValF _ (compare a r b) l (append_assoc (text_s a) (text_r r) (text_s b)) (v, u)

  -- a comparison can always be begun
  pub goes-start : Goes text_f ValF []
  unfolding text_s text_r
  goes-start = goes-f [] (49 ∷ 61 ∷ 61 ∷ 49 ∷ []) (integer false 49 []) equal (integer false 49 []) (unit-valid false) (unit-valid false) refl

  pub ok-comparison : (s : List ℕ) → Ok text_f ValF [] read_comparison s
  unfolding read_comparison
  ok-comparison s =
      ok-then text_f ValF [] text_s ValidS read_operand (λ a. and_then read_sign (λ r. and_then read_operand (λ b. give (compare a r b)))) s (ok-operand s)
      (λ a v. goes-f (text_s a) (61 ∷ 61 ∷ 49 ∷ []) a equal (integer false 49 []) v (unit-valid false) (spelt-eq a))
      (λ a l v. ok-then text_f ValF (text_s a) text_r AnyR read_sign (λ r. and_then read_operand (λ b. give (compare a r b))) l (ok-sign l)
      (λ r u. goes-f (text_s a ++ text_r r) (49 ∷ []) a r (integer false 49 []) v (unit-valid false) (spelt-one a r))
      (λ r m u. ok-then text_f ValF (text_s a ++ text_r r) text_s ValidS read_operand (λ b. give (compare a r b)) m (ok-operand m)
      (λ b w. goes-f ((text_s a ++ text_r r) ++ text_s b) [] a r b v w (append-nil _ ∙ append_assoc (text_s a) (text_r r) (text_s b)))
      (λ b n w. done-f a r b n v w)))
