-- Operands and comparisons where they lie in a text: one law for each way that their readers end.
use Prim.Native.Nat.{ℕ, suc, ◌+◌, ◌-◌, ◌*◌, ◌/◌, ◌≤◌, ◌<◌}
use mathlib.Core.Path.{◌≡◌, refl, sym, ap, ◌∙◌}
use mathlib.Core.Bool.{Bool, true, false, cond, ◌||◌}
use mathlib.Core.List.{List, [], ◌∷◌}
use native.Mathlib.Omega.{arith}
use lib.Dec.{leb, eqb}
use lib.ListN.{length, take, drop, get_or, length-drop}
use lib.Seq.{drop-drop}
use Rattle.std.specs.Int.{is_in_range}
use Rattle.std.specs.Char.{is_ascii_digit, is_ascii_alphabetic, is_ascii_alphanumeric}
use Rattle.std.specs.List.{prefix_len}
use Rattle.std.proofs.lemmas.List.{take_rest}
use Rattle.std.proofs.lemmas.List.Sums.{prefix_len-le-length}
use borrow.Author.Tests.{le-leb, lt-leb, eq-eqb, ne_eqb, eqb-true, eqb-false}
use Rattle.wording.specs.declared.operands.Operand.{Operand}
use Rattle.wording.specs.declared.operands.Operand.TheVariants.{Name, Number}
use Rattle.std.specs.Prelude.{Result, Ok, Err}
use Rattle.wording.specs.declared.walk.Wrong.{Wrong}
use Rattle.wording.specs.declared.operators.Operator.{Operator}
use Rattle.wording.specs.declared.operators.Operator.TheVariants.{Equal, Unequal, Below, AtMost, Above, AtLeast}
use Rattle.wording.specs.Grammar.{digit, letter, alnum, val, limit, Side, name, integer}
use Rattle.wording.specs.Reader.{Res, good, bad, out, head0, onward, and_then, choose, pick, give, one, is, expect, read_rest, read_digits, read_number, read_operand, read_sign}
use Rattle.wording.specs.Inner.Walk.{wrong}
use Rattle.wording.specs.Inner.Leaf.{digits_found, found_of, sign, sign_of}
use Rattle.wording.proofs.Parts.{rest-no, rest-yes, digits-no, digits-yes, digits-over, digit-range}
use Rattle.wording.proofs.Places.{head_at, byte-here, not-here, expect-yes, pick_is, back}

-- ---- letters and digits, as the code tests them

digit-is : (x : ℕ) → digit x ≡ is_ascii_digit x
unfolding digit
digit-is x = refl

letter-is : (x : ℕ) → letter x ≡ is_ascii_alphabetic x
unfolding letter
letter-is x = refl

turned : (a b c : Bool) → ((b || c) || a) ≡ ((a || b) || c)
turned true true c = refl
turned false true c = refl
turned true false true = refl
turned true false false = refl
turned false false true = refl
turned false false false = refl

alnum-is : (x : ℕ) → alnum x ≡ is_ascii_alphanumeric x
unfolding alnum letter digit
alnum-is x = turned (is_in_range 48 57 x) (is_in_range 65 90 x) (is_in_range 97 122 x)

-- ---- names

-- how many letters and digits a text begins with
abbrev run_of : List ℕ → ℕ
run_of l = prefix_len is_ascii_alphanumeric l

rest-is : (l : List ℕ) → read_rest l ≡ good (take (run_of l) l) (drop (run_of l) l)
unfolding read_rest
rest-is [] = refl
rest-is (b ∷ r) = by b r (is_ascii_alphanumeric b) refl (rest-is r)
  where
    by : (b : ℕ) (r : List ℕ) (x : Bool) → is_ascii_alphanumeric b ≡ x → read_rest r ≡ good (take (run_of r) r) (drop (run_of r) r)
        → read_rest (b ∷ r) ≡ good (take (cond x (1 + run_of r) 0) (b ∷ r)) (drop (cond x (1 + run_of r) 0) (b ∷ r))
    by b r true e h = let q : 1 + run_of r ≡ suc (run_of r) = omega arith in rw q (rest-yes b r (alnum-is b ∙ e) ∙ ap (λ y. onward y (λ n l. good (b ∷ n) l)) h)
    by b r false e h = rest-no (b ∷ r) (alnum-is b ∙ e)

module _ (s : List ℕ) (at : ℕ) where
  next-at : at < length s → drop at s ≡ get_or s at 0 ∷ drop (at + 1) s
  next-at h = byte-here s at (get_or s at 0) (eq-eqb (get_or s at 0) (get_or s at 0) refl) h

  digit-at : (b : Bool) → is_ascii_digit (get_or s at 0) ≡ b → digit (head0 (drop at s)) ≡ b
  digit-at b e = ap digit (head_at s at) ∙ (digit-is (get_or s at 0) ∙ e)

  -- ---- numbers

  pub number-stop : (neg : Bool) (v : ℕ) → at ≤ length s → is_ascii_digit (get_or s at 0) ≡ false → Ok (Number neg v at) ≡ digits_found (length s) neg v (read_digits neg v (drop at s))
  unfolding val
  number-stop neg v h e =
      ap (λ (n : ℕ). Ok (Number neg v n)) (sym (back s at h)) ∙ ap (digits_found (length s) neg v) (sym (digits-no neg v (drop at s) (digit-at false e)))

  over : (neg : Bool) (v d : ℕ) → d ≤ 9 → (limit neg - d) / 10 < v → limit neg < v * 10 + d
  over true v d h g = omega arith
  over false v d h g = omega arith

  under : (neg : Bool) (v d : ℕ) → d ≤ 9 → v ≤ (limit neg - d) / 10 → v * 10 + d ≤ limit neg
  under true v d h g = omega arith
  under false v d h g = omega arith

  digit-low : is_ascii_digit (get_or s at 0) ≡ true → get_or s at 0 - 48 ≤ 9
  digit-low e = let h = digit-range (get_or s at 0) (digit-is (get_or s at 0) ∙ e) in omega arith

  pub number-over : (neg : Bool) (v d : ℕ) → at ≤ length s → is_ascii_digit (get_or s at 0) ≡ true → d ≡ get_or s at 0 - 48 → (limit neg - d) / 10 < v
      → Err (wrong at) ≡ digits_found (length s) neg v (read_digits neg v (drop at s))
  number-over neg v d h e q g =
      let o : leb (v * 10 + (head0 (drop at s) - 48)) (limit neg) ≡ false =
      ap (λ (y : ℕ). leb (v * 10 + (y - 48)) (limit neg)) (head_at s at) ∙ lt-leb (v * 10 + (get_or s at 0 - 48)) (limit neg) (omega (arith, over neg v d (omega (arith, digit-low e)) g)) in
      ap (λ (n : ℕ). Err (wrong n)) (sym (back s at h)) ∙ ap (digits_found (length s) neg v) (sym (digits-over neg v (drop at s) (digit-at true e) o))

  more_of : (neg : Bool) (v b : ℕ) (x : Res (List ℕ)) → digits_found (length s) neg (v * 10 + (b - 48)) x ≡ digits_found (length s) neg v (onward x (λ n m. good (b ∷ n) m))
  unfolding val
  more_of neg v b (good n l) = refl
  more_of neg v b (bad l) = refl
  more_of neg v b out = refl

  pub number_more : (neg : Bool) (v d : ℕ) → at < length s → is_ascii_digit (get_or s at 0) ≡ true → d ≡ get_or s at 0 - 48 → v ≤ (limit neg - d) / 10
      → (r : Result Operand Wrong) → r ≡ digits_found (length s) neg (v * 10 + d) (read_digits neg (v * 10 + d) (drop (at + 1) s)) → r ≡ digits_found (length s) neg v (read_digits neg v (drop at s))
  number_more neg v d h e q g r k =
      let b = get_or s at 0 in
      let u : v * 10 + d ≡ v * 10 + (b - 48) = ap (λ (y : ℕ). v * 10 + y) q in
      let f : leb (v * 10 + (b - 48)) (limit neg) ≡ true = le-leb (v * 10 + (b - 48)) (limit neg) (omega (arith, under neg v d (omega (arith, digit-low e)) g)) in
      k ∙ (ap (λ (y : ℕ). digits_found (length s) neg y (read_digits neg y (drop (at + 1) s))) u
      ∙ (more_of neg v b (read_digits neg (v * 10 + (b - 48)) (drop (at + 1) s))
      ∙ ap (digits_found (length s) neg v) (sym (ap (read_digits neg v) (next-at h) ∙ digits-yes neg v b (drop (at + 1) s) (digit-is b ∙ e) f))))

  pub number-none : (neg : Bool) → at ≤ length s → is_ascii_digit (get_or s at 0) ≡ false → Err (wrong at) ≡ found_of (length s) (read_number neg (drop at s))
  unfolding read_number
  number-none neg h e = ap (λ (n : ℕ). Err (wrong n)) (sym (back s at h)) ∙ ap (found_of (length s)) (sym (one-stop (drop at s) (digit-at false e)))
    where
      one-stop : (l : List ℕ) → digit (head0 l) ≡ false → one digit (λ b. and_then (read_digits neg (b - 48)) (λ n. give (integer neg b n))) l ≡ bad l
      one-stop [] q = refl
      one-stop (b ∷ l) q = ap (λ (y : Bool). choose y (λ m. and_then (read_digits neg (b - 48)) (λ n. give (integer neg b n)) l) bad (b ∷ l)) q

  first_of : (neg : Bool) (b : ℕ) (x : Res (List ℕ)) → digits_found (length s) neg (b - 48) x ≡ found_of (length s) (onward x (λ n. give (integer neg b n)))
  first_of neg b (good n l) = refl
  first_of neg b (bad l) = refl
  first_of neg b out = refl

  pub number-first : (neg : Bool) (d : ℕ) → at < length s → is_ascii_digit (get_or s at 0) ≡ true → d ≡ get_or s at 0 - 48 → (r : Result Operand Wrong)
      → r ≡ digits_found (length s) neg d (read_digits neg d (drop (at + 1) s)) → r ≡ found_of (length s) (read_number neg (drop at s))
  unfolding read_number
  number-first neg d h e q r k =
      let b = get_or s at 0 in
      k ∙ (ap (λ (y : ℕ). digits_found (length s) neg y (read_digits neg y (drop (at + 1) s))) q
      ∙ (first_of neg b (read_digits neg (b - 48) (drop (at + 1) s))
      ∙ ap (found_of (length s)) (sym (ap (one digit (λ b. and_then (read_digits neg (b - 48)) (λ n. give (integer neg b n)))) (next-at h)
      ∙ ap (λ (y : Bool). choose y (λ m. and_then (read_digits neg (b - 48)) (λ n. give (integer neg b n)) (drop (at + 1) s)) bad (b ∷ drop (at + 1) s)) (digit-is b ∙ e)))))

  -- ---- operands

  abbrev read_name : List ℕ → Res Side
  read_name = one letter (λ b. and_then read_rest (λ n. give (name b n)))

  letter-at : (b : Bool) → is_ascii_alphabetic (get_or s at 0) ≡ b → letter (head0 (drop at s)) ≡ b
  letter-at b e = ap letter (head_at s at) ∙ (letter-is (get_or s at 0) ∙ e)

  -- a name ends inside the text
  pub name_inside : (r : ℕ) → at < length s → r ≡ run_of (take (length s - (at + 1)) (drop (at + 1) s)) → at + 1 + r ≤ length s
  name_inside r h e =
      omega (arith, prefix_len-le-length is_ascii_alphanumeric (drop (at + 1) s), length-drop (at + 1) s, ap run_of (take_rest s (at + 1)))

  pub op-name : (r : ℕ) → at < length s → is_ascii_alphabetic (get_or s at 0) ≡ true → r ≡ run_of (take (length s - (at + 1)) (drop (at + 1) s))
      → Ok (Name (at + 1 + r)) ≡ found_of (length s) (read_operand (drop at s))
  unfolding read_operand
  op-name r h c e =
      let b = get_or s at 0 in
      let q : run_of (drop (at + 1) s) ≡ r = sym (e ∙ ap run_of (take_rest s (at + 1))) in
      let reads : read_rest (drop (at + 1) s) ≡ good (take r (drop (at + 1) s)) (drop (at + 1 + r) s) =
      rest-is (drop (at + 1) s) ∙ (ap (λ (k : ℕ). good (take k (drop (at + 1) s)) (drop k (drop (at + 1) s))) q ∙ ap (good (take r (drop (at + 1) s))) (drop-drop r (at + 1) s)) in
      ap (λ (n : ℕ). Ok (Name n)) (sym (back s (at + 1 + r) (name_inside r h e)))
      ∙ ap (found_of (length s)) (sym (pick_is true letter read_name (pick (is 45) (expect 45 (read_number true)) (read_number false)) (drop at s) (letter-at true c)
      ∙ (ap read_name (next-at h) ∙ (ap (λ (y : Bool). choose y (λ m. and_then read_rest (λ n. give (name b n)) (drop (at + 1) s)) bad (b ∷ drop (at + 1) s)) (letter-is b ∙ c)
      ∙ ap (λ y. onward y (λ n. give (name b n))) reads))))

  not-name : is_ascii_alphabetic (get_or s at 0) ≡ false → read_operand (drop at s) ≡ pick (is 45) (expect 45 (read_number true)) (read_number false) (drop at s)
  unfolding read_operand
  not-name c = pick_is false letter read_name (pick (is 45) (expect 45 (read_number true)) (read_number false)) (drop at s) (letter-at false c)

  pub op-minus : is_ascii_alphabetic (get_or s at 0) ≡ false → get_or s at 0 ≡ 45 → at < length s → (r : Result Operand Wrong)
      → r ≡ found_of (length s) (read_number true (drop (at + 1) s)) → r ≡ found_of (length s) (read_operand (drop at s))
  op-minus c b h r k =
      let e = eq-eqb (get_or s at 0) 45 b in
      k ∙ ap (found_of (length s)) (sym (not-name c ∙ (pick_is true (is 45) (expect 45 (read_number true)) (read_number false) (drop at s) (ap (is 45) (head_at s at) ∙ e)
      ∙ expect-yes 45 (read_number true) s at e h refl)))

  pub op-plain : is_ascii_alphabetic (get_or s at 0) ≡ false → (get_or s at 0 ≡ 45 → ⊥) → (r : Result Operand Wrong)
      → r ≡ found_of (length s) (read_number false (drop at s)) → r ≡ found_of (length s) (read_operand (drop at s))
  op-plain c b r k =
      k ∙ ap (found_of (length s)) (sym (not-name c ∙ pick_is false (is 45) (expect 45 (read_number true)) (read_number false) (drop at s) (not-here s at 45 (ne_eqb (get_or s at 0) 45 b))))

-- ---- the six comparisons, by the bytes that stand there

-- what the reader of comparisons gives on these bytes, of a text of n that they end
abbrev pub Gives : ℕ → List ℕ → Result (Operator × ℕ) Wrong → Type 0
Gives n l r = r ≡ sign_of n (read_sign l)

abbrev pub First : List ℕ → ℕ
First l = get_or l 0 0

abbrev pub Second : List ℕ → ℕ
Second l = get_or l 1 0

module _ (n at : ℕ) where
  pub equal_is : (l : List ℕ) → length l + at ≡ n → First l ≡ 61 → Second l ≡ 61 → Gives n l (sign Equal (at + 2))
  unfolding read_sign
  equal_is [] h a b = absurd (omega arith)
  equal_is (x ∷ []) h a b = absurd (omega arith)
  equal_is (x ∷ y ∷ l) h a b = rw (a, b) (ap (sign Equal) (omega arith))

  pub unequal_is : (l : List ℕ) → length l + at ≡ n → First l ≡ 33 → Second l ≡ 61 → Gives n l (sign Unequal (at + 2))
  unfolding read_sign
  unequal_is [] h a b = absurd (omega arith)
  unequal_is (x ∷ []) h a b = absurd (omega arith)
  unequal_is (x ∷ y ∷ l) h a b = rw (a, b) (ap (sign Unequal) (omega arith))

  pub at_most_is : (l : List ℕ) → length l + at ≡ n → First l ≡ 60 → Second l ≡ 61 → Gives n l (sign AtMost (at + 2))
  unfolding read_sign
  at_most_is [] h a b = absurd (omega arith)
  at_most_is (x ∷ []) h a b = absurd (omega arith)
  at_most_is (x ∷ y ∷ l) h a b = rw (a, b) (ap (sign AtMost) (omega arith))

  pub at_least_is : (l : List ℕ) → length l + at ≡ n → First l ≡ 62 → Second l ≡ 61 → Gives n l (sign AtLeast (at + 2))
  unfolding read_sign
  at_least_is [] h a b = absurd (omega arith)
  at_least_is (x ∷ []) h a b = absurd (omega arith)
  at_least_is (x ∷ y ∷ l) h a b = rw (a, b) (ap (sign AtLeast) (omega arith))

  pub below_is : (l : List ℕ) → length l + at ≡ n → First l ≡ 60 → (Second l ≡ 61 → ⊥) → Gives n l (sign Below (at + 1))
  unfolding read_sign
  below_is [] h a b = absurd (omega arith)
  below_is (x ∷ []) h a b = rw a (ap (sign Below) (omega arith))
  below_is (x ∷ y ∷ l) h a b = rw (a, ne_eqb y 61 b) (ap (sign Below) (omega arith))

  pub above_is : (l : List ℕ) → length l + at ≡ n → First l ≡ 62 → (Second l ≡ 61 → ⊥) → Gives n l (sign Above (at + 1))
  unfolding read_sign
  above_is [] h a b = absurd (omega arith)
  above_is (x ∷ []) h a b = rw a (ap (sign Above) (omega arith))
  above_is (x ∷ y ∷ l) h a b = rw (a, ne_eqb y 61 b) (ap (sign Above) (omega arith))

  equal_half : (l : List ℕ) → length l + at ≡ n → First l ≡ 61 → (Second l ≡ 61 → ⊥) → Gives n l (Err (wrong (at + 1)))
  unfolding read_sign
  equal_half [] h a b = absurd (omega arith)
  equal_half (x ∷ []) h a b = rw a (ap (λ (k : ℕ). Err (wrong k)) (omega arith))
  equal_half (x ∷ y ∷ l) h a b = rw (a, ne_eqb y 61 b) (ap (λ (k : ℕ). Err (wrong k)) (omega arith))

  unequal_half : (l : List ℕ) → length l + at ≡ n → First l ≡ 33 → (Second l ≡ 61 → ⊥) → Gives n l (Err (wrong (at + 1)))
  unfolding read_sign
  unequal_half [] h a b = absurd (omega arith)
  unequal_half (x ∷ []) h a b = rw a (ap (λ (k : ℕ). Err (wrong k)) (omega arith))
  unequal_half (x ∷ y ∷ l) h a b = rw (a, ne_eqb y 61 b) (ap (λ (k : ℕ). Err (wrong k)) (omega arith))

  pub half_is : (l : List ℕ) → length l + at ≡ n → ((First l ≡ 61 → ⊥) → First l ≡ 33) → (Second l ≡ 61 → ⊥) → Gives n l (Err (wrong (at + 1)))
  half_is l h a b = by (eqb (First l) 61) refl
    where
      by : (x : Bool) → eqb (First l) 61 ≡ x → Gives n l (Err (wrong (at + 1)))
      by true e = equal_half l h (eqb-true (First l) 61 e) b
      by false e = unequal_half l h (a (eqb-false (First l) 61 e)) b

  pub no_sign : (l : List ℕ) → length l + at ≡ n → (First l ≡ 61 → ⊥) → (First l ≡ 33 → ⊥) → (First l ≡ 60 → ⊥) → (First l ≡ 62 → ⊥) → Gives n l (Err (wrong at))
  unfolding read_sign
  no_sign [] h a b c d = ap (λ (k : ℕ). Err (wrong k)) (omega arith)
  no_sign (x ∷ l) h a b c d = rw (ne_eqb x 61 a, ne_eqb x 33 b, ne_eqb x 60 c, ne_eqb x 62 d) (ap (λ (k : ℕ). Err (wrong k)) (omega arith))
