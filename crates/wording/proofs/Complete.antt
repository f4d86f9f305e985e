-- Every tree of the grammar is what its text is read as.
use mathlib.Core.Path.{◌≡◌, refl, sym, ap, subst, ◌∙◌}
use mathlib.Core.Bool.{◌&&◌, ◌||◌, Bool, true, false}
use mathlib.Core.List.{List, [], ◌∷◌, ◌++◌, append_assoc}
use Prim.Native.Nat.{ℕ, zero, suc, ◌+◌, ◌-◌, ◌*◌, ◌≤◌, ◌<◌}
use native.Mathlib.Omega.{arith}
use native.Mathlib.Nat.{le_trans}
use lib.Dec.{eqb, leb}
use borrow.Author.Tests.{leb-true, ne_eqb, le-leb, lt-leb}
use Rattle.octets.proofs.Tests.{both_true}
use Rattle.condition.specs.Token.{Compare, above, at_least, at_most, below, equal, unequal}
use Rattle.wording.proofs.Parts.{clash, digit-range, digits-no, digits-yes, rest-no, rest-yes}
use Rattle.wording.proofs.Whole.{Valid, read_row, spell}
use Rattle.wording.specs.Grammar.{Condition, Factor, Side, Term, ValidC, ValidF, ValidS, ValidT, all, alnum, and, compare, digit, integer, last, letter, limit, name, not, only, or, paren, text_c, text_f, text_s, text_r, text_t, val}
use Rattle.wording.specs.Reader.{Level, Res, TreeOf, expect, and_then, bad, onward, choose, condition, give, factor, good, head0, is, one, out, pick, read, read_comparison, read_digits, read_number, read_operand, read_rest, read_sign, stop, term}

-- x is y, unless the bound on steps was too small
pub data Gives {A : Type 0} (x y : Res A) : Type 0 where
  same : x ≡ y → Gives x y
  short : x ≡ out → Gives x y

pub gives_then : {A B : Type 0} (p : List ℕ → Res A) (k : A → List ℕ → Res B) (s : List ℕ) (a : A) (r : List ℕ) (y : Res B)
    → Gives (p s) (good a r) → Gives (k a r) y → Gives (and_then p k s) y
gives_then {A} {B} p k s a r y (same e) g = subst (λ (x : Res A). Gives (onward x k) y) (sym e) g
gives_then {A} {B} p k s a r y (short e) g = short (ap (λ (x : Res A). onward x k) e)

-- a reader by the next byte, of one byte, and one after another
pick_yes : {A : Type 0} (t : ℕ → Bool) (p q : List ℕ → Res A) (s : List ℕ) → t (head0 s) ≡ true → pick t p q s ≡ p s
pick_yes t p q s e = ap (λ (b : Bool). choose b p q s) e

pick_no : {A : Type 0} (t : ℕ → Bool) (p q : List ℕ → Res A) (s : List ℕ) → t (head0 s) ≡ false → pick t p q s ≡ q s
pick_no t p q s e = ap (λ (b : Bool). choose b p q s) e

one-is : {A : Type 0} (t : ℕ → Bool) (k : ℕ → List ℕ → Res A) (b : ℕ) (r : List ℕ) → t b ≡ true → one t k (b ∷ r) ≡ k b r
one-is t k b r e = ap (λ (x : Bool). choose x (λ l. k b r) bad (b ∷ r)) e

then_is : {A B : Type 0} (p : List ℕ → Res A) (k : A → List ℕ → Res B) (s : List ℕ) (a : A) (r : List ℕ) → p s ≡ good a r → and_then p k s ≡ k a r
then_is {A} p k s a r e = ap (λ (x : Res A). onward x k) e

-- ---- names and numbers

rest-complete : (n r : List ℕ) → all alnum n ≡ true → alnum (head0 r) ≡ false → read_rest (n ++ r) ≡ good n r
unfolding all
rest-complete [] r v e = rest-no r e
rest-complete (b ∷ n) r v e =
    let h = both_true (alnum b) (all alnum n) v in
    rest-yes b (n ++ r) h.0 ∙ ap (λ x. onward x (λ m l. good (b ∷ m) l)) (rest-complete n r h.1 e)

-- more digits make no smaller number
val-le : (n : List ℕ) (v : ℕ) → v ≤ val v n
unfolding val
val-le [] v = omega arith
val-le (b ∷ n) v = let h = val-le n (v * 10 + (b - 48)) in omega arith

digits-complete : (neg : Bool) (n r : List ℕ) (v : ℕ) → all digit n ≡ true → val v n ≤ limit neg → digit (head0 r) ≡ false → read_digits neg v (n ++ r) ≡ good n r
unfolding all val
digits-complete neg [] r v a h e = digits-no neg v r e
digits-complete neg (b ∷ n) r v a h e =
    let g = both_true (digit b) (all digit n) a in
    let m = val-le n (v * 10 + (b - 48)) in
    digits-yes neg v b (n ++ r) g.0 (le-leb (v * 10 + (b - 48)) (limit neg) (le_trans m h))
    ∙ ap (λ x. onward x (λ m l. good (b ∷ m) l)) (digits-complete neg n r (v * 10 + (b - 48)) g.1 h e)

number-complete : (neg : Bool) (b : ℕ) (n r : List ℕ) → ValidS (integer neg b n) → digit (head0 r) ≡ false → read_number neg (b ∷ (n ++ r)) ≡ good (integer neg b n) r
unfolding read_number ValidS
number-complete neg b n r v e =
    one-is digit (λ b. and_then (read_digits neg (b - 48)) (λ n. give (integer neg b n))) b (n ++ r) v.0
    ∙ then_is (read_digits neg (b - 48)) (λ n. give (integer neg b n)) (n ++ r) n r (digits-complete neg n r (b - 48) v.1 v.2 e)

-- letters, digits and other bytes are apart
either-false : (a b : Bool) → (a || b) ≡ false → (a ≡ false) × (b ≡ false)
either-false true b e = absurd (clash (sym e))
either-false false b e = (refl, e)

alnum-digit : (b : ℕ) → alnum b ≡ false → digit b ≡ false
unfolding alnum
alnum-digit b e = (either-false (letter b) (digit b) e).1

pub digit-letter : (b : ℕ) → digit b ≡ true → letter b ≡ false
unfolding letter
digit-letter b e =
    let h = digit-range b e in
    rw (lt-leb 65 b (omega arith), lt-leb 97 b (omega arith)) refl

digit_not : (b x : ℕ) → digit b ≡ true → x < 48 → eqb b x ≡ false
digit_not b x e l = let h = digit-range b e in ne_eqb b x (λ q. omega arith)

either_true : {P : Type 0} (a b : Bool) → (a || b) ≡ true → (a ≡ true → P) → (b ≡ true → P) → P
either_true true b e f g = f refl
either_true false b e f g = g e

letter-range : (b : ℕ) → letter b ≡ true → 65 ≤ b
unfolding letter
letter-range b e =
    either_true (leb 65 b && leb b 90) (leb 97 b && leb b 122) e
    (λ h. leb-true 65 b (both_true (leb 65 b) (leb b 90) h).0)
    (λ h. let z = leb-true 97 b (both_true (leb 97 b) (leb b 122) h).0 in omega arith)

letter-not : (b x : ℕ) → letter b ≡ true → x < 65 → eqb b x ≡ false
letter-not b x e l = let h = letter-range b e in ne_eqb b x (λ q. omega arith)

pub operand-complete : (a : Side) (r : List ℕ) → ValidS a → alnum (head0 r) ≡ false → read_operand (text_s a ++ r) ≡ good a r
unfolding read_operand text_s ValidS letter
operand-complete (name b n) r v e =
    pick_yes letter (one letter (λ b. and_then read_rest (λ n. give (name b n)))) (pick (is 45) (expect 45 (read_number true)) (read_number false)) (b ∷ (n ++ r)) v.0
    ∙ (one-is letter (λ b. and_then read_rest (λ n. give (name b n))) b (n ++ r) v.0
    ∙ then_is read_rest (λ n. give (name b n)) (n ++ r) n r (rest-complete n r v.1 e))
operand-complete (integer true b n) r v e = number-complete true b n r v (alnum-digit (head0 r) e)
operand-complete (integer false b n) r v e =
    pick_no letter (one letter (λ b. and_then read_rest (λ n. give (name b n)))) (pick (is 45) (expect 45 (read_number true)) (read_number false)) (b ∷ (n ++ r)) (digit-letter b v.0)
    ∙ (pick_no (is 45) (expect 45 (read_number true)) (read_number false) (b ∷ (n ++ r)) (digit_not b 45 v.0 (omega arith))
    ∙ number-complete false b n r v (alnum-digit (head0 r) e))

-- ---- comparisons

pub sign-complete : (c : Compare) (r : List ℕ) → eqb (head0 r) 61 ≡ false → read_sign (text_r c ++ r) ≡ good c r
unfolding read_sign text_r
sign-complete equal r e = refl
sign-complete unequal r e = refl
sign-complete below r e = pick_no (is 61) (expect 61 (give at_most)) (give below) r e
sign-complete at_most r e = refl
sign-complete above r e = pick_no (is 61) (expect 61 (give at_least)) (give above) r e
sign-complete at_least r e = refl

sign-head : (c : Compare) (r : List ℕ) → alnum (head0 (text_r c ++ r)) ≡ false
unfolding text_r alnum letter digit
sign-head equal r = refl
sign-head unequal r = refl
sign-head below r = refl
sign-head at_most r = refl
sign-head above r = refl
sign-head at_least r = refl

-- an operand begins with none of the bytes ! ( =
operand-head : (a : Side) (r : List ℕ) → ValidS a → (x : ℕ) → x < 45 → eqb (head0 (text_s a ++ r)) x ≡ false
unfolding text_s ValidS
operand-head (name b n) r v x l = letter-not b x v.0 (omega arith)
operand-head (integer true b n) r v x l = ne_eqb 45 x (λ q. omega arith)
operand-head (integer false b n) r v x l = digit_not b x v.0 (omega arith)

operand-eq : (a : Side) (r : List ℕ) → ValidS a → eqb (head0 (text_s a ++ r)) 61 ≡ false
unfolding text_s ValidS
operand-eq (name b n) r v = letter-not b 61 v.0 (omega arith)
operand-eq (integer true b n) r v = refl
operand-eq (integer false b n) r v = let h = digit-range b v.0 in ne_eqb b 61 (λ q. omega arith)

pub comparison-complete : (a : Side) (c : Compare) (b : Side) (r : List ℕ) → ValidS a → ValidS b → alnum (head0 r) ≡ false
    → read_comparison (text_s a ++ (text_r c ++ (text_s b ++ r))) ≡ good (compare a c b) r
unfolding read_comparison
comparison-complete a c b r v w e =
    then_is read_operand (λ a. and_then read_sign (λ r. and_then read_operand (λ b. give (compare a r b)))) _ a (text_r c ++ (text_s b ++ r))
    (operand-complete a (text_r c ++ (text_s b ++ r)) v (sign-head c (text_s b ++ r)))
    ∙ (then_is read_sign (λ r. and_then read_operand (λ b. give (compare a r b))) _ c (text_s b ++ r) (sign-complete c (text_s b ++ r) (operand-eq b r w))
    ∙ then_is read_operand (λ b. give (compare a c b)) _ b r (operand-complete b r w e))

-- ---- rows

-- the bytes that end a part of each kind
abbrev pub Ends : Level → ℕ → Type 0
Ends factor h = alnum h ≡ false
Ends term h = (alnum h ≡ false) × (eqb h 38 ≡ false)
Ends condition h = (alnum h ≡ false) × (eqb h 38 ≡ false) × (eqb h 124 ≡ false)

module _ {I O : Type 0} (x : ℕ) (end : I → O) (more : I → O → O) (p : List ℕ → Res I) (q : List ℕ → Res O) (same-x : eqb x x ≡ true) where
  row-end : (s : List ℕ) (t : I) (r : List ℕ) → Gives (p s) (good t r) → eqb (head0 r) x ≡ false → Gives (read_row x end more p q s) (good (end t) r)
  row-end s t r g e =
      gives_then p (λ t. pick (is x) (expect x (expect x (and_then q (λ c. give (more t c))))) (give (end t))) s t r (good (end t) r) g
      (same (pick_no (is x) (expect x (expect x (and_then q (λ c. give (more t c))))) (give (end t)) r e))

  row_more : (s : List ℕ) (t : I) (l : List ℕ) (c : O) (r : List ℕ) → Gives (p s) (good t (x ∷ x ∷ l)) → Gives (q l) (good c r)
      → Gives (read_row x end more p q s) (good (more t c) r)
  row_more s t l c r g h =
      gives_then p (λ t. pick (is x) (expect x (expect x (and_then q (λ c. give (more t c))))) (give (end t))) s t (x ∷ x ∷ l) (good (more t c) r) g
      (subst (λ (y : Res O). Gives y (good (more t c) r))
      (sym (pick_yes (is x) (expect x (expect x (and_then q (λ c. give (more t c))))) (give (end t)) (x ∷ x ∷ l) same-x
      ∙ (one-is (is x) (λ b. expect x (and_then q (λ c. give (more t c)))) x (x ∷ l) same-x
      ∙ one-is (is x) (λ b. and_then q (λ c. give (more t c))) x l same-x)))
      (gives_then q (λ c. give (more t c)) l c r (good (more t c) r) h (same refl)))

-- ---- all three

-- the bytes that end a part
alnum-bar : alnum 124 ≡ false
unfolding alnum letter digit
alnum-bar = refl

alnum-and : alnum 38 ≡ false
unfolding alnum letter digit
alnum-and = refl

alnum-shut : alnum 41 ≡ false
unfolding alnum letter digit
alnum-shut = refl

-- one more step, from the parts with one step less
abbrev pub Full : ℕ → Type 0
Full f = (k : Level) (d : ℕ) (t : TreeOf k) (r : List ℕ) → Valid k d t → Ends k (head0 r) → Gives (read f k d (spell k t ++ r)) (good t r)

module _ (f : ℕ) (less : Full f) (d : ℕ) where
  full-condition : (t : Condition) (r : List ℕ) → Valid condition d t → Ends condition (head0 r) → Gives (read (suc f) condition d (text_c t ++ r)) (good t r)
  unfolding read text_c ValidC
  full-condition (last t) r v e = row-end 124 last or (read f term d) (read f condition d) refl (text_t t ++ r) t r (less term d t r v (e.0, e.1)) e.2
  full-condition (or t c) r v e =
      rw (append_assoc (text_t t) (124 ∷ 124 ∷ text_c c) r)
      (row_more 124 last or (read f term d) (read f condition d) refl _ t (text_c c ++ r) c r (less term d t (124 ∷ 124 ∷ (text_c c ++ r)) v.0 (alnum-bar, refl)) (less condition d c r v.1 e))

  full-term : (t : Term) (r : List ℕ) → Valid term d t → Ends term (head0 r) → Gives (read (suc f) term d (text_t t ++ r)) (good t r)
  unfolding read text_t ValidT
  full-term (only t) r v e = row-end 38 only and (read f factor d) (read f term d) refl (text_f t ++ r) t r (less factor d t r v e.0) e.1
  full-term (and t c) r v e =
      rw (append_assoc (text_f t) (38 ∷ 38 ∷ text_t c) r)
      (row_more 38 only and (read f factor d) (read f term d) refl _ t (text_t c ++ r) c r (less factor d t (38 ∷ 38 ∷ (text_t c ++ r)) v.0 alnum-and) (less term d c r v.1 e))

  full-factor : (t : Factor) (r : List ℕ) → Valid factor d t → Ends factor (head0 r) → Gives (read (suc f) factor d (text_f t ++ r)) (good t r)
  unfolding read text_f ValidF
  full-factor (not x) r v e = gives_then (read f factor d) (λ x. give (not x)) (text_f x ++ r) x r (good (not x) r) (less factor d x r v e) (same refl)
  full-factor (paren c) r v e =
      rw (append_assoc (text_c c) (41 ∷ []) r)
      (subst (λ (x : Bool). Gives (choose x stop (expect 40 (and_then (read f condition (d - 1)) (λ c. expect 41 (give (paren c))))) (40 ∷ (text_c c ++ (41 ∷ r)))) (good (paren c) r))
      (sym (ne_eqb d 0 (λ q. let l = v.0 in omega arith)))
      (gives_then (read f condition (d - 1)) (λ c. expect 41 (give (paren c))) (text_c c ++ (41 ∷ r)) c (41 ∷ r) (good (paren c) r)
      (less condition (d - 1) c (41 ∷ r) v.1 (alnum-shut, refl, refl)) (same refl)))
  full-factor (compare a o b) r v e =
      rw (append_assoc (text_s a) (text_r o ++ text_s b) r, append_assoc (text_r o) (text_s b) r)
      (same (pick_no (is 33) (expect 33 (and_then (read f factor d) (λ x. give (not x)))) _ (text_s a ++ (text_r o ++ (text_s b ++ r))) (operand-head a _ v.0 33 (omega arith))
      ∙ (pick_no (is 40) _ read_comparison (text_s a ++ (text_r o ++ (text_s b ++ r))) (operand-head a _ v.0 40 (omega arith))
      ∙ comparison-complete a o b r v.0 v.1 e)))

-- for every bound
pub full : (f : ℕ) → Full f
unfolding read
full zero k d t r v e = short refl
full (suc f) condition d t r v e = full-condition f (full f) d t r v e
full (suc f) term d t r v e = full-term f (full f) d t r v e
full (suc f) factor d t r v e = full-factor f (full f) d t r v e
