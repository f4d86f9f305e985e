-- Above so many steps the reader's bound makes no difference.
use mathlib.Core.Path.{◌≡◌, refl, ap, subst, ◌∙◌}
use mathlib.Core.Bool.{Bool, true, false}
use mathlib.Core.List.{List, [], ◌∷◌}
use Prim.Native.Nat.{ℕ, zero, suc, ◌+◌, ◌-◌, ◌*◌, ◌≤◌, ◌<◌}
use native.Mathlib.Omega.{arith}
use lib.Dec.{eqb, leb}
use lib.ListN.{length, length-append}
use Rattle.condition.specs.Token.{above, at_least, at_most, below, equal, unequal}
use Rattle.wording.proofs.Keeps.{OkOf, Read}
use Rattle.wording.proofs.Whole.{Valid, ok_read, read_row, spell}
use Rattle.wording.specs.Grammar.{alnum, and, compare, digit, integer, last, letter, limit, name, not, only, or, paren}
use Rattle.wording.specs.Inner.Walk.{rank}
use Rattle.wording.specs.Reader.{Level, Res, TreeOf, expect, and_then, bad, onward, choose, condition, give, factor, good, head0, is, one, out, pick, read, read_comparison, read_digits, read_number, read_operand, read_rest, read_sign, stop, term}

-- the bound was large enough
abbrev pub Settled : {A : Type 0} → Res A → Type 0
Settled (good a r) = Unit {0}
Settled (bad r) = Unit {0}
Settled out = ⊥

then-settled : {A B : Type 0} (p : List ℕ → Res A) (k : A → List ℕ → Res B) (s : List ℕ) → Settled (p s) → ((a : A) (r : List ℕ) → p s ≡ good a r → Settled (k a r)) → Settled (and_then p k s)
then-settled {A} p k s g h = by (p s) refl g
  where
    by : (x : Res A) → p s ≡ x → Settled x → Settled (onward x k)
    by (good a r) e g = h a r e
    by (bad r) e g = tt
    by out e g = g

choose-settled : {A : Type 0} (b : Bool) (p q : List ℕ → Res A) (s : List ℕ) → Settled (p s) → Settled (q s) → Settled (choose b p q s)
choose-settled true p q s g h = g
choose-settled false p q s g h = h

one-settled : {A : Type 0} (t : ℕ → Bool) (k : ℕ → List ℕ → Res A) (s : List ℕ) → ((b : ℕ) (r : List ℕ) → length s ≡ suc (length r) → Settled (k b r)) → Settled (one t k s)
one-settled t k [] h = tt
one-settled t k (b ∷ r) h = choose-settled (t b) (λ l. k b r) bad (b ∷ r) (h b r refl) tt

rest-settled : (s : List ℕ) → Settled (read_rest s)
unfolding read_rest
rest-settled [] = tt
rest-settled (b ∷ r) = choose-settled (alnum b) (λ l. onward (read_rest r) (λ n l. good (b ∷ n) l)) (good []) (b ∷ r) (then-settled read_rest (λ n l. good (b ∷ n) l) r (rest-settled r) (λ a l e. tt)) tt

digits-settled : (neg : Bool) (s : List ℕ) (v : ℕ) → Settled (read_digits neg v s)
unfolding read_digits
digits-settled neg [] v = tt
digits-settled neg (b ∷ r) v =
    choose-settled (digit b) (choose (leb (v * 10 + (b - 48)) (limit neg)) (λ l. onward (read_digits neg (v * 10 + (b - 48)) r) (λ n l. good (b ∷ n) l)) bad) (good []) (b ∷ r)
    (choose-settled (leb (v * 10 + (b - 48)) (limit neg)) (λ l. onward (read_digits neg (v * 10 + (b - 48)) r) (λ n l. good (b ∷ n) l)) bad (b ∷ r)
    (then-settled (read_digits neg (v * 10 + (b - 48))) (λ n l. good (b ∷ n) l) r (digits-settled neg r (v * 10 + (b - 48))) (λ a l e. tt)) tt) tt

number-settled : (neg : Bool) (s : List ℕ) → Settled (read_number neg s)
unfolding read_number
number-settled neg s =
    one-settled digit (λ b. and_then (read_digits neg (b - 48)) (λ n. give (integer neg b n))) s
    (λ b r e. then-settled (read_digits neg (b - 48)) (λ n. give (integer neg b n)) r (digits-settled neg r (b - 48)) (λ a l e. tt))

pub operand-settled : (s : List ℕ) → Settled (read_operand s)
unfolding read_operand
operand-settled s =
    choose-settled (letter (head0 s)) (one letter (λ b. and_then read_rest (λ n. give (name b n)))) (pick (is 45) (expect 45 (read_number true)) (read_number false)) s
    (one-settled letter (λ b. and_then read_rest (λ n. give (name b n))) s (λ b r e. then-settled read_rest (λ n. give (name b n)) r (rest-settled r) (λ a l e. tt)))
    (choose-settled (is 45 (head0 s)) (expect 45 (read_number true)) (read_number false) s (one-settled (is 45) (λ b. read_number true) s (λ b r e. number-settled true r)) (number-settled false s))

pub sign-settled : (s : List ℕ) → Settled (read_sign s)
unfolding read_sign
sign-settled s =
    choose-settled (is 61 (head0 s)) (expect 61 (expect 61 (give equal))) _ s (one-settled (is 61) (λ b. expect 61 (give equal)) s (λ b r e. one-settled (is 61) (λ b. give equal) r (λ b r e. tt)))
    (choose-settled (is 33 (head0 s)) (expect 33 (expect 61 (give unequal))) _ s (one-settled (is 33) (λ b. expect 61 (give unequal)) s (λ b r e. one-settled (is 61) (λ b. give unequal) r (λ b r e. tt)))
    (choose-settled (is 60 (head0 s)) (expect 60 (pick (is 61) (expect 61 (give at_most)) (give below))) _ s
    (one-settled (is 60) (λ b. pick (is 61) (expect 61 (give at_most)) (give below)) s
    (λ b r e. choose-settled (is 61 (head0 r)) (expect 61 (give at_most)) (give below) r (one-settled (is 61) (λ b. give at_most) r (λ b r e. tt)) tt))
    (one-settled (is 62) (λ b. pick (is 61) (expect 61 (give at_least)) (give above)) s
    (λ b r e. choose-settled (is 61 (head0 r)) (expect 61 (give at_least)) (give above) r (one-settled (is 61) (λ b. give at_least) r (λ b r e. tt)) tt))))

comparison-settled : (s : List ℕ) → Settled (read_comparison s)
unfolding read_comparison
comparison-settled s =
    then-settled read_operand (λ a. and_then read_sign (λ r. and_then read_operand (λ b. give (compare a r b)))) s (operand-settled s)
    (λ a l e. then-settled read_sign (λ r. and_then read_operand (λ b. give (compare a r b))) l (sign-settled l)
    (λ r m e. then-settled read_operand (λ b. give (compare a r b)) m (operand-settled m) (λ b n e. tt)))

-- what is left is no longer than the text
shorter : (f : ℕ) (k : Level) (d : ℕ) (s : List ℕ) (t : TreeOf k) (r : List ℕ) → read f k d s ≡ good t r → length r ≤ length s
shorter f k d s t r e =
    let g : Read (spell k) (Valid k d) [] (read f k d) s t r = subst (λ (x : Res (TreeOf k)). OkOf (spell k) (Valid k d) [] (read f k d) s x) e (ok_read f k d s) in
    omega (arith, ap length g.text ∙ length-append g.part r)

-- three for each byte, and one for each level below
abbrev pub steps : Level → List ℕ → ℕ
steps k s = 3 * length s + rank k

row_settled : {I O : Type 0} (x : ℕ) (end : I → O) (more : I → O → O) (p : List ℕ → Res I) (q : List ℕ → Res O) (s : List ℕ)
    → Settled (p s) → ((t : I) (r : List ℕ) → p s ≡ good t r → length r ≤ length s) → ((l : List ℕ) → length l < length s → Settled (q l))
    → Settled (read_row x end more p q s)
row_settled x end more p q s g w h =
    then-settled p (λ t. pick (is x) (expect x (expect x (and_then q (λ c. give (more t c))))) (give (end t))) s g
    (λ t r e. let z = w t r e in
    choose-settled (is x (head0 r)) (expect x (expect x (and_then q (λ c. give (more t c))))) (give (end t)) r
    (one-settled (is x) (λ b. expect x (and_then q (λ c. give (more t c)))) r
    (λ b m e1. one-settled (is x) (λ b. and_then q (λ c. give (more t c))) m
    (λ c n e2. then-settled q (λ c. give (more t c)) n (h n (omega arith)) (λ a l e. tt)))) tt)

pub read-settled : (f : ℕ) (k : Level) (d : ℕ) (s : List ℕ) → steps k s < f → Settled (read f k d s)
unfolding read
read-settled zero k d s h = absurd (omega arith)
read-settled (suc f) condition d s h =
    row_settled 124 last or (read f term d) (read f condition d) s (read-settled f term d s (omega arith)) (shorter f term d s) (λ l g. read-settled f condition d l (omega arith))
read-settled (suc f) term d s h =
    row_settled 38 only and (read f factor d) (read f term d) s (read-settled f factor d s (omega arith)) (shorter f factor d s) (λ l g. read-settled f term d l (omega arith))
read-settled (suc f) factor d s h =
    choose-settled (is 33 (head0 s)) (expect 33 (and_then (read f factor d) (λ x. give (not x)))) _ s
    (one-settled (is 33) (λ b. and_then (read f factor d) (λ x. give (not x))) s
    (λ b r e. then-settled (read f factor d) (λ x. give (not x)) r (read-settled f factor d r (omega arith)) (λ a l e. tt)))
    (choose-settled (is 40 (head0 s)) (choose (eqb d 0) stop (expect 40 (and_then (read f condition (d - 1)) (λ c. expect 41 (give (paren c)))))) read_comparison s
    (choose-settled (eqb d 0) stop (expect 40 (and_then (read f condition (d - 1)) (λ c. expect 41 (give (paren c))))) s tt
    (one-settled (is 40) (λ b. and_then (read f condition (d - 1)) (λ c. expect 41 (give (paren c)))) s
    (λ b r e. then-settled (read f condition (d - 1)) (λ c. expect 41 (give (paren c))) r (read-settled f condition (d - 1) r (omega arith))
    (λ a l e. one-settled (is 41) (λ b. give (paren a)) l (λ b r e. tt)))))
    (comparison-settled s))
