-- Conditions, terms and factors are read rightly.
use mathlib.Core.Path.{◌≡◌, refl, ap, ◌∙◌}
use mathlib.Core.Bool.{Bool, true, false}
use mathlib.Core.List.{List, [], ◌∷◌, ◌++◌, append_assoc, append-nil}
use Prim.Native.Nat.{ℕ, zero, suc, ◌-◌, ◌<◌}
use native.Mathlib.Omega.{arith}
use lib.Dec.{eqb}
use borrow.Author.Tests.{eqb-false}
use Rattle.wording.proofs.Keeps.{Ok, ok-expect, ok-give, ok-pick, ok-stop, ok-then}
use Rattle.wording.proofs.Parts.{goes-start, ok-comparison}
use Rattle.wording.specs.Grammar.{Condition, Factor, Goes, ValidC, ValidF, ValidT, and, last, not, only, or, paren, text_c, text_f, text_t}
use Rattle.wording.specs.Reader.{Level, Res, TreeOf, expect, and_then, choose, condition, give, factor, is, pick, read, read_comparison, stop, term}

-- the text of a tree of each level, and whether it is in the grammar
abbrev pub spell : (k : Level) → TreeOf k → List ℕ
spell condition t = text_c t
spell term t = text_t t
spell factor t = text_f t

abbrev pub Valid : (k : Level) → ℕ → TreeOf k → Type 0
Valid condition d t = ValidC t d
Valid term d t = ValidT t d
Valid factor d t = ValidF t d

-- ---- a row of parts joined by x twice: conditions of terms, terms of factors

abbrev pub read_row : {I O : Type 0} → ℕ → (I → O) → (I → O → O) → (List ℕ → Res I) → (List ℕ → Res O) → List ℕ → Res O
read_row x end more p q = and_then p (λ t. pick (is x) (expect x (expect x (and_then q (λ c. give (more t c))))) (give (end t)))

module _ {I O : Type 0} (x : ℕ) (end : I → O) (more : I → O → O) (p : List ℕ → Res I) (q : List ℕ → Res O)
    (spell_i : I → List ℕ) (spell_o : O → List ℕ) (ValidI : I → Type 0) (ValidO : O → Type 0)
    (z : eqb 0 x ≡ false)
    (spell-end : (t : I) → spell_i t ≡ spell_o (end t)) (spell-more : (t : I) (c : O) → spell_i t ++ x ∷ x ∷ spell_o c ≡ spell_o (more t c))
    (valid-end : (t : I) → ValidI t → ValidO (end t)) (valid-more : (t : I) (c : O) → ValidI t → ValidO c → ValidO (more t c))
    (start : Goes spell_i ValidI []) where
  -- a part can end the row; with x behind it once, another part goes on
  row_goes : (t : I) → ValidI t → Goes spell_o ValidO (spell_i t)
  row_goes t v = record { rest = []; tree = end t; valid = valid-end t v; spelt = append-nil (spell_i t) ∙ spell-end t }

  row-goes-2 : (t : I) → ValidI t → Goes spell_o ValidO (spell_i t ++ (x ∷ []))
  row-goes-2 t v =
      record {
        rest = x ∷ start.rest;
        tree = more t (end start.tree);
        valid = valid-more t (end start.tree) v (valid-end start.tree start.valid);
        spelt = append_assoc (spell_i t) (x ∷ []) (x ∷ start.rest) ∙ (ap (λ (l : List ℕ). spell_i t ++ x ∷ x ∷ l) (start.spelt ∙ spell-end start.tree) ∙ spell-more t (end start.tree));
      }

  row-eq : (t : I) (c : O) → ((spell_i t ++ (x ∷ [])) ++ (x ∷ [])) ++ spell_o c ≡ spell_o (more t c)
  row-eq t c = simp append_assoc (spell-more t c)

  pub ok-row : (s : List ℕ) → Ok spell_i ValidI [] p s → ((l : List ℕ) → Ok spell_o ValidO [] q l) → Ok spell_o ValidO [] (read_row x end more p q) s
  ok-row s g h =
      ok-then spell_o ValidO [] spell_i ValidI p (λ t. pick (is x) (expect x (expect x (and_then q (λ c. give (more t c))))) (give (end t))) s g row_goes
      (λ t l v. ok-pick spell_o ValidO (spell_i t) (is x) (expect x (expect x (and_then q (λ c. give (more t c))))) (give (end t)) l
      (ok-expect spell_o ValidO (spell_i t) x (expect x (and_then q (λ c. give (more t c)))) l z (row_goes t v)
      (λ m. ok-expect spell_o ValidO (spell_i t ++ (x ∷ [])) x (and_then q (λ c. give (more t c))) m z (row-goes-2 t v)
      (λ n. ok-then spell_o ValidO ((spell_i t ++ (x ∷ [])) ++ (x ∷ [])) spell_o ValidO q (λ c. give (more t c)) n (h n)
      (λ c w. record { rest = []; tree = more t c; valid = valid-more t c v w; spelt = append-nil _ ∙ row-eq t c })
      (λ c o w. ok-give spell_o ValidO _ (more t c) o (row-eq t c) (valid-more t c v w)))))
      (ok-give spell_o ValidO (spell_i t) (end t) l (spell-end t) (valid-end t v)))

-- any level can be begun
pub goes-term : (d : ℕ) → Goes (spell term) (Valid term d) []
unfolding text_t ValidT
goes-term d = let g = goes-start d in record { rest = g.rest; tree = only g.tree; valid = g.valid; spelt = g.spelt }

pub goes-condition : (d : ℕ) → Goes (spell condition) (Valid condition d) []
unfolding text_c ValidC
goes-condition d = let g = goes-term d in record { rest = g.rest; tree = last g.tree; valid = g.valid; spelt = g.spelt }

-- ---- a factor

module _ (d : ℕ) where
  goes-not : Goes (spell factor) (Valid factor d) (33 ∷ [])
  unfolding text_f ValidF
  goes-not = let g = goes-start d in record { rest = g.rest; tree = not g.tree; valid = g.valid; spelt = ap (λ (l : List ℕ). 33 ∷ l) g.spelt }

  ok-not : (p : List ℕ → Res Factor) → ((l : List ℕ) → Ok (spell factor) (Valid factor d) [] p l) → (s : List ℕ)
      → Ok (spell factor) (Valid factor d) [] (expect 33 (and_then p (λ x. give (not x)))) s
  unfolding text_f ValidF
  ok-not p h s =
      ok-expect (spell factor) (Valid factor d) [] 33 (and_then p (λ x. give (not x))) s refl (goes-start d)
      (λ l. ok-then (spell factor) (Valid factor d) (33 ∷ []) (spell factor) (Valid factor d) p (λ x. give (not x)) l (h l)
      (λ x v. record { rest = []; tree = not x; valid = v; spelt = append-nil _ })
      (λ x m v. ok-give (spell factor) (Valid factor d) (33 ∷ text_f x) (not x) m refl v))

  ok-paren : (p : List ℕ → Res Condition) → 0 < d → ((l : List ℕ) → Ok (spell condition) (Valid condition (d - 1)) [] p l) → (s : List ℕ)
      → Ok (spell factor) (Valid factor d) [] (expect 40 (and_then p (λ c. expect 41 (give (paren c))))) s
  unfolding text_f ValidF
  ok-paren p o h s =
      ok-expect (spell factor) (Valid factor d) [] 40 (and_then p (λ c. expect 41 (give (paren c)))) s refl (goes-start d)
      (λ l. ok-then (spell factor) (Valid factor d) (40 ∷ []) (spell condition) (Valid condition (d - 1)) p (λ c. expect 41 (give (paren c))) l (h l)
      (λ c v. record { rest = 41 ∷ []; tree = paren c; valid = (o, v); spelt = refl })
      (λ c m v. ok-expect (spell factor) (Valid factor d) (40 ∷ text_c c) 41 (give (paren c)) m refl
      (record { rest = 41 ∷ []; tree = paren c; valid = (o, v); spelt = refl })
      (λ n. ok-give (spell factor) (Valid factor d) (40 ∷ (text_c c ++ (41 ∷ []))) (paren c) n refl (o, v))))

  -- where no parenthesis is left to open, the reader stops before it
  ok-open : (p : List ℕ → Res Condition) → ((l : List ℕ) → Ok (spell condition) (Valid condition (d - 1)) [] p l) → (s : List ℕ) (b : Bool) → eqb d 0 ≡ b
      → Ok (spell factor) (Valid factor d) [] (choose b stop (expect 40 (and_then p (λ c. expect 41 (give (paren c)))))) s
  ok-open p h s true e = ok-stop (spell factor) (Valid factor d) [] s (goes-start d)
  ok-open p h s false e = ok-paren p (let n = eqb-false d 0 e in omega arith) h s

-- ---- all three

pub ok_read : (f : ℕ) (k : Level) (d : ℕ) (s : List ℕ) → Ok (spell k) (Valid k d) [] (read f k d) s
unfolding read text_c text_t ValidC ValidT
ok_read zero k d s = tt
ok_read (suc f) condition d s =
    ok-row 124 last or (read f term d) (read f condition d) text_t text_c (Valid term d) (Valid condition d) refl (λ t. refl) (λ t c. refl) (λ t v. v) (λ t c v w. (v, w)) (goes-term d)
    s (ok_read f term d s) (ok_read f condition d)
ok_read (suc f) term d s =
    ok-row 38 only and (read f factor d) (read f term d) text_f text_t (Valid factor d) (Valid term d) refl (λ t. refl) (λ t c. refl) (λ t v. v) (λ t c v w. (v, w)) (goes-start d)
    s (ok_read f factor d s) (ok_read f term d)
ok_read (suc f) factor d s =
    ok-pick (spell factor) (Valid factor d) [] (is 33) (expect 33 (and_then (read f factor d) (λ x. give (not x)))) _ s (ok-not d (read f factor d) (ok_read f factor d) s)
    (ok-pick (spell factor) (Valid factor d) [] (is 40) (choose (eqb d 0) stop (expect 40 (and_then (read f condition (d - 1)) (λ c. expect 41 (give (paren c)))))) read_comparison s
    (ok-open d (read f condition (d - 1)) (ok_read f condition (d - 1)) s (eqb d 0) refl) (ok-comparison d s))
