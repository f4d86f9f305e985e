-- One reading of a text, and one offset where it is refused: both by the grammar's trees alone.
use mathlib.Core.Path.{◌≡◌, refl, sym, ap, subst, ◌∙◌}
use mathlib.Core.Bool.{Bool, true, false}
use mathlib.Core.List.{List, [], ◌∷◌, ◌++◌, append_assoc, append-nil}
use Prim.Native.Nat.{ℕ, suc, ◌+◌, ◌-◌, ◌*◌, ◌<◌}
use native.Mathlib.Omega.{arith}
use lib.Dec.{ltb}
use borrow.Author.Tests.{ltb-true, ltb-false}
use lib.ListN.{length, length-append, take, drop, take-append-drop}
use lib.Seq.{take_at, take-take}
use Rattle.wording.proofs.Complete.{Gives, full, same, short}
use Rattle.wording.proofs.Ending.{Settled, read-settled}
use Rattle.wording.proofs.Keeps.{OkOf}
use Rattle.wording.proofs.Parts.{alnum-zero}
use Rattle.wording.proofs.Whole.{ok_read}
use Rattle.wording.specs.Grammar.{Condition, Goes, InGrammar, Stops, text_c}
use Rattle.wording.specs.Reader.{Reading, Res, accepted, bad, bound, condition, end_of, good, head0, out, read, reading, refused}

-- a reader's answer that is neither this tree nor `out` is of no text of the tree
never : (f : ℕ) (c : Condition) (t : List ℕ) (y : Res Condition) → InGrammar c → text_c c ≡ t → read f condition 12 t ≡ y → (y ≡ good c [] → ⊥) → (y ≡ out → ⊥) → ⊥
never f c t y v e h g o = by (full f condition 12 c [] v (alnum-zero, refl, refl))
  where
    whole : text_c c ++ [] ≡ t
    whole = append-nil (text_c c) ∙ e

    by : Gives (read f condition 12 (text_c c ++ [])) (good c []) → ⊥
    by (same x) = g (sym h ∙ (ap (read f condition 12) (sym whole) ∙ x))
    by (short x) = o (sym h ∙ (ap (read f condition 12) (sym whole) ∙ x))

bad-good : (l : List ℕ) (c : Condition) (r : List ℕ) → bad l ≡ good c r → ⊥
bad-good l c r e = cc

bad-out : (l : List ℕ) → ◌≡◌ {A = Res Condition} (bad l) out → ⊥
bad-out l e = cc

good-out : (c : Condition) (l : List ℕ) → good c l ≡ out → ⊥
good-out c l e = cc

good_more : (c e : Condition) (b : ℕ) (l : List ℕ) → good c (b ∷ l) ≡ good e [] → ⊥
good_more c e b l h = cc

cons-nil : (b : ℕ) (r : List ℕ) → (b ∷ r) ≡ [] → ⊥
cons-nil b r e = cc

-- one byte more
take_next : (p : List ℕ) (b : ℕ) (l : List ℕ) → take (suc (length p)) (p ++ (b ∷ l)) ≡ p ++ (b ∷ [])
take_next [] b l = refl
take_next (x ∷ p) b l = ap (λ (y : List ℕ). x ∷ y) (take_next p b l)

-- from the part before the refused byte
module _ (s part r : List ℕ) (text : s ≡ part ++ r) (go : Goes text_c InGrammar part)
    (more : (b : ℕ) (l w : List ℕ) → r ≡ b ∷ l → (c : Condition) → InGrammar c → text_c c ≡ part ++ (b ∷ w) → ⊥)
    (ended : r ≡ [] → (c : Condition) → InGrammar c → text_c c ≡ part → ⊥) where
  place : length s - length r ≡ length part
  place = omega (arith, ap length text ∙ length-append part r)

  taken : take (length part) s ≡ part
  taken = ap (take (length part)) text ∙ take_at part r (length part) refl

  no-more-at : (q : List ℕ) → r ≡ q → (c : Condition) (w : List ℕ) → InGrammar c → length part < length s → text_c c ≡ take (suc (length part)) s ++ w → ⊥
  no-more-at [] e c w v h x = omega (arith, ap length text ∙ length-append part r, ap length e)
  no-more-at (b ∷ l) e c w v h x =
      more b l w e c v (x ∙ (ap (λ (y : List ℕ). take (suc (length part)) y ++ w) (text ∙ ap (λ (y : List ℕ). part ++ y) e) ∙ (ap (λ (y : List ℕ). y ++ w) (take_next part b l) ∙ append_assoc part (b ∷ []) w)))

  not-whole-at : (q : List ℕ) → r ≡ q → (c : Condition) → InGrammar c → length part ≡ length s → text_c c ≡ s → ⊥
  not-whole-at [] e c v h x = ended e c v (x ∙ (text ∙ (ap (λ (l : List ℕ). part ++ l) e ∙ append-nil part)))
  not-whole-at (b ∷ l) e c v h x = omega (arith, ap length text ∙ length-append part r, ap length e)

  stops_at : Stops s (length s - length r)
  stops_at =
      subst (λ (k : ℕ). Stops s k) (sym place)
      (record {
        inside = omega (arith, ap length text ∙ length-append part r);
        goes = rw taken go;
        no_more = no-more-at r refl;
        not-whole = not-whole-at r refl;
      })

-- ---- what a reading says, by how the reader ends

abbrev Says : List ℕ → Reading → Type 0
Says s (accepted c) = (s ≡ text_c c) × InGrammar c
Says s (refused k) = Stops s k

says_of : (f : ℕ) (s : List ℕ) (x : Res Condition) → OkOf text_c InGrammar [] (read f condition 12) s x → Settled x → Says s (end_of (length s) x)
says_of f s (good c []) g t = (g.text ∙ (append-nil g.part ∙ g.spelt), g.valid)
says_of f s (good c (b ∷ r)) g t =
    stops_at s g.part (b ∷ r) g.text (record { rest = []; tree = c; valid = g.valid; spelt = append-nil g.part ∙ g.spelt })
    (λ x l w e d v q. never f d (g.part ++ (x ∷ w)) (good c (x ∷ w)) v q (g.local (x ∷ w) (sym (ap head0 e))) (good_more c d x w) (good-out c (x ∷ w)))
    (λ e. absurd (cons-nil b r e))
says_of f s (bad r) g t =
    stops_at s g.part r g.text g.goes
    (λ x l w e d v q. never f d (g.part ++ (x ∷ w)) (bad (x ∷ w)) v q (g.local (x ∷ w) (sym (ap head0 e))) (bad-good (x ∷ w) d []) (bad-out (x ∷ w)))
    (λ e d v q. never f d (g.part ++ []) (bad []) v (q ∙ sym (append-nil g.part)) (g.local [] (sym (ap head0 e))) (bad-good [] d []) (bad-out []))
says_of f s out g t = absurd t

-- for every text
pub says : (s : List ℕ) → Says s (reading s)
unfolding reading
says s = says_of (bound s) s (read (bound s) condition 12 s) (ok_read (bound s) condition 12 s) (read-settled (bound s) condition 12 s (omega arith))

-- ---- the theorems

-- what is accepted is the text of the tree that is given
pub sound : (s : List ℕ) (c : Condition) → reading s ≡ accepted c → (s ≡ text_c c) × InGrammar c
sound s c e = subst (λ (a : Reading). Says s a) e (says s)

-- where it is refused, that is the offset
pub offset : (s : List ℕ) (k : ℕ) → reading s ≡ refused k → Stops s k
offset s k e = subst (λ (a : Reading). Says s a) e (says s)

-- a text with an offset is no condition's
stops-not : (s : List ℕ) (k : ℕ) (c : Condition) → Stops s k → InGrammar c → text_c c ≡ s → ⊥
stops-not s k c g v e = by (ltb k (length s)) refl
  where
    by : (b : Bool) → ltb k (length s) ≡ b → ⊥
    by true x = g.no_more c (drop (suc k) s) v (ltb-true k (length s) x) (e ∙ sym (take-append-drop (suc k) s))
    by false x = let l = g.inside in let m = ltb-false k (length s) x in g.not-whole c v (omega arith) e

-- every condition in the grammar is read from its text
pub complete : (c : Condition) → InGrammar c → reading (text_c c) ≡ accepted c
unfolding reading
complete c v = ap (end_of (length (text_c c))) (by (full f condition 12 c [] v (alnum-zero, refl, refl)))
  where
    f : ℕ
    f = 3 * length (text_c c) + 3

    settled : Settled (read f condition 12 (text_c c))
    settled = read-settled f condition 12 (text_c c) (omega arith)

    by : Gives (read f condition 12 (text_c c ++ [])) (good c []) → read f condition 12 (text_c c) ≡ good c []
    by (same x) = rw append-nil at x
    by (short x) = absurd (subst (λ (y : Res Condition). Settled y) (rw append-nil at x) settled)

-- a text has one reading
pub one-reading : (c e : Condition) → InGrammar c → InGrammar e → text_c c ≡ text_c e → c ≡ e
one-reading c e v w h = let x = sym (complete c v) ∙ (ap reading h ∙ complete e w) in cc

-- two offsets: the earlier one leaves no continuation for the later
not-before : (s : List ℕ) (k m : ℕ) → Stops s k → Stops s m → k < m → ⊥
not-before s k m g h l =
    let t = h.goes in
    let i = h.inside in
    let e : take m s ≡ take (suc k) s ++ drop (suc k) (take m s) = sym (take-append-drop (suc k) (take m s)) ∙ ap (λ (y : List ℕ). y ++ drop (suc k) (take m s)) (take-take (suc k) m s l) in
    g.no_more t.tree (drop (suc k) (take m s) ++ t.rest) t.valid (omega arith)
    (sym t.spelt ∙ (ap (λ (y : List ℕ). y ++ t.rest) e ∙ append_assoc (take (suc k) s) (drop (suc k) (take m s)) t.rest))

-- a text has one offset
pub one-offset : (s : List ℕ) (k m : ℕ) → Stops s k → Stops s m → k ≡ m
one-offset s k m g h = by (ltb k m) (ltb m k) refl refl
  where
    by : (x y : Bool) → ltb k m ≡ x → ltb m k ≡ y → k ≡ m
    by true y e f = absurd (not-before s k m g h (ltb-true k m e))
    by false true e f = absurd (not-before s m k h g (ltb-true m k f))
    by false false e f = let a = ltb-false k m e in let b = ltb-false m k f in omega arith

-- and so it is refused just there
pub refused-there : (s : List ℕ) (k : ℕ) → Stops s k → reading s ≡ refused k
refused-there s k g = by (reading s) refl (says s)
  where
    by : (a : Reading) → reading s ≡ a → Says s a → reading s ≡ refused k
    by (accepted c) e h = absurd (stops-not s k c g h.1 (sym h.0))
    by (refused m) e h = e ∙ ap refused (one-offset s m k h g)
