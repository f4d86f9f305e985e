-- What each part of a reader keeps: what is read is the tree's text; where it stops, some rest completes what stands before; in both the next byte alone decides.
use mathlib.Core.Path.{◌≡◌, refl, sym, ap, subst, ◌∙◌}
use mathlib.Core.Bool.{Bool, true, false}
use mathlib.Core.List.{List, [], ◌∷◌, ◌++◌, append_assoc, append-nil}
use Prim.Native.Nat.{ℕ}
use lib.Dec.{eqb}
use borrow.Author.Tests.{eqb-true}
use Rattle.wording.specs.Grammar.{Goes}
use Rattle.wording.specs.Reader.{Res, expect, and_then, bad, onward, choose, give, good, head0, is, one, out, pick, stop}

pub head-same : (v a b : List ℕ) → head0 a ≡ head0 b → head0 (v ++ a) ≡ head0 (v ++ b)
head-same [] a b h = h
head-same (x ∷ v) a b h = refl

pub record Read {A : Type 0} (spell : A → List ℕ) (Valid : A → Type 0) (pre : List ℕ) (p : List ℕ → Res A) (s : List ℕ) (b : A) (r : List ℕ) : Type 0 where
  pub part : List ℕ
  pub text : s ≡ part ++ r
  pub spelt : pre ++ part ≡ spell b
  pub valid : Valid b
  pub local : (l : List ℕ) → head0 l ≡ head0 r → p (part ++ l) ≡ good b l

pub record Stopped {A : Type 0} (spell : A → List ℕ) (Valid : A → Type 0) (pre : List ℕ) (p : List ℕ → Res A) (s : List ℕ) (r : List ℕ) : Type 0 where
  pub part : List ℕ
  pub text : s ≡ part ++ r
  pub goes : Goes spell Valid (pre ++ part)
  pub local : (l : List ℕ) → head0 l ≡ head0 r → p (part ++ l) ≡ bad l

abbrev pub OkOf : {A : Type 0} (spell : A → List ℕ) (Valid : A → Type 0) (pre : List ℕ) (p : List ℕ → Res A) (s : List ℕ) → Res A → Type 0
OkOf spell Valid pre p s (good b r) = Read spell Valid pre p s b r
OkOf spell Valid pre p s (bad r) = Stopped spell Valid pre p s r
OkOf spell Valid pre p s out = Unit {0}

abbrev pub Ok : {A : Type 0} (spell : A → List ℕ) (Valid : A → Type 0) (pre : List ℕ) (p : List ℕ → Res A) (s : List ℕ) → Type 0
Ok spell Valid pre p s = OkOf spell Valid pre p s (p s)

module _ {A : Type 0} (spell : A → List ℕ) (Valid : A → Type 0) (pre : List ℕ) where
  pub ok-give : (b : A) (s : List ℕ) → pre ≡ spell b → Valid b → Ok spell Valid pre (give b) s
  ok-give b s e v = record { part = []; text = refl; spelt = append-nil pre ∙ e; valid = v; local = λ l h. refl }

  pub ok-stop : (s : List ℕ) → Goes spell Valid pre → Ok spell Valid pre stop s
  ok-stop s g = record { part = []; text = refl; goes = rw append-nil g; local = λ l h. refl }

  -- a reader that does the same as another on every text with the same next byte
  same_of : (p q : List ℕ → Res A) (s : List ℕ) → ((l : List ℕ) → head0 l ≡ head0 s → q l ≡ p l) → (x : Res A) → OkOf spell Valid pre p s x → OkOf spell Valid pre q s x
  same_of p q s a (good b r) g =
      record {
        part = g.part;
        text = g.text;
        spelt = g.spelt;
        valid = g.valid;
        local = λ l h. a (g.part ++ l) (head-same g.part l r h ∙ ap head0 (sym g.text)) ∙ g.local l h;
      }
  same_of p q s a (bad r) g =
      record {
        part = g.part;
        text = g.text;
        goes = g.goes;
        local = λ l h. a (g.part ++ l) (head-same g.part l r h ∙ ap head0 (sym g.text)) ∙ g.local l h;
      }
  same_of p q s a out g = g

  pub ok-as : (p q : List ℕ → Res A) (s : List ℕ) → ((l : List ℕ) → head0 l ≡ head0 s → q l ≡ p l) → Ok spell Valid pre p s → Ok spell Valid pre q s
  ok-as p q s a g = subst (λ (x : Res A). OkOf spell Valid pre q s x) (sym (a s refl)) (same_of p q s a (p s) g)

  -- by the next byte
  pub ok-pick : (t : ℕ → Bool) (p q : List ℕ → Res A) (s : List ℕ) → Ok spell Valid pre p s → Ok spell Valid pre q s → Ok spell Valid pre (pick t p q) s
  ok-pick t p q s g h = by (t (head0 s)) refl
    where
      by : (b : Bool) → t (head0 s) ≡ b → Ok spell Valid pre (pick t p q) s
      by true e = ok-as p (pick t p q) s (λ l f. ap (λ (b : Bool). choose b p q l) (ap t f ∙ e)) g
      by false e = ok-as q (pick t p q) s (λ l f. ap (λ (b : Bool). choose b p q l) (ap t f ∙ e)) h

  one-no : (t : ℕ → Bool) (k : ℕ → List ℕ → Res A) (l : List ℕ) → t (head0 l) ≡ false → one t k l ≡ bad l
  one-no t k [] e = refl
  one-no t k (b ∷ r) e = ap (λ (x : Bool). choose x (λ l. k b r) bad (b ∷ r)) e

  one-yes : (t : ℕ → Bool) (k : ℕ → List ℕ → Res A) (b : ℕ) (r : List ℕ) → t b ≡ true → one t k (b ∷ r) ≡ k b r
  one-yes t k b r e = ap (λ (x : Bool). choose x (λ l. k b r) bad (b ∷ r)) e

  one_of : (t : ℕ → Bool) (k : ℕ → List ℕ → Res A) (b : ℕ) (r : List ℕ) → t b ≡ true → (x : Res A)
      → OkOf spell Valid (pre ++ (b ∷ [])) (k b) r x → OkOf spell Valid pre (one t k) (b ∷ r) x
  one_of t k b r e (good a l) g =
      record {
        part = b ∷ g.part;
        text = ap (λ (x : List ℕ). b ∷ x) g.text;
        spelt = sym (append_assoc pre (b ∷ []) g.part) ∙ g.spelt;
        valid = g.valid;
        local = λ m h. one-yes t k b (g.part ++ m) e ∙ g.local m h;
      }
  one_of t k b r e (bad l) g =
      record {
        part = b ∷ g.part;
        text = ap (λ (x : List ℕ). b ∷ x) g.text;
        goes = subst (λ (x : List ℕ). Goes spell Valid x) (append_assoc pre (b ∷ []) g.part) g.goes;
        local = λ m h. one-yes t k b (g.part ++ m) e ∙ g.local m h;
      }
  one_of t k b r e out g = g

  pub ok-one-at : (t : ℕ → Bool) (k : ℕ → List ℕ → Res A) (b : ℕ) (r : List ℕ) → t b ≡ true → Ok spell Valid (pre ++ (b ∷ [])) (k b) r → Ok spell Valid pre (one t k) (b ∷ r)
  ok-one-at t k b r e h = subst (λ (x : Res A). OkOf spell Valid pre (one t k) (b ∷ r) x) (sym (one-yes t k b r e)) (one_of t k b r e (k b r) h)

  pub ok-one : (t : ℕ → Bool) (k : ℕ → List ℕ → Res A) (s : List ℕ) → t 0 ≡ false → Goes spell Valid pre
      → ((b : ℕ) (r : List ℕ) → t b ≡ true → Ok spell Valid (pre ++ (b ∷ [])) (k b) r) → Ok spell Valid pre (one t k) s
  ok-one t k [] z g h = record { part = []; text = refl; goes = rw append-nil g; local = λ l e. one-no t k l (ap t e ∙ z) }
  ok-one t k (b ∷ r) z g h = by (t b) refl
    where
      by : (x : Bool) → t b ≡ x → Ok spell Valid pre (one t k) (b ∷ r)
      by true e = ok-one-at t k b r e (h b r e)
      by false e =
          subst (λ (x : Res A). OkOf spell Valid pre (one t k) (b ∷ r) x) (sym (one-no t k (b ∷ r) e))
          (record { part = []; text = refl; goes = rw append-nil g; local = λ l f. one-no t k l (ap t f ∙ e) })

  -- the byte x
  pub ok-expect : (x : ℕ) (p : List ℕ → Res A) (s : List ℕ) → eqb 0 x ≡ false → Goes spell Valid pre
      → ((r : List ℕ) → Ok spell Valid (pre ++ (x ∷ [])) p r) → Ok spell Valid pre (expect x p) s
  ok-expect x p s z g h =
      ok-one (is x) (λ b. p) s z g (λ b r e. subst (λ (y : ℕ). Ok spell Valid (pre ++ (y ∷ [])) p r) (sym (eqb-true b x e)) (h r))

  then-of : {B : Type 0} (spell_b : B → List ℕ) (ValidB : B → Type 0) (p : List ℕ → Res B) (k : B → List ℕ → Res A) (s : List ℕ) (b : B) (r : List ℕ)
      → Read spell_b ValidB [] p s b r → (y : Res A) → OkOf spell Valid (pre ++ spell_b b) (k b) r y → OkOf spell Valid pre (and_then p k) s y
  then-of spell_b ValidB p k s b r g (good a l) y =
      record {
        part = g.part ++ y.part;
        text = rw append_assoc (g.text ∙ ap (λ (x : List ℕ). g.part ++ x) y.text);
        spelt = sym (append_assoc pre g.part y.part) ∙ (ap (λ (x : List ℕ). (pre ++ x) ++ y.part) g.spelt ∙ y.spelt);
        valid = y.valid;
        local = λ m h. rw append_assoc (ap (λ x. onward x k) (g.local (y.part ++ m) (head-same y.part m l h ∙ ap head0 (sym y.text))) ∙ y.local m h);
      }
  then-of spell_b ValidB p k s b r g (bad l) y =
      record {
        part = g.part ++ y.part;
        text = rw append_assoc (g.text ∙ ap (λ (x : List ℕ). g.part ++ x) y.text);
        goes = subst (λ (x : List ℕ). Goes spell Valid x) (ap (λ (x : List ℕ). (pre ++ x) ++ y.part) (sym g.spelt) ∙ append_assoc pre g.part y.part) y.goes;
        local = λ m h. rw append_assoc (ap (λ x. onward x k) (g.local (y.part ++ m) (head-same y.part m l h ∙ ap head0 (sym y.text))) ∙ y.local m h);
      }
  then-of spell_b ValidB p k s b r g out y = y

  further : {B : Type 0} (spell_b : B → List ℕ) (ValidB : B → Type 0) (part : List ℕ) → Goes spell_b ValidB part
      → ((b : B) → ValidB b → Goes spell Valid (pre ++ spell_b b)) → Goes spell Valid (pre ++ part)
  further spell_b ValidB part g e =
      let m = e g.tree g.valid in
      record {
        rest = g.rest ++ m.rest;
        tree = m.tree;
        valid = m.valid;
        spelt = sym (append_assoc (pre ++ part) g.rest m.rest) ∙ (ap (λ (x : List ℕ). x ++ m.rest) (append_assoc pre part g.rest ∙ ap (λ (x : List ℕ). pre ++ x) g.spelt) ∙ m.spelt);
      }

  pub ok-then : {B : Type 0} (spell_b : B → List ℕ) (ValidB : B → Type 0) (p : List ℕ → Res B) (k : B → List ℕ → Res A) (s : List ℕ)
      → Ok spell_b ValidB [] p s
      → ((b : B) → ValidB b → Goes spell Valid (pre ++ spell_b b))
      → ((b : B) (r : List ℕ) → ValidB b → Ok spell Valid (pre ++ spell_b b) (k b) r)
      → Ok spell Valid pre (and_then p k) s
  ok-then {B} spell_b ValidB p k s g e h = by (p s) g
    where
      by : (x : Res B) → OkOf spell_b ValidB [] p s x → OkOf spell Valid pre (and_then p k) s (onward x k)
      by (good b r) y = then-of spell_b ValidB p k s b r y (k b r) (h b r y.valid)
      by (bad r) y =
          record { part = y.part; text = y.text; goes = further spell_b ValidB y.part y.goes e; local = λ l f. ap (λ x. onward x k) (y.local l f) }
      by out y = y
