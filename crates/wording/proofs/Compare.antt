-- A comparison: operand, sign, operand. One law for each way that the walk over it ends.
use Prim.Native.Nat.{ℕ, ◌-◌, ◌≤◌}
use mathlib.Core.Path.{◌≡◌, refl, sym, ap, subst, ◌∙◌}
use mathlib.Core.List.{List, []}
use native.Mathlib.Omega.{arith}
use lib.ListN.{length, drop}
use Rattle.condition.specs.Token.{Compare, equal, unequal, below, at_most, above, at_least, Token, compares}
use Rattle.wording.specs.declared.tallies.Tally.{Tally}
use Rattle.std.specs.Prelude.{Result, Err}
use Rattle.wording.specs.declared.walk.Place.{Place}
use Rattle.wording.specs.declared.walk.Wrong.{Wrong}
use Rattle.wording.specs.declared.operators.Operator.{Operator}
use Rattle.wording.specs.Grammar.{Side, Factor, compare, text_s, text_r, ValidS}
use Rattle.wording.specs.Reader.{Res, good, bad, out, onward, and_then, give, read_operand, read_sign, read_comparison}
use Rattle.wording.specs.Stored.{token_bytes}
use Rattle.wording.specs.Inner.Tokens.{tokens_s, tokens_c, tokens_f, token_of, operator_of}
use Rattle.wording.specs.Inner.Walk.{came, note_b, put_b, takes, note_all, put_all, Emitted, Outcome, ComparedAt, OperandAt}
use Rattle.wording.specs.Inner.Leaf.{sign, sign_of}
use Rattle.wording.proofs.Keeps.{OkOf, Ok}
use Rattle.wording.proofs.Parts.{ok-operand, ok-sign, AnyR}
use Rattle.wording.proofs.Ending.{Settled, sign-settled}
use Rattle.wording.proofs.Places.{back, bad-on, same-place, same-sign, same-error}
use Rattle.wording.proofs.Taken.{suffix-of}

-- ---- what an answer says of the reader

pub record TookO (s : List ℕ) (at : ℕ) (w : Tally) (o : List ℕ) (p : ℕ) (w1 : Tally) (o1 : List ℕ) : Type 0 where
  pub tree : Side
  pub reads : read_operand (drop at s) ≡ good tree (drop p s)
  pub tally : w1 ≡ note_all (tokens_s tree) w
  pub bytes : o1 ≡ put_all (tokens_s tree) w o
  pub top : p ≤ length s

pub took-o : (s : List ℕ) (at : ℕ) (w : Tally) (o : List ℕ) (r : Result Place Wrong) (q : List ℕ) (p : ℕ) (w1 : Tally) → at ≤ length s → r ≡ came p w1 → OperandAt s at w o r q → TookO s at w o p w1 q
took-o s at w o r q p w1 h m k = by (read_operand (drop at s)) refl k.is (ok-operand (drop at s))
  where
    by : (x : Res Side) → read_operand (drop at s) ≡ x → Outcome tokens_s s w o x r q → Ok text_s ValidS [] read_operand (drop at s) → TookO s at w o p w1 q
    by (good t l) e g z =
        let a = g.0 in
        let i = same-place r _ _ m a in
        let v : p ≡ length s - length l = ap (λ (x : Place). x.at) i in
        let y : w1 ≡ note_all (tokens_s t) w = ap (λ (x : Place). x.tally) i in
        let u = suffix-of text_s ValidS read_operand s at t l h (subst (λ (x : Res Side). OkOf text_s ValidS [] read_operand (drop at s) x) e z) in
        record { tree = t; reads = e ∙ ap (good t) (u.1 ∙ ap (λ (n : ℕ). drop n s) (sym v)); tally = y; bytes = g.1; top = omega arith }
    by (bad l) e g z = let a = g.0 in cc
    by out e g z = absurd g

pub record TookR (s : List ℕ) (at : ℕ) (op : Operator) (p : ℕ) : Type 0 where
  pub tree : Compare
  pub reads : read_sign (drop at s) ≡ good tree (drop p s)
  pub token : token_of op ≡ compares tree
  pub top : p ≤ length s

token-of : (c : Compare) → token_of (operator_of c) ≡ compares c
token-of equal = refl
token-of unequal = refl
token-of below = refl
token-of at_most = refl
token-of above = refl
token-of at_least = refl

pub took-r : (s : List ℕ) (at : ℕ) (op : Operator) (p : ℕ) (k : Result (Operator × ℕ) Wrong) → at ≤ length s → k ≡ sign op p → k ≡ sign_of (length s) (read_sign (drop at s)) → TookR s at op p
took-r s at op p k h m g = by (read_sign (drop at s)) refl g (ok-sign (drop at s))
  where
    by : (x : Res Compare) → read_sign (drop at s) ≡ x → k ≡ sign_of (length s) x → Ok text_r AnyR [] read_sign (drop at s) → TookR s at op p
    by (good t l) e a z =
        let i = same-sign k _ _ m a in
        let v : p ≡ length s - length l = ap (λ (x : Operator × ℕ). x.1) i in
        let y : op ≡ operator_of t = ap (λ (x : Operator × ℕ). x.0) i in
        let u = suffix-of text_r AnyR read_sign s at t l h (subst (λ (x : Res Compare). OkOf text_r AnyR [] read_sign (drop at s) x) e z) in
        record { tree = t; reads = e ∙ ap (good t) (u.1 ∙ ap (λ (n : ℕ). drop n s) (sym v)); token = ap token_of y ∙ token-of t; top = omega arith }
    by (bad l) e a z = cc
    by out e a z = cc

-- ---- the whole

abbrev after_a : Side → List ℕ → Res Factor
after_a a = and_then read_sign (λ r. and_then read_operand (λ b. give (compare a r b)))

link : (l : List ℕ) → read_comparison l ≡ onward (read_operand l) after_a
unfolding read_comparison
link l = refl

module _ (s : List ℕ) (at : ℕ) (low : at ≤ length s) (w : Tally) (o : List ℕ) (r1 : Result Place Wrong) (o1 : List ℕ) (h : OperandAt s at w o r1 o1) where
  pub comparison-bad : (m : Wrong) → r1 ≡ Err m → ComparedAt s at w o (Err m) o1
  comparison-bad m e = record { is = rw (link (drop at s)) (bad-on tokens_s tokens_f s w w o o after_a (read_operand (drop at s)) r1 o1 m e h.is) }

  module _ (p : ℕ) (w1 : Tally) (e : r1 ≡ came p w1) (k : Result (Operator × ℕ) Wrong) (ke : k ≡ sign_of (length s) (read_sign (drop p s))) where
    t1 : TookO s at w o p w1 o1
    t1 = took-o s at w o r1 o1 p w1 low e h

    step-1 : read_comparison (drop at s) ≡ after_a t1.tree (drop p s)
    step-1 = link (drop at s) ∙ ap (λ (y : Res Side). onward y after_a) t1.reads

    not-of : (m : Wrong) (a : Side) → k ≡ Err m → (x : Res Compare) → k ≡ sign_of (length s) x → Settled x
        → Outcome tokens_f s w o (onward x (λ r. and_then read_operand (λ b. give (compare a r b)))) (Err m) o1
    not-of m a n (good c l) g z = cc
    not-of m a n (bad l) g z = (ap Err (same-error k _ _ n g), tt)
    not-of m a n out g z = absurd z

    pub comparison-not : (m : Wrong) → k ≡ Err m → ComparedAt s at w o (Err m) o1
    comparison-not m n = record { is = rw step-1 (not-of m t1.tree n (read_sign (drop p s)) ke (sign-settled (drop p s))) }

    module _ (op : Operator) (p2 : ℕ) (ki : k ≡ sign op p2) (r2 : Result Place Wrong) (o2 : List ℕ) (g : OperandAt s p2 w1 o1 r2 o2) where
      t2 : TookR s p op p2
      t2 = took-r s p op p2 k t1.top ki ke

      step-2 : read_comparison (drop at s) ≡ and_then read_operand (λ b. give (compare t1.tree t2.tree b)) (drop p2 s)
      step-2 = step-1 ∙ ap (λ (y : Res Compare). onward y (λ r. and_then read_operand (λ b. give (compare t1.tree r b)))) t2.reads

      pub comparison-bad-2 : (m : Wrong) → r2 ≡ Err m → ComparedAt s at w o (Err m) o2
      comparison-bad-2 m x = record { is = rw step-2 (bad-on tokens_s tokens_f s w1 w o1 o (λ b. give (compare t1.tree t2.tree b)) (read_operand (drop p2 s)) r2 o2 m x g.is) }

      all_of : (a b : Side) (c : Compare) (w2 w3 : Tally) (o3 : List ℕ) → w1 ≡ note_all (tokens_s a) w → o1 ≡ put_all (tokens_s a) w o → w2 ≡ note_all (tokens_s b) w1 → o2 ≡ put_all (tokens_s b) w1 o1
          → Emitted (compares c) w2 o2 w3 o3 → (w3 ≡ note_all (tokens_f (compare a c b)) w) × (o3 ≡ put_all (tokens_f (compare a c b)) w o)
      unfolding tokens_c note_all put_all
      all_of a b c w2 w3 o3 q1 u1 q2 u2 z =
          let x : w2 ≡ note_all (tokens_s b) (note_all (tokens_s a) w) = q2 ∙ ap (note_all (tokens_s b)) q1 in
          let y : o2 ≡ put_all (tokens_s b) (note_all (tokens_s a) w) (put_all (tokens_s a) w o) =
          u2 ∙ (ap (λ (v : Tally). put_all (tokens_s b) v o1) q1 ∙ ap (put_all (tokens_s b) (note_all (tokens_s a) w)) u1) in (
            z.tally ∙ ap (note_b (length (token_bytes (compares c))) (takes (compares c))) x,
            z.bytes ∙ (ap (λ (v : Tally). put_b (token_bytes (compares c)) v o2) x ∙ ap (put_b (token_bytes (compares c)) (note_all (tokens_s b) (note_all (tokens_s a) w))) y),
          )

      pub comparison-all : (p3 : ℕ) (w2 : Tally) → r2 ≡ came p3 w2 → (w3 : Tally) (o3 : List ℕ) → Emitted (token_of op) w2 o2 w3 o3 → ComparedAt s at w o (came p3 w3) o3
      comparison-all p3 w2 x w3 o3 z =
          let t3 = took-o s p2 w1 o1 r2 o2 p3 w2 t2.top x g in
          let v = all_of t1.tree t3.tree t2.tree w2 w3 o3 t1.tally t1.bytes t3.tally t3.bytes (subst (λ (y : Token). Emitted y w2 o2 w3 o3) t2.token z) in
          record {
            is = subst (λ (y : Res Factor). Outcome tokens_f s w o y (came p3 w3) o3)
                (sym (step-2 ∙ ap (λ (y : Res Side). onward y (λ b. give (compare t1.tree t2.tree b))) t3.reads))
                (ap (λ (n : ℕ). came n w3) (sym (back s p3 t3.top)) ∙ ap (came (length s - length (drop p3 s))) v.0, v.1);
          }

pub placed-o : (s : List ℕ) (at : ℕ) (w : Tally) (o : List ℕ) (r : Result Place Wrong) (q : List ℕ) (p : ℕ) (w1 : Tally) → at ≤ length s → r ≡ came p w1 → OperandAt s at w o r q → p ≤ length s
placed-o s at w o r q p w1 h m k = (took-o s at w o r q p w1 h m k).top

pub placed-r : (s : List ℕ) (at : ℕ) (op : Operator) (p : ℕ) (k : Result (Operator × ℕ) Wrong) → at ≤ length s → k ≡ sign op p → k ≡ sign_of (length s) (read_sign (drop at s)) → p ≤ length s
placed-r s at op p k h m g = (took-r s at op p k h m g).top
