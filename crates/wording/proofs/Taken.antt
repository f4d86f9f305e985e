-- An operand taken: what was found in the text, and its token laid. One law for each thing found.
use Prim.Native.Nat.{ℕ, ◌+◌, ◌-◌, ◌≤◌, ◌<◌}
use mathlib.Core.Path.{◌≡◌, refl, sym, ap, subst, ◌∙◌}
use mathlib.Core.Bool.{Bool, true, false}
use mathlib.Core.List.{List, [], ◌∷◌}
use native.Mathlib.Omega.{arith}
use lib.ListN.{length, length-append, length-drop, take, drop}
use lib.Seq.{drop-drop, drop_at, take_at}
use Rattle.condition.specs.Token.{number, name as named, Token, push}
use Rattle.wording.specs.declared.tallies.Tally.{Tally}
use Rattle.std.specs.Prelude.{Result, Ok, Err}
use Rattle.wording.specs.declared.walk.Wrong.{Wrong}
use Rattle.wording.specs.declared.operands.Operand.{Operand}
use Rattle.wording.specs.declared.operands.Operand.TheVariants.{Name, Number}
use Rattle.wording.specs.Grammar.{val, limit, Side, name, integer, text_s, ValidS}
use Rattle.wording.specs.Reader.{Res, good, bad, out, read_operand}
use Rattle.wording.specs.Stored.{wide, signed_of, word_for, operand_of}
use Rattle.wording.specs.Inner.Tokens.{tokens_s}
use Rattle.wording.specs.Inner.Walk.{came, note_all, put_all, Emitted, Joined, Outcome, OperandAt}
use Rattle.wording.specs.Inner.Leaf.{found_of}
use Rattle.wording.proofs.Keeps.{Read, OkOf}
use Rattle.wording.proofs.Parts.{ok-operand}
use Rattle.wording.proofs.Ending.{Settled, operand-settled}
use Rattle.wording.proofs.Places.{back, same-error}

-- what a reader leaves is the text from some place on
pub suffix-of : {A : Type 0} (spell : A → List ℕ) (Valid : A → Type 0) (p : List ℕ → Res A) (s : List ℕ) (at : ℕ) (t : A) (l : List ℕ) → at ≤ length s
    → Read spell Valid [] p (drop at s) t l → (at ≤ length s - length l) × (l ≡ drop (length s - length l) s)
suffix-of spell Valid p s at t l h g =
    let m : length s - at ≡ length g.part + length l = sym (length-drop at s) ∙ (ap length g.text ∙ length-append g.part l) in
    let n : at + length g.part ≡ length s - length l = omega arith in
    (omega arith, sym (drop_at g.part l (length g.part) refl) ∙ (ap (drop (length g.part)) (sym g.text) ∙ (drop-drop (length g.part) at s ∙ ap (λ (y : ℕ). drop y s) n)))

abbrev ReadO : List ℕ → Side → List ℕ → Type 0
ReadO t = Read text_s ValidS [] read_operand t

was_read : (t : List ℕ) (a : Side) (l : List ℕ) → read_operand t ≡ good a l → ReadO t a l
was_read t a l e = subst (λ (x : Res Side). OkOf text_s ValidS [] read_operand t x) e (ok-operand t)

-- ---- a name, a number

pub record TookName (s : List ℕ) (at end : ℕ) : Type 0 where
  pub first : ℕ
  pub rest : List ℕ
  pub reads : read_operand (drop at s) ≡ good (name first rest) (drop end s)
  pub is : take (end - at) (drop at s) ≡ first ∷ rest
  pub low : at < end
  pub top : end ≤ length s

name-text : (s : List ℕ) (at end b : ℕ) (n l : List ℕ) → at ≤ length s → end ≡ length s - length l → ReadO (drop at s) (name b n) l
    → (take (end - at) (drop at s) ≡ b ∷ n) × (at < end)
unfolding text_s
name-text s at end b n l h e g =
    let m : length s - at ≡ length g.part + length l = sym (length-drop at s) ∙ (ap length g.text ∙ length-append g.part l) in
    let k : length g.part ≡ length (b ∷ n) = ap length g.spelt in
    let q : length g.part ≡ end - at = omega arith in
    (ap (take (end - at)) g.text ∙ take_at g.part l (end - at) q ∙ g.spelt, omega arith)

pub record TookNumber (s : List ℕ) (at : ℕ) (neg : Bool) (v end : ℕ) : Type 0 where
  pub first : ℕ
  pub rest : List ℕ
  pub reads : read_operand (drop at s) ≡ good (integer neg first rest) (drop end s)
  pub is : v ≡ val (first - 48) rest
  pub fits : v ≤ limit neg
  pub top : end ≤ length s

in-range : (neg : Bool) (b : ℕ) (n : List ℕ) → ValidS (integer neg b n) → val (b - 48) n ≤ limit neg
unfolding ValidS
in-range neg b n h = h.2

-- ---- back from what was found

module _ (s : List ℕ) (at : ℕ) (r : Result Operand Wrong) (h : at ≤ length s) (f : r ≡ found_of (length s) (read_operand (drop at s))) where
  pub took-name : (end : ℕ) → r ≡ Ok (Name end) → TookName s at end
  took-name end m = by (read_operand (drop at s)) refl f
    where
      by : (x : Res Side) → read_operand (drop at s) ≡ x → r ≡ found_of (length s) x → TookName s at end
      by (good (name b n) l) e a =
          let v : end ≡ length s - length l = cc in
          let g = was_read (drop at s) (name b n) l e in
          let u = suffix-of text_s ValidS read_operand s at (name b n) l h g in
          let t = name-text s at end b n l h v g in
          record {
            first = b;
            rest = n;
            reads = e ∙ ap (good (name b n)) (u.1 ∙ ap (λ (k : ℕ). drop k s) (sym v));
            is = t.0;
            low = t.1;
            top = omega arith;
          }
      by (good (integer neg b n) l) e a = cc
      by (bad l) e a = cc
      by out e a = cc

  pub took_number : (neg : Bool) (v end : ℕ) → r ≡ Ok (Number neg v end) → TookNumber s at neg v end
  took_number neg v end m = by (read_operand (drop at s)) refl f
    where
      by : (x : Res Side) → read_operand (drop at s) ≡ x → r ≡ found_of (length s) x → TookNumber s at neg v end
      by (good (name b n) l) e a = cc
      by (good (integer g b n) l) e a =
          let x : end ≡ length s - length l = cc in
          let y : g ≡ neg = cc in
          let z : v ≡ val (b - 48) n = cc in
          let k = was_read (drop at s) (integer g b n) l e in
          let u = suffix-of text_s ValidS read_operand s at (integer g b n) l h k in
          record {
            first = b;
            rest = n;
            reads = e ∙ ap (λ (q : Bool). good (integer q b n) l) y ∙ ap (good (integer neg b n)) (u.1 ∙ ap (λ (q : ℕ). drop q s) (sym x));
            is = z;
            fits = subst (λ (q : Bool). v ≤ limit q) y (subst (λ (q : ℕ). q ≤ limit g) (sym z) (in-range g b n k.valid));
            top = omega arith;
          }
      by (bad l) e a = cc
      by out e a = cc

  pub operand-wrong : (p : Wrong) → r ≡ Err p → (w : Tally) (o q : List ℕ) → OperandAt s at w o (Err p) q
  operand-wrong p m w o q = record { is = by (read_operand (drop at s)) f (operand-settled (drop at s)) }
    where
      by : (x : Res Side) → r ≡ found_of (length s) x → Settled x → Outcome tokens_s s w o x (Err p) q
      by (good (name b n) l) a z = cc
      by (good (integer neg b n) l) a z = cc
      by (bad l) a z = (ap Err (same-error r _ _ m a), tt)
      by out a z = absurd z

-- ---- its token laid

taken : (s : List ℕ) (at end : ℕ) (t : Side) (w w1 : Tally) (o o1 : List ℕ) → end ≤ length s → read_operand (drop at s) ≡ good t (drop end s)
    → Emitted (push (operand_of t)) w o w1 o1 → OperandAt s at w o (came end w1) o1
unfolding note_all put_all
taken s at end t w w1 o o1 h e z =
    record {
      is = subst (λ (x : Res Side). Outcome tokens_s s w o x (came end w1) o1) (sym e)
          (ap (λ (k : ℕ). came k w1) (sym (back s end h)) ∙ ap (came (length s - length (drop end s))) z.tally, z.bytes);
    }

pub operand-name : (s : List ℕ) (at end : ℕ) (w w1 : Tally) (o o1 : List ℕ) → TookName s at end
    → Emitted (push (named (wide (take (end - at) (drop at s))))) w o w1 o1 → OperandAt s at w o (came end w1) o1
unfolding operand_of
operand-name s at end w w1 o o1 k z =
    taken s at end (name k.first k.rest) w w1 o o1 k.top k.reads (subst (λ (l : List ℕ). Emitted (push (named (wide l))) w o w1 o1) k.is z)

pub operand-number : (s : List ℕ) (at : ℕ) (neg : Bool) (v end : ℕ) (w w1 : Tally) (o o1 : List ℕ) → TookNumber s at neg v end
    → Emitted (push (number (word_for (signed_of neg v)))) w o w1 o1 → OperandAt s at w o (came end w1) o1
unfolding operand_of
operand-number s at neg v end w w1 o o1 k z =
    taken s at end (integer neg k.first k.rest) w w1 o o1 k.top k.reads (subst (λ (y : ℕ). Emitted (push (number (word_for (signed_of neg y)))) w o w1 o1) k.is z)

-- ---- the operator of a row

pub join-yes : (j : Bool) (t : Token) (w : Tally) (o : List ℕ) (r : Tally) (q : List ℕ) → j ≡ true → Emitted t w o r q → Joined j t w o r q
unfolding note_all put_all
join-yes true t w o r q e z = record { tally = z.tally; bytes = z.bytes }
join-yes false t w o r q e z = cc

pub join-no : (j : Bool) (t : Token) (w : Tally) (o : List ℕ) → j ≡ false → Joined j t w o w o
unfolding note_all put_all
join-no true t w o e = cc
join-no false t w o e = record { tally = refl; bytes = refl }
