-- One law for each way in which a function of the cycle ends.
use mathlib.Core.Path.{◌≡◌, refl, sym, ap, subst, ◌∙◌}
use mathlib.Core.Bool.{Bool, true, false}
use mathlib.Core.List.{List, [], ◌∷◌, ◌++◌, append-nil}
use Prim.Native.Nat.{ℕ, zero, suc, ◌+◌, ◌-◌, ◌≤◌, ◌<◌}
use native.Mathlib.Omega.{arith}
use lib.Dec.{eqb}
use lib.ListN.{length, drop}
use Rattle.condition.specs.Token.{Token, ands, nots, ors}
use Rattle.std.specs.Prelude.{Result, Err}
use Rattle.wording.specs.declared.walk.Place.{Place}
use Rattle.wording.specs.declared.walk.Wrong.{Wrong}
use Rattle.wording.proofs.Emits.{note-append, put-append}
use Rattle.wording.proofs.Keeps.{OkOf}
use Rattle.wording.proofs.Places.{expect-no, expect-yes, back, bad-on, head_at, not-here, pick_is, same-place}
use Rattle.wording.proofs.Taken.{suffix-of}
use Rattle.wording.proofs.Whole.{Valid, ok_read, read_row, spell}
use Rattle.wording.specs.Grammar.{Factor, and, last, not, only, or, paren}
use Rattle.wording.specs.Grammar.{Condition as ConditionTree, Term as TermTree}
use Rattle.wording.specs.Inner.Tokens.{token_of, tokens_and, tokens_c, tokens_f, tokens_or, tokens_t, toks}
use Rattle.wording.specs.Inner.Walk.{came, wrong, ComparedAt, Emitted, Joined, Outcome, ParsedAt, is_at, note_all, note_b, op_if, put_all, put_b, rank, steps_at, takes}
use Rattle.wording.specs.Inner.Rows.{row_of, part_of, sign_in, operator_in}
use Rattle.wording.specs.declared.conditions.Row.{Row}
use Rattle.wording.specs.declared.conditions.Row.TheVariants.{Condition, Term}
use Rattle.wording.specs.Reader.{Level, Res, TreeOf, expect, and_then, bad, onward, choose, condition, give, factor, good, is, out, pick, read, read_comparison, stop, term}
use Rattle.wording.specs.Stored.{token_bytes}
use Rattle.wording.specs.declared.tallies.Tally.{Tally}

-- what is left behind a tree is the text from its place on
suffix : (s : List ℕ) (f : ℕ) (k : Level) (d at : ℕ) (t : TreeOf k) (l : List ℕ) → at ≤ length s → read f k d (drop at s) ≡ good t l
    → (at ≤ length s - length l) × (l ≡ drop (length s - length l) s)
suffix s f k d at t l h e =
    suffix-of (spell k) (Valid k d) (read f k d) s at t l h
    (subst (λ (x : Res (TreeOf k)). OkOf (spell k) (Valid k d) [] (read f k d) (drop at s) x) e (ok_read f k d (drop at s)))

-- ---- what an answer says of the reader

-- the tree that was read up to p, and what it left of tally and bytes
pub record Took (f : ℕ) (k : Level) (j : Bool) (s : List ℕ) (at d : ℕ) (w : Tally) (o : List ℕ) (p : ℕ) (w1 : Tally) (o1 : List ℕ) : Type 0 where
  pub tree : TreeOf k
  pub reads : read f k d (drop at s) ≡ good tree (drop p s)
  pub tally : w1 ≡ note_all (toks k j tree) w
  pub bytes : o1 ≡ put_all (toks k j tree) w o
  pub low : at ≤ p
  pub top : p ≤ length s

pub took : (f : ℕ) (k : Level) (j : Bool) (s : List ℕ) (at d : ℕ) (w : Tally) (o : List ℕ) (r : Result Place Wrong) (q : List ℕ) (p : ℕ) (w1 : Tally)
    → at ≤ length s → r ≡ came p w1 → Outcome (toks k j) s w o (read f k d (drop at s)) r q → Took f k j s at d w o p w1 q
took f k j s at d w o r q p w1 h m = by (read f k d (drop at s)) refl
  where
    by : (x : Res (TreeOf k)) → read f k d (drop at s) ≡ x → Outcome (toks k j) s w o x r q → Took f k j s at d w o p w1 q
    by (good t l) e g =
        let a = g.0 in
        let i = same-place r _ _ m a in
        let z : p ≡ length s - length l = ap (λ (v : Place). v.at) i in
        let y : w1 ≡ note_all (toks k j t) w = ap (λ (v : Place). v.tally) i in
        let u = suffix s f k d at t l h e in
        record { tree = t; reads = e ∙ ap (good t) (u.1 ∙ ap (λ (n : ℕ). drop n s) (sym z)); tally = y; bytes = g.1; low = omega (arith, u.0); top = omega arith }
    by (bad l) e g = let a = g.0 in cc
    by out e g = absurd g

-- a walk goes forward, and not past the end
pub placed : (k : Level) (j : Bool) (s : List ℕ) (at d : ℕ) (w : Tally) (o : List ℕ) (r : Result Place Wrong) (q : List ℕ) (p : ℕ) (w1 : Tally)
    → at ≤ length s → r ≡ came p w1 → ParsedAt k j s at d w o r q → (at ≤ p) × (p ≤ length s)
placed k j s at d w o r q p w1 h m g =
    let t = took (suc (steps_at k s at)) k j s at d w o r q p w1 h m (g.is (suc (steps_at k s at)) (omega arith)) in
    (t.low, t.top)

-- ---- rows

module _ (O I : Level) (x : ℕ) (tok : Token) (end : TreeOf I → TreeOf O) (more : TreeOf I → TreeOf O → TreeOf O) (z : eqb x x ≡ true)
    (link : (f d : ℕ) (l : List ℕ) → read (suc f) O d l ≡ read_row x end more (read f I d) (read f O d) l)
    (higher : rank O ≡ rank I + 1)
    (toks-end : (j : Bool) (t : TreeOf I) → toks O j (end t) ≡ toks I false t ++ op_if j tok)
    (toks_more : (j : Bool) (t : TreeOf I) (c : TreeOf O) → toks O j (more t c) ≡ toks I false t ++ (op_if j tok ++ toks O true c))
    (s : List ℕ) (at d : ℕ) (low : at ≤ length s) (j : Bool) (w : Tally) (o : List ℕ) (r1 : Result Place Wrong) (o1 : List ℕ) (h : ParsedAt I false s at d w o r1 o1) where
  abbrev tail : ℕ → TreeOf I → List ℕ → Res (TreeOf O)
  tail f t = pick (is x) (expect x (expect x (and_then (read f O d) (λ c. give (more t c))))) (give (end t))

  -- its first part goes wrong
  bad-is : (m : Wrong) → r1 ≡ Err m → (f : ℕ) → steps_at O s at < f → Outcome (toks O j) s w o (read f O d (drop at s)) (Err m) o1
  bad-is m e zero g = absurd (omega arith)
  bad-is m e (suc f) g =
      rw (link f d (drop at s)) (bad-on (toks I false) (toks O j) s w w o o (tail f) (read f I d (drop at s)) r1 o1 m e (h.is f (omega arith)))

  pub row-bad : (m : Wrong) → r1 ≡ Err m → ParsedAt O j s at d w o (Err m) o1
  row-bad m e = record { is = bad-is m e }

  module _ (p : ℕ) (w1 : Tally) (e : r1 ≡ came p w1) (w2 : Tally) (o2 : List ℕ) (jn : Joined j tok w1 o1 w2 o2) where
    got : (f : ℕ) → steps_at I s at < f → Took f I false s at d w o p w1 o1
    got f g = took f I false s at d w o r1 o1 p w1 low e (h.is f g)

    step_is : (f : ℕ) (t : TreeOf I) → read f I d (drop at s) ≡ good t (drop p s) → read (suc f) O d (drop at s) ≡ tail f t (drop p s)
    step_is f t q = link f d (drop at s) ∙ ap (λ (y : Res (TreeOf I)). onward y (tail f)) q

    tally-2 : (t : TreeOf I) → w1 ≡ note_all (toks I false t) w → w2 ≡ note_all (op_if j tok) (note_all (toks I false t) w)
    tally-2 t q = jn.tally ∙ ap (note_all (op_if j tok)) q

    bytes_2 : (t : TreeOf I) → w1 ≡ note_all (toks I false t) w → o1 ≡ put_all (toks I false t) w o → o2 ≡ put_all (op_if j tok) (note_all (toks I false t) w) (put_all (toks I false t) w o)
    bytes_2 t q u = jn.bytes ∙ (ap (λ (y : Tally). put_all (op_if j tok) y o1) q ∙ ap (put_all (op_if j tok) (note_all (toks I false t) w)) u)

    -- the row ends behind it
    end_is : is_at s p x ≡ false → (f : ℕ) → steps_at O s at < f → Outcome (toks O j) s w o (read f O d (drop at s)) (came p w2) o2
    end_is b zero g = absurd (omega arith)
    end_is b (suc f) g =
        let t = got f (omega arith) in
        subst (λ (y : Res (TreeOf O)). Outcome (toks O j) s w o y (came p w2) o2)
        (sym (step_is f t.tree t.reads ∙ pick_is false (is x) (expect x (expect x (and_then (read f O d) (λ c. give (more t.tree c))))) (give (end t.tree)) (drop p s) (not-here s p x b))) (
          ap (λ (n : ℕ). came n w2) (sym (back s p t.top)) ∙ ap (came (length s - length (drop p s))) (tally-2 t.tree t.tally ∙ (sym (note-append (toks I false t.tree) (op_if j tok) w) ∙ ap (λ (l : List Token). note_all l w) (sym (toks-end j t.tree)))),
          bytes_2 t.tree t.tally t.bytes ∙ (sym (put-append (toks I false t.tree) (op_if j tok) w o) ∙ ap (λ (l : List Token). put_all l w o) (sym (toks-end j t.tree))),
        )

    pub row-end : is_at s p x ≡ false → ParsedAt O j s at d w o (came p w2) o2
    row-end b = record { is = end_is b }

    module _ (b : is_at s p x ≡ true) (inside : p < length s) where
      tail-is : (f : ℕ) (t : TreeOf I) → tail f t (drop p s) ≡ expect x (and_then (read f O d) (λ c. give (more t c))) (drop (p + 1) s)
      tail-is f t =
          pick_is true (is x) (expect x (expect x (and_then (read f O d) (λ c. give (more t c))))) (give (end t)) (drop p s) (ap (is x) (head_at s p) ∙ b)
          ∙ expect-yes x (expect x (and_then (read f O d) (λ c. give (more t c)))) s p b inside z

      -- its sign stands there once
      half_is : is_at s (p + 1) x ≡ false → (f : ℕ) → steps_at O s at < f → Outcome (toks O j) s w o (read f O d (drop at s)) (Err (wrong (p + 1))) o2
      half_is n zero g = absurd (omega arith)
      half_is n (suc f) g =
          let t = got f (omega arith) in
          subst (λ (y : Res (TreeOf O)). Outcome (toks O j) s w o y (Err (wrong (p + 1))) o2)
          (sym (step_is f t.tree t.reads ∙ (tail-is f t.tree ∙ expect-no x (and_then (read f O d) (λ c. give (more t.tree c))) (drop (p + 1) s) (not-here s (p + 1) x n))))
          (ap (λ (n : ℕ). Err (wrong n)) (sym (back s (p + 1) (omega arith))), tt)

      pub row-half : is_at s (p + 1) x ≡ false → ParsedAt O j s at d w o (Err (wrong (p + 1))) o2
      row-half n = record { is = half_is n }

      more_of : (t : TreeOf I) → w1 ≡ note_all (toks I false t) w → o1 ≡ put_all (toks I false t) w o → (r : Result Place Wrong) (o3 : List ℕ) (y : Res (TreeOf O))
          → Outcome (toks O true) s w2 o2 y r o3 → Outcome (toks O j) s w o (onward y (λ c. give (more t c))) r o3
      more_of t q u r o3 (good c l) g =
          let a = tally-2 t q in
          let v = bytes_2 t q u in
          let n : note_all (toks O true c) w2 ≡ note_all (toks O j (more t c)) w =
          ap (note_all (toks O true c)) a ∙ (sym (note-append (op_if j tok) (toks O true c) (note_all (toks I false t) w))
          ∙ (sym (note-append (toks I false t) (op_if j tok ++ toks O true c) w) ∙ ap (λ (y : List Token). note_all y w) (sym (toks_more j t c)))) in
          let m : put_all (toks O true c) w2 o2 ≡ put_all (toks O j (more t c)) w o =
          ap (λ (y : Tally). put_all (toks O true c) y o2) a ∙ (ap (put_all (toks O true c) (note_all (op_if j tok) (note_all (toks I false t) w))) v
          ∙ (sym (put-append (op_if j tok) (toks O true c) (note_all (toks I false t) w) (put_all (toks I false t) w o))
          ∙ (sym (put-append (toks I false t) (op_if j tok ++ toks O true c) w o) ∙ ap (λ (y : List Token). put_all y w o) (sym (toks_more j t c))))) in
          (g.0 ∙ ap (came (length s - length l)) n, g.1 ∙ m)
      more_of t q u r o3 (bad l) g = g
      more_of t q u r o3 out g = g

      more-is : is_at s (p + 1) x ≡ true → p + 1 < length s → (r : Result Place Wrong) (o3 : List ℕ) → ParsedAt O true s (p + 2) d w2 o2 r o3
          → (f : ℕ) → steps_at O s at < f → Outcome (toks O j) s w o (read f O d (drop at s)) r o3
      more-is n i r o3 k zero g = absurd (omega arith)
      more-is n i r o3 k (suc f) g =
          let t = got f (omega arith) in
          let lo = t.low in
          let y : p + 1 + 1 ≡ p + 2 = omega arith in
          subst (λ (y : Res (TreeOf O)). Outcome (toks O j) s w o y r o3)
          (sym (step_is f t.tree t.reads ∙ (tail-is f t.tree
          ∙ (expect-yes x (and_then (read f O d) (λ c. give (more t.tree c))) s (p + 1) n i z ∙ ap (λ (v : ℕ). and_then (read f O d) (λ c. give (more t.tree c)) (drop v s)) y))))
          (more_of t.tree t.tally t.bytes r o3 (read f O d (drop (p + 2) s)) (k.is f (omega arith)))

      pub row_more : is_at s (p + 1) x ≡ true → p + 1 < length s → (r : Result Place Wrong) (o3 : List ℕ) → ParsedAt O true s (p + 2) d w2 o2 r o3 → ParsedAt O j s at d w o r o3
      row_more n i r o3 k = record { is = more-is n i r o3 k }

-- the two rows
condition-link : (f d : ℕ) (l : List ℕ) → read (suc f) condition d l ≡ read_row 124 last or (read f term d) (read f condition d) l
unfolding read
condition-link f d l = refl

term-link : (f d : ℕ) (l : List ℕ) → read (suc f) term d l ≡ read_row 38 only and (read f factor d) (read f term d) l
unfolding read
term-link f d l = refl

condition-end : (j : Bool) (t : TermTree) → toks condition j (last t) ≡ tokens_t t ++ op_if j ors
unfolding tokens_c
condition-end true t = refl
condition-end false t = sym (append-nil (tokens_t t))

condition-more : (j : Bool) (t : TermTree) (c : ConditionTree) → toks condition j (or t c) ≡ tokens_t t ++ (op_if j ors ++ tokens_or c)
unfolding tokens_c
condition-more true t c = refl
condition-more false t c = refl

term-end : (j : Bool) (t : Factor) → toks term j (only t) ≡ tokens_f t ++ op_if j ands
unfolding tokens_c
term-end true t = refl
term-end false t = sym (append-nil (tokens_f t))

term-more : (j : Bool) (t : Factor) (c : TermTree) → toks term j (and t c) ≡ tokens_f t ++ (op_if j ands ++ tokens_and c)
unfolding tokens_c
term-more true t c = refl
term-more false t c = refl

-- a row by how it ends
module _ (s : List ℕ) (at d : ℕ) (low : at ≤ length s) (j : Bool) (w : Tally) (o : List ℕ) (r1 : Result Place Wrong) (o1 : List ℕ) where
  pub row_bad : (row : Row) → ParsedAt (part_of row) false s at d w o r1 o1 → (m : Wrong) → r1 ≡ Err m → ParsedAt (row_of row) j s at d w o (Err m) o1
  row_bad Condition h = row-bad condition term 124 ors last or refl condition-link refl condition-end condition-more s at d low j w o r1 o1 h
  row_bad Term h = row-bad term factor 38 ands only and refl term-link refl term-end term-more s at d low j w o r1 o1 h

  module _ (p : ℕ) (w1 : Tally) (e : r1 ≡ came p w1) (w2 : Tally) (o2 : List ℕ) where
    pub row_end : (row : Row) → ParsedAt (part_of row) false s at d w o r1 o1 → Joined j (token_of (operator_in row)) w1 o1 w2 o2
        → is_at s p (sign_in row) ≡ false → ParsedAt (row_of row) j s at d w o (came p w2) o2
    row_end Condition h n = row-end condition term 124 ors last or refl condition-link refl condition-end condition-more s at d low j w o r1 o1 h p w1 e w2 o2 n
    row_end Term h n = row-end term factor 38 ands only and refl term-link refl term-end term-more s at d low j w o r1 o1 h p w1 e w2 o2 n

    pub row_half : (row : Row) → ParsedAt (part_of row) false s at d w o r1 o1 → Joined j (token_of (operator_in row)) w1 o1 w2 o2
        → is_at s p (sign_in row) ≡ true → p < length s → is_at s (p + 1) (sign_in row) ≡ false → ParsedAt (row_of row) j s at d w o (Err (wrong (p + 1))) o2
    row_half Condition h n = row-half condition term 124 ors last or refl condition-link refl condition-end condition-more s at d low j w o r1 o1 h p w1 e w2 o2 n
    row_half Term h n = row-half term factor 38 ands only and refl term-link refl term-end term-more s at d low j w o r1 o1 h p w1 e w2 o2 n

    pub row_goes : (row : Row) → ParsedAt (part_of row) false s at d w o r1 o1 → Joined j (token_of (operator_in row)) w1 o1 w2 o2
        → is_at s p (sign_in row) ≡ true → p < length s → is_at s (p + 1) (sign_in row) ≡ true → p + 1 < length s
        → (r : Result Place Wrong) (o3 : List ℕ) → ParsedAt (row_of row) true s (p + 2) d w2 o2 r o3 → ParsedAt (row_of row) j s at d w o r o3
    row_goes Condition h n = row_more condition term 124 ors last or refl condition-link refl condition-end condition-more s at d low j w o r1 o1 h p w1 e w2 o2 n
    row_goes Term h n = row_more term factor 38 ands only and refl term-link refl term-end term-more s at d low j w o r1 o1 h p w1 e w2 o2 n

-- what a part is, is one level below
pub lower : (row : Row) → rank (row_of row) ≡ rank (part_of row) + 1
lower Condition = refl
lower Term = refl

-- ---- a factor

module _ (s : List ℕ) (at d : ℕ) (low : at ≤ length s) (w : Tally) (o : List ℕ) where
  abbrev read_not : ℕ → List ℕ → Res Factor
  read_not f = and_then (read f factor d) (λ x. give (not x))

  abbrev read_in : ℕ → List ℕ → Res Factor
  read_in f = and_then (read f condition (d - 1)) (λ c. expect 41 (give (paren c)))

  factor-link : (f : ℕ) (l : List ℕ) → read (suc f) factor d l ≡ pick (is 33) (expect 33 (read_not f)) (pick (is 40) (choose (eqb d 0) stop (expect 40 (read_in f))) read_comparison) l
  unfolding read
  factor-link f l = refl

  module _ (b : is_at s at 33 ≡ true) (inside : at < length s) (r1 : Result Place Wrong) (o1 : List ℕ) (h : ParsedAt factor false s (at + 1) d w o r1 o1) where
    not_step : (f : ℕ) → read (suc f) factor d (drop at s) ≡ read_not f (drop (at + 1) s)
    not_step f =
        factor-link f (drop at s) ∙ (pick_is true (is 33) (expect 33 (read_not f)) (pick (is 40) (choose (eqb d 0) stop (expect 40 (read_in f))) read_comparison) (drop at s) (ap (is 33) (head_at s at) ∙ b)
        ∙ expect-yes 33 (read_not f) s at b inside refl)

    not-bad-is : (m : Wrong) → r1 ≡ Err m → (f : ℕ) → steps_at factor s at < f → Outcome tokens_f s w o (read f factor d (drop at s)) (Err m) o1
    not-bad-is m e zero g = absurd (omega arith)
    not-bad-is m e (suc f) g =
        rw (not_step f) (bad-on tokens_f tokens_f s w w o o (λ x. give (not x)) (read f factor d (drop (at + 1) s)) r1 o1 m e (h.is f (omega arith)))

    pub factor-not-bad : (m : Wrong) → r1 ≡ Err m → ParsedAt factor false s at d w o (Err m) o1
    factor-not-bad m e = record { is = not-bad-is m e }

    not-of : (p : ℕ) (w1 w2 : Tally) (o2 : List ℕ) → Emitted nots w1 o1 w2 o2 → (t : Factor) → w1 ≡ note_all (tokens_f t) w → o1 ≡ put_all (tokens_f t) w o
        → (w2 ≡ note_all (tokens_f (not t)) w) × (o2 ≡ put_all (tokens_f (not t)) w o)
    unfolding tokens_c note_all put_all
    not-of p w1 w2 o2 z t q u = (
      z.tally ∙ (ap (note_b (length (token_bytes nots)) (takes nots)) q ∙ sym (note-append (tokens_f t) (nots ∷ []) w)),
      z.bytes ∙ (ap (λ (y : Tally). put_b (token_bytes nots) y o1) q ∙ (ap (put_b (token_bytes nots) (note_all (tokens_f t) w)) u ∙ sym (put-append (tokens_f t) (nots ∷ []) w o))),
    )

    not_is : (p : ℕ) (w1 : Tally) → r1 ≡ came p w1 → (w2 : Tally) (o2 : List ℕ) → Emitted nots w1 o1 w2 o2
        → (f : ℕ) → steps_at factor s at < f → Outcome tokens_f s w o (read f factor d (drop at s)) (came p w2) o2
    not_is p w1 e w2 o2 z zero g = absurd (omega arith)
    not_is p w1 e w2 o2 z (suc f) g =
        let t = took f factor false s (at + 1) d w o r1 o1 p w1 (omega arith) e (h.is f (omega arith)) in
        let v = not-of p w1 w2 o2 z t.tree t.tally t.bytes in
        subst (λ (y : Res Factor). Outcome tokens_f s w o y (came p w2) o2)
        (sym (not_step f ∙ ap (λ (y : Res Factor). onward y (λ x. give (not x))) t.reads))
        (ap (λ (n : ℕ). came n w2) (sym (back s p t.top)) ∙ ap (came (length s - length (drop p s))) v.0, v.1)

    pub factor-not : (p : ℕ) (w1 : Tally) → r1 ≡ came p w1 → (w2 : Tally) (o2 : List ℕ) → Emitted nots w1 o1 w2 o2 → ParsedAt factor false s at d w o (came p w2) o2
    factor-not p w1 e w2 o2 z = record { is = not_is p w1 e w2 o2 z }

  module _ (n : is_at s at 33 ≡ false) where
    else-step : (f : ℕ) → read (suc f) factor d (drop at s) ≡ pick (is 40) (choose (eqb d 0) stop (expect 40 (read_in f))) read_comparison (drop at s)
    else-step f =
        factor-link f (drop at s)
        ∙ pick_is false (is 33) (expect 33 (read_not f)) (pick (is 40) (choose (eqb d 0) stop (expect 40 (read_in f))) read_comparison) (drop at s) (not-here s at 33 n)

    compare-is : is_at s at 40 ≡ false → (r : Result Place Wrong) (q : List ℕ) → ComparedAt s at w o r q → (f : ℕ) → steps_at factor s at < f → Outcome tokens_f s w o (read f factor d (drop at s)) r q
    compare-is b r q h zero g = absurd (omega arith)
    compare-is b r q h (suc f) g =
        subst (λ (y : Res Factor). Outcome tokens_f s w o y r q)
        (sym (else-step f ∙ pick_is false (is 40) (choose (eqb d 0) stop (expect 40 (read_in f))) read_comparison (drop at s) (not-here s at 40 b))) h.is

    pub factor-compare : is_at s at 40 ≡ false → (r : Result Place Wrong) (q : List ℕ) → ComparedAt s at w o r q → ParsedAt factor false s at d w o r q
    factor-compare b r q h = record { is = compare-is b r q h }

    module _ (b : is_at s at 40 ≡ true) where
      open_step : (f : ℕ) (x : Bool) → eqb d 0 ≡ x → read (suc f) factor d (drop at s) ≡ choose x stop (expect 40 (read_in f)) (drop at s)
      open_step f x e =
          else-step f ∙ (pick_is true (is 40) (choose (eqb d 0) stop (expect 40 (read_in f))) read_comparison (drop at s) (ap (is 40) (head_at s at) ∙ b)
          ∙ ap (λ (y : Bool). choose y stop (expect 40 (read_in f)) (drop at s)) e)

      deep_is : eqb d 0 ≡ true → (q : List ℕ) → (f : ℕ) → steps_at factor s at < f → Outcome tokens_f s w o (read f factor d (drop at s)) (Err (wrong at)) q
      deep_is e q zero g = absurd (omega arith)
      deep_is e q (suc f) g = subst (λ (y : Res Factor). Outcome tokens_f s w o y (Err (wrong at)) q) (sym (open_step f true e)) (ap (λ (n : ℕ). Err (wrong n)) (sym (back s at low)), tt)

      pub factor-deep : eqb d 0 ≡ true → (q : List ℕ) → ParsedAt factor false s at d w o (Err (wrong at)) q
      factor-deep e q = record { is = deep_is e q }

      module _ (e : eqb d 0 ≡ false) (inside : at < length s) (r1 : Result Place Wrong) (o1 : List ℕ) (h : ParsedAt condition false s (at + 1) (d - 1) w o r1 o1) where
        in_step : (f : ℕ) → read (suc f) factor d (drop at s) ≡ read_in f (drop (at + 1) s)
        in_step f = open_step f false e ∙ expect-yes 40 (read_in f) s at b inside refl

        in-bad-is : (m : Wrong) → r1 ≡ Err m → (f : ℕ) → steps_at factor s at < f → Outcome tokens_f s w o (read f factor d (drop at s)) (Err m) o1
        in-bad-is m x zero g = absurd (omega arith)
        in-bad-is m x (suc f) g =
            rw (in_step f) (bad-on tokens_c tokens_f s w w o o (λ c. expect 41 (give (paren c))) (read f condition (d - 1) (drop (at + 1) s)) r1 o1 m x (h.is f (omega arith)))

        pub factor-bad : (m : Wrong) → r1 ≡ Err m → ParsedAt factor false s at d w o (Err m) o1
        factor-bad m x = record { is = in-bad-is m x }

        module _ (p : ℕ) (w1 : Tally) (x : r1 ≡ came p w1) where
          in-took : (f : ℕ) → steps_at factor s at < suc f → Took f condition false s (at + 1) (d - 1) w o p w1 o1
          in-took f g = took f condition false s (at + 1) (d - 1) w o r1 o1 p w1 (omega arith) x (h.is f (omega arith))

          paren-toks : (c : ConditionTree) → tokens_c c ≡ tokens_f (paren c)
          unfolding tokens_c
          paren-toks c = refl

          shut-is : is_at s p 41 ≡ true → p < length s → (f : ℕ) → steps_at factor s at < f → Outcome tokens_f s w o (read f factor d (drop at s)) (came (p + 1) w1) o1
          shut-is y i zero g = absurd (omega arith)
          shut-is y i (suc f) g =
              let t = in-took f g in
              subst (λ (v : Res Factor). Outcome tokens_f s w o v (came (p + 1) w1) o1)
              (sym (in_step f ∙ (ap (λ (v : Res ConditionTree). onward v (λ c. expect 41 (give (paren c)))) t.reads ∙ expect-yes 41 (give (paren t.tree)) s p y i refl))) (
                ap (λ (m : ℕ). came m w1) (sym (back s (p + 1) (omega arith))) ∙ ap (came (length s - length (drop (p + 1) s))) (t.tally ∙ ap (λ (l : List Token). note_all l w) (paren-toks t.tree)),
                t.bytes ∙ ap (λ (l : List Token). put_all l w o) (paren-toks t.tree),
              )

          pub factor-shut : is_at s p 41 ≡ true → p < length s → ParsedAt factor false s at d w o (came (p + 1) w1) o1
          factor-shut y i = record { is = shut-is y i }

          left_is : is_at s p 41 ≡ false → (f : ℕ) → steps_at factor s at < f → Outcome tokens_f s w o (read f factor d (drop at s)) (Err (wrong p)) o1
          left_is y zero g = absurd (omega arith)
          left_is y (suc f) g =
              let t = in-took f g in
              subst (λ (v : Res Factor). Outcome tokens_f s w o v (Err (wrong p)) o1)
              (sym (in_step f ∙ (ap (λ (v : Res ConditionTree). onward v (λ c. expect 41 (give (paren c)))) t.reads ∙ expect-no 41 (give (paren t.tree)) (drop p s) (not-here s p 41 y))))
              (ap (λ (n : ℕ). Err (wrong n)) (sym (back s p t.top)), tt)

          pub factor-left : is_at s p 41 ≡ false → ParsedAt factor false s at d w o (Err (wrong p)) o1
          factor-left y = record { is = left_is y }
