-- What a reader asks of conditions typed as text: one reading, the offset of a refusal, the same meaning, what is written, and when there is no room.
use mathlib.Core.Path.{◌≡◌, refl, sym, ap, subst, ◌∙◌}
use mathlib.Core.Bool.{Bool, true, false, cond, false≢true}
use mathlib.Core.List.{List, ◌∷◌, ◌++◌, map, append_assoc}
use mathlib.Core.Option.{none, some}
use mathlib.Core.Logic.{◌↔◌}
use Prim.Native.Nat.{ℕ, ◌+◌, ◌≤◌, ◌<◌}
use native.Mathlib.Omega.{arith}
use lib.ListN.{length, get_or, take, drop, take-append-drop}
use lib.Seq.{take-take, take_at, drop_at}
use lib.Dec.{leb}
use borrow.Author.Tests.{le-leb, lt-leb, leb-false}
use Rattle.octets.specs.Bytes.{front}
use Rattle.octets.specs.Order.{need}
use Rattle.condition.specs.Token.{Token, push, number}
use Rattle.condition.specs.Kind.{accepted_of, stored_end, stored_alone}
use Rattle.condition.specs.Table.{Attribute, attributes_of, table_ok}
use Rattle.condition.specs.Meaning.{and_of, or_of, not_of, evaluate_of}
use Rattle.std.specs.Prelude.{Result, Ok}
use Rattle.refusal.specs.declared.Refusal.{Refusal}
use Rattle.refusal.specs.declared.Refusal.TheVariants.{Text, Large, Room}
use Rattle.wording.specs.declared.Stored.{Stored}
use Rattle.wording.specs.declared.TextFault.{TextFault}
use Rattle.wording.specs.Grammar.{Condition, last, or, only, and, not, paren, ascii, text_c, ValidC, InGrammar, Goes, Stops}
use Rattle.wording.specs.Reader.{Reading, accepted, refused, reading}
use Rattle.wording.specs.Stored.{operand_of, tokens_of, bytes_all, stored_of}
use Rattle.wording.specs.Meaning.{means_c}
use Rattle.wording.specs.Translation.{done_with, refused_at, holdable, storing, answer_by, translation_of, stored_by, laid_on, out_after}
use Rattle.wording.proofs.Reading.{sound, complete, offset, refused-there}
use Rattle.wording.proofs.Checked.{checked, alone, no-padding, stored-means}
use Rattle.wording.proofs.Order.{sides_c, pushed, text-order, signs-and-bases}
use Rattle.wording.proofs.Decides.{done-by, same-why, same-at}

-- ---- (a) one reading: two trees of one text are the same (`one-reading`, in Reading), and the parser finds it exactly where there is one

pub finds : (s : List ℕ) (c : Condition) → (reading s ≡ accepted c) ↔ ((s ≡ text_c c) × InGrammar c)
finds s c = (sound s c, λ h. ap reading h.0 ∙ complete c h.1)

-- ---- (b) the offset of 16

-- in a text of at most 512 bytes 16 is told of k exactly where it leaves the grammar there
pub sixteen : (s : List ℕ) (room k : ℕ) → length s ≤ 512 → (translation_of s room ≡ refused_at Text k) ↔ Stops s k
unfolding translation_of need answer_by storing
sixteen s room k h = (λ e. to (reading s) refl (rw (le-leb (length s) 512 h) at e), λ g. rw (le-leb (length s) 512 h, refused-there s k g))
  where
    to : (x : Reading) → reading s ≡ x → answer_by room x ≡ refused_at Text k → Stops s k
    to (refused m) r e = offset s k (r ∙ ap refused (same-at Text Text m k e))
    to (accepted c) r e = absurd (by (holdable c) (leb (length (stored_of c)) room) e)
      where
        by : (x y : Bool) → need x (refused_at Large 0) (need y (refused_at Room 0) (done_with (length (stored_of c)) (length (tokens_of c)))) ≡ refused_at Text k → ⊥
        by false y e = let v = same-why Large Text 0 k e in cc
        by true false e = let v = same-why Room Text 0 k e in cc
        by true true e = cc

-- a longer one is refused at 512 before any byte is looked at
pub sixteen-long : (s : List ℕ) (room : ℕ) → 512 < length s → translation_of s room ≡ refused_at Text 512
unfolding translation_of need
sixteen-long s room h = rw (lt-leb (length s) 512 h)

-- every shorter beginning goes on to a condition's text too: with what the longest one goes on with
pub shorter-goes : (s : List ℕ) (k j : ℕ) → Stops s k → j ≤ k → Goes text_c InGrammar (take j s)
shorter-goes s k j g l =
    let t = g.goes in
    record {
      rest = drop j (take k s) ++ t.rest;
      tree = t.tree;
      valid = t.valid;
      spelt =
          sym (append_assoc (take j s) (drop j (take k s)) t.rest)
          ∙ (ap (λ (y : List ℕ). y ++ t.rest) (ap (λ (y : List ℕ). y ++ drop j (take k s)) (sym (take-take j k s l)) ∙ take-append-drop j (take k s)) ∙ t.spelt);
    }

-- ---- (c), (d) what is done

-- the stored form that a done translation left on the front of o, with the tree that the text is
pub record Translates (s o : List ℕ) (n k : ℕ) : Type 0 where
  pub tree : Condition
  pub text : s ≡ text_c tree
  pub in-grammar : InGrammar tree
  -- what was written is the tree's stored form; behind it all is as it was
  pub written : take n (out_after s o) ≡ stored_of tree
  pub rest : drop n (out_after s o) ≡ drop n o
  pub size : n ≡ length (stored_of tree)
  pub tokens : k ≡ length (tokens_of tree)
  -- the check of RULES 11.4 accepts it with its tokens, which end where it does: there is no padding
  pub accepts : accepted_of (take n (out_after s o)) ≡ some (tokens_of tree)
  pub ends : stored_end (take n (out_after s o)) ≡ n
  -- under every table that is made so it evaluates to what the text means
  pub means : (table : List ℕ) → table_ok table ≡ true → evaluate_of (take n (out_after s o)) table ≡ Ok (means_c (attributes_of table) tree)
  -- its operands stand in the order of the text
  pub in_order : pushed (tokens_of tree) ≡ map operand_of (sides_c tree)
  -- each number has sign byte 3 and base byte 2
  pub signs : (p : List Token) (w : ℕ) (q : List Token) → tokens_of tree ≡ p ++ (push (number w) ∷ q)
      → (get_or (drop (4 + length (bytes_all p)) (take n (out_after s o))) 0 0 ≡ 0x04)
      × (get_or (drop (4 + length (bytes_all p)) (take n (out_after s o))) 9 0 ≡ 3)
      × (get_or (drop (4 + length (bytes_all p)) (take n (out_after s o))) 10 0 ≡ 2)

-- done leaves the stored form on the front
done-leaves : (s o : List ℕ) (n k : ℕ) (c : Condition) → translation_of s (length o) ≡ done_with n k → reading s ≡ accepted c → out_after s o ≡ front (stored_of c) o
unfolding out_after laid_on stored_by
done-leaves s o n k c e r = rw (e, r)

pub means-the-same : (s o : List ℕ) (n k : ℕ) → translation_of s (length o) ≡ done_with n k → Translates s o n k
means-the-same s o n k e =
    let d = done-by s (length o) n k (sym e) in
    let c = d.tree in
    let t = sound s c d.reads in
    let z = d.fit.size in
    let short : length (text_c c) ≤ 512 = omega (arith, ap length t.0, d.short) in
    let a : out_after s o ≡ stored_of c ++ drop (length (stored_of c)) o = done-leaves s o n k c e d.reads in
    let w : take n (out_after s o) ≡ stored_of c = ap (take n) a ∙ take_at (stored_of c) (drop (length (stored_of c)) o) n (sym z) in
    record {
      tree = c;
      text = t.0;
      in-grammar = t.1;
      written = w;
      rest = ap (drop n) a ∙ (drop_at (stored_of c) (drop (length (stored_of c)) o) n (sym z) ∙ ap (λ (y : ℕ). drop y o) (sym z));
      size = z;
      tokens = d.fit.tokens;
      accepts = ap accepted_of w ∙ (checked c t.1 short ∙ ap (λ (b : Bool). cond b (some (tokens_of c)) none) d.fit.few);
      ends = ap stored_end w ∙ (no-padding c t.1 short d.fit.few ∙ sym z);
      means = λ table q. ap (λ (y : List ℕ). evaluate_of y table) w ∙ stored-means c t.1 short d.fit.few table q;
      in_order = text-order c;
      signs = λ p v q x.
          subst
          (λ (y : List ℕ).
          (get_or (drop (4 + length (bytes_all p)) y) 0 0 ≡ 0x04) × (get_or (drop (4 + length (bytes_all p)) y) 9 0 ≡ 3) × (get_or (drop (4 + length (bytes_all p)) y) 10 0 ≡ 2))
          (sym w) (signs-and-bases c p v q x);
    }

-- ---- (e) 17, then 8

-- the answer to a text of the grammar
stored_answer : (s : List ℕ) (room : ℕ) (c : Condition) → length s ≤ 512 → reading s ≡ accepted c
    → translation_of s room ≡ need (holdable c) (refused_at Large 0) (need (leb (length (stored_of c)) room) (refused_at Room 0) (done_with (length (stored_of c)) (length (tokens_of c))))
unfolding translation_of answer_by storing need
stored_answer s room c h r = rw (le-leb (length s) 512 h, r)

-- 17 exactly where there are over 64 tokens or the stack stands deeper than 16; that is exactly where the check of RULES 11.4 refuses the stored form; then 8, exactly
-- where it is longer than the room
pub record Limits (s : List ℕ) (room : ℕ) (c : Condition) : Type 0 where
  pub seventeen : (translation_of s room ≡ refused_at Large 0) ↔ (holdable c ≡ false)
  pub by-five : stored_alone (stored_of c) ≡ holdable c
  pub eight : holdable c ≡ true → (translation_of s room ≡ refused_at Room 0) ↔ (room < length (stored_of c))

-- by the two tests
abbrev After : Bool → Bool → ℕ → ℕ → Result Stored TextFault
After x y n k = need x (refused_at Large 0) (need y (refused_at Room 0) (done_with n k))

decide-17 : (x y : Bool) (n k : ℕ) → (After x y n k ≡ refused_at Large 0) ↔ (x ≡ false)
unfolding need
decide-17 false y n k = (λ e. refl, λ e. refl)
decide-17 true false n k = (λ e. let v = same-why Room Large 0 0 e in cc, λ e. absurd (false≢true (sym e)))
decide-17 true true n k = (λ e. cc, λ e. absurd (false≢true (sym e)))

decide-8 : (x y : Bool) (n k : ℕ) → x ≡ true → (After x y n k ≡ refused_at Room 0) ↔ (y ≡ false)
unfolding need
decide-8 false y n k h = absurd (false≢true h)
decide-8 true false n k h = (λ e. refl, λ e. refl)
decide-8 true true n k h = (λ e. cc, λ e. absurd (false≢true (sym e)))

pub limits : (s : List ℕ) (room : ℕ) (c : Condition) → length s ≤ 512 → reading s ≡ accepted c → Limits s room c
limits s room c h r =
    let is = stored_answer s room c h r in
    let a = decide-17 (holdable c) (leb (length (stored_of c)) room) (length (stored_of c)) (length (tokens_of c)) in
    record {
      seventeen = (λ e. a.0 (sym is ∙ e), λ f. is ∙ a.1 f);
      by-five = let t = sound s c r in alone c t.1 (omega (arith, ap length t.0));
      eight = λ f.
          let b = decide-8 (holdable c) (leb (length (stored_of c)) room) (length (stored_of c)) (length (tokens_of c)) f in
          (λ e. leb-false (length (stored_of c)) room (b.0 (sym is ∙ e)), λ l. is ∙ b.1 (lt-leb (length (stored_of c)) room l));
    }

-- a refusal writes nothing
pub nothing_written : (s o : List ℕ) (k : Refusal) (m : ℕ) → translation_of s (length o) ≡ refused_at k m → out_after s o ≡ o
unfolding out_after laid_on
nothing_written s o k m e = rw e

-- ---- what administrators ask: a text in parentheses, with a ! before it, or joined to another one

-- with nesting left for one pair of parentheses more
pub turned : (c : Condition) → ValidC c 11 → reading (ascii "!(" ++ (text_c c ++ ascii ")")) ≡ accepted (last (only (not (paren c))))
unfolding text_c ValidC
turned c v = complete (last (only (not (paren c)))) (omega arith, v)

pub turned-means : (c : Condition) (table : List Attribute) → means_c table (last (only (not (paren c)))) ≡ not_of (means_c table c)
unfolding means_c
turned-means c table = refl

pub both : (c e : Condition) → ValidC c 11 → ValidC e 11
    → reading ((ascii "(" ++ (text_c c ++ ascii ")")) ++ (ascii "&&(" ++ (text_c e ++ ascii ")"))) ≡ accepted (last (and (paren c) (only (paren e))))
unfolding text_c ValidC
both c e v w = complete (last (and (paren c) (only (paren e)))) ((omega arith, v), (omega arith, w))

pub both-means : (c e : Condition) (table : List Attribute) → means_c table (last (and (paren c) (only (paren e)))) ≡ and_of (means_c table c) (means_c table e)
unfolding means_c
both-means c e table = refl

pub either : (c e : Condition) → ValidC c 11 → ValidC e 11
    → reading ((ascii "(" ++ (text_c c ++ ascii ")")) ++ (ascii "||(" ++ (text_c e ++ ascii ")"))) ≡ accepted (or (only (paren c)) (last (only (paren e))))
unfolding text_c ValidC
either c e v w = complete (or (only (paren c)) (last (only (paren e)))) ((omega arith, v), (omega arith, w))

pub either-means : (c e : Condition) (table : List Attribute) → means_c table (or (only (paren c)) (last (only (paren e)))) ≡ or_of (means_c table c) (means_c table e)
unfolding means_c
either-means c e table = refl
