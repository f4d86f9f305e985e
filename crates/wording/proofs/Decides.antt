-- The whole translation: the first walk decides the answer, the second leaves the stored form.
use mathlib.Core.Path.{◌≡◌, refl, sym, ap, subst, ◌∙◌}
use mathlib.Core.Bool.{Bool, true, false}
use mathlib.Core.List.{List, [], ◌∷◌, ◌++◌, append-nil}
use Prim.Native.Nat.{ℕ, suc, ◌+◌, ◌-◌, ◌≤◌, ◌<◌}
use native.Mathlib.Omega.{arith}
use lib.Dec.{leb}
use borrow.Author.Tests.{le-leb, lt-leb, leb-true}
use lib.ListN.{length, length-append, drop, length-drop}
use lib.Seq.{drop-drop}
use Rattle.octets.specs.Bytes.{put_at, put_on, front}
use Rattle.octets.proofs.Writes.{put_all as put_front}
use Rattle.octets.specs.Order.{need}
use Rattle.wording.specs.declared.tallies.Tally.{Tally}
use Rattle.std.specs.Prelude.{Result, Ok, Err}
use Rattle.wording.specs.declared.walk.Place.{Place}
use Rattle.wording.specs.declared.walk.Wrong.{Wrong}
use Rattle.std.specs.Prelude.{Result, Ok, Err}
use Rattle.refusal.specs.declared.Refusal.{Refusal}
use Rattle.refusal.specs.declared.Refusal.TheVariants.{Text, Large, Room}
use Rattle.wording.specs.declared.Stored.{Stored}
use Rattle.wording.specs.declared.TextFault.{TextFault}
use Rattle.wording.specs.Grammar.{Condition, text_c, InGrammar}
use Rattle.wording.specs.Reader.{Res, good, bad, out, condition, read, Reading, accepted, refused, end_of, bound, reading}
use Rattle.wording.specs.Stored.{formula_c, tokens_of, deep, bytes_all, stored_of}
use Rattle.wording.specs.Translation.{done_with, refused_at, holdable, storing, answer_by, translation_of, stored_by, laid_on, out_after}
use Rattle.wording.specs.Inner.Tokens.{tokens_c}
use Rattle.wording.specs.Inner.Walk.{note_all, put_all, tally0, start_place, Outcome, ParsedAt, came, decide_at, headed, Wrote}
use Rattle.wording.proofs.Keeps.{OkOf}
use Rattle.wording.proofs.Whole.{ok_read}
use Rattle.wording.proofs.Reading.{sound}
use Rattle.wording.proofs.Flat.{tokens-flat}
use Rattle.wording.proofs.Deep.{highest, highest-is}
use Rattle.wording.proofs.Sizes.{tokens-exact, size_exact, highest-exact, put-exact}
use Rattle.wording.proofs.Small.{small-C}

-- ---- the first walk

pub stored-length : (c : Condition) → length (stored_of c) ≡ 4 + length (bytes_all (tokens_c c))
unfolding stored_of
stored-length c = rw (tokens-flat c) (omega arith)

-- the tally of a whole tree
pub record Counted (c : Condition) (w : Tally) : Type 0 where
  pub tokens : w.tokens ≡ length (tokens_of c)
  pub size : w.size ≡ length (stored_of c)
  pub highest : w.highest ≡ deep (formula_c c)

counted : (c : Condition) → length (text_c c) ≤ 512 → Counted c (note_all (tokens_c c) tally0)
counted c h =
    let b = small-C c in
    let n = tokens-exact (tokens_c c) tally0 (omega arith) in
    let z = size_exact (tokens_c c) tally0 (omega arith) in
    let g = highest-exact (tokens_c c) tally0 (omega arith) in
    let f = tokens-flat c in
    record {
      tokens = omega (arith, n, ap length f);
      size = omega (arith, z, stored-length c);
      highest = g ∙ (ap (highest 0 0) f ∙ highest-is (formula_c c));
    }

-- what is decided of a walk that came to an end, or went wrong
abbrev pub decide_of : Result Place Wrong → ℕ → ℕ → Result Stored TextFault
decide_of (Ok p) len room = decide_at p.at p.tally len room
decide_of (Err q) len room = refused_at Text q.at

module _ (s : List ℕ) (short : length s ≤ 512) (room : ℕ) where
  -- the text to its end
  whole_is : (c : Condition) (a : Result Place Wrong) → s ≡ text_c c → a ≡ came (length s - 0) (note_all (tokens_c c) tally0) → decide_of a (length s) room ≡ storing room c
  unfolding storing need
  whole_is c a e h =
      let k = counted c (omega (arith, ap length e)) in
      rw (h, le-leb (length s) (length s - 0) (omega arith), k.tokens, k.size, k.highest)

  -- as the reader decides
  decided-of : (f : ℕ) (x : Res Condition) → OkOf text_c InGrammar [] (read f condition 12) s x → (a : Result Place Wrong) (o q : List ℕ) → Outcome tokens_c s tally0 o x a q
      → decide_of a (length s) room ≡ answer_by room (end_of (length s) x)
  unfolding answer_by need
  decided-of f (good c []) k a o q g = whole_is c a (k.text ∙ (append-nil k.part ∙ k.spelt)) g.0
  decided-of f (good c (b ∷ l)) k a o q g =
      let m = ap length k.text ∙ length-append k.part (b ∷ l) in
      rw (g.0, lt-leb (length s) (length s - length (b ∷ l)) (omega arith))
  decided-of f (bad l) k a o q g = rw g.0
  decided-of f out k a o q g = absurd g

  decided : (a : Result Place Wrong) (o q : List ℕ) → ParsedAt condition false s 0 12 tally0 o a q → decide_of a (length s) room ≡ translation_of s room
  unfolding reading translation_of need
  decided a o q h =
      rw (le-leb (length s) 512 short)
      (decided-of (bound s) (read (bound s) condition 12 s) (ok_read (bound s) condition 12 s) a o q (h.is (bound s) (omega arith)))

pub too_long : (s : List ℕ) (room : ℕ) → 512 < length s → refused_at Text 512 ≡ translation_of s room
unfolding translation_of need
too_long s room h = rw (lt-leb (length s) 512 h)

-- ---- the second walk

pub headed-is : (o : List ℕ) → 4 ≤ length o → put_on (0x61 ∷ 0x72 ∷ 0x74 ∷ 0x78 ∷ []) o ≡ headed o
headed-is o h = put_front (0x61 ∷ 0x72 ∷ 0x74 ∷ 0x78 ∷ []) o h

pub wrote : (s o o1 : List ℕ) (b : Place) (r : Result Place Wrong) (q : List ℕ) → b ≡ start_place → o1 ≡ headed o → ParsedAt condition false s b.at 12 b.tally o1 r q → Wrote s o q
unfolding reading
wrote s o o1 b r q a e h =
    let k = subst (λ (y : Place). ParsedAt condition false s y.at 12 y.tally o1 r q) a h in
    record { is = λ c f. by c (read (bound s) condition 12 s) f (k.is (bound s) (omega arith)) }
  where
    by : (c : Condition) (x : Res Condition) → end_of (length s) x ≡ accepted c → Outcome tokens_c s tally0 o1 x r q → q ≡ put_all (tokens_c c) tally0 (headed o)
    by c (good t []) f g =
        let z : t ≡ c = cc in
        g.1 ∙ (ap (put_all (tokens_c t) tally0) e ∙ ap (λ (y : Condition). put_all (tokens_c y) tally0 (headed o)) z)
    by c (good t (b ∷ l)) f g = cc
    by c (bad l) f g = cc
    by c out f g = absurd g

-- ---- the answer and the lent bytes

-- what done says of a tree
pub record Fits (c : Condition) (room n k : ℕ) : Type 0 where
  pub size : n ≡ length (stored_of c)
  pub tokens : k ≡ length (tokens_of c)
  pub room_for : length (stored_of c) ≤ room
  pub few : holdable c ≡ true

ok-is : (a b : Stored) → ◌≡◌ {A = Result Stored TextFault} (Ok a) (Ok b) → a ≡ b
ok-is a b e = cc

err-is : (a b : TextFault) → ◌≡◌ {A = Result Stored TextFault} (Err a) (Err b) → a ≡ b
err-is a b e = cc

-- two equal refusals have one reason and one offset
pub same-why : (a b : Refusal) (j k : ℕ) → refused_at a j ≡ refused_at b k → a ≡ b
same-why a b j k e = ap (λ (x : TextFault). x.why) (err-is _ _ e)

pub same-at : (a b : Refusal) (j k : ℕ) → refused_at a j ≡ refused_at b k → j ≡ k
same-at a b j k e = ap (λ (x : TextFault). x.at) (err-is _ _ e)

fits : (room : ℕ) (c : Condition) (n k : ℕ) → done_with n k ≡ storing room c → Fits c room n k
unfolding storing need
fits room c n k e = by (holdable c) (leb (length (stored_of c)) room) refl refl e
  where
    by : (x y : Bool) → holdable c ≡ x → leb (length (stored_of c)) room ≡ y
        → done_with n k ≡ need x (refused_at Large 0) (need y (refused_at Room 0) (done_with (length (stored_of c)) (length (tokens_of c)))) → Fits c room n k
    by true true f h g = let e = ok-is _ _ g in record { size = ap (λ (x : Stored). x.size) e; tokens = ap (λ (x : Stored). x.tokens) e; room_for = leb-true (length (stored_of c)) room h; few = f }
    by true false f h g = cc
    by false y f h g = cc

-- done is said of a text that has a tree, which fits
pub record DoneBy (s : List ℕ) (room n k : ℕ) : Type 0 where
  pub tree : Condition
  pub reads : reading s ≡ accepted tree
  pub short : length s ≤ 512
  pub fit : Fits tree room n k

pub done-by : (s : List ℕ) (room n k : ℕ) → done_with n k ≡ translation_of s room → DoneBy s room n k
unfolding translation_of need answer_by
done-by s room n k e = by (leb (length s) 512) refl e
  where
    on : (x : Reading) → reading s ≡ x → length s ≤ 512 → done_with n k ≡ answer_by room x → DoneBy s room n k
    on (accepted c) r h g = record { tree = c; reads = r; short = h; fit = fits room c n k g }
    on (refused m) r h g = cc

    by : (x : Bool) → leb (length s) 512 ≡ x → done_with n k ≡ need x (refused_at Text 512) (answer_by room (reading s)) → DoneBy s room n k
    by true h g = on (reading s) refl (leb-true (length s) 512 h) g
    by false h g = cc

pub done-room : (s : List ℕ) (room n k : ℕ) → done_with n k ≡ translation_of s room → 4 ≤ room
done-room s room n k e = let d = done-by s room n k e in omega (arith, stored-length d.tree, d.fit.room_for)

past : (o : List ℕ) (k : ℕ) → drop (4 + k) (headed o) ≡ drop (suc (suc (suc (suc k)))) o
past o k = sym (drop-drop k 4 (headed o)) ∙ (drop-drop k 4 o ∙ ap (λ (n : ℕ). drop n o) (let e : 4 + k ≡ suc (suc (suc (suc k))) = omega arith in e))

-- with room for them the tokens behind the four bytes are the stored form on the front
written_is : (c : Condition) (o : List ℕ) → length (text_c c) ≤ 512 → length (stored_of c) ≤ length o → put_all (tokens_c c) tally0 (headed o) ≡ front (stored_of c) o
unfolding stored_of put_at
written_is c o h room =
    let b = small-C c in
    let m = stored-length c in
    let d : length (headed o) ≡ length o = omega (arith, length-drop 4 o) in
    put-exact (tokens_c c) tally0 (headed o) (omega arith) (omega arith)
    ∙ rw (tokens-flat c) (ap (λ (y : List ℕ). 0x61 ∷ 0x72 ∷ 0x74 ∷ 0x78 ∷ (bytes_all (tokens_of c) ++ y)) (past o (length (bytes_all (tokens_of c)))))

-- a refusal leaves everything as it was
pub after-refusal : (s o : List ℕ) (k : Refusal) (m : ℕ) → refused_at k m ≡ translation_of s (length o) → o ≡ out_after s o
unfolding out_after laid_on
after-refusal s o k m e = ap (λ (y : Result Stored TextFault). laid_on y (stored_by (reading s)) o) e

-- done leaves the stored form on the front
pub after-done : (s o q : List ℕ) (n k : ℕ) → done_with n k ≡ translation_of s (length o) → Wrote s o q → q ≡ out_after s o
unfolding out_after laid_on stored_by
after-done s o q n k e h =
    let d = done-by s (length o) n k e in
    let t = sound s d.tree d.reads in
    h.is d.tree d.reads
    ∙ (written_is d.tree o (omega (arith, ap length t.0, d.short)) d.fit.room_for
    ∙ (ap (λ (y : Reading). front (stored_by y) o) (sym d.reads)
    ∙ ap (λ (y : Result Stored TextFault). laid_on y (stored_by (reading s)) o) e))

-- ---- the first walk was lent an empty part of what is lent

pub nothing : (ys : List ℕ) → length ys ≡ 0 → ys ≡ []
nothing [] h = refl
nothing (b ∷ l) h = absurd (omega arith)

pub first_walk : (s o ys : List ℕ) (b : Place) (a : Result Place Wrong) (p q : List ℕ) → length s ≤ 512 → length ys ≡ 0 → b ≡ start_place → ParsedAt condition false s b.at 12 b.tally p a q
    → decide_of a (length s) (length (ys ++ o)) ≡ translation_of s (length o)
first_walk s o ys b a p q short none e h =
    decided s short (length (ys ++ o)) a p q (subst (λ (y : Place). ParsedAt condition false s y.at 12 y.tally p a q) e h)
    ∙ ap (λ (l : List ℕ). translation_of s (length (l ++ o))) (nothing ys none)
