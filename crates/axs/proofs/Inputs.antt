-- Whatever the input and however reads hand it over: what a run says once it is over is the text that the definition has for the input.
use mathlib.Core.Path.{◌≡◌, refl, sym, ap, subst, ◌∙◌}
use mathlib.Core.Bool.{Bool, true, false, cond}
use mathlib.Core.List.{List, [], ◌∷◌, ◌++◌, append_assoc, append-nil}
use mathlib.Core.Option.{some}
use Prim.Native.Nat.{ℕ, suc, ◌+◌, ◌-◌, ◌≤◌, ◌<◌}
use native.Mathlib.Nat.{add_assoc}
use native.Mathlib.Omega.{arith}
use lib.ListN.{length, drop, length-append, length-drop}
use lib.Seq.{drop-drop, drop-append-le}
use lib.Dec.{eqb, leb, ltb}
use Rattle.axs.specs.declared.Channel.TheVariants.{Output, Error}
use borrow.Author.Tests.{le-leb, lt-leb, lt-ltb, le-ltb, eq-eqb, ne_eqb}
use Rattle.octets.specs.Bytes.{le}
use Rattle.octets.proofs.Places.{split}
use Rattle.octets.proofs.Tests.{off}
use Rattle.tree.specs.Shown.{lists_in}
use Rattle.tree.specs.Formed.{formed}
use Rattle.script.specs.Fold.{Run, past, run_of, all_pieces}
use Rattle.script.specs.Play.{Listed, BadAt, script_head_ok, ending_after, fresh, ending_of, text_of}
use Rattle.script.proofs.Folds.{run-used, bad-short, run-append}
use Rattle.script.proofs.Plays.{fresh-formed, run-formed}
use Rattle.axs.specs.declared.End.{End}
use Rattle.axs.specs.declared.End.TheVariants.{Whole, Bad, Failed}
use Rattle.axs.specs.Reads.{Read, Gave, Broke, Stand, Course, On, Over, most, on_records, on_head, on_bytes, end_at, after_read, then_read, course_of, nothing_read, InputOf}
use Rattle.axs.proofs.Turns.{one_more}
use Rattle.axs.specs.Speech.{Speech, unread_text, speech, speech_of}
use Rattle.axs.specs.Inner.Buffered.{Listable}

-- ---- what came at once and what comes in two pieces is the same course

-- five bytes decide a head
head-then : (t p : List ℕ) → 5 ≤ length t → script_head_ok (t ++ p) ≡ script_head_ok t
unfolding script_head_ok le
head-then [] p h = absurd (omega arith)
head-then (a ∷ []) p h = absurd (omega arith)
head-then (a ∷ b ∷ []) p h = absurd (omega arith)
head-then (a ∷ b ∷ c ∷ []) p h = absurd (omega arith)
head-then (a ∷ b ∷ c ∷ d ∷ []) p h = absurd (omega arith)
head-then (a ∷ b ∷ c ∷ d ∷ f ∷ t) p h =
    rw (le-leb 5 (suc (suc (suc (suc (suc (length (t ++ p))))))) (omega arith), le-leb 5 (suc (suc (suc (suc (suc (length t)))))) (omega arith)) refl

-- a head of fewer bytes is none
head-cut : (s : List ℕ) → length s < 5 → script_head_ok s ≡ false
unfolding script_head_ok
head-cut s h = rw (lt-leb 5 (length s) h) refl

-- a read that gave bytes
some-came : (g : Stand) (p : List ℕ) → (length p ≡ 0 → ⊥) → then_read (On g) (Gave p) ≡ on_bytes g p
unfolding then_read after_read
some-came g [] f = absurd (f refl)
some-came g (x ∷ p) f = refl

-- the course of a run over the records in t
abbrev coursed : ℕ → List ℕ → Run → Course
coursed at t f =
    cond (leb (at + f.used) most)
    (cond f.bad (Over (Bad (at + f.used)) f.room) (On (record { at = at + f.used; left = drop f.used t; room = f.room })))
    (Over Failed f.room)

records-coursed : (at : ℕ) (t r : List ℕ) → on_records at t r ≡ coursed at t (run_of t r)
unfolding on_records
records-coursed at t r = refl

-- a run that begins n bytes later
coursed-past : (at n : ℕ) (t : List ℕ) (f : Run) → coursed (at + n) (drop n t) f ≡ coursed at t (past n f)
unfolding past
coursed-past at n t f = rw (drop-drop f.used n t, add_assoc at n f.used) refl

-- records that stand at `at`, before the longest input ends
module _ (at : ℕ) (t r : List ℕ) (far : at + length t ≤ most) where
  within : at + (run_of t r).used ≤ most
  within = omega (arith, run-used t r)

  records-bad : (run_of t r).bad ≡ true → on_records at t r ≡ Over (Bad (at + (run_of t r).used)) (run_of t r).room
  unfolding on_records
  records-bad b = rw (le-leb (at + (run_of t r).used) most within, b) refl

  records-on : (run_of t r).bad ≡ false → on_records at t r ≡ On (record { at = at + (run_of t r).used; left = drop (run_of t r).used t; room = (run_of t r).room })
  unfolding on_records
  records-on b = rw (le-leb (at + (run_of t r).used) most within, b) refl

-- records that come in two pieces
module _ (at : ℕ) (t p r : List ℕ) (here : 1 ≤ at) (came : length p ≡ 0 → ⊥) (far : at + length (t ++ p) ≤ most) where
  near : at + length t ≤ most
  near = omega (arith, far, length-append t p)

  more-bad : (run_of t r).bad ≡ true → then_read (on_records at t r) (Gave p) ≡ on_records at (t ++ p) r
  unfolding then_read
  more-bad b =
      let same : run_of (t ++ p) r ≡ run_of t r = run-append t p r ∙ rw b refl in
      rw (records-bad at t r near b, records-bad at (t ++ p) r far (ap (λ (f : Run). f.bad) same ∙ b), same) refl

  more-on : (run_of t r).bad ≡ false → then_read (on_records at t r) (Gave p) ≡ on_records at (t ++ p) r
  unfolding on_bytes
  more-on b =
      let u = (run_of t r).used in
      let q = (run_of t r).room in
      let whole : run_of (t ++ p) r ≡ past u (run_of (drop u t ++ p) q) = run-append t p r ∙ rw b refl in
      ap (λ (c : Course). then_read c (Gave p)) (records-on at t r near b)
      ∙ some-came _ p came
      ∙ rw (ne_eqb (at + u) 0 (λ z. omega arith))
      (records-coursed (at + u) (drop u t ++ p) q
      ∙ ap (λ (a : List ℕ). coursed (at + u) a (run_of (drop u t ++ p) q)) (sym (drop-append-le u t p (run-used t r)))
      ∙ coursed-past at u (t ++ p) (run_of (drop u t ++ p) q)
      ∙ ap (coursed at (t ++ p)) (sym whole)
      ∙ sym (records-coursed at (t ++ p) r))

  records-more : then_read (on_records at t r) (Gave p) ≡ on_records at (t ++ p) r
  records-more = by (run_of t r).bad refl
    where
      by : (b : Bool) → (run_of t r).bad ≡ b → then_read (on_records at t r) (Gave p) ≡ on_records at (t ++ p) r
      by true e = more-bad e
      by false e = more-on e

-- all that came, by its head
module _ (s r : List ℕ) where
  head-waits : length s < 5 → on_head s r ≡ On (record { at = 0; left = s; room = r })
  unfolding on_head
  head-waits h = rw (lt-ltb (length s) 5 h) refl

  head-good : 5 ≤ length s → script_head_ok s ≡ true → on_head s r ≡ on_records 5 (drop 5 s) fresh
  unfolding on_head
  head-good h e = rw (le-ltb (length s) 5 h, e) refl

  head-bad : 5 ≤ length s → script_head_ok s ≡ false → on_head s r ≡ Over (Bad 0) r
  unfolding on_head
  head-bad h e = rw (le-ltb (length s) 5 h, e) refl

module _ (t p r : List ℕ) (came : length p ≡ 0 → ⊥) (far : length (t ++ p) ≤ most) where
  more-short : length t < 5 → then_read (on_head t r) (Gave p) ≡ on_head (t ++ p) r
  unfolding on_bytes
  more-short h = ap (λ (c : Course). then_read c (Gave p)) (head-waits t r h) ∙ some-came _ p came

  module _ (h : 5 ≤ length t) where
    longer : 5 ≤ length (t ++ p)
    longer = omega (arith, h, length-append t p)

    more-wrong : script_head_ok t ≡ false → then_read (on_head t r) (Gave p) ≡ on_head (t ++ p) r
    unfolding then_read
    more-wrong e = rw (head-bad t r h e, head-bad (t ++ p) r longer (head-then t p h ∙ e)) refl

    more-right : script_head_ok t ≡ true → then_read (on_head t r) (Gave p) ≡ on_head (t ++ p) r
    more-right e =
        let d : drop 5 (t ++ p) ≡ drop 5 t ++ p = drop-append-le 5 t p h in
        let l : 5 + length (drop 5 t ++ p) ≤ most = omega (arith, far, longer, ap (λ (a : List ℕ). length a) d, length-drop 5 (t ++ p)) in
        ap (λ (c : Course). then_read c (Gave p)) (head-good t r h e)
        ∙ records-more 5 (drop 5 t) p fresh (omega arith) came l
        ∙ sym (head-good (t ++ p) r longer (head-then t p h ∙ e) ∙ ap (λ (a : List ℕ). on_records 5 a fresh) d)

  -- t came, and then p: the course is that of both at once
  piece-more : then_read (on_head t r) (Gave p) ≡ on_head (t ++ p) r
  piece-more = split 5 (length t) (λ h. by h (script_head_ok t) refl) more-short
    where
      by : 5 ≤ length t → (b : Bool) → script_head_ok t ≡ b → then_read (on_head t r) (Gave p) ≡ on_head (t ++ p) r
      by h true e = more-right h e
      by h false e = more-wrong h e

-- ---- what an ending says of the input

-- s is the input of a run that ended as e says, and left the room as q
unfoldable pub Ends : List ℕ → End → List ℕ → Type 0
Ends s Whole q = ending_of s ≡ Listed (lists_in q)
Ends s (Bad n) q = ending_of s ≡ BadAt n
Ends s Failed q = ⊥

-- the same of a course, which may still go on
unfoldable Told : List ℕ → Course → Type 0
Told s (On g) = Unit
Told s (Over e q) = Ends s e q

-- a course after a read that found the input's end
abbrev ended : Course → Course
ended c = then_read c (Gave [])

module _ (s r : List ℕ) (far : length s ≤ most) where
  -- no head
  wrong-head : script_head_ok s ≡ false → ending_of s ≡ BadAt 0
  unfolding ending_of
  wrong-head h = rw h refl

  -- a head, and the records behind it
  module _ (long : 5 ≤ length s) (h : script_head_ok s ≡ true) where
    behind : 5 + length (drop 5 s) ≡ length s
    behind = omega (arith, length-drop 5 s)

    ends-whole : 5 + (run_of (drop 5 s) fresh).used ≡ length s → ending_of s ≡ Listed (lists_in (run_of (drop 5 s) fresh).room)
    unfolding ending_of ending_after
    ends-whole l = rw (h, eq-eqb (5 + (run_of (drop 5 s) fresh).used) (length s) l) refl

    ends-bad : 5 + (run_of (drop 5 s) fresh).used < length s → ending_of s ≡ BadAt (5 + (run_of (drop 5 s) fresh).used)
    unfolding ending_of ending_after
    ends-bad l = rw (h, ne_eqb (5 + (run_of (drop 5 s) fresh).used) (length s) (λ z. omega arith)) refl

    near-end : 5 + length (drop 5 s) ≤ most
    near-end = omega (arith, behind)

    -- a bad record ends the run, whatever comes
    records-told : Told s (on_records 5 (drop 5 s) fresh)
    unfolding Told Ends
    records-told = by (run_of (drop 5 s) fresh).bad refl
      where
        by : (b : Bool) → (run_of (drop 5 s) fresh).bad ≡ b → Told s (on_records 5 (drop 5 s) fresh)
        by true e = rw (records-bad 5 (drop 5 s) fresh near-end e) (ends-bad (omega (arith, behind, bad-short (drop 5 s) fresh e)))
        by false e = rw (records-on 5 (drop 5 s) fresh near-end e) tt

    -- where the input ends nothing is left, or a record is cut
    left-told : (run_of (drop 5 s) fresh).bad ≡ false → Told s (ended (on_records 5 (drop 5 s) fresh))
    unfolding Told Ends then_read after_read end_at
    left-told b =
        let u = (run_of (drop 5 s) fresh).used in
        let k : u ≤ length (drop 5 s) = run-used (drop 5 s) fresh in
        rw (records-on 5 (drop 5 s) fresh near-end b, ne_eqb (5 + u) 0 (λ z. omega arith), length-drop u (drop 5 s))
        (split (length (drop 5 s)) u
        (λ l. rw (eq-eqb (length (drop 5 s) - u) 0 (omega arith)) (ends-whole (omega (arith, behind))))
        (λ l. rw (ne_eqb (length (drop 5 s) - u) 0 (λ z. omega arith)) (ends-bad (omega (arith, behind)))))

    records-end : Told s (ended (on_records 5 (drop 5 s) fresh))
    unfolding then_read
    records-end = by (run_of (drop 5 s) fresh).bad refl
      where
        by : (b : Bool) → (run_of (drop 5 s) fresh).bad ≡ b → Told s (ended (on_records 5 (drop 5 s) fresh))
        by true e = rw (records-bad 5 (drop 5 s) fresh near-end e) (rw (records-bad 5 (drop 5 s) fresh near-end e) at records-told)
        by false e = left-told e

  -- all of s came
  all_told : Told s (on_head s r)
  unfolding Told Ends
  all_told = split 5 (length s) (λ h. by h (script_head_ok s) refl) (λ h. rw (head-waits s r h) tt)
    where
      by : 5 ≤ length s → (b : Bool) → script_head_ok s ≡ b → Told s (on_head s r)
      by h true e = rw (head-good s r h e) (records-told h e)
      by h false e = rw (head-bad s r h e) (wrong-head e)

  -- all of s came, and then its end
  end-told : Told s (ended (on_head s r))
  unfolding Told Ends then_read after_read end_at
  end-told = split 5 (length s) (λ h. by h (script_head_ok s) refl) (λ h. rw (head-waits s r h) (wrong-head (head-cut s h)))
    where
      by : 5 ≤ length s → (b : Bool) → script_head_ok s ≡ b → Told s (ended (on_head s r))
      by h true e = rw (head-good s r h e) (records-end h e)
      by h false e = rw (head-bad s r h e) (wrong-head e)

-- ---- all reads

-- a run that is over stays as it is
over-stays : (xs : List Read) (e : End) (q : List ℕ) → course_of xs (Over e q) ≡ Over e q
unfolding course_of then_read
over-stays [] e q = refl
over-stays (x ∷ xs) e q = over-stays xs e q

-- where the input ended nothing more is read
ended-stays : (xs : List Read) (c : Course) → course_of xs (ended c) ≡ ended c
unfolding then_read after_read
ended-stays xs (On g) = over-stays xs (end_at g.at (length g.left)) g.room
ended-stays xs (Over e q) = over-stays xs e q

-- what one more read tells was told
told-before : (s : List ℕ) (c : Course) (x : Read) → Told s (then_read c x) → Told s c
unfolding Told then_read
told-before s (On g) x h = tt
told-before s (Over e q) x h = h

-- t came, and more of the input is to come
told-early : (t s r : List ℕ) → length (t ++ s) ≤ most → Told (t ++ s) (on_head t r)
told-early t [] r far = rw append-nil (all_told t r (rw append-nil at far))
told-early t (b ∷ p) r far =
    told-before (t ++ (b ∷ p)) (on_head t r) (Gave (b ∷ p))
    (rw (piece-more t (b ∷ p) r (λ z. omega arith) far) (all_told (t ++ (b ∷ p)) r far))

-- t came, and then what these reads gave
told-by : (rs : List Read) (t s r : List ℕ) → InputOf rs s → length (t ++ s) ≤ most → Told (t ++ s) (course_of rs (on_head t r))
unfolding InputOf course_of
told-by [] t s r i far = told-early t s r far
told-by (Gave [] ∷ xs) t s r i far =
    let e : t ++ s ≡ t = ap (λ (a : List ℕ). t ++ a) i ∙ append-nil t in
    rw (e, ended-stays xs (on_head t r)) (end-told t r (rw e at far))
told-by (Gave (b ∷ p) ∷ xs) t s r (u, (e, i)) far =
    let f : t ++ s ≡ (t ++ (b ∷ p)) ++ u = ap (λ (a : List ℕ). t ++ a) e ∙ sym (append_assoc t (b ∷ p) u) in
    let l : length ((t ++ (b ∷ p)) ++ u) ≤ most = rw f at far in
    let k : length (t ++ (b ∷ p)) ≤ most = omega (arith, l, length-append (t ++ (b ∷ p)) u) in
    rw (f, piece-more t (b ∷ p) r (λ z. omega arith) k) (told-by xs (t ++ (b ∷ p)) u r i l)
told-by (Broke ∷ xs) t s r i far = absurd i

-- from the beginning
told : (rs : List Read) (s r : List ℕ) → InputOf rs s → length s ≤ most → Told s (course_of rs (nothing_read r))
unfolding nothing_read on_head
told rs s r i far = told-by rs [] s r i far

-- the reads are of the input s, and a run is over: it ended as the definition says of s
pub input-ends : (rs : List Read) (s r : List ℕ) → InputOf rs s → length s ≤ most → (e : End) (q : List ℕ) → course_of rs (nothing_read r) ≡ Over e q → Ends s e q
unfolding Told
input-ends rs s r i far e q f = subst (Told s) f (told rs s r i far)

-- what a course of the input s says
said-by : (s : List ℕ) (c : Course) → Told s c → (x : Speech) → speech_of c ≡ some x → x ≡ record { to = Output; text = text_of (ending_of s) }
unfolding Told Ends speech_of speech
said-by s (On g) h x f = let z : ◌≡◌ {A = ℕ} 0 1 = cc in absurd (omega arith)
said-by s (Over Whole q) h x f = let e : speech Whole q ≡ x = cc in sym e ∙ rw h refl
said-by s (Over (Bad n) q) h x f = let e : speech (Bad n) q ≡ x = cc in sym e ∙ rw h refl
said-by s (Over Failed q) h x f = absurd h

-- whatever the input and however reads hand it over: what a run says once it is over is the definition's text, on standard output
pub input-said : (rs : List Read) (s r : List ℕ) → InputOf rs s → length s ≤ most
    → (x : Speech) → speech_of (course_of rs (nothing_read r)) ≡ some x → x ≡ record { to = Output; text = text_of (ending_of s) }
input-said rs s r i far x f = said-by s (course_of rs (nothing_read r)) (told rs s r i far) x f

-- ---- once the input ends

-- once the input ends the run is over
pub all_read : (rs : List Read) (r : List ℕ) (g : Stand) → course_of rs (nothing_read r) ≡ On g
    → course_of (rs ++ (Gave [] ∷ [])) (nothing_read r) ≡ Over (end_at g.at (length g.left)) g.room
unfolding then_read after_read
all_read rs r g f = one_more rs (Gave []) (nothing_read r) ∙ rw f refl

-- the reads by which the pieces of an input are handed over, and then its end; an empty piece is no read
unfoldable pub handed : List (List ℕ) → List Read
handed [] = Gave [] ∷ []
handed ([] ∷ ps) = handed ps
handed ((b ∷ p) ∷ ps) = Gave (b ∷ p) ∷ handed ps

-- these reads are of that input
pub handed-input : (ps : List (List ℕ)) → InputOf (handed ps) (all_pieces ps)
unfolding InputOf handed all_pieces
handed-input [] = refl
handed-input ([] ∷ ps) = handed-input ps
handed-input ((b ∷ p) ∷ ps) = (all_pieces ps, (refl, handed-input ps))

-- a run whose input ended says something
says_some : (c : Course) → (x : Speech) × (speech_of (ended c) ≡ some x)
unfolding then_read after_read speech_of
says_some (On g) = (speech (end_at g.at (length g.left)) g.room, refl)
says_some (Over e q) = (speech e q, refl)

handed-over : (ps : List (List ℕ)) (c : Course) → (x : Speech) × (speech_of (course_of (handed ps) c) ≡ some x)
unfolding handed course_of
handed-over [] c = says_some c
handed-over ([] ∷ ps) c = handed-over ps c
handed-over ((b ∷ p) ∷ ps) c = handed-over ps (then_read c (Gave (b ∷ p)))

-- however an input is cut into pieces, a run that is handed all of it says its text
pub handed-said : (ps : List (List ℕ)) (r : List ℕ) → length (all_pieces ps) ≤ most
    → speech_of (course_of (handed ps) (nothing_read r)) ≡ some (record { to = Output; text = text_of (ending_of (all_pieces ps)) })
handed-said ps r far =
    let (x, e) = handed-over ps (nothing_read r) in
    e ∙ ap some (input-said (handed ps) (all_pieces ps) r (handed-input ps) far x e)

-- ---- a room that is listed is a well-formed tree

-- the room is well formed once the head was read, and where the run ended whole
unfoldable Keeps : Course → Type 0
Keeps (On g) = eqb g.at 0 ≡ false → formed g.room ≡ true
Keeps (Over e q) = Listable e q

records-keep : (at : ℕ) (t r : List ℕ) → formed r ≡ true → Keeps (on_records at t r)
unfolding on_records Keeps Listable
records-keep at t r h = by (leb (at + (run_of t r).used) most) (run_of t r).bad (at + (run_of t r).used) (drop (run_of t r).used t) (run_of t r).room (run-formed t r h)
  where
    by : (a b : Bool) (n : ℕ) (l q : List ℕ) → formed q ≡ true → Keeps (cond a (cond b (Over (Bad n) q) (On (record { at = n; left = l; room = q }))) (Over Failed q))
    by true true n l q f = tt
    by true false n l q f = λ z. f
    by false b n l q f = tt

head-keeps : (s r : List ℕ) → Keeps (on_head s r)
unfolding on_head Keeps Listable
head-keeps s r = by (ltb (length s) 5) (script_head_ok s)
  where
    by : (a b : Bool) → Keeps (cond a (On (record { at = 0; left = s; room = r })) (cond b (on_records 5 (drop 5 s) fresh) (Over (Bad 0) r)))
    by true b = λ z. absurd (off (eq-eqb 0 0 refl) z)
    by false true = records-keep 5 (drop 5 s) fresh fresh-formed
    by false false = tt

bytes-keep : (g : Stand) (p : List ℕ) → Keeps (On g) → Keeps (on_bytes g p)
unfolding on_bytes Keeps
bytes-keep g p h = by (eqb g.at 0) refl
  where
    by : (a : Bool) → eqb g.at 0 ≡ a → Keeps (cond a (on_head (g.left ++ p) g.room) (on_records g.at (g.left ++ p) g.room))
    by true e = head-keeps (g.left ++ p) g.room
    by false e = records-keep g.at (g.left ++ p) g.room (h e)

end-keeps : (g : Stand) (n : ℕ) → Keeps (On g) → Listable (end_at g.at n) g.room
unfolding end_at Keeps Listable
end-keeps g n h = by (eqb g.at 0) (eqb n 0) refl
  where
    by : (a b : Bool) → eqb g.at 0 ≡ a → Listable (cond a (Bad g.at) (cond b Whole (Bad g.at))) g.room
    by true b e = tt
    by false true e = h e
    by false false e = tt

next-keeps : (c : Course) (x : Read) → Keeps c → Keeps (then_read c x)
unfolding then_read after_read Keeps Listable
next-keeps (On g) Broke h = tt
next-keeps (On g) (Gave []) h = end-keeps g (length g.left) h
next-keeps (On g) (Gave (b ∷ p)) h = bytes-keep g (b ∷ p) h
next-keeps (Over e q) x h = h

reads-keep : (rs : List Read) (c : Course) → Keeps c → Keeps (course_of rs c)
unfolding course_of
reads-keep [] c h = h
reads-keep (x ∷ xs) c h = reads-keep xs (then_read c x) (next-keeps c x h)

began-keeps : (r : List ℕ) → Keeps (nothing_read r)
unfolding nothing_read Keeps
began-keeps r = λ z. absurd (off (eq-eqb 0 0 refl) z)

-- after any reads, a run that ended whole leaves a well-formed room
pub whole-listable : (rs : List Read) (r : List ℕ) (e : End) (q : List ℕ) → course_of rs (nothing_read r) ≡ Over e q → Listable e q
unfolding Keeps
whole-listable rs r e q f = subst Keeps f (reads-keep rs (nothing_read r) (began-keeps r))

-- ---- a read that failed

-- a run that failed says so on standard error
pub failed-said : (rs : List Read) (r q : List ℕ) → course_of rs (nothing_read r) ≡ Over Failed q → speech_of (course_of rs (nothing_read r)) ≡ some (record { to = Error; text = unread_text })
unfolding speech_of speech
failed-said rs r q f = rw f refl

-- a run that is still on fails with the read that breaks
pub broke-fails : (rs : List Read) (r : List ℕ) (g : Stand) → course_of rs (nothing_read r) ≡ On g
    → speech_of (course_of (rs ++ (Broke ∷ [])) (nothing_read r)) ≡ some (record { to = Error; text = unread_text })
unfolding then_read after_read
broke-fails rs r g f = failed-said (rs ++ (Broke ∷ [])) r g.room (one_more rs Broke (nothing_read r) ∙ rw f refl)
