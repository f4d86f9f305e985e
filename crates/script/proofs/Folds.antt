-- Laws of records one after another: the fold record by record, bytes that come later, and a script handed over in pieces.
use mathlib.Core.Path.{◌≡◌, refl, sym, ap, ◌∙◌}
use mathlib.Core.List.{List, [], ◌∷◌, ◌++◌, append_assoc, append-nil}
use mathlib.Core.Bool.{Bool, true, false, cond}
use Prim.Native.Nat.{ℕ, zero, suc, ◌+◌, ◌-◌, ◌≤◌, ◌<◌}
use native.Mathlib.Nat.{add_assoc, zero-add}
use native.Mathlib.Omega.{arith}
use lib.ListN.{length, drop, length-drop}
use lib.Seq.{drop-drop, drop-append-le, take-append-le}
use Rattle.octets.specs.Bytes.{Bytes}
use Rattle.octets.proofs.Little.{bytes_drop}
use Rattle.octets.proofs.Tests.{off}
use Rattle.script.specs.Record.{record_asks, record_size, step_of}
use Rattle.script.specs.Fold.{Run, past, carried, on_step, run_by, run_of, Stage, ahead, on_piece, in_pieces, all_pieces}
use Rattle.std.specs.Prelude.{Result, Ok, Err}
use Rattle.script.specs.declared.records.Flaw.{Flaw}
use Rattle.script.specs.declared.records.Flaw.TheVariants.{Cut, Bad}
use Rattle.script.specs.declared.records.Record.{Record}
use Rattle.tree.specs.Shown.{call_on}
use Rattle.script.proofs.Steps.{record_at, size-some, size-most, never, by-step, step-record, step_cut, step-bad, step-short, step-append}

-- ---- going on

pub past-none : (f : Run) → past 0 f ≡ f
unfolding past
past-none f = rw zero-add

pub past-past : (m n : ℕ) (f : Run) → past m (past n f) ≡ past (m + n) f
unfolding past
past-past m n f = rw add_assoc

past-cond : (n : ℕ) (b : Bool) (f g : Run) → past n (cond b f g) ≡ cond b (past n f) (past n g)
past-cond n true f g = refl
past-cond n false f g = refl

-- ---- record by record

on_same : (f : Result Record Flaw) (r : List ℕ) (g h : ℕ → Run) → ((a : Record) → f ≡ Ok a → g a.length ≡ h a.length) → on_step f r g ≡ on_step f r h
unfolding on_step
on_same (Err Cut) r g h e = refl
on_same (Err Bad) r g h e = refl
on_same (Ok a) r g h e = ap (past a.length) (e a refl)

-- fewer bytes are left after a record
shorter : (t : List ℕ) (a : Record) → step_of t ≡ Ok a → length (drop a.length t) < length t
shorter t a e = let s = step-record t a e in let l : a.length ≡ record_size t = ap (λ (x : Record). x.length) s.0 in rw length-drop (omega (arith, size-some t))

-- how many records there may be doesn't count, if it is more than there are bytes
run-by : (j k : ℕ) (t r : List ℕ) → length t < j → length t < k → run_by j t r ≡ run_by k t r
unfolding run_by
run-by zero k t r a b = absurd (omega arith)
run-by (suc j) zero t r a b = absurd (omega arith)
run-by (suc j) (suc k) t r a b =
    on_same (step_of t) r _ _ (λ x e. let l = shorter t x e in run-by j k (drop x.length t) (carried x.length t r) (omega arith) (omega arith))

module _ (t r : List ℕ) where
  pub run-stops : step_of t ≡ Err Cut → run_of t r ≡ record { used = 0; bad = false; room = r }
  unfolding run_of run_by on_step
  run-stops e = rw e

  pub run-bad : step_of t ≡ Err Bad → run_of t r ≡ record { used = 0; bad = true; room = r }
  unfolding run_of run_by on_step
  run-bad e = rw e

  pub run-record : (a : Record) → step_of t ≡ Ok a → run_of t r ≡ past a.length (run_of (drop a.length t) (carried a.length t r))
  unfolding run_of run_by on_step
  run-record a e =
      let n = a.length in
      let l : length (drop n t) < length t = shorter t a e in
      rw e (ap (past n) (run-by (length t) (suc (length (drop n t))) (drop n t) (carried n t r) (omega arith) (omega arith)))

pub run_none : (r : List ℕ) → run_of [] r ≡ record { used = 0; bad = false; room = r }
run_none r = run-stops [] r (step-short [] (size-some []))

-- what holds where a run stops, and before a record if it holds behind, holds of every run
pub by-records {ℓ} : (P : List ℕ → List ℕ → Type ℓ) → ((t r : List ℕ) → step_of t ≡ Err Cut → P t r) → ((t r : List ℕ) → step_of t ≡ Err Bad → P t r)
    → ((t r : List ℕ) (a : Record) → step_of t ≡ Ok a → P (drop a.length t) (carried a.length t r) → P t r) → (t r : List ℕ) → P t r
by-records P cut bad whole t r = within (suc (length t)) t r (omega arith)
  where
    within : (k : ℕ) (t r : List ℕ) → length t < k → P t r
    within zero t r h = absurd (omega arith)
    within (suc k) t r h =
        by-step t (λ e l. cut t r e) (λ e l. bad t r e)
        (λ e l. let s = shorter t (record_at t) e in
        whole t r (record_at t) e (within k (drop (record_size t) t) (carried (record_size t) t r) (omega arith)))

pub run-used : (t r : List ℕ) → (run_of t r).used ≤ length t
unfolding past
run-used =
    by-records (λ t r. (run_of t r).used ≤ length t)
    (λ t r e. rw (run-stops t r e) (omega arith))
    (λ t r e. rw (run-bad t r e) (omega arith))
    (λ t r a e h. rw (run-record t r a e) (omega (arith, length-drop a.length t, (step-record t a e).1)))

-- a buffer that holds the longest record has room for more
pub left-short : (t r : List ℕ) → Bytes t → (run_of t r).bad ≡ false → length t - (run_of t r).used < 66069
unfolding past
left-short =
    by-records (λ t r. Bytes t → (run_of t r).bad ≡ false → length t - (run_of t r).used < 66069)
    (λ t r e b f. rw (run-stops t r e) (omega (arith, step_cut t e, size-most t b)))
    (λ t r e b f. absurd (off (ap (λ (g : Run). g.bad) (run-bad t r e)) f))
    (λ t r a e h b f.
    let n = a.length in
    let g : (run_of (drop n t) (carried n t r)).bad ≡ false = sym (ap (λ (g : Run). g.bad) (run-record t r a e)) ∙ f in
    rw (run-record t r a e) (omega (arith, length-drop n t, h (bytes_drop n t b) g)))

-- a bad record has bytes
pub bad-short : (t r : List ℕ) → (run_of t r).bad ≡ true → (run_of t r).used < length t
unfolding past
bad-short =
    by-records (λ t r. (run_of t r).bad ≡ true → (run_of t r).used < length t)
    (λ t r e f. absurd (off f (ap (λ (g : Run). g.bad) (run-stops t r e))))
    (λ t r e f. rw (run-bad t r e) (omega (arith, step-bad t e, size-some t)))
    (λ t r a e h f.
    let n = a.length in
    let g : (run_of (drop n t) (carried n t r)).bad ≡ true = sym (ap (λ (g : Run). g.bad) (run-record t r a e)) ∙ f in
    rw (run-record t r a e) (omega (arith, length-drop n t, h g)))

-- ---- bytes that come later

carried-append : (n : ℕ) (t u r : List ℕ) → n ≤ length t → carried n (t ++ u) r ≡ carried n t r
unfolding carried
carried-append n t u r h = ap (λ (a : List ℕ). (call_on (record_asks a) r).bytes) (take-append-le n t u h)

-- a run with bytes behind: it stays where it met a bad record, and else goes on with what was left and those bytes
goes_on : List ℕ → List ℕ → Run → Run
goes_on t u f = cond f.bad f (past f.used (run_of (drop f.used t ++ u) f.room))

goes-past : (n : ℕ) (t u : List ℕ) (f : Run) → past n (goes_on (drop n t) u f) ≡ goes_on t u (past n f)
unfolding goes_on past
goes-past n t u f =
    past-cond n f.bad f (past f.used (run_of (drop f.used (drop n t) ++ u) f.room))
    ∙ ap (cond f.bad (past n f))
    (past-past n f.used (run_of (drop f.used (drop n t) ++ u) f.room)
    ∙ ap (λ (a : List ℕ). past (n + f.used) (run_of (a ++ u) f.room)) (drop-drop f.used n t))

pub run-append : (t u r : List ℕ)
    → run_of (t ++ u) r ≡ cond (run_of t r).bad (run_of t r) (past (run_of t r).used (run_of (drop (run_of t r).used t ++ u) (run_of t r).room))
unfolding goes_on
run-append t u r =
    by-records (λ t r. run_of (t ++ u) r ≡ goes_on t u (run_of t r))
    (λ t r e. rw (run-stops t r e) (sym (past-none (run_of (t ++ u) r))))
    (λ t r e.
    let q = step-append t u (λ c. never (cc)) ∙ e in
    rw (run-bad t r e) (run-bad (t ++ u) r q))
    (λ t r a e h.
    let n = a.length in
    let q = step-append t u (λ c. never (cc)) ∙ e in
    let l = (step-record t a e).1 in
    run-record (t ++ u) r a q
    ∙ rw (drop-append-le n t u l, carried-append n t u r l) (ap (past n) h)
    ∙ goes-past n t u (run_of (drop n t) (carried n t r))
    ∙ ap (goes_on t u) (sym (run-record t r a e)))
    t r

-- ---- a script in pieces

ahead_past : (a n : ℕ) (t : List ℕ) (f : Run) → ahead a t (past n f) ≡ ahead (a + n) (drop n t) f
unfolding ahead past
ahead_past a n t f = rw (drop-drop, add_assoc)

-- one more piece
piece-on : (n : ℕ) (b : Bool) (t p r : List ℕ) → n ≤ length t
    → on_piece (ahead 0 t (record { used = n; bad = b; room = r })) p ≡ ahead 0 (t ++ p) (goes_on t p (record { used = n; bad = b; room = r }))
unfolding on_piece goes_on ahead
piece-on n true t p r h = rw (drop-append-le n t p h)
piece-on n false t p r h =
    let g = run_of (drop n t ++ p) r in
    sym (ahead_past 0 n (t ++ p) g ∙ ap (λ (a : List ℕ). ahead (0 + n) a g) (drop-append-le n t p h))

piece-same : (t p r : List ℕ) → on_piece (ahead 0 t (run_of t r)) p ≡ ahead 0 (t ++ p) (run_of (t ++ p) r)
unfolding goes_on
piece-same t p r =
    let f = run_of t r in
    piece-on f.used f.bad t p f.room (run-used t r) ∙ ap (ahead 0 (t ++ p)) (sym (run-append t p r))

pieces-from : (t : List ℕ) (ps : List (List ℕ)) (r : List ℕ) → in_pieces (ahead 0 t (run_of t r)) ps ≡ ahead 0 (t ++ all_pieces ps) (run_of (t ++ all_pieces ps) r)
unfolding in_pieces all_pieces
pieces-from t [] r = rw append-nil
pieces-from t (p ∷ ps) r =
    ap (λ (g : Stage). in_pieces g ps) (piece-same t p r)
    ∙ pieces-from (t ++ p) ps r
    ∙ ap (λ (a : List ℕ). ahead 0 a (run_of a r)) (append_assoc t p (all_pieces ps))

pub pieces-same : (ps : List (List ℕ)) (r : List ℕ)
    → in_pieces (record { at = 0; left = []; bad = false; room = r }) ps ≡ ahead 0 (all_pieces ps) (run_of (all_pieces ps) r)
unfolding ahead
pieces-same ps r = rw (run_none r) at (pieces-from [] ps r)
