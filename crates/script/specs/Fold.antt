-- Records one after another, from the front of t, in a room. What a run has made of them is the fold of `step_of`.
use Rattle.std.specs.Prelude.{ℕ, zero, suc, ◌+◌, List, [], ◌∷◌, ◌++◌, Bool, true, false, cond, length, take, drop, Result, Ok, Err}
use Rattle.tree.specs.Shown.{Request, call_on}
use Rattle.script.specs.declared.records.Flaw.{Flaw}
use Rattle.script.specs.declared.records.Flaw.TheVariants.{Cut, Bad}
use Rattle.script.specs.declared.records.Record.{Record}
use Rattle.script.specs.Record.{record_asks, step_of}

-- how many bytes were whole records, whether a bad record comes next, and the room as the records leave it
pub record Run : Type 0 where
  pub used : ℕ
  pub bad : Bool
  pub room : List ℕ

-- a run that goes on after n bytes
unfoldable pub past : ℕ → Run → Run
past n f = record { used = n + f.used; bad = f.bad; room = f.room }

-- the record in the first n bytes of t is carried out; where the tree refuses it, it is passed over
unfoldable pub carried : ℕ → List ℕ → List ℕ → List ℕ
carried n t r = (call_on (record_asks (take n t)) r).bytes

-- a run stops at a record that is cut or bad, and goes on after a whole one
unfoldable pub on_step : Result Record Flaw → List ℕ → (ℕ → Run) → Run
on_step (Err Cut) r next = record { used = 0; bad = false; room = r }
on_step (Err Bad) r next = record { used = 0; bad = true; room = r }
on_step (Ok a) r next = past a.length (next a.length)

-- at most `more` records
unfoldable pub run_by : ℕ → List ℕ → List ℕ → Run
run_by zero t r = record { used = 0; bad = false; room = r }
run_by (suc more) t r = on_step (step_of t) r (λ n. run_by more (drop n t) (carried n t r))

-- all whole records (each has a byte at least)
unfoldable pub run_of : List ℕ → List ℕ → Run
run_of t r = run_by (suc (length t)) t r

-- ---- what a script asks: the calls of its whole records, the latest first, in front of the calls qs that came earlier

unfoldable pub on_call : Result Record Flaw → List Request → (ℕ → List Request) → List Request
on_call (Err _) qs next = qs
on_call (Ok a) qs next = next a.length

unfoldable pub calls_by : ℕ → List ℕ → List Request → List Request
calls_by zero t qs = qs
calls_by (suc more) t qs = on_call (step_of t) qs (λ n. calls_by more (drop n t) (record_asks (take n t) ∷ qs))

unfoldable pub calls_of : List ℕ → List Request
calls_of t = calls_by (suc (length t)) t []

-- ---- a script's records handed over in pieces: what is left of one piece stands in front of the next

-- where what is left begins, those bytes, whether they begin with a bad record, and the room
pub record Stage : Type 0 where
  pub at : ℕ
  pub left : List ℕ
  pub bad : Bool
  pub room : List ℕ

unfoldable pub ahead : ℕ → List ℕ → Run → Stage
ahead at t f = record { at = at + f.used; left = drop f.used t; bad = f.bad; room = f.room }

-- once a record is bad nothing more is played
unfoldable pub on_piece : Stage → List ℕ → Stage
on_piece g p = cond g.bad (record { at = g.at; left = g.left ++ p; bad = true; room = g.room }) (ahead g.at (g.left ++ p) (run_of (g.left ++ p) g.room))

unfoldable pub in_pieces : Stage → List (List ℕ) → Stage
in_pieces g [] = g
in_pieces g (p ∷ ps) = in_pieces (on_piece g p) ps

unfoldable pub all_pieces : List (List ℕ) → List ℕ
all_pieces [] = []
all_pieces (p ∷ ps) = p ++ all_pieces ps
