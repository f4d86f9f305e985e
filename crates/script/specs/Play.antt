-- A whole script, played in a room of its own (RULES 6.4 to 6.9).
use Rattle.std.specs.Prelude.{ℕ, ◌+◌, List, Bool, true, false, cond, ◌&&◌, length, get_or, drop, replicate, eqb, leb}
use Rattle.std.proofs.Math.Option.{none}
use Rattle.list.specs.List.{MaybeList}
use Rattle.octets.specs.Bytes.{le}
use Rattle.inherit.specs.declared.Mapping.{Mapping}
use Rattle.tree.specs.Model.{Settings}
use Rattle.tree.specs.Shown.{lists_in}
use Rattle.refusal.specs.declared.Refusal.TheVariants as Why
use Rattle.tree.specs.Formed.{formed}
use Rattle.octets.specs.Order.{need}
use Rattle.tree.specs.Calls.{Answer, tells, Outcome, copied, refuse, start_to}
use Rattle.script.specs.Fold.{Run, run_of, Stage}
use Rattle.script.specs.Text.{listing, bad_line}

-- the mapping of the lists worked by hand (RULES 5.1)
abbrev pub mapping : Mapping
mapping = record { read = 0x00120089; write = 0x00120116; execute = 0x001200A0; all = 0x001F01FF }

-- the program's tree: limits 16 and 16, rule 2, that mapping, no default
abbrev pub began : Settings
began = record { object-limit = 16; step-limit = 16; rule = 2; mapping = mapping; default = none }

unfoldable pub begin_to : List ℕ → Outcome
begin_to r = start_to began r

-- `AXS` and the 16-bit version 1
unfoldable pub script_head_ok : List ℕ → Bool
script_head_ok s =
    leb 5 (length s)
    && (eqb (get_or s 0 0) 0x41
    && (eqb (get_or s 1 0) 0x58
    && (eqb (get_or s 2 0) 0x53
    && eqb (le 2 (drop 3 s)) 1)))

-- how a script ends: by the computed lists of all objects, or bad at an offset
pub data Ending : Type 0 where
  Listed : List MaybeList → Ending
  BadAt : ℕ → Ending

-- all bytes were whole records, or one that is bad or cut begins where they end
unfoldable pub ending_after : ℕ → Run → Ending
ending_after n f = cond (eqb (5 + f.used) n) (Listed (lists_in f.room)) (BadAt (5 + f.used))

-- the room that a script is played in
unfoldable pub fresh : List ℕ
fresh = (begin_to (replicate 55400 0)).bytes

unfoldable pub ending_of : List ℕ → Ending
ending_of s = cond (script_head_ok s) (ending_after (length s) (run_of (drop 5 s) fresh)) (BadAt 0)

-- the same of a script whose records were handed over in pieces
unfoldable pub end_of_pieces : Stage → Ending
end_of_pieces g = cond (eqb (length g.left) 0) (Listed (lists_in g.room)) (BadAt (5 + g.at))

-- the text that a run writes
unfoldable pub text_of : Ending → List ℕ
text_of (Listed os) = listing os
text_of (BadAt n) = bad_line n

-- its length, whether it is the listing, and how many objects are in it
unfoldable pub ending_answer : Ending → Answer
ending_answer (Listed os) = tells (length (listing os)) true (length os)
ending_answer (BadAt n) = tells (length (bad_line n)) false 0

unfoldable pub text_to : Ending → List ℕ → Outcome
text_to e out = copied (ending_answer e) (text_of e) out

-- ---- the calls

-- a room's listing: 13, 8
unfoldable pub listing_to : List ℕ → List ℕ → Outcome
listing_to r out = need (formed r) (refuse Why.Tree 0 0 out) (text_to (Listed (lists_in r)) out)

-- a whole script: 8
unfoldable pub play_to : List ℕ → List ℕ → Outcome
play_to s out = text_to (ending_of s) out
