-- What the walk over a text leaves: its tally and the lent bytes, as folds over the tokens that it comes upon.
use Rattle.std.specs.Prelude.{ℕ, ◌+◌, ◌-◌, ◌*◌, ◌<◌, ◌^◌, min, max, ◌≡◌, Bool, ◌&&◌, true, false, cond, List, [], ◌∷◌, eqb, leb, length, drop, get_or, Result, Ok, Err}
use Rattle.octets.specs.Bytes.{put_at}
use Rattle.octets.specs.Order.{need}
use Rattle.condition.specs.Token.{Token, push, compares, exists, ands, ors, nots}
use Rattle.wording.specs.declared.tallies.Tally.{Tally}
use Rattle.wording.specs.declared.walk.Place.{Place}
use Rattle.wording.specs.declared.walk.Wrong.{Wrong}
use Rattle.refusal.specs.declared.Refusal.TheVariants.{Text, Large, Room}
use Rattle.wording.specs.declared.Stored.{Stored}
use Rattle.wording.specs.declared.TextFault.{TextFault}
use Rattle.wording.specs.Translation.{done_with, refused_at}
use Rattle.wording.specs.Grammar.{Condition}
use Rattle.wording.specs.Reader.{Res, good, bad, out, read_operand, read_comparison, Level, condition, term, factor, read, accepted, reading}
use Rattle.wording.specs.Stored.{token_bytes}
use Rattle.wording.specs.Inner.Tokens.{tokens_s, tokens_c, tokens_f, toks}

-- ---- the tally

-- counts stop at the largest number, far above every limit
unfoldable pub up_by : ℕ → ℕ → ℕ
up_by a k = min (a + k) (2 ^ 64 - 1)

-- one token more, of k bytes, that takes `down` from the stack and lays one value there
unfoldable pub note_b : ℕ → ℕ → Tally → Tally
note_b k down w =
    record {
      tokens = up_by w.tokens 1;
      size = up_by w.size k;
      height = up_by (w.height - down) 1;
      highest = max w.highest (up_by (w.height - down) 1);
    }

-- how many values a token takes from the stack
unfoldable pub takes : Token → ℕ
takes (push o) = 0
takes (compares r) = 2
takes exists = 1
takes ands = 2
takes ors = 2
takes nots = 1

unfoldable pub note_all : List Token → Tally → Tally
note_all [] w = w
note_all (t ∷ l) w = note_all l (note_b (length (token_bytes t)) (takes t) w)

-- the four bytes at the front are counted first
abbrev pub tally0 : Tally
tally0 = record { tokens = 0; size = 4; height = 0; highest = 0 }

-- and the text begins at 0
abbrev pub start_place : Place
start_place = record { at = 0; tally = tally0 }

-- ---- the lent bytes

-- bytes b where the tally ends, if they fit; else nothing
unfoldable pub put_b : List ℕ → Tally → List ℕ → List ℕ
put_b b w o = cond (leb (w.size + length b) (length o)) (put_at w.size b o) o

unfoldable pub put_all : List Token → Tally → List ℕ → List ℕ
put_all [] w o = o
put_all (t ∷ l) w o = put_all l (note_b (length (token_bytes t)) (takes t) w) (put_b (token_bytes t) w o)

-- ---- what each part of the walk ensures

-- where the walk has come, with its tally
abbrev pub came : ℕ → Tally → Result Place Wrong
came p w = Ok (record { at = p; tally = w })

-- where the text goes wrong
abbrev pub wrong : ℕ → Wrong
wrong p = record { at = p }

-- by what the reader gives on the text from the place where it begins: nothing is said of the bytes where it refuses
abbrev pub Outcome : {A : Type 0} → (A → List Token) → List ℕ → Tally → List ℕ → Res A → Result Place Wrong → List ℕ → Type 0
Outcome tk s w o (good t l) r q = (r ≡ came (length s - length l) (note_all (tk t) w)) × (q ≡ put_all (tk t) w o)
Outcome tk s w o (bad l) r q = (r ≡ Err (wrong (length s - length l))) × Unit {0}
Outcome tk s w o out r q = ⊥

-- the steps from a place on
abbrev pub rank : Level → ℕ
rank condition = 2
rank term = 1
rank factor = 0

abbrev pub steps_at : Level → List ℕ → ℕ → ℕ
steps_at k s at = 3 * (length s - at) + rank k

-- a tree of a level, whatever bound above the steps its reader has
pub record ParsedAt (k : Level) (j : Bool) (s : List ℕ) (at d : ℕ) (w : Tally) (o : List ℕ) (r : Result Place Wrong) (q : List ℕ) : Type 0 where
  pub is : (f : ℕ) → steps_at k s at < f → Outcome (toks k j) s w o (read f k d (drop at s)) r q

pub record ComparedAt (s : List ℕ) (at : ℕ) (w : Tally) (o : List ℕ) (r : Result Place Wrong) (q : List ℕ) : Type 0 where
  pub is : Outcome tokens_f s w o (read_comparison (drop at s)) r q

pub record OperandAt (s : List ℕ) (at : ℕ) (w : Tally) (o : List ℕ) (r : Result Place Wrong) (q : List ℕ) : Type 0 where
  pub is : Outcome tokens_s s w o (read_operand (drop at s)) r q

-- byte x, which is not 0, stands at p
abbrev pub is_at : List ℕ → ℕ → ℕ → Bool
is_at s p x = eqb (get_or s p 0) x

pub record IsAt (s : List ℕ) (p x : ℕ) (r : Bool) : Type 0 where
  pub is : r ≡ is_at s p x
  pub inside : r ≡ true → p < length s

-- a token is counted, and laid if it fits
pub record Emitted (t : Token) (w : Tally) (o : List ℕ) (r : Tally) (q : List ℕ) : Type 0 where
  pub tally : r ≡ note_b (length (token_bytes t)) (takes t) w
  pub bytes : q ≡ put_b (token_bytes t) w o

-- the operator of a row, behind its second part and each further one
abbrev pub op_if : Bool → Token → List Token
op_if true t = t ∷ []
op_if false t = []

pub record Joined (j : Bool) (t : Token) (w : Tally) (o : List ℕ) (r : Tally) (q : List ℕ) : Type 0 where
  pub tally : r ≡ note_all (op_if j t) w
  pub bytes : q ≡ put_all (op_if j t) w o

-- ---- what is decided after the first walk, which is lent nothing

abbrev pub decide_at : ℕ → Tally → ℕ → ℕ → Result Stored TextFault
decide_at p w len room =
    need (leb len p) (refused_at Text p)
    (need (leb w.tokens 64 && leb w.highest 16) (refused_at Large 0)
    (need (leb w.size room) (refused_at Room 0)
    (done_with w.size w.tokens)))

-- the four bytes at the front of what is lent
abbrev pub headed : List ℕ → List ℕ
headed o = 0x61 ∷ 0x72 ∷ 0x74 ∷ 0x78 ∷ drop 4 o

-- what the second walk leaves
pub record Wrote (s o q : List ℕ) : Type 0 where
  pub is : (c : Condition) → reading s ≡ accepted c → q ≡ put_all (tokens_c c) tally0 (headed o)
