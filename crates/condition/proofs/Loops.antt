-- The loop over the tokens; and the stack, which grows downwards in an array of 18 cells, of which `top` are free, and the last two hold nothing.
use mathlib.Core.Path.{◌≡◌, refl, sym, ap, ap₂, ◌∙◌}
use mathlib.Core.Bool.{Bool, true, false, ◌&&◌}
use mathlib.Core.List.{List, [], ◌∷◌}
use mathlib.Core.Option.{Option, none, some}
use Prim.Native.Nat.{ℕ, zero, suc, ◌+◌, ◌-◌, ◌≤◌, ◌<◌}
use native.Mathlib.Omega.{arith}
use lib.ListN.{length, get_or, take, drop, set, length-take, length-drop, length-set}
use lib.Dec.{eqb}
use lib.Pointwise.{pointwise}
use lib.Seq.{take-nil, drop-drop, drop-cons, drop-set-lt, get_or-set_same}
use borrow.Author.Tests.{ne_eqb, eq-eqb}
use Rattle.std.specs.Prelude.{None, Some}
use Rattle.octets.specs.Absent.{unless_zero}
use Rattle.octets.specs.Bytes.{same_bytes}
use Rattle.octets.proofs.Absent.{some-unless_zero, none-unless_zero}
use Rattle.octets.proofs.Places.{rest-is}
use Rattle.condition.specs.declared.cells.Cell.{Cell}
use Rattle.condition.specs.declared.cells.Cell.TheVariants.{Number}
use Rattle.condition.specs.declared.cells.Effect.{Effect}
use Rattle.condition.specs.Token.{Token, push, number, name, compares, exists, ands, ors, nots, token_at, over, long}
use Rattle.condition.specs.Kind.{marked}
use Rattle.condition.specs.Table.{Attribute}
use Rattle.condition.specs.Inner.Cells.{long_of, truth_in, live, only_in, effect_at, onward, ended_by, ran_from, ran_of}
use Rattle.condition.proofs.Effects.{token-within}
use Rattle.condition.proofs.Turns.{Live, pops-live, ran-is, not-marked}

-- ---- the stack in its array

drop-take : (p n : ℕ) (l : List Cell) → drop p (take n l) ≡ take (n - p) (drop p l)
drop-take zero n l = let e : n - 0 ≡ n = omega arith in rw e
drop-take (suc p) zero l = let e : 0 - suc p ≡ 0 = omega arith in rw e
drop-take (suc p) (suc n) [] = sym (take-nil (suc n - suc p))
drop-take (suc p) (suc n) (x ∷ l) = let e : suc n - suc p ≡ n - p = omega arith in rw e (drop-take p n l)

module _ (cells : List Cell) (top : ℕ) (h : top ≤ 16) (n : length cells ≡ 18) where
  pub live-long : length (live cells top) ≡ 16 - top
  live-long = simp (length-take, length-drop) (omega arith)

  -- a cell is laid on what is left after `pops` are taken off
  pub live_laid : (pops : ℕ) (x : Cell) → 0 < top + pops → top + pops ≤ 16 → live (set cells (top + pops - 1) x) (top + pops - 1) ≡ x ∷ drop pops (live cells top)
  live_laid pops x p q =
      let at = top + pops - 1 in
      let more : 16 - at ≡ suc (16 - top - pops) = omega arith in
      let next : suc at ≡ top + pops = omega arith in
      let e : drop at (set cells at x) ≡ x ∷ drop (top + pops) cells =
      drop-cons (set cells at x) at (Number 0) (rw (length-set cells at x) (omega arith))
      ∙ ap₂ (λ (y : Cell) (l : List Cell). y ∷ l) (get_or-set_same cells at x (Number 0) (omega arith))
      (drop-set-lt (suc at) cells at x (omega arith) ∙ ap (λ (i : ℕ). drop i cells) next) in
      ap₂ (λ (i : ℕ) (l : List Cell). take i l) more e
      ∙ ap (λ (l : List Cell). x ∷ take (16 - top - pops) l) (sym (drop-drop pops top cells))
      ∙ ap (λ (l : List Cell). x ∷ l) (sym (drop-take pops (16 - top) (drop top cells)))

  -- one is left where 15 places are free
  pub only-is : top ≡ 15 → only_in (live cells top) ≡ truth_in (get_or cells 15 (Number 0))
  unfolding only_in
  only-is e = rw (e, drop-cons cells 15 (Number 0) (omega arith))

  pub only-none : (top ≡ 15 → ⊥) → only_in (live cells top) ≡ None
  unfolding only_in
  only-none f = by (live cells top) (λ z. f (omega (arith, live-long)))
    where
      by : (cs : List Cell) → (length cs ≡ 1 → ⊥) → only_in cs ≡ None
      by [] g = refl
      by (c ∷ []) g = absurd (g refl)
      by (c ∷ (d ∷ cs)) g = refl

-- ---- one turn of the machine

-- no token has no bytes
none-long : (o : Option Token) → long_of o ≡ 0 → o ≡ none
unfolding long_of long
none-long none h = refl
none-long (some (push (number w))) h = absurd (omega arith)
none-long (some (push (name n))) h = absurd (omega arith)
none-long (some (compares c)) h = absurd (omega arith)
none-long (some exists) h = absurd (omega arith)
none-long (some ands) h = absurd (omega arith)
none-long (some ors) h = absurd (omega arith)
none-long (some nots) h = absurd (omega arith)

module _ (table : List Attribute) (at : ℕ) (t : List ℕ) (cs : List Cell) where
  ran_over : (n : ℕ) → over t ≡ true → ran_from table n at t cs ≡ ended_by at t cs
  unfolding ran_from
  ran_over zero h = refl
  ran_over (suc n) h = rw h

  -- nor may more follow
  ran-most : ran_from table 0 at t cs ≡ ended_by at t cs
  unfolding ran_from
  ran-most = refl

  ran_on : over t ≡ false → (n : ℕ) → 0 < n → (o : Option Token) → token_at t ≡ o
      → ran_from table n at t cs ≡ onward (effect_at table cs o) cs (ran_from table (n - 1) (at + long_of o) (drop (long_of o) t))
  unfolding ran_from
  ran_on h zero p o e = absurd (omega arith)
  ran_on h (suc n) p o e = let z : suc n - 1 ≡ n = omega arith in rw (h, z, e)

-- ---- the loop

-- the four bytes at the front are as the code compares them
marked-is : (s : List ℕ) → pointwise eqb (take 4 s) (0x61 ∷ 0x72 ∷ 0x74 ∷ 0x78 ∷ []) ≡ marked s
unfolding marked same_bytes
marked-is s = by (take 4 s) (0x61 ∷ 0x72 ∷ 0x74 ∷ 0x78 ∷ [])
  where
    by : (a b : List ℕ) → pointwise eqb a b ≡ same_bytes a b
    by [] [] = refl
    by [] (y ∷ b) = refl
    by (x ∷ a) [] = refl
    by (x ∷ a) (y ∷ b) = ap (λ (z : Bool). eqb x y && z) (by a b)

-- what is run of the rest, with the cells cs, is what is run of all
pub record Running (table : List Attribute) (s : List ℕ) (cs : List Cell) (rest : List ℕ) (left : ℕ) : Type 0 where
  pub few : length cs ≤ 16
  pub inside : length rest ≤ length s
  pub sofar : ran_from table left (length s - length rest) rest cs ≡ ran_of table s

module _ (table : List Attribute) (s : List ℕ) where
  pub running-start : (rest : List ℕ) (cs : List Cell) → pointwise eqb (take 4 s) (0x61 ∷ 0x72 ∷ 0x74 ∷ 0x78 ∷ []) ≡ true → rest ≡ drop 4 s → length rest + 4 ≡ length s
      → cs ≡ [] → Running table s cs rest 64
  running-start rest cs h e n z =
      let at : length s - length rest ≡ 4 = omega arith in
      record { few = rw z (omega arith); inside = omega arith; sofar = rw (at, e, z) (ran-is table s (sym (marked-is s) ∙ h)) }

  pub running-never : pointwise eqb (take 4 s) (0x61 ∷ 0x72 ∷ 0x74 ∷ 0x78 ∷ []) ≡ false → None ≡ ran_of table s
  running-never h = sym (not-marked table s (sym (marked-is s) ∙ h))

module _ {table : List Attribute} {s : List ℕ} {cs : List Cell} {rest : List ℕ} {left : ℕ} (m : Running table s cs rest left) where
  -- the tokens are over
  pub ends : {b : ℕ} → b ≡ get_or rest 0 0 → b ≡ 0 → ended_by (length s - length rest) rest cs ≡ ran_of table s
  unfolding over
  ends e z = sym (ran_over table (length s - length rest) rest cs left (eq-eqb (get_or rest 0 0) 0 (sym e ∙ z))) ∙ m.sofar

  -- or no more of them may follow
  pub ends_last : left ≡ 0 → ended_by (length s - length rest) rest cs ≡ ran_of table s
  ends_last z = sym (ran-most table (length s - length rest) rest cs) ∙ ap (λ (k : ℕ). ran_from table k (length s - length rest) rest cs) (sym z) ∙ m.sofar

-- there is a place for what it lays on the stack, its bytes are there, and so it goes on
pub record Turn (table : List Attribute) (s : List ℕ) (cs : List Cell) (rest : List ℕ) (k : ℕ) (e : Effect) (n : ℕ) : Type 0 where
  pub lives : Live cs e
  pub inside : n ≤ length rest
  pub next : (to : List Cell) → to ≡ e.cell ∷ drop e.pops cs → Running table s to (take (length rest - n) (drop n rest)) (64 - (k + 1))

-- after k tokens another one comes
module _ {table : List Attribute} {s : List ℕ} {cs : List Cell} {rest : List ℕ} {k b : ℕ}
    (m : Running table s cs rest (64 - k)) (e : b ≡ get_or rest 0 0) (f : b ≡ 0 → ⊥) (g : k < 64) where
  going : over rest ≡ false
  unfolding over
  going = ne_eqb (get_or rest 0 0) 0 (λ z. f (e ∙ z))

  abbrev place : ℕ
  place = length s - length rest

  on : (o : Option Token) → token_at rest ≡ o → onward (effect_at table cs o) cs (ran_from table (64 - k - 1) (place + long_of o) (drop (long_of o) rest)) ≡ ran_of table s
  on o z = sym (ran_on table place rest cs going (64 - k) (omega arith) o z) ∙ m.sofar

  -- no token is there
  pub no_token : None ≡ unless_zero (long_of (token_at rest)) → None ≡ ran_of table s
  unfolding effect_at onward
  no_token h = on none (none-long (token_at rest) (none-unless_zero (long_of (token_at rest)) (sym h)))

  -- what it needs isn't there
  pub no_effect : None ≡ effect_at table cs (token_at rest) → None ≡ ran_of table s
  unfolding onward
  no_effect h = (rw (sym h) at (on (token_at rest) refl))

  pub turn : {x : Effect} {n : ℕ} → Some n ≡ unless_zero (long_of (token_at rest)) → Some x ≡ effect_at table cs (token_at rest) → Turn table s cs rest k x n
  unfolding onward
  turn {x} {n} h i =
      let q = some-unless_zero (long_of (token_at rest)) n (sym h) in
      let v = pops-live cs m.few table (token_at rest) x (sym i) in
      let w : n ≤ length rest = token-within rest n h in
      let to = length-drop n rest in
      let there : length s - length (drop n rest) ≡ place + n = omega (arith, w, to, m.inside) in
      let less : 64 - (k + 1) ≡ 64 - k - 1 = omega arith in
      record {
        lives = v;
        inside = w;
        next = λ (c : List Cell) (z : c ≡ x.cell ∷ drop x.pops cs).
            record {
              few = rw z (omega (arith, v.within, v.room, length-drop x.pops cs));
              inside = rw (rest-is rest n) (omega (arith, to, m.inside));
              sofar = rw (z, rest-is rest n, there, less, sym q.0) (rw (sym i) at (on (token_at rest) refl));
            };
      }
