-- Where the tokens of an acceptable expression lie: each at its place inside the bytes, at most 64 of them, and behind them only zeros.
use mathlib.Core.Path.{◌≡◌, refl, sym, ap, ◌∙◌}
use mathlib.Core.Bool.{Bool, true, false, cond}
use mathlib.Core.List.{List, [], ◌∷◌, ◌++◌}
use mathlib.Core.Option.{Option, none, some, map, bind, bind-eq-some_iff, map-eq-some_iff, some-injective, none-ne-some}
use Prim.Native.Nat.{ℕ, zero, suc, ◌≤◌, ◌<◌}
use native.Mathlib.Omega.{arith}
use lib.ListN.{length, take, drop, length-take, length-drop}
use lib.Seq.{drop-drop}
use Rattle.octets.specs.Absent.{unless_zero}
use Rattle.octets.proofs.Absent.{unless_zero-some}
use Rattle.octets.proofs.Same.{same_true}
use Rattle.condition.specs.Token.{number, name, Token, push, compares, exists, ands, ors, nots, token_at, long, long_all, over, tokens_in}
use Rattle.condition.specs.Kind.{condition, kinds_from, marked, zeros, tokens_end, accepted_of, end_by, stored_end}
use Rattle.condition.specs.Inner.Cells.{long_of}
use Rattle.condition.proofs.Effects.{token-within}
use Rattle.condition.proofs.Stack.{accepted}

-- ---- one token

-- some byte spells every token
pub long-some : (t : Token) → 0 < long t
unfolding long
long-some (push (number w)) = omega arith
long-some (push (name n)) = omega arith
long-some (compares c) = omega arith
long-some exists = omega arith
long-some ands = omega arith
long-some ors = omega arith
long-some nots = omega arith

-- a token at the front is no longer than the bytes
pub token-fits : (t : Token) (s : List ℕ) → token_at s ≡ some t → long t ≤ length s
unfolding long_of
token-fits t s h = token-within s (long t) (sym (ap (λ (o : Option Token). unless_zero (long_of o)) h ∙ unless_zero-some (long t) (long-some t)))

-- ---- many tokens

-- the first token, and those behind it
pub record Begun (n : ℕ) (s : List ℕ) (t : Token) (ts : List Token) : Type 0 where
  pub first : token_at s ≡ some t
  pub rest : tokens_in n (drop (long t) s) ≡ some ts

-- no token is read where none are left to read
tokens_none : (s : List ℕ) (ts : List Token) → tokens_in 0 s ≡ some ts → ts ≡ []
unfolding tokens_in
tokens_none s ts h = by (over s) h
  where
    by : (b : Bool) → cond b (some []) none ≡ some ts → ts ≡ []
    by true e = sym (some-injective [] ts e)
    by false e = absurd (none-ne-some ts e)

-- tokens that are read: one, and the rest of them behind it
pub tokens-begun : (n : ℕ) (s : List ℕ) (t : Token) (ts : List Token) → tokens_in (suc n) s ≡ some (t ∷ ts) → Begun n s t ts
unfolding tokens_in
tokens-begun n s t ts h = by (over s) h
  where
    by : (b : Bool) → cond b (some []) (bind (token_at s) (λ u. map (λ us. u ∷ us) (tokens_in n (drop (long u) s)))) ≡ some (t ∷ ts) → Begun n s t ts
    by true e = let z : ◌≡◌ {A = ℕ} 0 1 = cc in absurd (omega arith)
    by false e =
        let r = (bind-eq-some_iff (token_at s) (λ u. map (λ us. u ∷ us) (tokens_in n (drop (long u) s)))).0 e in
        let m = (map-eq-some_iff (λ us. r.0 ∷ us) (tokens_in n (drop (long r.0) s))).0 r.2 in
        let p : r.0 ≡ t = cc m.2 in
        let q : m.0 ≡ ts = cc m.2 in
        record { first = r.1 ∙ ap {B = Option Token} some p; rest = ap (λ (u : Token). tokens_in n (drop (long u) s)) (sym p) ∙ m.1 ∙ ap {B = Option (List Token)} some q }

-- all tokens together are no longer than the bytes
pub tokens-within : (n : ℕ) (s : List ℕ) (ts : List Token) → tokens_in n s ≡ some ts → long_all ts ≤ length s
unfolding long_all
tokens-within n s [] h = omega arith
tokens-within zero s (t ∷ ts) h = let e = tokens_none s (t ∷ ts) h in let z : ◌≡◌ {A = ℕ} 0 1 = cc in absurd (omega arith)
tokens-within (suc n) s (t ∷ ts) h =
    let g = tokens-begun n s t ts h in
    omega (arith, token-fits t s g.first, tokens-within n (drop (long t) s) ts g.rest, length-drop (long t) s)

-- and no more than may be read
pub tokens-few : (n : ℕ) (s : List ℕ) (ts : List Token) → tokens_in n s ≡ some ts → length ts ≤ n
tokens-few n s [] h = omega arith
tokens-few zero s (t ∷ ts) h = let e = tokens_none s (t ∷ ts) h in let z : ◌≡◌ {A = ℕ} 0 1 = cc in absurd (omega arith)
tokens-few (suc n) s (t ∷ ts) h = let g = tokens-begun n s t ts h in omega (arith, tokens-few n (drop (long t) s) ts g.rest)

-- each lies where those before it end
pub tokens-lie : (n : ℕ) (s : List ℕ) (p : List Token) (t : Token) (q : List Token) → tokens_in n s ≡ some (p ++ (t ∷ q)) → token_at (drop (long_all p) s) ≡ some t
unfolding long_all
tokens-lie zero s [] t q h = let e = tokens_none s (t ∷ q) h in let z : ◌≡◌ {A = ℕ} 0 1 = cc in absurd (omega arith)
tokens-lie zero s (u ∷ p) t q h = let e = tokens_none s (u ∷ (p ++ (t ∷ q))) h in let z : ◌≡◌ {A = ℕ} 0 1 = cc in absurd (omega arith)
tokens-lie (suc n) s [] t q h = (tokens-begun n s t q h).first
tokens-lie (suc n) s (u ∷ p) t q h =
    let g = tokens-begun n s u (p ++ (t ∷ q)) h in
    ap token_at (sym (drop-drop (long_all p) (long u) s)) ∙ tokens-lie n (drop (long u) s) p t q g.rest

-- ---- an acceptable expression

-- the four bytes at the front are there
pub marked-four : (s : List ℕ) → marked s ≡ true → 4 ≤ length s
unfolding marked
marked-four s h = omega (arith, ap length (same_true (take 4 s) (0x61 ∷ 0x72 ∷ 0x74 ∷ 0x78 ∷ []) h), length-take 4 s)

module _ (s : List ℕ) (ts : List Token) (h : accepted_of s ≡ some ts) where
  -- it has at most 64 tokens
  pub few-tokens : length ts ≤ 64
  few-tokens = tokens-few 64 (drop 4 s) ts (accepted s ts h).reads

  -- and one at the least
  pub some-tokens : 0 < length ts
  unfolding kinds_from
  some-tokens = by ts (accepted s ts h).leaves
    where
      by : (us : List Token) → kinds_from us [] ≡ some (condition ∷ []) → 0 < length us
      by [] e = let z : ◌≡◌ {A = ℕ} 0 1 = cc in absurd (omega arith)
      by (u ∷ us) e = omega arith

  -- each of them lies in the bytes, behind those before it
  pub tokens-are : (p : List Token) (t : Token) (q : List Token) → ts ≡ p ++ (t ∷ q) → token_at (drop (tokens_end p) s) ≡ some t
  tokens-are p t q e =
      ap token_at (sym (drop-drop (long_all p) 4 s)) ∙ tokens-lie 64 (drop 4 s) p t q ((accepted s ts h).reads ∙ ap {B = Option (List Token)} some e)

  -- they end inside the bytes
  pub end-within : tokens_end ts ≤ length s
  end-within =
      let a = accepted s ts h in
      omega (arith, marked-four s a.marks, tokens-within 64 (drop 4 s) ts a.reads, length-drop 4 s)

  -- behind the four bytes
  pub end-four : 4 < tokens_end ts
  unfolding long_all
  end-four = by ts some-tokens
    where
      by : (us : List Token) → 0 < length us → 4 < tokens_end us
      by [] l = absurd (omega arith)
      by (u ∷ us) l = omega (arith, long-some u)

-- behind the tokens only zeros stand
pub end-zeros : (s : List ℕ) (ts : List Token) → accepted_of s ≡ some ts → zeros (drop (tokens_end ts) s) ≡ true
end-zeros s ts h = (accepted s ts h).ends

-- the end that is found lies inside the bytes
pub stored-within : (s : List ℕ) → stored_end s ≤ length s
unfolding end_by
stored-within s = by (accepted_of s) refl
  where
    by : (o : Option (List Token)) → accepted_of s ≡ o → end_by o ≤ length s
    by none e = omega arith
    by (some ts) e = end-within s ts e

-- and behind the four bytes, where one is found
pub stored-four : (s : List ℕ) → 0 < stored_end s → 4 < stored_end s
unfolding end_by
stored-four s = by (accepted_of s) refl
  where
    by : (o : Option (List Token)) → accepted_of s ≡ o → 0 < end_by o → 4 < end_by o
    by none e l = absurd (omega arith)
    by (some ts) e l = end-four s ts e
