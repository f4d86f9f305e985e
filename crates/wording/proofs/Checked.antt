-- The stored form of a tree in the grammar under the check of stored expressions, and what it evaluates to.
use mathlib.Core.Path.{◌≡◌, refl, ap, ◌∙◌}
use mathlib.Core.Bool.{Bool, true, false, cond, ◌&&◌, ◌||◌}
use mathlib.Core.List.{List}
use mathlib.Core.Option.{Option, none, some, bind}
use Prim.Native.Nat.{ℕ, ◌≤◌, ◌<◌}
use native.Mathlib.Omega.{arith}
use lib.ListN.{length, drop_of_length-le}
use lib.Dec.{eqb, leb, ltb}
use Rattle.octets.specs.Bytes.{same_bytes}
use Rattle.octets.specs.Order.{need}
use Rattle.octets.proofs.Tests.{tests}
use Rattle.octets.proofs.Places.{split}
use Rattle.std.specs.Prelude.{Ok, Err}
use Rattle.refusal.specs.declared.Refusal.TheVariants.{Expression}
use Rattle.condition.specs.Token.{Token, tokens_in}
use Rattle.condition.specs.Kind.{marked, zeros, tokens_end, acceptable, accepted_of, end_by, stored_end, up_to_four, stored_alone}
use Rattle.condition.specs.Table.{attributes_of, table_ok}
use Rattle.condition.specs.Meaning.{truth_by, evaluate_of}
use Rattle.condition.proofs.Trees.{spelt-runs}
use Rattle.wording.specs.Grammar.{Condition, text_c, InGrammar}
use Rattle.wording.specs.Stored.{formula_c, tokens_of, deep, bytes_all, stored_of}
use Rattle.wording.specs.Meaning.{means_c}
use Rattle.wording.specs.Translation.{holdable}
use Rattle.wording.proofs.Deep.{one_left-is}
use Rattle.wording.proofs.Back.{AllKept, tokens-back, tokens-over, long-all}
use Rattle.wording.proofs.Kept.{kept}
use Rattle.wording.proofs.Means.{formula-means}

-- the tokens end where the stored form does
pub ends : (c : Condition) → tokens_end (tokens_of c) ≡ length (stored_of c)
unfolding stored_of
ends c = omega (arith, long-all (tokens_of c))

-- they are acceptable where they are no deeper than 16: nothing follows them
acceptable-is : (c : Condition) → acceptable (stored_of c) (tokens_of c) ≡ leb (deep (formula_c c)) 16
unfolding acceptable zeros
acceptable-is c =
    let l : length (stored_of c) ≤ tokens_end (tokens_of c) = omega (arith, ends c) in
    rw (one_left-is (formula_c c), drop_of_length-le (stored_of c) l) (and-true (leb (deep (formula_c c)) 16))
  where
    and-true : (b : Bool) → (b && true) ≡ b
    and-true true = refl
    and-true false = refl

-- what is decided once the tokens are read
accepted-by : (c : Condition) (o : Option (List Token)) → tokens_in 64 (bytes_all (tokens_of c)) ≡ o
    → accepted_of (stored_of c) ≡ bind o (λ ts. cond (acceptable (stored_of c) ts) (some ts) none)
unfolding accepted_of marked same_bytes stored_of
accepted-by c o e = ap (λ (x : Option (List Token)). bind x (λ ts. cond (acceptable (stored_of c) ts) (some ts) none)) e

-- where they end, by whether they are held
end_by-is : (c : Condition) (b : Bool) → end_by (cond b (some (tokens_of c)) none) ≡ cond b (length (stored_of c)) 0
unfolding end_by
end_by-is c true = ends c
end_by-is c false = refl

-- n bytes of which all or none are held
alone-by : (n : ℕ) (b : Bool) → 0 < n → (ltb 0 (cond b n 0) && (eqb n (cond b n 0) || eqb n (up_to_four (cond b n 0)))) ≡ b
alone-by n true h = let e : n ≡ n = refl in simp tests
alone-by n false h = refl

module _ (c : Condition) (v : InGrammar c) (h : length (text_c c) ≤ 512) where
  all-kept : AllKept (tokens_of c)
  all-kept = kept c 12 v h

  -- the check finds the tree's tokens, where it holds them
  pub checked : accepted_of (stored_of c) ≡ cond (holdable c) (some (tokens_of c)) none
  unfolding bind
  checked =
      split (length (tokens_of c)) 64
      (λ a. accepted-by c (some (tokens_of c)) (tokens-back (tokens_of c) 64 a all-kept) ∙ rw (acceptable-is c) (simp tests))
      (λ a. accepted-by c none (tokens-over (tokens_of c) 64 a all-kept) ∙ simp tests)

  end_is : stored_end (stored_of c) ≡ cond (holdable c) (length (stored_of c)) 0
  end_is = ap end_by checked ∙ end_by-is c (holdable c)

  -- so it is acceptable alone just where it isn't refused as too large
  pub alone : stored_alone (stored_of c) ≡ holdable c
  unfolding stored_alone stored_of
  alone =
      ap (λ (n : ℕ). ltb 0 n && (eqb (length (stored_of c)) n || eqb (length (stored_of c)) (up_to_four n))) end_is
      ∙ alone-by (length (stored_of c)) (holdable c) (omega arith)

  -- the tokens end where the stored form does
  pub no-padding : holdable c ≡ true → stored_end (stored_of c) ≡ length (stored_of c)
  no-padding e = end_is ∙ rw e

  -- what is held evaluates to what the tree means, under each table that is well made
  pub stored-means : holdable c ≡ true → (table : List ℕ) → table_ok table ≡ true → evaluate_of (stored_of c) table ≡ Ok (means_c (attributes_of table) c)
  unfolding evaluate_of need truth_by
  stored-means e table t =
      let a : accepted_of (stored_of c) ≡ some (tokens_of c) = checked ∙ rw e in
      rw (alone, e, t, a) (ap Ok (spelt-runs (attributes_of table) (formula_c c) ∙ formula-means (attributes_of table) c 12 v))

  -- what isn't held is refused there as no expression
  pub stored_refused : holdable c ≡ false → (table : List ℕ) → evaluate_of (stored_of c) table ≡ Err Expression
  unfolding evaluate_of need
  stored_refused e table = rw (alone, e)
