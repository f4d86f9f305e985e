-- What a reader asks of conditional entries: a false one, an unknown one, a true one; and of the table where no entry is conditional.
use mathlib.Core.Path.{◌≡◌, refl, sym, ap, ap₂, ◌∙◌}
use mathlib.Core.Bool.{Bool, true, false, not, cond, ◌&&◌, ◌||◌, and-false, and-true}
use mathlib.Core.List.{List, [], ◌∷◌, ◌++◌}
use mathlib.Core.Option.{none, some}
use Prim.Native.Nat.{ℕ, ◌^◌, ◌<◌}
use lib.Dec.{eqb}
use borrow.Author.Tests.{eqb-true}
use Rattle.octets.specs.Order.{need}
use Rattle.octets.specs.Bytes.{has, among}
use Rattle.octets.proofs.Tests.{false-or, off}
use Rattle.condition.specs.Table.{table_ok}
use Rattle.condition.specs.Meaning.{said_by}
use Rattle.condition.specs.declared.truths.Truth.{Truth}
use Rattle.condition.specs.declared.truths.Truth.TheVariants.{False, True, Unknown}
use Rattle.list.specs.Entry.{object_of, object_kind, conditional_of, conditional_kind, kind_of, mask_of, sid_of, tail_of}
use Rattle.list.specs.List.{MaybeList, entries_of}
use Rattle.list.specs.Good.{Every}
use Rattle.access.specs.Held.{held_of}
use Rattle.access.specs.Open.{Question, inherit_only, type_counts, is_allow, said_counts, condition_counts, applies, entry_counts, granted, opens_by, opens, may_open_of}
use Rattle.access.specs.Said.{spoken}
use Rattle.access.proofs.Bitwise.{both_hold, each_same}
use Rattle.access.proofs.Wanted.{wanted-same, granted-here, granted-on, opens_at}
use Rattle.access.proofs.Theorems.{uncounted-unseen}
use Rattle.access.proofs.Answers.{EveryEntry}

-- ---- one conditional entry

-- a conditional type, 09 or 0A, is no object type
no-object : (k : ℕ) → conditional_kind k ≡ true → object_kind k ≡ false
unfolding conditional_kind conditional_of object_kind object_of
no-object k c = by (eqb k 9) refl
  where
    by : (b : Bool) → eqb k 9 ≡ b → (eqb k 5 || eqb k 6) ≡ false
    by true e = ap (λ (x : ℕ). eqb x 5 || eqb x 6) (eqb-true k 9 e)
    by false e = ap (λ (x : ℕ). eqb x 5 || eqb x 6) (eqb-true k 10 (rw e at c))

-- an entry of another type counts whatever the ObjectType
pub plain-counts : (type e : List ℕ) → object_kind (kind_of e) ≡ false → type_counts type e ≡ true
unfolding type_counts
plain-counts type e h = rw h

-- whether its condition counts: there is none; or what it says decides
module _ (table e : List ℕ) where
  pub unconditional : conditional_kind (kind_of e) ≡ false → condition_counts table e ≡ true
  unfolding condition_counts
  unconditional h = rw h

  pub conditioned : conditional_kind (kind_of e) ≡ true → condition_counts table e ≡ said_counts (said_by (tail_of e) table) (is_allow (kind_of e))
  unfolding condition_counts
  conditioned h = rw h

-- type and expression decide whether a condition counts
pub alike-counts : (table x e : List ℕ) → kind_of x ≡ kind_of e → tail_of x ≡ tail_of e → condition_counts table x ≡ condition_counts table e
unfolding condition_counts
alike-counts table x e k t = ap₂ (λ (kind : ℕ) (tail : List ℕ). cond (conditional_kind kind) (said_counts (said_by tail table) (is_allow kind)) true) k t

module _ (type table : List ℕ) (sids : List (List ℕ)) (e : List ℕ) where
  -- where its condition counts, an entry counts as one without a condition
  counts-as-plain : condition_counts table e ≡ true → entry_counts type table sids e ≡ (not (inherit_only e) && (among (sid_of e) sids && type_counts type e))
  unfolding entry_counts applies
  counts-as-plain c = ap (λ (b : Bool). not (inherit_only e) && (among (sid_of e) sids && b)) (rw c (and-true (type_counts type e)))

  -- where it doesn't, neither does the entry
  counts-not : condition_counts table e ≡ false → entry_counts type table sids e ≡ false
  unfolding entry_counts applies
  counts-not c = rw (c, and-false (type_counts type e), and-false (among (sid_of e) sids)) (and-false (not (inherit_only e)))

  -- an entry without a condition counts so, whatever the table
  pub unconditioned : conditional_kind (kind_of e) ≡ false → entry_counts type table sids e ≡ (not (inherit_only e) && (among (sid_of e) sids && type_counts type e))
  unconditioned k = counts-as-plain (unconditional table e k)

  module _ (k : conditional_kind (kind_of e) ≡ true) where
    said-so : (v : Truth) → said_by (tail_of e) table ≡ v → condition_counts table e ≡ said_counts v (is_allow (kind_of e))
    said-so v s = conditioned table e k ∙ ap (λ (x : Truth). said_counts x (is_allow (kind_of e))) s

    -- a false one may stand anywhere or be gone
    pub false-unseen : (w : ℕ) (xs ys : List (List ℕ)) → said_by (tail_of e) table ≡ False
        → opens_by type table sids w (xs ++ (e ∷ ys)) ≡ opens_by type table sids w (xs ++ ys)
    unfolding said_counts
    false-unseen w xs ys s = uncounted-unseen type table sids e w xs ys (counts-not (said-so False s))

    -- so may an allow that is unknown
    pub unknown-grants-nothing : (w : ℕ) (xs ys : List (List ℕ)) → said_by (tail_of e) table ≡ Unknown → is_allow (kind_of e) ≡ true
        → opens_by type table sids w (xs ++ (e ∷ ys)) ≡ opens_by type table sids w (xs ++ ys)
    unfolding said_counts
    unknown-grants-nothing w xs ys s a = uncounted-unseen type table sids e w xs ys (counts-not (said-so Unknown s ∙ ap not a))

    -- a deny that is unknown counts, as one without a condition
    pub unknown-denies : said_by (tail_of e) table ≡ Unknown → is_allow (kind_of e) ≡ false
        → (condition_counts table e ≡ true) × (entry_counts type table sids e ≡ (not (inherit_only e) && (among (sid_of e) sids && type_counts type e)))
    unfolding said_counts
    unknown-denies s a = let c = said-so Unknown s ∙ ap not a in (c, counts-as-plain c)

    -- so does a true one, allow or deny
    pub true-applies : said_by (tail_of e) table ≡ True
        → (condition_counts table e ≡ true) × (entry_counts type table sids e ≡ (not (inherit_only e) && (among (sid_of e) sids && type_counts type e)))
    unfolding said_counts
    true-applies s = let c = said-so True s in (c, counts-as-plain c)

    -- an allow counts only where it is true
    pub counts-only-true : is_allow (kind_of e) ≡ true → condition_counts table e ≡ true → said_by (tail_of e) table ≡ True
    unfolding said_counts
    counts-only-true a c = by (said_by (tail_of e) table) refl
      where
        by : (v : Truth) → said_by (tail_of e) table ≡ v → v ≡ True
        by False s = absurd (off c (said-so False s))
        by True s = refl
        by Unknown s = absurd (off c (said-so Unknown s ∙ ap not a))

    -- a deny counts unless it is false
    pub counts-unless-false : is_allow (kind_of e) ≡ false → (said_by (tail_of e) table ≡ False → ⊥) → condition_counts table e ≡ true
    unfolding said_counts
    counts-unless-false a f = by (said_by (tail_of e) table) refl
      where
        by : (v : Truth) → said_by (tail_of e) table ≡ v → condition_counts table e ≡ true
        by False s = absurd (f s)
        by True s = said-so True s
        by Unknown s = said-so Unknown s ∙ ap not a

-- ---- a deny before all that speaks of its bit

module _ (type table : List ℕ) (sids : List (List ℕ)) where
  -- entries that don't speak of a bit leave it to what stands behind them
  unspoken-past : (bit : ℕ) (xs ys : List (List ℕ)) → spoken type table sids bit xs ≡ false → granted type table sids bit (xs ++ ys) ≡ granted type table sids bit ys
  unfolding spoken granted
  unspoken-past bit [] ys h = refl
  unspoken-past bit (x ∷ xs) ys h = by (entry_counts type table sids x && has bit (mask_of x)) refl (unspoken-past bit xs ys)
    where
      by : (s : Bool) → (entry_counts type table sids x && has bit (mask_of x)) ≡ s → (spoken type table sids bit xs ≡ false → granted type table sids bit (xs ++ ys) ≡ granted type table sids bit ys)
          → granted type table sids bit (x ∷ (xs ++ ys)) ≡ granted type table sids bit ys
      by true s on = absurd (off refl (rw s at h))
      by false s on = granted-on type table sids bit x (xs ++ ys) s ∙ on (rw s at h)

  -- a deny that counts, conditional or not, before all that speaks of a wanted bit that it has: the answer is no
  pub deny-by-condition : (w k : ℕ) (xs ys : List (List ℕ)) (e : List ℕ) → entry_counts type table sids e ≡ true → is_allow (kind_of e) ≡ false → has (2 ^ k) (mask_of e) ≡ true
      → has (2 ^ k) w ≡ true → k < 32 → spoken type table sids (2 ^ k) xs ≡ false → opens_by type table sids w (xs ++ (e ∷ ys)) ≡ false
  deny-by-condition w k xs ys e c a m h l s =
      false-or (opens_by type table sids w (xs ++ (e ∷ ys)))
      (λ t. off (opens_at type table sids w (xs ++ (e ∷ ys)) k t l h)
      (unspoken-past (2 ^ k) xs (e ∷ ys) s ∙ granted-here type table sids (2 ^ k) e ys (both_hold c m) ∙ a))

  -- so does a conditional deny that isn't false: it isn't IO, names a SID that is held, and stands there
  pub denied-unless-false : (w k : ℕ) (xs ys : List (List ℕ)) (e : List ℕ) → conditional_kind (kind_of e) ≡ true → is_allow (kind_of e) ≡ false
      → (said_by (tail_of e) table ≡ False → ⊥) → inherit_only e ≡ false → among (sid_of e) sids ≡ true → has (2 ^ k) (mask_of e) ≡ true
      → has (2 ^ k) w ≡ true → k < 32 → spoken type table sids (2 ^ k) xs ≡ false → opens_by type table sids w (xs ++ (e ∷ ys)) ≡ false
  denied-unless-false w k xs ys e c a f i n =
      let t = plain-counts type e (no-object (kind_of e) c) in
      deny-by-condition w k xs ys e (counts-as-plain type table sids e (counts-unless-false type table sids e c a f) ∙ rw (i, n, t)) a

-- ---- the table

module _ (type table other : List ℕ) (sids : List (List ℕ)) where
  untabled-granted : (bit : ℕ) (es : List (List ℕ)) → Every (λ e. conditional_kind (kind_of e) ≡ false) es → granted type table sids bit es ≡ granted type other sids bit es
  unfolding granted
  untabled-granted bit [] n = refl
  untabled-granted bit (e ∷ es) n =
      ap₂ (λ (c g : Bool). cond (c && has bit (mask_of e)) (is_allow (kind_of e)) g)
      (unconditioned type table sids e n.0 ∙ sym (unconditioned type other sids e n.0)) (untabled-granted bit es n.1)

  -- where no entry is conditional, the table changes nothing
  pub table-unseen : (w : ℕ) (es : List (List ℕ)) → Every (λ e. conditional_kind (kind_of e) ≡ false) es → opens_by type table sids w es ≡ opens_by type other sids w es
  unfolding opens_by
  table-unseen w es n =
      each_same (λ bit. not (has bit w) || granted type table sids bit es) (λ bit. not (has bit w) || granted type other sids bit es) 32
      (λ k l. wanted-same (has (2 ^ k) w) (granted type table sids (2 ^ k) es) (granted type other sids (2 ^ k) es) (λ h. untabled-granted (2 ^ k) es n))

-- the same question, with another table
abbrev pub with_table : Question → List ℕ → Question
with_table q t = record { list = q.list; type = q.type; held = q.held; wanted = q.wanted; table = t }

opens-alike : (q : Question) (t : List ℕ) (list : MaybeList) → EveryEntry (λ e. conditional_kind (kind_of e) ≡ false) list → opens q list ≡ opens (with_table q t) list
unfolding opens
opens-alike q t none n = refl
opens-alike q t (some s) n = table-unseen q.type q.table t (held_of q.held) q.wanted (entries_of s) n

-- where no entry is conditional, any two tables that are well made give the same answer
pub answer-without-table : (q : Question) (t : List ℕ) → EveryEntry (λ e. conditional_kind (kind_of e) ≡ false) q.list
    → table_ok q.table ≡ true → table_ok t ≡ true → may_open_of q ≡ may_open_of (with_table q t)
unfolding may_open_of need
answer-without-table q t n made well = rw (made, well, opens-alike q t q.list n)
