-- What a reader asks of any access check: of masks, of the SIDs held, of the order of entries, of those that don't count, and of the answer.
use mathlib.Core.Path.{◌≡◌, refl, sym, ap, ap₂, ◌∙◌}
use mathlib.Core.Bool.{Bool, true, false, not, cond, ◌&&◌, ◌||◌, and-false}
use mathlib.Core.List.{List, [], ◌∷◌, ◌++◌}
use mathlib.Core.Option.{none, some}
use mathlib.Core.Logic.{◌↔◌}
use Prim.Native.Nat.{ℕ, ◌^◌, ◌≤◌, ◌<◌}
use native.Mathlib.Omega.{arith}
use lib.ListN.{length}
use lib.Dec.{eqb, leb}
use lib.Bits.{bit_or}
use borrow.Author.Tests.{eqb-false, leb-true, le-leb, not-true}
use Rattle.octets.specs.Order.{need}
use Rattle.octets.specs.Bytes.{has, among, same_bytes}
use Rattle.condition.specs.Table.{table_ok}
use Rattle.list.specs.Entry.{access, kind_of, mask_of, sid_of}
use Rattle.list.specs.Identity.{placeholder_of}
use Rattle.list.specs.Good.{Every}
use Rattle.list.specs.List.{MaybeList, entries_of, read_as, check_of}
use Rattle.list.specs.declared.readings.Read.{Read}
use Rattle.refusal.specs.declared.Fault.{Fault}
use Rattle.refusal.specs.Faults.{plain}
use Rattle.refusal.specs.declared.Refusal.{Refusal}
use Rattle.refusal.specs.declared.Refusal.TheVariants.{Identity, Types, Generic, Table}
use Rattle.std.specs.Prelude.{Result, Ok, Err}
use Rattle.octets.proofs.Bits.{has-or, generic-or}
use Rattle.octets.proofs.Tests.{both_true, false-or, off}
use Rattle.octets.proofs.Same.{same_true}
use Rattle.access.specs.Held.{held_of, reaches_end}
use Rattle.access.specs.Open.{Question, inherit_only, applies, entry_counts, is_allow, granted, opens_by, opens, on_read, read_first, may_open_of}
use Rattle.access.specs.Said.{spoken, ordinary_of, asks}
use Rattle.access.proofs.Bitwise.{both_hold, both_ways}
use Rattle.access.proofs.Wanted.{granted-here, granted-on, opens-all, opens_at, opens-same}

-- ---- masks

either_left : {a : Bool} (b : Bool) → a ≡ true → (a || b) ≡ true
either_left b p = rw p

either-right : (a : Bool) {b : Bool} → b ≡ true → (a || b) ≡ true
either-right true p = refl
either-right false p = p

module _ (type table : List ℕ) (sids : List (List ℕ)) where
  -- two masks at once are granted exactly if each of them is
  pub both-wanted : (a b : ℕ) (es : List (List ℕ)) → opens_by type table sids (bit_or a b) es ≡ (opens_by type table sids a es && opens_by type table sids b es)
  both-wanted a b es = both_ways (opens_by type table sids (bit_or a b) es) (opens_by type table sids a es && opens_by type table sids b es) to from
    where
      to : opens_by type table sids (bit_or a b) es ≡ true → (opens_by type table sids a es && opens_by type table sids b es) ≡ true
      to t =
          both_hold
          (opens-all type table sids a es (λ k l h. opens_at type table sids (bit_or a b) es k t l (has-or k a b ∙ either_left (has (2 ^ k) b) h)))
          (opens-all type table sids b es (λ k l h. opens_at type table sids (bit_or a b) es k t l (has-or k a b ∙ either-right (has (2 ^ k) a) h)))

      from : (opens_by type table sids a es && opens_by type table sids b es) ≡ true → opens_by type table sids (bit_or a b) es ≡ true
      from t = opens-all type table sids (bit_or a b) es (λ k l h. by k l (sym (has-or k a b) ∙ h) (has (2 ^ k) a) refl)
        where
          f : (opens_by type table sids a es ≡ true) × (opens_by type table sids b es ≡ true)
          f = both_true (opens_by type table sids a es) (opens_by type table sids b es) t

          by : (k : ℕ) → k < 32 → (has (2 ^ k) a || has (2 ^ k) b) ≡ true → (o : Bool) → has (2 ^ k) a ≡ o → granted type table sids (2 ^ k) es ≡ true
          by k l h true o = opens_at type table sids a es k f.0 l o
          by k l h false o = opens_at type table sids b es k f.1 l (rw o at h)

  -- nothing wanted is a yes
  pub nothing-wanted : (es : List (List ℕ)) → opens_by type table sids 0 es ≡ true
  nothing-wanted es = opens-all type table sids 0 es (λ k l h. absurd (off h refl))

  -- where nothing is said, whatever is wanted is a no
  pub nothing_said : (w k : ℕ) → has (2 ^ k) w ≡ true → k < 32 → opens_by type table sids w [] ≡ false
  unfolding granted
  nothing_said w k h l = false-or (opens_by type table sids w []) (λ t. off (opens_at type table sids w [] k t l h) refl)

-- ---- the SIDs held

module _ (type table : List ℕ) (sids more : List (List ℕ)) (all : (x : List ℕ) → among x sids ≡ true → among x more ≡ true) where
  more-counts : (e : List ℕ) → entry_counts type table sids e ≡ true → entry_counts type table more e ≡ true
  unfolding entry_counts
  more-counts e h =
      let f = both_true (not (inherit_only e)) (among (sid_of e) sids && applies type table e) h in
      let g = both_true (among (sid_of e) sids) (applies type table e) f.1 in
      both_hold f.0 (both_hold (all (sid_of e) g.0) g.1)

  -- an entry that counts with more SIDs only names one of the new ones
  new-counts : (e : List ℕ) → entry_counts type table more e ≡ true → entry_counts type table sids e ≡ false → (among (sid_of e) more ≡ true) × (among (sid_of e) sids ≡ false)
  unfolding entry_counts
  new-counts e h n =
      let f = both_true (not (inherit_only e)) (among (sid_of e) more && applies type table e) h in
      let g = both_true (among (sid_of e) more) (applies type table e) f.1 in
      (g.0, false-or (among (sid_of e) sids) (λ t. off (both_hold f.0 (both_hold t g.1)) n))

  more-granted : (bit : ℕ) (es : List (List ℕ)) → Every (λ e. among (sid_of e) more ≡ true → among (sid_of e) sids ≡ false → is_allow (kind_of e) ≡ true) es
      → granted type table sids bit es ≡ true → granted type table more bit es ≡ true
  unfolding granted
  more-granted bit [] n t = t
  more-granted bit (e ∷ es) n t = by (entry_counts type table sids e && has bit (mask_of e)) (entry_counts type table more e && has bit (mask_of e)) refl refl (more-granted bit es n.1)
    where
      by : (x y : Bool) → (entry_counts type table sids e && has bit (mask_of e)) ≡ x → (entry_counts type table more e && has bit (mask_of e)) ≡ y
          → (granted type table sids bit es ≡ true → granted type table more bit es ≡ true) → granted type table more bit (e ∷ es) ≡ true
      by true y p q on =
          let f = both_true (entry_counts type table sids e) (has bit (mask_of e)) p in
          granted-here type table more bit e es (both_hold (more-counts e f.0) f.1) ∙ sym (granted-here type table sids bit e es p) ∙ t
      by false true p q on =
          let f = both_true (entry_counts type table more e) (has bit (mask_of e)) q in
          let g = new-counts e f.0 (false-or (entry_counts type table sids e) (λ c. off (both_hold c f.1) p)) in
          granted-here type table more bit e es q ∙ n.0 g.0 g.1
      by false false p q on = granted-on type table more bit e es q ∙ on (sym (granted-on type table sids bit e es p) ∙ t)

-- more SIDs held, of which only allow entries name the new ones: a yes stays a yes
pub more-held : (type table : List ℕ) (sids more : List (List ℕ)) (w : ℕ) (es : List (List ℕ)) → ((x : List ℕ) → among x sids ≡ true → among x more ≡ true)
    → Every (λ e. among (sid_of e) more ≡ true → among (sid_of e) sids ≡ false → is_allow (kind_of e) ≡ true) es
    → opens_by type table sids w es ≡ true → opens_by type table more w es ≡ true
more-held type table sids more w es all n t = opens-all type table more w es (λ k l h. more-granted type table sids more all (2 ^ k) es n (opens_at type table sids w es k t l h))

-- a SID that is no placeholder is among those held exactly if it is among the ordinary ones of them
among-ordinary : (x : List ℕ) → placeholder_of x ≡ 0 → (sids : List (List ℕ)) → among x sids ≡ among x (ordinary_of sids)
unfolding among ordinary_of
among-ordinary x z [] = refl
among-ordinary x z (s ∷ ss) = by (eqb (placeholder_of s) 0) refl (among-ordinary x z ss)
  where
    by : (o : Bool) → eqb (placeholder_of s) 0 ≡ o → among x ss ≡ among x (ordinary_of ss) → (same_bytes s x || among x ss) ≡ among x (cond o (s ∷ ordinary_of ss) (ordinary_of ss))
    by true o on = ap (λ (b : Bool). same_bytes s x || b) on
    by false o on = rw (false-or (same_bytes s x) (λ t. eqb-false (placeholder_of s) 0 o (ap placeholder_of (same_true s x t) ∙ z))) on

module _ (type table : List ℕ) (sids : List (List ℕ)) where
  ordinary-counts : (e : List ℕ) → placeholder_of (sid_of e) ≡ 0 → entry_counts type table sids e ≡ entry_counts type table (ordinary_of sids) e
  unfolding entry_counts
  ordinary-counts e z = ap (λ (b : Bool). not (inherit_only e) && (b && applies type table e)) (among-ordinary (sid_of e) z sids)

  ordinary-granted : (bit : ℕ) (es : List (List ℕ)) → Every (λ e. placeholder_of (sid_of e) ≡ 0) es → granted type table sids bit es ≡ granted type table (ordinary_of sids) bit es
  unfolding granted
  ordinary-granted bit [] n = refl
  ordinary-granted bit (e ∷ es) n =
      ap₂ (λ (c g : Bool). cond (c && has bit (mask_of e)) (is_allow (kind_of e)) g) (ordinary-counts e n.0) (ordinary-granted bit es n.1)

  -- where no entry names a placeholder, the placeholders that are held change nothing
  pub placeholders-unseen : (w : ℕ) (es : List (List ℕ)) → Every (λ e. placeholder_of (sid_of e) ≡ 0) es → opens_by type table sids w es ≡ opens_by type table (ordinary_of sids) w es
  placeholders-unseen w es n = opens-same type table sids (ordinary_of sids) w es es (λ k l h. ordinary-granted (2 ^ k) es n)

-- ---- the order of entries

module _ (type table : List ℕ) (sids : List (List ℕ)) where
  -- the first entry that speaks of a bit decides it, whatever stands behind
  pub first-decides : (bit : ℕ) (xs ys : List (List ℕ)) → spoken type table sids bit xs ≡ true → granted type table sids bit (xs ++ ys) ≡ granted type table sids bit xs
  unfolding spoken granted
  first-decides bit [] ys h = absurd (off h refl)
  first-decides bit (x ∷ xs) ys h = by (entry_counts type table sids x && has bit (mask_of x)) refl (first-decides bit xs ys)
    where
      by : (s : Bool) → (entry_counts type table sids x && has bit (mask_of x)) ≡ s → (spoken type table sids bit xs ≡ true → granted type table sids bit (xs ++ ys) ≡ granted type table sids bit xs)
          → granted type table sids bit (x ∷ (xs ++ ys)) ≡ granted type table sids bit (x ∷ xs)
      by true s on = granted-here type table sids bit x (xs ++ ys) s ∙ sym (granted-here type table sids bit x xs s)
      by false s on = granted-on type table sids bit x (xs ++ ys) s ∙ on (rw s at h) ∙ sym (granted-on type table sids bit x xs s)

  -- what stands behind the entries that speak of every wanted bit, denies too, changes nothing
  pub order-decides : (w : ℕ) (xs ys : List (List ℕ)) → ((k : ℕ) → k < 32 → has (2 ^ k) w ≡ true → spoken type table sids (2 ^ k) xs ≡ true)
      → opens_by type table sids w (xs ++ ys) ≡ opens_by type table sids w xs
  order-decides w xs ys s = opens-same type table sids sids w (xs ++ ys) xs (λ k l h. first-decides (2 ^ k) xs ys (s k l h))

  -- an entry that counts names a SID that is held
  counts-held : (e : List ℕ) → entry_counts type table sids e ≡ true → among (sid_of e) sids ≡ true
  unfolding entry_counts
  counts-held e h =
      (both_true (among (sid_of e) sids) (applies type table e) (both_true (not (inherit_only e)) (among (sid_of e) sids && applies type table e) h).1).0

  allowed-granted : (bit : ℕ) (xs ys : List (List ℕ)) (e : List ℕ) → Every (λ x. among (sid_of x) sids ≡ true → is_allow (kind_of x) ≡ true) xs
      → (entry_counts type table sids e && has bit (mask_of e)) ≡ true → is_allow (kind_of e) ≡ true → granted type table sids bit (xs ++ (e ∷ ys)) ≡ true
  unfolding granted
  allowed-granted bit [] ys e n c a = granted-here type table sids bit e ys c ∙ a
  allowed-granted bit (x ∷ xs) ys e n c a = by (entry_counts type table sids x && has bit (mask_of x)) refl (allowed-granted bit xs ys e n.1 c a)
    where
      by : (s : Bool) → (entry_counts type table sids x && has bit (mask_of x)) ≡ s → granted type table sids bit (xs ++ (e ∷ ys)) ≡ true
          → granted type table sids bit (x ∷ (xs ++ (e ∷ ys))) ≡ true
      by true s on =
          granted-here type table sids bit x (xs ++ (e ∷ ys)) s ∙ n.0 (counts-held x (both_true (entry_counts type table sids x) (has bit (mask_of x)) s).0)
      by false s on = granted-on type table sids bit x (xs ++ (e ∷ ys)) s ∙ on

  -- an allow entry that counts lets its bits through, where nothing before it denies a SID that is held
  pub allowed-opens : (w : ℕ) (xs ys : List (List ℕ)) (e : List ℕ) → Every (λ x. among (sid_of x) sids ≡ true → is_allow (kind_of x) ≡ true) xs
      → entry_counts type table sids e ≡ true → is_allow (kind_of e) ≡ true → ((k : ℕ) → k < 32 → has (2 ^ k) w ≡ true → has (2 ^ k) (mask_of e) ≡ true)
      → opens_by type table sids w (xs ++ (e ∷ ys)) ≡ true
  allowed-opens w xs ys e n c a has-them =
      opens-all type table sids w (xs ++ (e ∷ ys)) (λ k l h. allowed-granted (2 ^ k) xs ys e n (both_hold c (has-them k l h)) a)

-- ---- entries that don't count

module _ (type table : List ℕ) (sids : List (List ℕ)) (e : List ℕ) where
  uncounted-granted : entry_counts type table sids e ≡ false → (bit : ℕ) (xs ys : List (List ℕ)) → granted type table sids bit (xs ++ (e ∷ ys)) ≡ granted type table sids bit (xs ++ ys)
  unfolding granted
  uncounted-granted c bit [] ys = granted-on type table sids bit e ys (rw c)
  uncounted-granted c bit (x ∷ xs) ys = ap (cond (entry_counts type table sids x && has bit (mask_of x)) (is_allow (kind_of x))) (uncounted-granted c bit xs ys)

  -- an entry that doesn't count may stand anywhere or be gone
  pub uncounted-unseen : (w : ℕ) (xs ys : List (List ℕ)) → entry_counts type table sids e ≡ false → opens_by type table sids w (xs ++ (e ∷ ys)) ≡ opens_by type table sids w (xs ++ ys)
  uncounted-unseen w xs ys c = opens-same type table sids sids w (xs ++ (e ∷ ys)) (xs ++ ys) (λ k l h. uncounted-granted c (2 ^ k) xs ys)

  -- so may one that is inherit-only
  pub io-unseen : (w : ℕ) (xs ys : List (List ℕ)) → inherit_only e ≡ true → opens_by type table sids w (xs ++ (e ∷ ys)) ≡ opens_by type table sids w (xs ++ ys)
  unfolding entry_counts
  io-unseen w xs ys h = uncounted-unseen w xs ys (rw h)

  -- and one that names none of the SIDs held
  pub unheld-unseen : (w : ℕ) (xs ys : List (List ℕ)) → among (sid_of e) sids ≡ false → opens_by type table sids w (xs ++ (e ∷ ys)) ≡ opens_by type table sids w (xs ++ ys)
  unfolding entry_counts
  unheld-unseen w xs ys h = uncounted-unseen w xs ys (rw h (and-false (not (inherit_only e))))

-- ---- the answer

-- a list that is present reads as done
pub record ReadsDone (s : List ℕ) : Type 0 where
  pub len : ℕ
  pub count : ℕ
  pub end : ℕ
  pub done : check_of access s ≡ read_as len count end

abbrev pub DoneOrAbsent : MaybeList → Type 0
DoneOrAbsent none = Unit
DoneOrAbsent (some s) = ReadsDone s

-- no generic bit is wanted, the list has no fault or is absent, the held bytes are at most 32 SIDs to their end, the table is well made, and each wanted bit is granted
pub record MayOpen (q : Question) : Type 0 where
  pub specific : has 0xF0000000 q.wanted ≡ false
  pub reads : DoneOrAbsent q.list
  pub to_end : reaches_end q.held ≡ true
  pub few : length (held_of q.held) ≤ 32
  pub made : table_ok q.table ≡ true
  pub opened : opens q q.list ≡ true

no-yes : (fault : Fault) → Err fault ≡ Ok true → ⊥
no-yes fault e = let z : ◌≡◌ {A = ℕ} 0 1 = cc in omega arith

need-yes : (b : Bool) (k : Refusal) (rest : Result Bool Fault) → need b (Err (plain k)) rest ≡ Ok true → (b ≡ true) × (rest ≡ Ok true)
unfolding need
need-yes true k rest e = (refl, e)
need-yes false k rest e = absurd (no-yes (plain k) e)

yes-need : (b : Bool) (k : Refusal) (rest : Result Bool Fault) → b ≡ true → rest ≡ Ok true → need b (Err (plain k)) rest ≡ Ok true
unfolding need
yes-need b k rest t e = rw (t, e)

told-yes : (b : Bool) → ◌≡◌ {A = Result Bool Fault} (Ok b) (Ok true) → b ≡ true
told-yes b e = cc

read-yes : (list : MaybeList) (rest : Result Bool Fault) → read_first list rest ≡ Ok true → DoneOrAbsent list × (rest ≡ Ok true)
unfolding read_first on_read
read-yes none rest e = (tt, e)
read-yes (some s) rest e = by (check_of access s) refl e
  where
    by : (r : Result Read Fault) → check_of access s ≡ r → on_read r rest ≡ Ok true → ReadsDone s × (rest ≡ Ok true)
    by (Ok r) c e = (record { len = r.length; count = r.count; end = r.end; done = c }, e)
    by (Err fault) c e = absurd (no-yes fault e)

yes-read : (list : MaybeList) (rest : Result Bool Fault) → DoneOrAbsent list → rest ≡ Ok true → read_first list rest ≡ Ok true
unfolding read_first on_read
yes-read none rest d e = e
yes-read (some s) rest d e = rw d.done e

-- the answer is yes exactly if no generic bit is wanted, the list has no fault or is absent, the held bytes and the table have none, and each wanted bit is
-- granted
pub yes-exactly : (q : Question) → (may_open_of q ≡ Ok true) ↔ MayOpen q
unfolding may_open_of
yes-exactly q = (to, from)
  where
    rest₄ : Result Bool Fault
    rest₄ = Ok (opens q q.list)

    rest₃ : Result Bool Fault
    rest₃ = need (table_ok q.table) (Err (plain Table)) rest₄

    rest₂ : Result Bool Fault
    rest₂ = need (leb (length (held_of q.held)) 32) (Err (plain Types)) rest₃

    rest₁ : Result Bool Fault
    rest₁ = need (reaches_end q.held) (Err (plain Identity)) rest₂

    to : may_open_of q ≡ Ok true → MayOpen q
    to e =
        let f₁ = need-yes (not (has 0xF0000000 q.wanted)) Generic (read_first q.list rest₁) e in
        let f₂ = read-yes q.list rest₁ f₁.1 in
        let f₃ = need-yes (reaches_end q.held) Identity rest₂ f₂.1 in
        let f₄ = need-yes (leb (length (held_of q.held)) 32) Types rest₃ f₃.1 in
        let f₅ = need-yes (table_ok q.table) Table rest₄ f₄.1 in
        record {
          specific = not-true (has 0xF0000000 q.wanted) f₁.0;
          reads = f₂.0;
          to_end = f₃.0;
          few = leb-true (length (held_of q.held)) 32 f₄.0;
          made = f₅.0;
          opened = told-yes (opens q q.list) f₅.1;
        }

    from : MayOpen q → may_open_of q ≡ Ok true
    from m =
        yes-need (not (has 0xF0000000 q.wanted)) Generic (read_first q.list rest₁) (ap not m.specific)
        (yes-read q.list rest₁ m.reads
        (yes-need (reaches_end q.held) Identity rest₂ m.to_end
        (yes-need (leb (length (held_of q.held)) 32) Types rest₃ (le-leb (length (held_of q.held)) 32 m.few)
        (yes-need (table_ok q.table) Table rest₄ m.made
        (ap Ok m.opened)))))

opens-or : (q : Question) (a b : ℕ) (list : MaybeList) → opens (asks q (bit_or a b)) list ≡ (opens (asks q a) list && opens (asks q b) list)
unfolding opens
opens-or q a b none = refl
opens-or q a b (some s) = both-wanted q.type q.table (held_of q.held) a b (entries_of s)

none_of : (a b : Bool) → (a || b) ≡ false → (a ≡ false) × (b ≡ false)
none_of true b h = absurd (off refl h)
none_of false b h = (refl, h)

-- a yes to two masks at once is a yes to each, and back
pub answer-both : (q : Question) (a b : ℕ) → (may_open_of (asks q (bit_or a b)) ≡ Ok true) ↔ ((may_open_of (asks q a) ≡ Ok true) × (may_open_of (asks q b) ≡ Ok true))
answer-both q a b = (λ e. to ((yes-exactly (asks q (bit_or a b))).0 e), λ e. from ((yes-exactly (asks q a)).0 e.0) ((yes-exactly (asks q b)).0 e.1))
  where
    to : MayOpen (asks q (bit_or a b)) → (may_open_of (asks q a) ≡ Ok true) × (may_open_of (asks q b) ≡ Ok true)
    to m =
        let f = none_of (has 0xF0000000 a) (has 0xF0000000 b) (sym (generic-or a b) ∙ m.specific) in
        let g = both_true (opens (asks q a) q.list) (opens (asks q b) q.list) (sym (opens-or q a b q.list) ∙ m.opened) in (
          (yes-exactly (asks q a)).1 (record { specific = f.0; reads = m.reads; to_end = m.to_end; few = m.few; made = m.made; opened = g.0 }),
          (yes-exactly (asks q b)).1 (record { specific = f.1; reads = m.reads; to_end = m.to_end; few = m.few; made = m.made; opened = g.1 }),
        )

    from : MayOpen (asks q a) → MayOpen (asks q b) → may_open_of (asks q (bit_or a b)) ≡ Ok true
    from m n =
        (yes-exactly (asks q (bit_or a b))).1
        (record {
          specific = generic-or a b ∙ ap₂ (λ (x y : Bool). x || y) m.specific n.specific;
          reads = m.reads;
          to_end = m.to_end;
          few = m.few;
          made = m.made;
          opened = opens-or q a b q.list ∙ both_hold m.opened n.opened;
        })
