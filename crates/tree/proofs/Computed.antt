-- Computed lists: each is short, reads as done and so is held by a slot; and on good arguments none is refused but for its length.
use mathlib.Core.Path.{◌≡◌, refl, sym, ap, subst, ◌∙◌}
use mathlib.Core.Bool.{Bool, true, false, cond}
use mathlib.Core.List.{List}
use mathlib.Core.Option.{none, some}
use Prim.Native.Nat.{ℕ, ◌<◌}
use native.Mathlib.Omega.{arith}
use lib.ListN.{length}
use lib.Dec.{eqb}
use borrow.Author.Tests.{le-leb, eqb-true}
use Rattle.octets.specs.Bytes.{part}
use Rattle.list.specs.Entry.{access}
use Rattle.list.specs.List.{check_of, MaybeList, lent}
use Rattle.std.specs.Prelude.{Result as Answer, Ok, Err}
use Rattle.list.specs.declared.readings.Read.{Read}
use Rattle.refusal.specs.declared.Fault.{Fault}
use Rattle.octets.proofs.Places.{split}
use Rattle.octets.proofs.Tests.{off}
use Rattle.list.proofs.Told.{told}
use Rattle.list.specs.Answer.{Values, done, refused}
use Rattle.inherit.specs.Asked.{types_ok}
use Rattle.inherit.specs.Inner.Source.{reads_if}
use Rattle.inherit.specs.Branch.{Result, absent, holds, result_of}
use Rattle.inherit.specs.Compute.{rule_ok, size_for, fits, with_room, compute_of, bytes_for}
use Rattle.inherit.proofs.Theorems.{Passed, passed-room, present-fits, computes, listed-source, absent-source}
use Rattle.inherit.specs.Spare.{NoSpare}
use Rattle.inherit.specs.Said.{NoGeneric}
use Rattle.inherit.proofs.Spare.{computed-end}
use Rattle.inherit.proofs.Mended.{no-generic}
use Rattle.tree.specs.Model.{short_if}
use Rattle.tree.specs.Held.{held, slot_for, slot_ok, is_done, type_of, own_slot, own_list, block_ok}
use Rattle.tree.specs.Room.{rule_of, default_of}
use Rattle.tree.specs.Work.{asked_in, taken, computed}
use Rattle.tree.proofs.Replay.{reads}
use Rattle.tree.proofs.Lays.{length-slot}
use Rattle.tree.proofs.Slots.{held-slot, slot-good, slot-reads, id-ordinary}
use Rattle.tree.proofs.Blocks.{length-guid, block-sound}

-- ---- a list that was computed

module _ (e : List ℕ) (p : MaybeList) (b : List ℕ) where
  abbrev answer : Values
  answer = compute_of (asked_in e p b) 1024

  abbrev bytes : List ℕ
  bytes = bytes_for (result_of access (asked_in e p b))

  bytes_good : answer.present ≡ 1 → (short_if (some bytes) ≡ true) × (reads (some bytes) ≡ true)
  unfolding short_if reads
  bytes_good h =
      let f = present-fits (asked_in e p b) 1024 h in
      let c = computes (asked_in e p b) 1024 h in
      (le-leb (length bytes) 1024 (omega arith), ap is_done c.done)

  -- what holds of an absent list and of one that was computed
  of-computed : (P : MaybeList → Type 0) → P none → (answer.present ≡ 1 → P (some bytes)) → (o : MaybeList) (z y : Bool)
      → eqb answer.number 0 ≡ z → eqb answer.present 1 ≡ y → cond z (some (lent y bytes)) none ≡ some o → P o
  of-computed P a k o true true q g h =
      let x : some bytes ≡ o = cc in
      subst P x (k (eqb-true answer.present 1 g))
  of-computed P a k o true false q g h =
      let x : none ≡ o = cc in
      subst P x a
  of-computed P a k o false y q g h = let z : ◌≡◌ {A = ℕ} 0 1 = cc in absurd (omega arith)

  module _ (o : MaybeList) (h : computed e p b ≡ some o) where
    computed-good : (short_if o ≡ true) × (reads o ≡ true)
    unfolding computed short_if reads
    computed-good = of-computed (λ x. (short_if x ≡ true) × (reads x ≡ true)) (refl, refl) bytes_good o _ _ refl refl h

    -- its entries end at its length
    pub computed-exact : NoSpare o
    unfolding computed
    computed-exact = of-computed NoSpare tt (computed-end (asked_in e p b) 1024) o _ _ refl refl h

    -- under rule 2 no mask of it has a generic bit
    pub computed-mended : rule_of e ≡ 2 → NoGeneric o
    unfolding computed
    computed-mended r = of-computed NoGeneric tt (no-generic (asked_in e p b) 1024 r) o _ _ refl refl h

    pub computed-short : short_if o ≡ true
    computed-short = computed-good.0

    pub computed-reads : reads o ≡ true
    computed-reads = computed-good.1

    -- so a slot holds it
    pub computed-slot : slot_ok (slot_for o) ≡ true
    computed-slot = slot-good o computed-short computed-reads

    pub computed-held : held (slot_for o) ≡ o
    computed-held = held-slot o computed-short

    pub computed-length : length (slot_for o) ≡ 1027
    computed-length = length-slot o computed-short

-- ---- a list that was refused

-- a list that reads as done passes the computation's test
pub reads-source : (o : MaybeList) → reads o ≡ true → reads_if o ≡ true
unfolding reads
reads-source none h = absent-source
reads-source (some s) h = by (check_of access s) refl h
  where
    by : (r : Answer Read Fault) → check_of access s ≡ r → is_done r ≡ true → reads_if (some s) ≡ true
    by (Ok read) e d = listed-source s read.count (told access s read.length read.count read.end e).listed
    by (Err fault) e d = let z : ◌≡◌ {A = ℕ} 0 1 = cc in absurd (omega arith)

pub types-good : (b : List ℕ) → types_ok (type_of b) ≡ true
unfolding types_ok
types-good b = rw (length-guid b 3)

-- the entries of the result take more than 1,024 bytes
pub record TooLong (r : Result) : Type 0 where
  pub entries : List (List ℕ)
  pub control : ℕ
  pub is : r ≡ holds entries control
  pub long : 1024 < size_for entries

module _ (bytes : List ℕ) where
  no_room : (es : List (List ℕ)) (k : ℕ) (b : Bool) → fits 1024 es ≡ b → taken (cond b (done (size_for es) 1 (length es) k) (refused 8 0 0)) bytes ≡ none
      → 1024 < size_for es
  no_room es k true f h = let z : ◌≡◌ {A = ℕ} 0 1 = cc in absurd (omega arith)
  no_room es k false f h =
      split (size_for es) 1024
      (λ m.
      let t : fits 1024 es ≡ true = rw (le-leb (size_for es) 1024 m) (le-leb (size_for es) 65532 (omega arith)) in
      absurd (off t f)) (λ m. m)

  refused-long : (r : Result) → taken (with_room 1024 r) bytes ≡ none → TooLong r
  unfolding with_room
  refused-long absent h = let z : ◌≡◌ {A = ℕ} 0 1 = cc in absurd (omega arith)
  refused-long (holds es k) h = record { entries = es; control = k; is = refl; long = no_room es k (fits 1024 es) refl h }

module _ (e : List ℕ) (p : MaybeList) (b : List ℕ) (h : rule_ok (rule_of e) ≡ true) (hp : reads p ≡ true) (hb : block_ok b ≡ true)
    (hd : reads (default_of e) ≡ true) where
  pub all-passed : Passed (asked_in e p b)
  all-passed =
      let s = block-sound b hb in
      record {
        rule = h;
        parent = reads-source p hp;
        creator = reads-source (own_list b) (slot-reads (own_slot b) s.slot);
        default = reads-source (default_of e) hd;
        owner = id-ordinary (part 19 69 b) s.owner;
        group = id-ordinary (part 88 69 b) s.group;
        kinds = types-good b;
      }

  pub computed-refused : computed e p b ≡ none → TooLong (result_of access (asked_in e p b))
  unfolding computed
  computed-refused q =
      let w = passed-room (asked_in e p b) 1024 all-passed in
      refused-long (bytes_for (result_of access (asked_in e p b))) (result_of access (asked_in e p b)) (ap (λ (a : Values). taken a (bytes_for (result_of access (asked_in e p b)))) (sym w) ∙ q)
