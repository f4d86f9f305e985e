-- Calls of two layers together: who may open an object with a computed list.
use mathlib.Core.Path.{◌≡◌, refl, sym, ap, subst, ◌∙◌}
use mathlib.Core.Bool.{Bool, true, false, not, cond, ◌||◌}
use mathlib.Core.List.{List, [], ◌∷◌, map}
use mathlib.Core.Logic.{inl, inr}
use mathlib.Core.Option.{none, some}
use Prim.Native.Nat.{ℕ, ◌^◌, ◌≤◌, ◌<◌}
use lib.ListN.{length, set, drop, replicate}
use Rattle.octets.specs.Bytes.{has, among, same_bytes, guid_at}
use Rattle.list.specs.Identity.{placeholder_of, whole_sid}
use Rattle.condition.specs.Table.{table_ok, well_made}
use Rattle.list.specs.Entry.{access, object_kind, kind_of, mask_of, word_of, sid_of}
use Rattle.list.specs.List.{MaybeList, entries_of}
use Rattle.list.specs.Good.{Every}
use Rattle.list.proofs.Revisions.{every-to}
use Rattle.octets.proofs.Bits.{has-common}
use Rattle.octets.proofs.Tests.{off}
use Rattle.inherit.specs.Asked.{Asked, given_in}
use Rattle.inherit.specs.Last.{in_place, resolved}
use Rattle.inherit.specs.Branch.{result_of}
use Rattle.inherit.specs.Compute.{compute_of, bytes_for}
use Rattle.inherit.specs.Said.{Stands, Copied, Kept, given_entries}
use Rattle.inherit.proofs.Masks.{mended-has}
use Rattle.inherit.proofs.Theorems.{computes}
use Rattle.inherit.proofs.Results.{Copy}
use Rattle.inherit.proofs.Mended.{copied_is}
use Rattle.inherit.proofs.Kept.{conditions-kept}
use Rattle.inherit.proofs.Worked.{mapping, system}
use Rattle.tree.proofs.Worked.{bytes_open, entries_open, lists_open, copies_open, last_open, compute-open}
use Rattle.access.specs.Held.{sids_in, held_of, reaches_end}
use Rattle.access.specs.Open.{Question, type_counts, condition_counts, applies, entry_counts, is_allow, granted, each_bit, opens_by, opens, on_read, read_first, may_open_of}
use Rattle.std.specs.Prelude.{Result, Ok}
use Rattle.refusal.specs.declared.Fault.{Fault}
use Rattle.access.proofs.Bitwise.{each_at, both_hold}
use Rattle.access.proofs.Conditions.{alike-counts}
use Rattle.access.proofs.Theorems.{yes-exactly, allowed-opens}
use Rattle.access.proofs.Answers.{EveryEntry, without_them, ordinary-answer}

-- on a computed list no placeholder decides, under either rule: with the placeholders that are held taken out the answer is the same
pub computed-ordinary : (a : Asked) (room : ℕ) → (compute_of a room).present ≡ 1 → (q : Question) → q.list ≡ some (bytes_for (result_of access a))
    → (fine : reaches_end q.held ≡ true) (few : length (held_of q.held) ≤ 32) → may_open_of (without_them q fine few) ≡ may_open_of q
computed-ordinary a room h q e fine few =
    ordinary-answer q fine few (subst (EveryEntry (λ x. placeholder_of (sid_of x) ≡ 0)) (sym e) (computes a room h).ordinary-sids)

-- ---- full control

-- an entry of the lists that were given which grants everything to the object itself: its copy in the result has these flags and isn't IO; it is an allow,
-- has no ObjectType, and has 10000000
pub record GrantsAll (a : Asked) (e : List ℕ) (flags : ℕ) : Type 0 where
  pub copied : Copied a e flags
  pub here : has 0x08 flags ≡ false
  pub allows : is_allow (kind_of e) ≡ true
  pub untyped : has 1 (word_of e) ≡ false
  pub everything : has 0x10000000 (mask_of e) ≡ true

-- each of the 32 bits is generic or isn't
bit-or-generic : (k : ℕ) → k < 32 → (has (2 ^ k) 0x0FFFFFFF || has (2 ^ k) 0xF0000000) ≡ true
unfolding each_bit
bit-or-generic k l = each_at (λ bit. has bit 0x0FFFFFFF || has bit 0xF0000000) 32 k refl l

-- a bit of a mask without generic bits isn't one
specific-bit : (w k : ℕ) → has 0xF0000000 w ≡ false → k < 32 → has (2 ^ k) w ≡ true → has (2 ^ k) 0x0FFFFFFF ≡ true
specific-bit w k s l h = by (has (2 ^ k) 0x0FFFFFFF) (has (2 ^ k) 0xF0000000) refl refl (bit-or-generic k l)
  where
    by : (x y : Bool) → has (2 ^ k) 0x0FFFFFFF ≡ x → has (2 ^ k) 0xF0000000 ≡ y → (x || y) ≡ true → has (2 ^ k) 0x0FFFFFFF ≡ true
    by true y p q o = p
    by false true p q o = absurd (off (has-common k w 0xF0000000 h q) s)
    by false false p q o = absurd (off o refl)

-- an entry without an ObjectType counts for every type
untyped-counts : (type e : List ℕ) → has 1 (word_of e) ≡ false → type_counts type e ≡ true
unfolding type_counts
untyped-counts type e h = by (object_kind (kind_of e))
  where
    by : (b : Bool) → cond b (not (has 1 (word_of e)) || same_bytes (guid_at e 12) type) true ≡ true
    by true = rw h
    by false = refl

-- under rule 2 an allow entry without an ObjectType that granted 10000000 to a SID that is held, inherited, own or of the default list, and not IO, whose
-- condition, if it has one, is true, lets every bit of the "all" mapping through that isn't generic, where no entry before its copy in the computed list
-- denies a SID that is held
module _ (a : Asked) (room : ℕ) (r : a.rule ≡ 2) (h : (compute_of a room).present ≡ 1) (e : List ℕ) (flags : ℕ) (grants : GrantsAll a e flags) (q : Question)
    (asked : q.list ≡ some (bytes_for (result_of access a))) (fine : reaches_end q.held ≡ true) (few : length (held_of q.held) ≤ 32)
    (names : among (in_place (placeholder_of (sid_of e)) (sid_of e) a.owner a.group) (held_of q.held) ≡ true)
    (s : Stands (resolved (given_in a) (set e 1 flags)) (entries_of (bytes_for (result_of access a))))
    (denies : Every (λ x. among (sid_of x) (held_of q.held) ≡ true → is_allow (kind_of x) ≡ true) s.before)
    (made : table_ok q.table ≡ true) (said : condition_counts q.table e ≡ true) where
  abbrev sids : List (List ℕ)
  sids = held_of q.held

  abbrev copy : List ℕ
  copy = resolved (given_in a) (set e 1 flags)

  is : Copy (given_in a) e flags copy
  is = copied_is a room r h e flags grants.copied

  counts : entry_counts q.type q.table sids copy ≡ true
  unfolding entry_counts applies
  counts =
      both_hold (ap not (ap (has 0x08) is.flags-are ∙ grants.here))
      (both_hold (ap (λ (x : List ℕ). among x sids) is.sid ∙ names) (both_hold (untyped-counts q.type copy (ap (has 1) is.word ∙ grants.untyped)) (alike-counts q.table copy e is.kind is.tail ∙ said)))

  pub full-control : has 0xF0000000 q.wanted ≡ false → ((k : ℕ) → k < 32 → has (2 ^ k) q.wanted ≡ true → has (2 ^ k) a.mapping.all ≡ true)
      → may_open_of q ≡ Ok true
  unfolding opens
  full-control specific part =
      let bits : (k : ℕ) → k < 32 → has (2 ^ k) q.wanted ≡ true → has (2 ^ k) (mask_of copy) ≡ true =
      λ k l w. ap (has (2 ^ k)) is.mask ∙ mended-has a.mapping (mask_of e) k grants.everything (part k l w) (specific-bit q.wanted k specific l w) in
      let o : opens_by q.type q.table sids q.wanted (entries_of (bytes_for (result_of access a))) ≡ true =
      rw s.is (allowed-opens q.type q.table sids q.wanted s.before s.after copy denies counts (ap is_allow is.kind ∙ grants.allows) bits) in
      (yes-exactly q).1
      (record {
        specific = specific;
        reads = rw asked (record { len = _; count = _; end = _; done = (computes a room h).done });
        to_end = fine;
        few = few;
        made = made;
        opened = rw asked o;
      })

-- ---- inheriting a condition changes nothing of what it says

-- x counts by its condition just as one of these entries of its type does, under any table
pub record SaysAs (es : List (List ℕ)) (x : List ℕ) : Type 0 where
  pub entry : List ℕ
  pub stands : Stands entry es
  pub kind : kind_of x ≡ kind_of entry
  pub says : (table : List ℕ) → condition_counts table x ≡ condition_counts table entry

-- so does each entry of a computed list, as one that was given
pub conditions-same : (a : Asked) (room : ℕ) → (compute_of a room).present ≡ 1 → Every (SaysAs (given_entries a)) (entries_of (bytes_for (result_of access a)))
conditions-same a room h =
    every-to (Kept (given_entries a)) (SaysAs (given_entries a))
    (λ x k. record { entry = k.entry; stands = k.stands; kind = k.kind; says = λ table. alike-counts table x k.entry k.kind k.tail })
    (entries_of (bytes_for (result_of access a))) (conditions-kept a room h)

-- ---- the ticket's folder, computed: it grants S-1-5-18 10000000, for everything below too

abbrev folder : List ℕ
folder = 0x02 ∷ 0 ∷ 0x1C ∷ 0 ∷ 0x01 ∷ 0 ∷ 0 ∷ 0 ∷ 0x00 ∷ 0x03 ∷ 0x14 ∷ 0 ∷ 0 ∷ 0 ∷ 0 ∷ 0x10 ∷ system

-- an object with that list for its parent's, its own or the default list
abbrev below : ℕ → MaybeList → MaybeList → MaybeList → Asked
below rule parent creator default =
    record {
      rule = rule;
      parent = parent;
      creator = creator;
      default = default;
      container = false;
      types = replicate 16 0;
      owner = system;
      group = system;
      mapping = mapping;
      auto-inherit = true;
      default-descriptor = false;
      protected = false;
    }

-- a plan in the folder, the folder itself, and an object that has it by default
abbrev plan : ℕ → Asked
plan rule = below rule (some folder) none none

abbrev itself : ℕ → Asked
itself rule = below rule none (some folder) none

abbrev by_default : ℕ → Asked
by_default rule = below rule none none (some folder)

-- of each of them full control speaks
folder-grants : (a : Asked) (flags : ℕ) → Copied a (drop 8 folder) flags → has 0x08 flags ≡ false → GrantsAll a (drop 8 folder) flags
unfolding bytes_open entries_open is_allow
folder-grants a flags c h = record { copied = c; here = h; allows = refl; untyped = refl; everything = refl }

abbrev alone : Stands (drop 8 folder) (drop 8 folder ∷ [])
alone = record { before = []; after = []; is = refl }

pub plan-grants : GrantsAll (plan 2) (drop 8 folder) 0x10
unfolding bytes_open entries_open lists_open copies_open
plan-grants = folder-grants (plan 2) 0x10 (inl (record { stands = alone; takes = refl; taken = inl refl; flags-are = refl })) refl

pub itself-grants : GrantsAll (itself 2) (drop 8 folder) 0x03
unfolding bytes_open entries_open lists_open copies_open
itself-grants = folder-grants (itself 2) 0x03 (inr (inl (record { stands = alone; takes = refl; taken = inl refl; flags-are = refl }))) refl

pub default-grants : GrantsAll (by_default 2) (drop 8 folder) 0x03
unfolding bytes_open entries_open lists_open copies_open
default-grants = folder-grants (by_default 2) 0x03 (inr (inr (record { stands = alone; nothing = refl; alone = refl; flags-are = refl }))) refl

-- what the one who holds it may do: read, all of the "all" mapping, and what isn't in it
abbrev may : Asked → List (Result Bool Fault)
may a =
    map (λ wanted. may_open_of (record { list = some (bytes_for (result_of access a)); type = replicate 16 0; held = system; wanted = wanted; table = [] }))
    (0x00000001 ∷ 0x001F01FF ∷ 0x00200000 ∷ [])

-- under rule 2 the first two; under rule 1 nothing, as under rule 2 while the bit stood for nothing
pub full-worked : (map may (plan 2 ∷ itself 2 ∷ by_default 2 ∷ []) ≡ replicate 3 (Ok true ∷ Ok true ∷ Ok false ∷ []))
    × (map may (plan 1 ∷ itself 1 ∷ by_default 1 ∷ []) ≡ replicate 3 (Ok false ∷ Ok false ∷ Ok false ∷ []))
unfolding bytes_open entries_open lists_open copies_open last_open compute-open may_open_of read_first on_read opens opens_by each_bit granted entry_counts applies type_counts condition_counts is_allow held_of sids_in whole_sid well_made
full-worked = (refl, refl)
