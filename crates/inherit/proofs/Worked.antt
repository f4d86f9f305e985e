-- The lists worked by hand (RULES 5), K1 to K12: one table, one statement, by computation.
use mathlib.Core.Path.{◌≡◌, refl}
use mathlib.Core.Bool.{Bool, true, false}
use mathlib.Core.List.{List, [], ◌∷◌, ◌++◌, map, flatten}
use mathlib.Core.Option.{none, some}
use Prim.Native.Nat.{ℕ, ◌-◌}
use lib.ListN.{length, replicate}
use Rattle.octets.specs.Bytes.{le, spell, same_bytes, guid_at, among}
use Rattle.list.specs.Identity.{length_of_sid, is_sid, creator, placeholder_of, identity_of}
use Rattle.octets.specs.Order.{need}
use Rattle.list.specs.Entry.{plain_of, object_of, object_kind, kind_ok, flags_ok, head_of, word_after, entry_bytes, conditional_of, conditional_kind, expression_ok, tail_long, size_ok, entry_of}
use Rattle.list.specs.List.{rev_ok, header_ok, cut, entries_of, head_bytes, render, on_good, walk_of, finish, check_of, MaybeList, lent}
use Rattle.list.specs.Answer.{Values, done, refused}
use Rattle.list.proofs.Examples.{expression-open}
use Rattle.inherit.specs.declared.Mapping.{Mapping}
use Rattle.std.proofs.Common.{Some, None, Ok, Err}
use Rattle.refusal.specs.Numbers.{number_of}
use Rattle.refusal.specs.declared.Refusal.{Refusal}
use Rattle.inherit.specs.Asked.{Asked, entries_if, types_ok, types_of}
use Rattle.inherit.specs.Copies.{any_heritable, type_applies, pass, kept_flags, takes_first, first_part, takes_second, second_part, from_parent, own_entries, from_creator}
use Rattle.inherit.specs.Last.{in_place, mapped, mends, mended, last_mask, resolved, last_of, last_step}
use Rattle.inherit.specs.Branch.{holds, inherited_bit, with_creator, from_default, branch, result_of}
use Rattle.inherit.specs.Compute.{any_object, with_room, on_reading, readable, rule_ok, compute_of, bytes_for, written, out_of, asked_by, computed_values, is_refusal}

-- S-1-5-18
abbrev pub system : List ℕ
system = 0x01 ∷ 0x01 ∷ 0 ∷ 0 ∷ 0 ∷ 0 ∷ 0 ∷ 0x05 ∷ 0x12 ∷ 0 ∷ 0 ∷ 0 ∷ []

abbrev pub mapping : Mapping
mapping = record { read = 0x00120089; write = 0x00120116; execute = 0x001200A0; all = 0x001F01FF }

-- one entry for creator owner, with the generic read bit
abbrev pub parent_with : ℕ → List ℕ
parent_with flags = 0x02 ∷ 0 ∷ 0x1C ∷ 0 ∷ 0x01 ∷ 0 ∷ 0 ∷ 0 ∷ 0x00 ∷ flags ∷ 0x14 ∷ 0 ∷ 0 ∷ 0 ∷ 0 ∷ 0x80 ∷ creator 0

-- what it becomes: mask 80120089 under rule 1, which leaves the generic bit, 00120089 under rule 2
abbrev became : ℕ → ℕ → List ℕ
became top flags = 0x00 ∷ flags ∷ 0x14 ∷ 0 ∷ 0x89 ∷ 0 ∷ 0x12 ∷ top ∷ system

abbrev pub inherited : ℕ → List ℕ
inherited flags = became 0x00 flags

-- allow, flags 0, mask 1, S-1-5-18
abbrev plain : List ℕ
plain = 0x00 ∷ 0x00 ∷ 0x14 ∷ 0 ∷ 0x01 ∷ 0 ∷ 0 ∷ 0 ∷ system

abbrev pub listed : ℕ → ℕ → List (List ℕ) → List ℕ
listed size count es = 0x02 ∷ 0 ∷ size ∷ 0 ∷ count ∷ 0 ∷ 0 ∷ 0 ∷ flatten es

-- a row: what differs in what is asked, the room, and what is wanted, the answer and the result's bytes
pub record Row : Type 0 where
  pub rule : ℕ
  pub parent : List ℕ
  pub creator : MaybeList
  pub container : Bool
  pub auto : Bool
  pub protected : Bool
  pub owner : List ℕ
  pub room : ℕ
  pub answer : Values
  pub bytes : List ℕ

-- group S-1-5-18, no default list, default descriptor no; no object types
pub asked_in : Row → Asked
asked_in k =
    record {
      rule = k.rule;
      parent = some k.parent;
      creator = k.creator;
      default = none;
      container = k.container;
      types = [];
      owner = k.owner;
      group = system;
      mapping = mapping;
      auto-inherit = k.auto;
      default-descriptor = false;
      protected = k.protected;
    }

-- K1's list, and the list of one plain entry
abbrev K1_list : ℕ → List ℕ
K1_list top = listed 0x30 2 (became top 0x10 ∷ became top 0x1B ∷ [])

abbrev pub plain_list : List ℕ
plain_list = listed 0x1C 1 (plain ∷ [])

-- those for either rule, auto inherit or not, with no creator: a parent's flags, container, protected, owner, room; and what is wanted
without : ℕ → Bool → ℕ → Bool → Bool → List ℕ → ℕ → Values → List ℕ → Row
without rule auto flags container protected owner room answer bytes =
    record { rule = rule; parent = parent_with flags; creator = none; container = container; auto = auto; protected = protected; owner = owner; room = room; answer = answer; bytes = bytes }

either : ℕ → ℕ → Bool → List Row
either rule top auto =
    -- K1 container; K2 not a container
    without rule auto 0x03 true false system 48 (done 48 1 2 0) (K1_list top)
    ∷ without rule auto 0x03 false false system 28 (done 28 1 1 0) (listed 0x1C 1 (became top 0x10 ∷ []))
    -- K3 parent flags 07; K4 parent flags 01; K5 parent flags 0B
    ∷ without rule auto 0x07 true false system 28 (done 28 1 1 0) (listed 0x1C 1 (became top 0x10 ∷ []))
    ∷ without rule auto 0x01 true false system 28 (done 28 1 1 0) (listed 0x1C 1 (became top 0x19 ∷ []))
    ∷ without rule auto 0x0B true false system 48 (done 48 1 2 0) (K1_list top)
    -- K6 parent without inheritable entries
    ∷ without rule auto 0x00 true false system 48 (done 0 0 0 0) []
    -- K10 protected
    ∷ without rule auto 0x03 true true system 48 (done 48 1 2 0) (K1_list top)
    -- K11 owner S-1-3-0; K12 K1 with room 47
    ∷ without rule auto 0x03 true false (creator 0) 48 (refused 6 0 0) []
    ∷ without rule auto 0x03 true false system 47 (refused 8 0 0) []
    ∷ []

-- K1's parent, a container, and a creator of one plain entry: rule, auto inherit, protected, room; and what is wanted
with-plain : ℕ → Bool → Bool → ℕ → Values → List ℕ → Row
with-plain rule auto protected room answer bytes =
    record { rule = rule; parent = parent_with 0x03; creator = some plain_list; container = true; auto = auto; protected = protected; owner = system; room = room; answer = answer; bytes = bytes }

pub table : List Row
table =
    -- K7 rule 1, protected: nothing; K8 under rule 2: that entry alone; both with auto inherit or without
    with-plain 1 true true 8 (done 8 1 0 0) (listed 0x08 0 [])
    ∷ with-plain 1 false true 8 (done 8 1 0 0) (listed 0x08 0 [])
    ∷ with-plain 2 true true 28 (done 28 1 1 0) plain_list
    ∷ with-plain 2 false true 28 (done 28 1 1 0) plain_list
    -- K9 not protected, auto inherit: that entry, then K1's two
    ∷ with-plain 2 true false 68 (done 68 1 3 0x0400) (listed 0x44 3 (plain ∷ inherited 0x10 ∷ inherited 0x1B ∷ []))
    -- and those for either rule, with the mask's highest byte that the rule leaves
    ∷ (either 1 0x80 true ++ (either 1 0x80 false ++ (either 2 0x00 true ++ either 2 0x00 false)))

-- the answer, and a buffer of as many zeros as there is room
pub record Outcome : Type 0 where
  pub answer : Values
  pub out : List ℕ

pub computed : Row → Outcome
computed k = record { answer = compute_of (asked_in k) k.room; out = out_of (asked_in k) (replicate k.room 0) }

pub wanted : Row → Outcome
wanted k = record { answer = k.answer; out = k.bytes ++ replicate (k.room - length k.bytes) 0 }

-- what the computation opens
compute-open : Unit {0}
unfolding flatten compute_of readable on_reading rule_ok with_room any_object bytes_for written result_of branch
    with_creator from_default inherited_bit last_step last_of resolved entry_bytes last_mask mends mended mapped in_place from_creator own_entries from_parent second_part takes_second
    first_part takes_first kept_flags pass type_applies among any_heritable entries_if types_ok types_of check_of finish walk_of on_good head_bytes render entries_of cut
    header_ok rev_ok entry_of need size_ok tail_long expression_ok conditional_kind conditional_of word_after head_of flags_ok kind_ok object_kind object_of plain_of identity_of placeholder_of is_sid length_of_sid guid_at
    same_bytes spell le
compute-open = tt

pub worked : map computed table ≡ map wanted table
unfolding table either without with-plain asked_in computed wanted compute-open
worked = refl

-- masks as they came, one for each generic bit, all of them with a bit more, and none
abbrev came : List ℕ
came = 0x80000000 ∷ 0x40000000 ∷ 0x20000000 ∷ 0x10000000 ∷ 0xF0000001 ∷ 0x00000001 ∷ []

-- a mapping that brings generic bits in
abbrev bringing : Mapping
bringing = record { read = 0x50000001; write = 0x20000002; execute = 0xF0000004; all = 0x80000008 }

-- 2.9: rule 1 joins three mappings, and the generic bits stay; rule 2 joins four and clears them, those too that a mapping brings in, which join nothing
pub masks-worked :
    (map (last_mask 1 mapping) came ≡ 0x80120089 ∷ 0x40120116 ∷ 0x201200A0 ∷ 0x10000000 ∷ 0xF01201BF ∷ 0x00000001 ∷ [])
    × ((map (last_mask 2 mapping) came ≡ 0x00120089 ∷ 0x00120116 ∷ 0x001200A0 ∷ 0x001F01FF ∷ 0x001F01FF ∷ 0x00000001 ∷ [])
    × ((map (last_mask 1 bringing) came ≡ 0xD0000001 ∷ 0x60000002 ∷ 0xF0000004 ∷ 0x10000000 ∷ 0xF0000007 ∷ 0x00000001 ∷ [])
    × (map (last_mask 2 bringing) came ≡ 0x00000001 ∷ 0x00000002 ∷ 0x00000004 ∷ 0x00000008 ∷ 0x0000000F ∷ 0x00000001 ∷ [])))
unfolding last_mask mends mended mapped
masks-worked = (refl, (refl, (refl, refl)))

-- ---- what K1 to K12 leave open, worked by hand from RULES 2 and 4.4

-- the owner S-1-5-32-544, of 16 bytes, and the group S-1-5-11
abbrev admins : List ℕ
admins = 0x01 ∷ 0x02 ∷ 0 ∷ 0 ∷ 0 ∷ 0 ∷ 0 ∷ 0x05 ∷ 0x20 ∷ 0 ∷ 0 ∷ 0 ∷ 0x20 ∷ 0x02 ∷ 0 ∷ 0 ∷ []

abbrev users : List ℕ
users = 0x01 ∷ 0x01 ∷ 0 ∷ 0 ∷ 0 ∷ 0 ∷ 0 ∷ 0x05 ∷ 0x0B ∷ 0 ∷ 0 ∷ 0 ∷ []

-- an entry of 20 bytes, mask 1; creator owner is 0, creator group 1
abbrev entry20 : ℕ → ℕ → List ℕ → List ℕ
entry20 kind flags sid = kind ∷ flags ∷ 0x14 ∷ 0 ∷ 0x01 ∷ 0 ∷ 0 ∷ 0 ∷ sid

-- an allow entry for S-1-5-11 with a mask in its bytes: 10000000, and what rule 2 makes of it, 001F01FF
abbrev for_users : List ℕ → ℕ → List ℕ
for_users mask flags = 0x00 ∷ flags ∷ 0x14 ∷ 0 ∷ (mask ++ users)

abbrev full : ℕ → List ℕ
full flags = for_users (0 ∷ 0 ∷ 0 ∷ 0x10 ∷ []) flags

abbrev opened : ℕ → List ℕ
opened flags = for_users (0xFF ∷ 0x01 ∷ 0x1F ∷ 0 ∷ []) flags

abbrev creators : ℕ → List ℕ
creators k = 0x01 ∷ 0x01 ∷ 0 ∷ 0 ∷ 0 ∷ 0 ∷ 0 ∷ 0x03 ∷ k ∷ 0 ∷ 0 ∷ 0 ∷ []

-- an object entry of 40 bytes for S-1-5-11, with an ObjectType of sixteen bytes x; one of 24 with none
abbrev typed : ℕ → ℕ → List ℕ
typed flags x = 0x05 ∷ flags ∷ 0x28 ∷ 0 ∷ 0x01 ∷ 0 ∷ 0 ∷ 0 ∷ 0x01 ∷ 0 ∷ 0 ∷ 0 ∷ (replicate 16 x ++ users)

abbrev untyped : ℕ → List ℕ
untyped flags = 0x06 ∷ flags ∷ 0x18 ∷ 0 ∷ 0x01 ∷ 0 ∷ 0 ∷ 0 ∷ 0 ∷ 0 ∷ 0 ∷ 0 ∷ users

abbrev listed4 : ℕ → ℕ → List (List ℕ) → List ℕ
listed4 size count es = 0x04 ∷ 0 ∷ size ∷ 0 ∷ count ∷ 0 ∷ 0 ∷ 0 ∷ flatten es

abbrev ask : ℕ → MaybeList → MaybeList → MaybeList → Bool → List ℕ → Bool → Asked
ask rule parent creator default container types defaulted =
    record {
      rule = rule;
      parent = parent;
      creator = creator;
      default = default;
      container = container;
      types = types;
      owner = admins;
      group = users;
      mapping = mapping;
      auto-inherit = true;
      default-descriptor = defaulted;
      protected = false;
    }

-- the answer, and a buffer of sevens
abbrev gives : Asked → ℕ → Outcome
gives a room = record { answer = compute_of a room; out = out_of a (replicate room 7) }

-- a list of one entry for S-1-5-11; one whose only entry is cut short, at 8
abbrev one : ℕ → ℕ → MaybeList
one kind flags = some (listed 0x1C 1 (entry20 kind flags users ∷ []))

abbrev short : MaybeList
short = some (0x02 ∷ 0 ∷ 0x0C ∷ 0 ∷ 0x01 ∷ 0 ∷ 0 ∷ 0 ∷ 0x00 ∷ 0x00 ∷ 0x05 ∷ 0 ∷ [])

abbrev seven_nine : List ℕ
seven_nine = replicate 16 9 ++ replicate 16 7

abbrev asked_of : List ℕ → List ℕ → List ℕ → MaybeList → MaybeList → MaybeList → ℕ → Asked
asked_of owner group types parent creator default rule =
    record {
      rule = rule;
      parent = parent;
      creator = creator;
      default = default;
      container = false;
      types = types;
      owner = owner;
      group = group;
      mapping = mapping;
      auto-inherit = true;
      default-descriptor = false;
      protected = false;
    }

pub record More : Type 0 where
  -- 2.8: creator owner becomes the owner, and the size follows; creator group becomes the group
  pub placeholders :
      gives (ask 2 (some (listed 0x30 2 (entry20 0 0x01 (creators 0) ∷ entry20 0 0x01 (creators 1) ∷ []))) none none false [] false) 54
      ≡ record { answer = done 52 1 2 0; out = listed 0x34 2 ((0x00 ∷ 0x10 ∷ 0x18 ∷ 0 ∷ 0x01 ∷ 0 ∷ 0 ∷ 0 ∷ admins) ∷ entry20 0 0x10 users ∷ []) ++ (7 ∷ 7 ∷ []) }
  -- 2.3, 2.4: a deny entry, with its own SID
  pub denied :
      gives (ask 2 (one 1 0x02) none none true [] false) 48
      ≡ record { answer = done 48 1 2 0; out = listed 0x30 2 (entry20 1 0x10 users ∷ entry20 1 0x1A users ∷ []) }
  -- 2.3: an ObjectType among the object types; not among them; none; and 2.4, which doesn't ask
  pub type-applies :
      gives (ask 2 (some (listed4 0x30 1 (typed 0x01 7 ∷ []))) none none false seven_nine false) 48
      ≡ record { answer = done 48 1 1 0; out = listed4 0x30 1 (typed 0x10 7 ∷ []) }
  pub type-other : gives (ask 2 (some (listed4 0x30 1 (typed 0x01 8 ∷ []))) none none false seven_nine false) 8 ≡ record { answer = done 8 1 0 0; out = listed 0x08 0 [] }
  pub type-none :
      gives (ask 2 (some (listed4 0x20 1 (untyped 0x01 ∷ []))) none none false seven_nine false) 8 ≡ record { answer = done 8 1 0 0; out = listed 0x08 0 [] }
  pub type-below :
      gives (ask 2 (some (listed4 0x30 1 (typed 0x02 8 ∷ []))) none none true seven_nine false) 48
      ≡ record { answer = done 48 1 1 0; out = listed4 0x30 1 (typed 0x1A 8 ∷ []) }
  pub four-types :
      types_of (replicate 16 1 ++ (replicate 16 2 ++ (replicate 16 3 ++ replicate 16 4)))
      ≡ replicate 16 1 ∷ replicate 16 2 ∷ replicate 16 3 ∷ replicate 16 4 ∷ []
  pub one_type : types_of (replicate 16 1) ≡ replicate 16 1 ∷ []
  -- 2.10, first row with a creator: default descriptor
  pub defaulted :
      gives (ask 2 (one 0 0x03) (one 1 0x00) none true [] true) 48
      ≡ record { answer = done 48 1 2 0; out = listed 0x30 2 (entry20 0 0x10 users ∷ entry20 0 0x1B users ∷ []) }
  -- second row: of the creator nothing is left; third row: own entries, not those with ID, then P
  pub rule-1 :
      gives (ask 1 (one 0 0x03) (one 1 0x03) none true [] false) 48
      ≡ record { answer = done 48 1 2 0x0400; out = listed 0x30 2 (entry20 0 0x10 users ∷ entry20 0 0x1B users ∷ []) }
  pub rule-2 :
      gives (ask 2 (one 0 0x01) (some (listed 0x30 2 (entry20 0 0x10 users ∷ entry20 1 0x0B users ∷ []))) none false [] false) 48
      ≡ record { answer = done 48 1 2 0x0400; out = listed 0x30 2 (entry20 1 0x0B users ∷ entry20 0 0x10 users ∷ []) }
  -- fourth row: the default list, all of it; fifth row: own entries
  pub default-list :
      gives (ask 2 none none (some (listed 0x30 2 (entry20 0 0x1B users ∷ entry20 1 0x00 (creators 1) ∷ []))) true [] false) 48
      ≡ record { answer = done 48 1 2 0; out = listed 0x30 2 (entry20 0 0x1B users ∷ entry20 1 0x00 users ∷ []) }
  pub own-only :
      gives (ask 1 (one 0 0x08) (some (listed 0x30 2 (entry20 0 0x10 users ∷ entry20 1 0x0B users ∷ []))) (one 0 0x00) false [] false) 30
      ≡ record { answer = done 28 1 1 0; out = listed 0x1C 1 (entry20 1 0x0B users ∷ []) ++ (7 ∷ 7 ∷ []) }
  -- 2.9, full control in each row of the table under rule 2, IO entries too: from the parent; own entries, then P; the default list; own entries
  pub full-parent :
      gives (ask 2 (some (listed 0x1C 1 (full 0x03 ∷ []))) none none true [] false) 48
      ≡ record { answer = done 48 1 2 0; out = listed 0x30 2 (opened 0x10 ∷ opened 0x1B ∷ []) }
  pub full-both :
      gives (ask 2 (some (listed 0x1C 1 (full 0x01 ∷ []))) (some (listed 0x1C 1 (full 0x0B ∷ []))) none false [] false) 48
      ≡ record { answer = done 48 1 2 0x0400; out = listed 0x30 2 (opened 0x0B ∷ opened 0x10 ∷ []) }
  pub full-default :
      gives (ask 2 none none (some (listed 0x30 2 (full 0x00 ∷ full 0x1B ∷ []))) true [] false) 48
      ≡ record { answer = done 48 1 2 0; out = listed 0x30 2 (opened 0x00 ∷ opened 0x1B ∷ []) }
  pub full-own : gives (ask 2 none (some (listed 0x1C 1 (full 0x08 ∷ []))) none true [] false) 28 ≡ record { answer = done 28 1 1 0; out = listed 0x1C 1 (opened 0x08 ∷ []) }
  -- under rule 1 it stays as it came
  pub full-rule-1 :
      gives (ask 1 (some (listed 0x1C 1 (full 0x03 ∷ []))) none none true [] false) 48
      ≡ record { answer = done 48 1 2 0; out = listed 0x30 2 (full 0x10 ∷ full 0x1B ∷ []) }
  -- 4.4: 12, then 1 to 5 or 15 of the parent's list, the creator's, the default list, then 6 for owner and group, then 7, then 8; the buffer as it was
  pub refusals :
      map (λ (a : Asked). compute_of a 0)
      (asked_of [] [] (0 ∷ []) short short short 0
      ∷ asked_of [] [] (0 ∷ []) short short short 3
      ∷ asked_of [] [] (0 ∷ []) short short short 1
      ∷ asked_of [] [] (0 ∷ []) none short short 1
      ∷ asked_of [] [] (0 ∷ []) (one 0 1) none short 1
      ∷ asked_of (creators 1) users (0 ∷ []) (one 0 1) none none 1
      ∷ asked_of admins (creators 0) (0 ∷ []) (one 0 1) none none 1
      ∷ asked_of admins [] (0 ∷ []) (one 0 1) none none 1
      ∷ asked_of admins users (0 ∷ []) (one 0 1) none none 1
      ∷ asked_of admins users (replicate 80 0) (one 0 1) none none 1
      ∷ asked_of admins users (replicate 64 0) (one 0 1) none none 1
      ∷ asked_of admins users [] (one 0 1) none none 1
      ∷ [])
      ≡ refused 12 0 0 ∷ refused 12 0 0 ∷ refused 2 1 8 ∷ refused 2 2 8 ∷ refused 2 3 8 ∷ refused 6 0 0 ∷ refused 6 0 0 ∷ refused 6 0 0 ∷ refused 7 0 0 ∷ refused 7 0 0
      ∷ refused 8 0 0 ∷ refused 8 0 0 ∷ []
  pub as_it_was : gives (ask 3 none none none true [] false) 2 ≡ record { answer = refused 12 0 0; out = 7 ∷ 7 ∷ [] }

pub more : More
unfolding compute-open
more =
    record {
      placeholders = refl;
      denied = refl;
      type-applies = refl;
      type-other = refl;
      type-none = refl;
      type-below = refl;
      four-types = refl;
      one_type = refl;
      defaulted = refl;
      rule-1 = refl;
      rule-2 = refl;
      default-list = refl;
      own-only = refl;
      full-parent = refl;
      full-both = refl;
      full-default = refl;
      full-own = refl;
      full-rule-1 = refl;
      refusals = refl;
      as_it_was = refl;
    }

-- ---- conditional entries (RULES 1.5, 2.8, 2.13): as allow and deny entries, with their expressions as they are

-- Exists a, of 12 bytes; not that, of 13, with three zeros; the lone name a, with a zero
abbrev known : List ℕ
known = 0x61 ∷ 0x72 ∷ 0x74 ∷ 0x78 ∷ 0xF8 ∷ 2 ∷ 0 ∷ 0 ∷ 0 ∷ 0x61 ∷ 0 ∷ 0x87 ∷ []

abbrev lacking : List ℕ
lacking = 0x61 ∷ 0x72 ∷ 0x74 ∷ 0x78 ∷ 0xF8 ∷ 2 ∷ 0 ∷ 0 ∷ 0 ∷ 0x61 ∷ 0 ∷ 0x87 ∷ 0xA2 ∷ 0 ∷ 0 ∷ 0 ∷ []

abbrev lone : List ℕ
lone = 0x61 ∷ 0x72 ∷ 0x74 ∷ 0x78 ∷ 0xF8 ∷ 2 ∷ 0 ∷ 0 ∷ 0 ∷ 0x61 ∷ 0 ∷ 0 ∷ []

-- an entry with the generic read bit; with what rules 2 and 1 make of it, 00120089 and 80120089; with mask 1
abbrev reading : ℕ → ℕ → ℕ → List ℕ → List ℕ → List ℕ
reading kind flags size sid tail = kind ∷ flags ∷ size ∷ 0 ∷ 0 ∷ 0 ∷ 0 ∷ 0x80 ∷ (sid ++ tail)

abbrev mapped_to : ℕ → ℕ → ℕ → ℕ → List ℕ → List ℕ → List ℕ
mapped_to top kind flags size sid tail = kind ∷ flags ∷ size ∷ 0 ∷ 0x89 ∷ 0 ∷ 0x12 ∷ top ∷ (sid ++ tail)

abbrev one_bit : ℕ → ℕ → ℕ → List ℕ → List ℕ → List ℕ
one_bit kind flags size sid tail = kind ∷ flags ∷ size ∷ 0 ∷ 0x01 ∷ 0 ∷ 0 ∷ 0 ∷ (sid ++ tail)

-- rule, parent, creator, container, owner, room; auto inherit, not protected; and what is wanted
conditions : ℕ → List ℕ → MaybeList → Bool → List ℕ → ℕ → Values → List ℕ → Row
conditions rule parent creator container owner room answer bytes =
    record { rule = rule; parent = parent; creator = creator; container = container; auto = true; protected = false; owner = owner; room = room; answer = answer; bytes = bytes }

pub conditional-table : List Row
conditional-table =
    -- K1 with 09 and an expression, under either rule: two copies, each with the expression
    conditions 2 (listed 0x28 1 (reading 0x09 0x03 0x20 (creators 0) known ∷ [])) none true system 72 (done 72 1 2 0)
    (listed 0x48 2 (mapped_to 0x00 0x09 0x10 0x20 system known ∷ mapped_to 0x00 0x09 0x1B 0x20 system known ∷ []))
    ∷ conditions 1 (listed 0x28 1 (reading 0x09 0x03 0x20 (creators 0) known ∷ [])) none true system 72 (done 72 1 2 0)
    (listed 0x48 2 (mapped_to 0x80 0x09 0x10 0x20 system known ∷ mapped_to 0x80 0x09 0x1B 0x20 system known ∷ []))
    -- an owner of two numbers: each entry has four bytes more; one byte of room too few
    ∷ conditions 2 (listed 0x28 1 (reading 0x09 0x03 0x20 (creators 0) known ∷ [])) none true admins 80 (done 80 1 2 0)
    (listed 0x50 2 (mapped_to 0x00 0x09 0x10 0x24 admins known ∷ mapped_to 0x00 0x09 0x1B 0x24 admins known ∷ []))
    ∷ conditions 2 (listed 0x28 1 (reading 0x09 0x03 0x20 (creators 0) known ∷ [])) none true admins 79 (refused 8 0 0) []
    -- K2 with 0A: one copy, for either owner; the expression's zeros stay too; K3 and K4; K6
    ∷ conditions 2 (listed 0x28 1 (reading 0x0A 0x03 0x20 (creators 0) known ∷ [])) none false system 40 (done 40 1 1 0)
    (listed 0x28 1 (mapped_to 0x00 0x0A 0x10 0x20 system known ∷ []))
    ∷ conditions 2 (listed 0x2C 1 (reading 0x0A 0x01 0x24 (creators 0) lacking ∷ [])) none false admins 48 (done 48 1 1 0)
    (listed 0x30 1 (mapped_to 0x00 0x0A 0x10 0x28 admins lacking ∷ []))
    ∷ conditions 2 (listed 0x2C 1 (reading 0x0A 0x07 0x24 (creators 0) lacking ∷ [])) none true system 44 (done 44 1 1 0)
    (listed 0x2C 1 (mapped_to 0x00 0x0A 0x10 0x24 system lacking ∷ []))
    ∷ conditions 2 (listed 0x28 1 (reading 0x09 0x01 0x20 (creators 0) known ∷ [])) none true system 40 (done 40 1 1 0)
    (listed 0x28 1 (mapped_to 0x00 0x09 0x19 0x20 system known ∷ []))
    ∷ conditions 2 (listed 0x28 1 (reading 0x09 0x00 0x20 (creators 0) known ∷ [])) none true system 40 (done 0 0 0 0) []
    -- from a parent of revision 4: revision 2 with 09 alone, also where an object entry stays behind; revision 4 with an object entry beside it
    ∷ conditions 2 (listed4 0x28 1 (reading 0x09 0x01 0x20 (creators 0) known ∷ [])) none false system 40 (done 40 1 1 0)
    (listed 0x28 1 (mapped_to 0x00 0x09 0x10 0x20 system known ∷ []))
    ∷ conditions 2 (listed4 0x40 2 (untyped 0x01 ∷ reading 0x09 0x01 0x20 (creators 0) known ∷ [])) none false system 40 (done 40 1 1 0)
    (listed 0x28 1 (mapped_to 0x00 0x09 0x10 0x20 system known ∷ []))
    ∷ conditions 2 (listed4 0x40 2 (untyped 0x02 ∷ reading 0x09 0x02 0x20 (creators 0) known ∷ [])) none true system 96 (done 96 1 3 0)
    (listed4 0x60 3 (mapped_to 0x00 0x09 0x10 0x20 system known ∷ untyped 0x1A ∷ mapped_to 0x00 0x09 0x1A 0x20 system known ∷ []))
    -- rule 2, a creator: its 09 and 0A for creator group and for S-1-5-11, as they are, not one with ID; then the parent's; fifth row of 2.10, without those
    ∷ conditions 2 (listed 0x28 1 (reading 0x0A 0x01 0x20 (creators 0) known ∷ []))
    (some (listed 0x70 3 (one_bit 0x09 0x00 0x24 (creators 1) lacking ∷ one_bit 0x09 0x10 0x20 users known ∷ one_bit 0x0A 0x0B 0x24 users lacking ∷ [])))
    false admins 116 (done 116 1 3 0x0400)
    (listed 0x74 3 (one_bit 0x09 0x00 0x24 system lacking ∷ one_bit 0x0A 0x0B 0x24 users lacking ∷ mapped_to 0x00 0x0A 0x10 0x24 admins known ∷ []))
    ∷ conditions 1 (listed 0x08 0 []) (some (listed 0x48 2 (one_bit 0x09 0x10 0x20 users known ∷ one_bit 0x0A 0x0B 0x20 (creators 1) known ∷ []))) true admins 40 (done 40 1 1 0)
    (listed 0x28 1 (one_bit 0x0A 0x0B 0x20 system known ∷ []))
    -- rule 1: of the creator nothing is left
    ∷ conditions 1 (listed 0x28 1 (reading 0x09 0x01 0x20 (creators 0) known ∷ [])) (some (listed 0x28 1 (one_bit 0x09 0x03 0x20 users known ∷ []))) false system 40 (done 40 1 1 0x0400)
    (listed 0x28 1 (mapped_to 0x80 0x09 0x10 0x20 system known ∷ []))
    -- 15 of the parent's entry, of the creator's, whose second it is; both before 6 and 8; 2 of the parent's before 15 of the creator's
    ∷ conditions 2 (listed 0x28 1 (reading 0x09 0x03 0x20 (creators 0) lone ∷ [])) none true (creators 0) 0 (refused 15 1 8) []
    ∷ conditions 2 (listed 0x08 0 []) (some (listed 0x48 2 (one_bit 0x09 0x00 0x20 users known ∷ one_bit 0x0A 0x00 0x20 users lone ∷ []))) true (creators 0) 0 (refused 15 2 40) []
    ∷ conditions 2 (listed 0x29 1 (one_bit 0x09 0x03 0x21 users (known ++ (0 ∷ [])) ∷ [])) (some (listed 0x28 1 (one_bit 0x09 0x00 0x20 users lone ∷ []))) true system 80 (refused 2 1 8) []
    ∷ []

pub conditional-worked : map computed conditional-table ≡ map wanted conditional-table
unfolding conditional-table conditions asked_in computed wanted compute-open expression-open
conditional-worked = refl

-- the default list, all of it, with those that have ID; object types are asked of no conditional entry; 15 of the default list's entry
pub conditional-default :
    (gives (ask 2 none none (some (listed 0x48 2 (one_bit 0x09 0x1B 0x20 users known ∷ one_bit 0x0A 0x00 0x20 (creators 0) known ∷ []))) true [] false) 78
    ≡ record { answer = done 76 1 2 0; out = listed 0x4C 2 (one_bit 0x09 0x1B 0x20 users known ∷ one_bit 0x0A 0x00 0x24 admins known ∷ []) ++ (7 ∷ 7 ∷ []) })
    × ((gives (ask 2 (some (listed 0x28 1 (one_bit 0x09 0x01 0x20 users known ∷ []))) none none false seven_nine false) 40
    ≡ record { answer = done 40 1 1 0; out = listed 0x28 1 (one_bit 0x09 0x10 0x20 users known ∷ []) })
    × (gives (ask 2 none none (some (listed 0x28 1 (one_bit 0x09 0x1B 0x20 users lone ∷ []))) true [] false) 2 ≡ record { answer = refused 15 3 8; out = 7 ∷ 7 ∷ [] }))
unfolding compute-open expression-open
conditional-default = (refl, (refl, refl))

-- what the public call's arguments ask: each argument in its place, each setting alone
module _ (m : Mapping) (p c d t o g : List ℕ) where
  abbrev by : Bool → Bool → Bool → Bool → Bool → Bool → Bool → Asked
  by parent creator default container auto defaulted protect =
      asked_by 2 (record { container = container; auto = auto; defaulted = defaulted; protect = protect }) m (lent parent p) (lent creator c) (lent default d) t o g

  abbrev asks : MaybeList → MaybeList → MaybeList → Bool → Bool → Bool → Bool → Asked
  asks parent creator default container auto defaulted protect =
      record {
        rule = 2;
        parent = parent;
        creator = creator;
        default = default;
        container = container;
        types = t;
        owner = o;
        group = g;
        mapping = m;
        auto-inherit = auto;
        default-descriptor = defaulted;
        protected = protect;
      }

  pub arguments-worked :
      (by true false false true false false false ≡ asks (some p) none none true false false false)
      × ((by false true false false true false false ≡ asks none (some c) none false true false false)
      × ((by false false true false false true false ≡ asks none none (some d) false false true false)
      × (by false false false false false false true ≡ asks none none none false false false true)))
  arguments-worked = (refl, (refl, (refl, refl)))

-- the numbers and values of each case of an answer (RULES 4.2)
pub values-worked : (l n c w x : ℕ) (why : Refusal)
    → (computed_values (Ok (Some (record { length = l; count = n; control = c }))) ≡ record { number = 0; list = 0; offset = 0; length = l; present = 1; count = n; control = c; end = 0 })
    × ((computed_values (Ok None) ≡ record { number = 0; list = 0; offset = 0; length = 0; present = 0; count = 0; control = 0; end = 0 })
    × ((computed_values (Err (record { why = why; list = w; at = x })) ≡ record { number = number_of why; list = w; offset = x; length = 0; present = 0; count = 0; control = 0; end = 0 })
    × ((is_refusal (Ok (Some (record { length = l; count = n; control = c }))) ≡ false) × ((is_refusal (Ok None) ≡ false) × (is_refusal (Err (record { why = why; list = w; at = x })) ≡ true)))))
values-worked l n c w x why = (refl, (refl, (refl, (refl, (refl, refl)))))

-- the longest result: 65,532 bytes, whatever room is lent; and the least room for it
pub room-worked :
    (with_room 70000 (holds (replicate 65524 0 ∷ []) 0) ≡ done 65532 1 1 0)
    × ((with_room 70000 (holds (replicate 65525 0 ∷ []) 0) ≡ refused 8 0 0)
    × ((with_room 28 (holds (replicate 20 0 ∷ []) 0x0400) ≡ done 28 1 1 0x0400) × (with_room 27 (holds (replicate 20 0 ∷ []) 0x0400) ≡ refused 8 0 0)))
unfolding with_room flatten
room-worked = (refl, (refl, (refl, refl)))
