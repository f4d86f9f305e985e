-- The eight 32-bit numbers in which a call answers, and arguments that are passed as numbers.
use Rattle.std.specs.Prelude.{Option, Some, None, Result, Ok, Err, ℕ, ◌^◌, ◌<◌, ◌≡◌, List, [], ◌∷◌, Bool, not, length, get_or, replicate, eqb}
use Rattle.list.specs.List.{MaybeList, lent}
use Rattle.octets.specs.Bytes.{has}
use Rattle.list.specs.Answer.{Values, done, refused}
use Rattle.condition.specs.declared.truths.Truth.{Truth}
use Rattle.condition.specs.declared.truths.Truth.TheVariants.{False, True, Unknown}
use Rattle.refusal.specs.Numbers.{number_of}
use Rattle.refusal.specs.declared.Refusal.{Refusal}
use Rattle.refusal.specs.declared.Fault.{Fault}
use Rattle.wording.specs.declared.Stored.{Stored}
use Rattle.wording.specs.declared.TextFault.{TextFault}
use Rattle.inherit.specs.Asked.{Asked}
use Rattle.inherit.specs.Compute.{asked_by, compute_of, out_of}
use Rattle.inherit.specs.declared.Settings.{Settings}
use Rattle.inherit.specs.declared.Mapping.{Mapping}
use Rattle.tree.specs.Calls.{New}
use Rattle.access.specs.declared.steps.Found.{Found}

-- the values of an answer in their places (RULES 8.1)
abbrev pub places_of : Values → List ℕ
places_of v = v.number ∷ v.list ∷ v.offset ∷ v.length ∷ v.present ∷ v.count ∷ v.control ∷ v.end ∷ []

-- what an expression says, as a number: 0 false, 1 true, 2 unknown
unfoldable pub truth_number : Truth → ℕ
truth_number False = 0
truth_number True = 1
truth_number Unknown = 2

-- the numbers and values (RULES 4.2, 8.1) of each case of the evaluator's answer: done, with that number in the place of the length
abbrev pub evaluated_values : Result Truth Refusal → Values
evaluated_values (Ok v) = done (truth_number v) 0 0 0
evaluated_values (Err why) = refused (number_of why) 0 0

-- and of each case of a translation's: done, with the stored form's length, and its tokens in the place of the count; a refusal's offset is in the text
abbrev pub translated_values : Result Stored TextFault → Values
translated_values (Ok t) = done t.size 1 t.tokens 0
translated_values (Err fault) = refused (number_of fault.why) 0 fault.at

-- the settings of a computation: 8 container, 16 auto inherit, 32 default descriptor, 64 protected
abbrev pub settings_of : ℕ → Settings
settings_of bits =
    record {
      container = has 8 bits;
      auto = has 16 bits;
      defaulted = has 32 bits;
      protect = has 64 bits;
    }

-- the lists that a computation is given: 1 parent present, 2 creator present, 4 default present
pub record LentLists : Type 0 where
  pub parent : MaybeList
  pub creator : MaybeList
  pub default : MaybeList

abbrev pub lists_of : ℕ → List ℕ → List ℕ → List ℕ → LentLists
lists_of bits parent creator default =
    record {
      parent = lent (has 1 bits) parent;
      creator = lent (has 2 bits) creator;
      default = lent (has 4 bits) default;
    }

-- a mapping's four masks: read, write, execute, all
abbrev pub mapping_from : List ℕ → Mapping
mapping_from m = record { read = get_or m 0 0; write = get_or m 1 0; execute = get_or m 2 0; all = get_or m 3 0 }

-- what a computation is asked, its settings and lists by the bits of a number
abbrev pub computing : ℕ → ℕ → List ℕ → List ℕ → List ℕ → List ℕ → List ℕ → List ℕ → List ℕ → Asked
computing rule bits mapping parent creator default types owner group =
    let lists = lists_of bits parent creator default in
    asked_by rule (settings_of bits) (mapping_from mapping) lists.parent lists.creator lists.default types owner group

-- the promise of a computation: the answer of what is asked in its places, and what the buffer holds afterwards
pub record Computes (a : Asked) (out places after : List ℕ) : Type 0 where
  pub answer : places ≡ places_of (compute_of a (length out))
  pub buffer : after ≡ out_of a out

-- a flag that is passed as a number: yes where it isn't 0
abbrev pub yes_of : ℕ → Bool
yes_of n = not (eqb n 0)

-- a new object's traits: 1 container, 2 protected mark, 4 an own list is given
abbrev pub new_of : ℕ → ℕ → List ℕ → List ℕ → List ℕ → List ℕ → New
new_of parent traits type owner group list =
    record {
      parent = parent;
      container = has 1 traits;
      mark = has 2 traits;
      type = type;
      owner = owner;
      group = group;
      list = lent (has 4 traits) list;
    }

-- the eight numbers of an entry in a walk: type, flags, size, mask, object word (0 where it has none), where its SID begins counted from the entry, the
-- SID's length, the place of what follows it; zeros where none is left or the list is refused
abbrev pub found_places : Option Found → List ℕ
found_places (Some f) =
    f.entry.kind ∷ f.entry.flags ∷ f.entry.size ∷ f.entry.mask ∷ f.entry.word ∷ f.entry.sid ∷ f.entry.sid_len ∷ f.next ∷ []
found_places None = replicate 8 0

abbrev pub entry_places : Result (Option Found) Fault → List ℕ
entry_places (Ok found) = found_places found
entry_places (Err fault) = replicate 8 0

-- what a walk tells fits 32 bits: private functions ask for it
abbrev pub Told32 : Option Found → Type 0
Told32 (Some f) = (f.at < 2 ^ 32) × (f.entry.size < 2 ^ 32) × (f.entry.sid < 2 ^ 32) × (f.entry.sid_len < 2 ^ 32) × (f.next < 2 ^ 32)
Told32 None = Unit
