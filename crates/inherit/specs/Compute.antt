-- What the computation answers for any arguments (RULES 4.4), and what the result's buffer holds afterwards (RULES 2.13, 2.14).
use Rattle.std.specs.Prelude.{ℕ, ◌+◌, ◌≡◌, Bool, true, false, not, cond, ◌&&◌, ◌||◌, length, eqb, leb, Option, Some, None, Result as Answer, Ok, Err}
use mathlib.Core.List.{List, [], ◌∷◌, flatten}
use Rattle.std.proofs.Math.Option.{none, some}
use Rattle.octets.specs.Bytes.{front}
use Rattle.octets.specs.Order.{need}
use Rattle.list.specs.Identity.{identity_of}
use Rattle.list.specs.Entry.{access, object_kind, kind_of}
use Rattle.list.specs.List.{render, check_of, MaybeList}
use Rattle.list.specs.Answer.{Values, done, refused}
use Rattle.list.specs.declared.readings.Read.{Read}
use Rattle.refusal.specs.Numbers.{number_of}
use Rattle.refusal.specs.declared.Fault.{Fault}
use Rattle.inherit.specs.declared.Settings.{Settings}
use Rattle.inherit.specs.declared.Mapping.{Mapping}
use Rattle.inherit.specs.declared.Computed.{Computed}
use Rattle.inherit.specs.Asked.{Asked, types_ok}
use Rattle.inherit.specs.Branch.{Result, absent, holds, result_of}

-- an object entry is among them
unfoldable pub any_object : List (List ℕ) → Bool
any_object [] = false
any_object (e ∷ es) = object_kind (kind_of e) || any_object es

-- revision 4 if the list holds an object entry, else 2
abbrev pub rev_for : List (List ℕ) → ℕ
rev_for es = cond (any_object es) 4 2

-- how long the list of these entries is
abbrev pub size_for : List (List ℕ) → ℕ
size_for es = 8 + length (flatten es)

-- room for the list: the lent length, and 65,532 bytes
abbrev pub fits : ℕ → List (List ℕ) → Bool
fits room es = leb (size_for es) room && leb (size_for es) 65532

-- an absent result needs no room
unfoldable pub with_room : ℕ → Result → Values
with_room room absent = done 0 0 0 0
with_room room (holds es control) = cond (fits room es) (done (size_for es) 1 (length es) control) (refused 8 0 0)

-- a list that is present reads as done, or its refusal concerns list `which`
unfoldable pub on_reading : Answer Read Fault → ℕ → Values → Values
on_reading (Ok r) which rest = rest
on_reading (Err fault) which rest = refused (number_of fault.why) which fault.at

unfoldable pub readable : MaybeList → ℕ → Values → Values
readable none which rest = rest
readable (some s) which rest = on_reading (check_of access s) which rest

-- an owner or a group: exactly one SID, and no placeholder
abbrev pub ordinary : List ℕ → Bool
ordinary s = eqb (identity_of s) 0

unfoldable pub rule_ok : ℕ → Bool
rule_ok rule = eqb rule 1 || eqb rule 2

-- the answer: rule, parent, creator, default, owner, group, types, room
unfoldable pub compute_of : Asked → ℕ → Values
compute_of a room =
    need (rule_ok a.rule) (refused 12 0 0)
    (readable a.parent 1
    (readable a.creator 2
    (readable a.default 3
    (need (ordinary a.owner) (refused 6 0 0)
    (need (ordinary a.group) (refused 6 0 0)
    (need (types_ok a.types) (refused 7 0 0)
    (with_room room (result_of access a))))))))

-- the bytes of a result
unfoldable pub bytes_for : Result → List ℕ
bytes_for absent = []
bytes_for (holds es control) = render (rev_for es) es

-- the buffer afterwards: a list that is present on its front, the rest as it was
unfoldable pub written : Values → List ℕ → List ℕ → List ℕ
written v bytes out = cond (eqb v.present 1) (front bytes out) out

abbrev pub out_of : Asked → List ℕ → List ℕ
out_of a out = written (compute_of a (length out)) (bytes_for (result_of access a)) out

-- what the public call's arguments ask
abbrev pub asked_by : ℕ → Settings → Mapping → MaybeList → MaybeList → MaybeList → List ℕ → List ℕ → List ℕ → Asked
asked_by rule s mapping parent creator default types owner group =
    record {
      rule = rule;
      parent = parent;
      creator = creator;
      default = default;
      container = s.container;
      types = types;
      owner = owner;
      group = group;
      mapping = mapping;
      auto-inherit = s.auto;
      default-descriptor = s.defaulted;
      protected = s.protect;
    }

-- the number and values (RULES 4.2) for each case of the call's answer
abbrev pub computed_values : Answer (Option Computed) Fault → Values
computed_values (Ok (Some c)) = done c.length 1 c.count c.control
computed_values (Ok None) = done 0 0 0 0
computed_values (Err fault) = refused (number_of fault.why) fault.list fault.at

abbrev pub is_refusal : Answer (Option Computed) Fault → Bool
is_refusal (Ok c) = false
is_refusal (Err fault) = true

-- r is the answer with the values v: a refusal where its number isn't 0
pub record Tells (r : Answer (Option Computed) Fault) (v : Values) : Type 0 where
  pub values : computed_values r ≡ v
  pub refuses : is_refusal r ≡ not (eqb v.number 0)

-- the promise: the answer of what is asked, and what the buffer holds afterwards
pub record Answers (a : Asked) (out : List ℕ) (r : Answer (Option Computed) Fault) (after : List ℕ) : Type 0 where
  pub answer : Tells r (compute_of a (length out))
  pub buffer : after ≡ out_of a out
