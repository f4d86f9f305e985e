-- The bytes of an entry, its head first; and the parts of a good entry, as the code cuts them out of what it begins: by a look at it.
use mathlib.Core.Path.{◌≡◌, refl, sym, ap, ap₂, ◌∙◌}
use mathlib.Core.Bool.{true, false}
use Rattle.std.proofs.Common.{Option, Some, None}
use Rattle.std.specs.Option.{is_some}
use mathlib.Core.List.{List, [], ◌∷◌, ◌++◌, append_assoc}
use Prim.Native.Nat.{ℕ, ◌+◌, ◌-◌, ◌≤◌}
use native.Mathlib.Omega.{arith}
use lib.ListN.{length, take, drop, length-drop}
use lib.Seq.{take-add, drop-drop, length-take-le}
use Rattle.octets.specs.Bytes.{spell}
use Rattle.list.specs.Identity.{length_of_sid, placeholder_of, placeholder_in}
use Rattle.list.specs.declared.identities.Placeholder.{Placeholder}
use Rattle.list.proofs.Sids.{neither-in}
use Rattle.list.specs.Entry.{access, kind_of, size_of, sid_at, sid_len_of, sid_end, middle_of, sid_of, tail_of, EntryParts, entry_bytes}
use Rattle.list.specs.Good.{Bounds}
use Rattle.list.specs.Look.{look_of}
use Rattle.list.specs.declared.looks.Look.{Look}
use Rattle.list.proofs.Remade.{bounds}
use Rattle.inherit.specs.declared.entries.Entry.{Entry}
use Rattle.inherit.specs.declared.terms.Terms.{Terms}
use Rattle.inherit.specs.Last.{in_place}
use Rattle.inherit.specs.Inner.Emit.{put_in, copy_length, copy_parts}

-- an entry's first eight bytes
abbrev pub head_part : ℕ → ℕ → ℕ → ℕ → List ℕ
head_part kind flags size mask = (kind ∷ flags ∷ []) ++ (spell 2 size ++ spell 4 mask)

pub length-head : (kind flags size mask : ℕ) → length (head_part kind flags size mask) ≡ 8
unfolding spell
length-head kind flags size mask = refl

-- behind them stand its parts
pub head-then : (p : EntryParts) (n : ℕ) → n ≡ 8 + (length p.middle + (length p.sid + length p.tail))
    → head_part p.kind p.flags n p.mask ++ (p.middle ++ (p.sid ++ p.tail)) ≡ entry_bytes p
unfolding entry_bytes
head-then p n e =
    ap (λ (u : List ℕ). p.kind ∷ p.flags ∷ u)
    (append_assoc (spell 2 n) (spell 4 p.mask) (p.middle ++ (p.sid ++ p.tail))
    ∙ ap (λ (m : ℕ). spell 2 m ++ (spell 4 p.mask ++ (p.middle ++ (p.sid ++ p.tail)))) e)

part : (n m k j : ℕ) (t : List ℕ) → n ≡ m → k ≡ j → take n (drop k t) ≡ take m (drop j t)
part n m k j t p q = ap₂ (λ (x y : ℕ). take x (drop y t)) p q

-- two parts side by side
parts : (a b k j : ℕ) (t : List ℕ) → k + a ≡ j → take a (drop k t) ++ take b (drop j t) ≡ take (a + b) (drop k t)
parts a b k j t e = sym (take-add a b (drop k t) ∙ ap (λ (u : List ℕ). take a (drop k t) ++ take b u) (drop-drop a k t ∙ ap (λ (i : ℕ). drop i t) e))

-- an entry's parts with s for its SID, as they are cut out
abbrev pub cut_parts : List ℕ → Look → ℕ → ℕ → ℕ → List ℕ → EntryParts
cut_parts t look n flags mask s =
    record {
      kind = look.kind;
      flags = flags;
      mask = mask;
      middle = take (look.sid - 8) (drop 8 t);
      sid = s;
      tail = take (look.size - (look.sid + n)) (drop (look.sid + n) t);
    }

alike : {k j flags mask : ℕ} {a b c d x y : List ℕ} → k ≡ j → a ≡ b → c ≡ d → x ≡ y
    → ◌≡◌ {A = EntryParts} (record { kind = k; flags = flags; mask = mask; middle = a; sid = c; tail = x })
    (record { kind = j; flags = flags; mask = mask; middle = b; sid = d; tail = y })
alike p q r z = rw (p, q, r, z)

-- a copy that keeps the SID: as long as the entry, and but for its head the same bytes
pub record Kept (t : List ℕ) (look : Look) (owner group : List ℕ) : Type 0 where
  pub eight : 8 ≤ look.size
  pub inside : look.size ≤ length t
  pub rest : length (take (look.size - 8) (drop 8 t)) ≡ look.size - 8
  pub long : copy_length t owner group ≡ look.size
  pub bytes : (flags mask : ℕ)
      → head_part look.kind flags look.size mask ++ take (look.size - 8) (drop 8 t) ≡ entry_bytes (copy_parts flags mask t owner group)

-- a copy made of parts that are cut out, where the SID is n bytes long: what is put in the SID's place, how long the copy is, and its parts
pub record Cut (t : List ℕ) (look : Look) (n : ℕ) (owner group : List ℕ) : Type 0 where
  pub eight : 8 ≤ look.sid
  pub high : look.sid ≤ 44
  pub within : look.sid + n ≤ look.size
  pub inside : look.size ≤ length t
  pub sid : let s = take (look.sid + n - look.sid) (drop look.sid t) in in_place (placeholder_of s) s owner group ≡ put_in t owner group
  pub long : look.sid + length (put_in t owner group) + (look.size - (look.sid + n)) ≡ copy_length t owner group
  pub parts : (flags mask : ℕ) (s : List ℕ) → s ≡ put_in t owner group
      → cut_parts t look n flags mask s ≡ copy_parts flags mask t owner group

none_of : (w : Option Placeholder) → is_some w ≡ false → w ≡ None
none_of None h = refl
none_of (Some p) h = let z : true ≡ false = h in cc

module _ (t : List ℕ) (look : Look) (b : Bounds t) (q : look ≡ look_of t) where
  kinds : look.kind ≡ kind_of t
  kinds = ap (λ (x : Look). x.kind) q

  begins : look.sid ≡ sid_at t
  begins = ap (λ (x : Look). x.sid) q

  whole : look.size ≡ size_of t
  whole = ap (λ (x : Look). x.size) q

  -- where none of the placeholders lies there
  module _ (w : Option Placeholder) (p : w ≡ placeholder_in (placeholder_of (take (length_of_sid (drop look.sid t)) (drop look.sid t)))) (z : is_some w ≡ false)
      (owner group : List ℕ) where
    stays : put_in t owner group ≡ sid_of t
    unfolding in_place
    stays =
        ap (λ (k : ℕ). in_place k (sid_of t) owner group)
        (ap (λ (i : ℕ). placeholder_of (take (length_of_sid (drop i t)) (drop i t))) (sym begins) ∙ neither-in _ (sym p ∙ none_of w z))

    same_size : copy_length t owner group ≡ look.size
    same_size = omega (arith, ap length stays, b.middle, b.sid-length, b.tail-length, b.eight, b.sid, whole)

    same_rest : take (look.size - 8) (drop 8 t) ≡ middle_of t ++ (put_in t owner group ++ tail_of t)
    same_rest =
        sym
        (ap (λ (s : List ℕ). middle_of t ++ (s ++ tail_of t)) stays
        ∙ ap (λ (u : List ℕ). middle_of t ++ u) (parts (sid_len_of t) (size_of t - sid_end t) (sid_at t) (sid_end t) t refl)
        ∙ parts (sid_at t - 8) (sid_len_of t + (size_of t - sid_end t)) 8 (sid_at t) t (omega (arith, b.eight))
        ∙ part (sid_at t - 8 + (sid_len_of t + (size_of t - sid_end t))) (look.size - 8) 8 8 t (omega (arith, b.eight, b.sid, whole)) refl)

    pub kept : Kept t look owner group
    kept =
        record {
          eight = omega (arith, b.eight, b.sid, whole);
          inside = omega (arith, b.inside, whole);
          rest = length-take-le (look.size - 8) (drop 8 t) (omega (arith, length-drop 8 t, b.inside, whole));
          long = same_size;
          bytes =
              λ flags mask.
              ap₂ (λ (k : ℕ) (u : List ℕ). head_part k flags look.size mask ++ u) kinds same_rest
              ∙ head-then (copy_parts flags mask t owner group) look.size (sym same_size);
        }

  -- where the SID that lies there is n bytes long
  module _ (n : ℕ) (e : n ≡ length_of_sid (drop look.sid t)) where
    ends : look.sid + n ≡ sid_end t
    ends = ap (λ (m : ℕ). look.sid + m) e ∙ ap (λ (i : ℕ). i + length_of_sid (drop i t)) begins

    sid-part : take (look.sid + n - look.sid) (drop look.sid t) ≡ sid_of t
    sid-part = part (look.sid + n - look.sid) (sid_len_of t) look.sid (sid_at t) t (omega (arith, begins, ends)) begins

    middle-part : take (look.sid - 8) (drop 8 t) ≡ middle_of t
    middle-part = ap (λ (i : ℕ). take (i - 8) (drop 8 t)) begins

    tail-part : take (look.size - (look.sid + n)) (drop (look.sid + n) t) ≡ tail_of t
    tail-part = part (look.size - (look.sid + n)) (size_of t - sid_end t) (look.sid + n) (sid_end t) t (omega (arith, whole, ends)) ends

    pub cut : (owner group : List ℕ) → Cut t look n owner group
    cut owner group =
        record {
          eight = omega (arith, b.eight, begins);
          high = omega (arith, b.high, begins);
          within = omega (arith, b.sid, whole, ends);
          inside = omega (arith, b.inside, whole);
          sid = ap (λ (s : List ℕ). in_place (placeholder_of s) s owner group) sid-part;
          long = omega (arith, b.middle, b.tail-length, b.eight, b.sid, begins, ends, whole);
          parts = λ flags mask s i. alike kinds middle-part i tail-part;
        }

-- the same of an entry, at a look at it
module _ (e : Entry) (g : Terms) (look : Look) (q : look ≡ look_of e.bytes.now) where
  here : Bounds e.bytes.now
  here = bounds access 4 e.bytes.now e.whole.sound

  pub keeps : (w : Option Placeholder) → w ≡ placeholder_in (placeholder_of (take (length_of_sid (drop look.sid e.bytes.now)) (drop look.sid e.bytes.now)))
      → is_some w ≡ false → Kept e.bytes.now look g.owner.now g.group.now
  keeps w p z = kept e.bytes.now look here q w p z g.owner.now g.group.now

  pub lies : (n : ℕ) → n ≡ length_of_sid (drop look.sid e.bytes.now) → Cut e.bytes.now look n g.owner.now g.group.now
  lies n p = cut e.bytes.now look here q n p g.owner.now g.group.now
