-- What the settings hold: the rule, the mapping and the default list that they were made of; and when they are good.
use mathlib.Core.Path.{◌≡◌, refl, ap, ◌∙◌}
use mathlib.Core.Bool.{true}
use mathlib.Core.List.{List, [], ◌∷◌, ◌++◌}
use Prim.Native.Nat.{ℕ, zero, suc, ◌+◌, ◌*◌, ◌/◌, ◌%◌, ◌^◌, ◌≤◌, ◌<◌}
use native.Mathlib.Nat.{pow-suc}
use native.Mathlib.Omega.{arith}
use lib.ListN.{length}
use lib.Arith.{mod-mul}
use Rattle.list.specs.List.{MaybeList}
use Rattle.octets.specs.Bytes.{le, spell}
use Rattle.octets.proofs.Little.{le-append, length-spell}
use Rattle.inherit.specs.declared.Mapping.{Mapping}
use Rattle.inherit.specs.Compute.{rule_ok}
use Rattle.tree.specs.Model.{short_if}
use Rattle.tree.specs.Held.{held, slot_for}
use Rattle.tree.specs.Room.{rule_of, mapping_of, default_slot, default_of, settings_for}
use Rattle.tree.specs.Formed.{settings_ok}
use Rattle.tree.specs.Shown.{word}
use Rattle.tree.proofs.Replay.{reads}
use Rattle.tree.proofs.Lays.{length-slot}
use Rattle.tree.proofs.Slots.{held-slot, slot-good}
use Rattle.tree.proofs.Blocks.{part-all, part-past}

-- k bytes hold a number but for multiples of 256^k
le-spell-mod : (k m : ℕ) → le k (spell k m) ≡ m % 256 ^ k
unfolding le spell
le-spell-mod zero m = omega arith
le-spell-mod (suc k) m =
    let e : m % (256 ^ k * 256) ≡ (m / 256 % 256 ^ k) * 256 + m % 256 = mod-mul m {m = 256 ^ k} {c = 256} (pow_pos k) (omega arith) in
    let p = ap (λ (z : ℕ). m % z) (pow-suc 256 k) in
    rw (le-spell-mod k (m / 256)) (omega arith)
  where
    pow_pos : (k : ℕ) → 0 < 256 ^ k
    pow_pos zero = omega arith
    pow_pos (suc k) = omega (arith, pow_pos k, pow-suc 256 k)

word_of : (x : ℕ) (q : List ℕ) → le 4 (spell 4 x ++ q) ≡ word x
word_of x q =
    let k : 4 ≤ length (spell 4 x) = rw length-spell (omega arith) in
    le-append 4 (spell 4 x) q k ∙ le-spell-mod 4 x

module _ (rule : ℕ) (m : Mapping) (default : MaybeList) where
  pub rule-of : rule_of (settings_for rule m default) ≡ rule
  unfolding settings_for
  rule-of = refl

  pub mapping-of : mapping_of (settings_for rule m default)
      ≡ record { read = word m.read; write = word m.write; execute = word m.execute; all = word m.all }
  unfolding settings_for spell
  mapping-of =
      let c = slot_for default in
      let d = spell 4 m.all ++ c in
      let e = spell 4 m.execute ++ d in
      let f = spell 4 m.write ++ e in
      rw (word_of m.read f, word_of m.write e, word_of m.execute d, word_of m.all c) refl

  module _ (s : short_if default ≡ true) where
    pub default-slot : default_slot (settings_for rule m default) ≡ slot_for default
    unfolding settings_for
    default-slot =
        let c = slot_for default in
        let d = spell 4 m.all ++ c in
        let e = spell 4 m.execute ++ d in
        let f = spell 4 m.write ++ e in
        let g = spell 4 m.read ++ f in
        part-past 1 16 1027 (rule ∷ []) g refl
        ∙ part-past 4 12 1027 (spell 4 m.read) f (length-spell 4 m.read)
        ∙ part-past 4 8 1027 (spell 4 m.write) e (length-spell 4 m.write)
        ∙ part-past 4 4 1027 (spell 4 m.execute) d (length-spell 4 m.execute)
        ∙ part-past 4 0 1027 (spell 4 m.all) c (length-spell 4 m.all)
        ∙ part-all 1027 c (length-slot default s)

    pub default-of : default_of (settings_for rule m default) ≡ default
    default-of = ap held default-slot ∙ held-slot default s

    pub settings-good : rule_ok rule ≡ true → reads default ≡ true → settings_ok (settings_for rule m default) ≡ true
    unfolding settings_ok
    settings-good h r = rw (rule-of, default-slot, h) (slot-good default s r)
