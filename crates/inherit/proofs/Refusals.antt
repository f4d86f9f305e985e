-- The answer by cases, in the order of the tests.
use mathlib.Core.Path.{◌≡◌, sym, ◌∙◌}
use mathlib.Core.Bool.{true, false}
use Prim.Native.Nat.{ℕ}
use Rattle.octets.specs.Order.{need}
use Rattle.list.specs.Entry.{access}
use Rattle.list.specs.List.{MaybeList}
use Rattle.list.specs.Answer.{Values, refused}
use Rattle.inherit.specs.Asked.{Asked, types_ok}
use Rattle.inherit.specs.Branch.{result_of}
use Rattle.inherit.specs.Compute.{readable, ordinary, rule_ok, with_room, compute_of}

-- list `which` leaves the answer to what follows
abbrev pub Over : MaybeList → ℕ → Type 0
Over o which = (rest : Values) → readable o which rest ≡ rest

module _ (a : Asked) (room : ℕ) where
  pub bad-rule : rule_ok a.rule ≡ false → refused 12 0 0 ≡ compute_of a room
  unfolding compute_of need
  bad-rule h = rw h

  module _ (rule : rule_ok a.rule ≡ true) where
    pub bad-parent : (v : Values) → ((rest : Values) → readable a.parent 1 rest ≡ v) → v ≡ compute_of a room
    unfolding compute_of need
    bad-parent v h = rw rule (sym (h _))

    module _ (hp : Over a.parent 1) where
      pub bad-creator : (v : Values) → ((rest : Values) → readable a.creator 2 rest ≡ v) → v ≡ compute_of a room
      unfolding compute_of need
      bad-creator v h = rw rule (sym (hp _ ∙ h _))

      module _ (hc : Over a.creator 2) where
        pub bad-default : (v : Values) → ((rest : Values) → readable a.default 3 rest ≡ v) → v ≡ compute_of a room
        unfolding compute_of need
        bad-default v h = rw rule (sym (hp _ ∙ hc _ ∙ h _))

        module _ (hd : Over a.default 3) where
          -- the three lists are good: what is left of the tests
          rest : compute_of a room
              ≡ need (ordinary a.owner) (refused 6 0 0) (need (ordinary a.group) (refused 6 0 0) (need (types_ok a.types) (refused 7 0 0) (with_room room (result_of access a))))
          unfolding compute_of need
          rest = rw rule (hp _ ∙ hc _ ∙ hd _)

          pub bad-owner : ordinary a.owner ≡ false → refused 6 0 0 ≡ compute_of a room
          unfolding need
          bad-owner h = sym (rest ∙ rw h)

          module _ (owner : ordinary a.owner ≡ true) where
            pub bad-group : ordinary a.group ≡ false → refused 6 0 0 ≡ compute_of a room
            unfolding need
            bad-group h = sym (rest ∙ rw (owner, h))

            module _ (group : ordinary a.group ≡ true) where
              pub bad-types : types_ok a.types ≡ false → refused 7 0 0 ≡ compute_of a room
              unfolding need
              bad-types h = sym (rest ∙ rw (owner, group, h))

              pub all-good : types_ok a.types ≡ true → compute_of a room ≡ with_room room (result_of access a)
              unfolding need
              all-good h = rest ∙ rw (owner, group, h)
