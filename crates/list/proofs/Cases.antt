-- `entry_of` by cases: each refusal from the test that it fails and those before it, the fields of a good entry from all ten, and back.
use mathlib.Core.Path.{◌≡◌, refl, sym, ◌∙◌}
use mathlib.Core.Bool.{Bool, true, false, cond, ◌&&◌}
use mathlib.Core.List.{List}
use Prim.Native.Nat.{ℕ, ◌+◌, ◌-◌, ◌≤◌, ◌<◌}
use native.Mathlib.Omega.{arith}
use lib.ListN.{length, drop, length-drop}
use lib.Seq.{length-take-le}
use lib.Dec.{eqb, ltb}
use native.Mathlib.Decide.{ℕ_discrete}
use borrow.Author.Tests.{le-leb, lt-leb, lt-ltb, eq-eqb, ne_eqb}
use Rattle.condition.specs.Kind.{stored_end, up_to_four}
use Rattle.octets.specs.Order.{need}
use Rattle.list.specs.Entry.{Family, entry_of, conditional_kind, kind_ok, flags_ok, expression_ok, tail_long, size_ok, kind_of, size_of, flags_of, head_of, word_of, sid_at, sid_len_of, sid_end, tail_of, fields_of}
use Rattle.list.specs.Look.{look_of}
use Rattle.list.specs.Good.{Sound}
use Rattle.list.specs.Identity.{length_of_sid}
use Rattle.list.specs.Inner.Begins.{Begun, tail_check}
use Rattle.list.specs.declared.entries.Entry.{Entry}
use Rattle.std.specs.Prelude.{Result, Ok, Err}
use Rattle.refusal.specs.declared.Refusal.{Refusal}
use Rattle.refusal.specs.declared.Refusal.TheVariants.{Size, Kind, Bits, Sid, Expression}
use Rattle.octets.proofs.Tests.{tests, le-or, true-or}
use Rattle.list.proofs.Sids.{eqb-turned}

module _ (f : Family) (rev : ℕ) (t : List ℕ) where
  pub bad-a : length t < 4 → Err Size ≡ entry_of f rev t
  unfolding entry_of need
  bad-a x = simp tests

  module _ (four : 4 ≤ length t) where
    pub bad-a2 : length t < size_of t → Err Size ≡ entry_of f rev t
    unfolding entry_of need
    bad-a2 x = simp tests

    module _ (within : size_of t ≤ length t) where
      pub bad-b : kind_ok f (kind_of t) rev ≡ false → Err Kind ≡ entry_of f rev t
      unfolding entry_of need
      bad-b x = simp (tests, x)

      module _ (kind : kind_ok f (kind_of t) rev ≡ true) where
        pub bad-c : flags_ok f (flags_of t) ≡ false → Err Bits ≡ entry_of f rev t
        unfolding entry_of need
        bad-c x = simp (tests, kind, x)

-- what follows the SID: its two tests
short : (b : Bool) (x : Bool) → cond (b && false) x true ≡ true
short true x = refl
short false x = refl

whole : (b : Bool) (x : Bool) → cond (b && true) x true ≡ cond b x true
whole true x = refl
whole false x = refl

long-expression : (t : List ℕ) → size_of t < sid_end t → expression_ok t ≡ true
unfolding expression_ok
long-expression t h = rw (lt-leb (sid_end t) (size_of t) h) (short (conditional_kind (kind_of t)) _)

long-size : (t : List ℕ) → size_of t < sid_end t → size_ok t ≡ false
unfolding size_ok
long-size t h = let n = tail_long (kind_of t) (tail_of t) in ne_eqb (sid_end t + n) (size_of t) (λ e. omega (arith, e))

tail-expression : (t : List ℕ) → sid_end t ≤ size_of t → expression_ok t ≡ cond (conditional_kind (kind_of t)) (ltb 0 (stored_end (tail_of t))) true
unfolding expression_ok
tail-expression t h = rw (le-leb (sid_end t) (size_of t) h) (whole (conditional_kind (kind_of t)) _)

same-sum : (n m k l : ℕ) → m ≤ k → l ≡ k - m → eqb (m + n) k ≡ eqb n l
same-sum n m k l h e =
    elim (ℕ_discrete n l) [
      | yes q ↦ eq-eqb (m + n) k (omega (arith, q)) ∙ sym (eq-eqb n l q)
      | no f ↦ ne_eqb (m + n) k (λ q. f (omega (arith, q))) ∙ sym (ne_eqb n l f)
    ]

tail-size : (t : List ℕ) → size_of t ≤ length t → sid_end t ≤ size_of t → size_ok t ≡ eqb (tail_long (kind_of t) (tail_of t)) (length (tail_of t))
unfolding size_ok
tail-size t w h =
    same-sum (tail_long (kind_of t) (tail_of t)) (sid_end t) (size_of t) (length (tail_of t)) h
    (length-take-le (size_of t - sid_end t) (drop (sid_end t) t) (omega (arith, length-drop (sid_end t) t)))

refused-two : (a b : Bool) (e : Entry) (why : Refusal) → ◌≡◌ {A = Result (Unit {0}) Refusal} (need a (Err Expression) (need b (Err Size) (Ok tt))) (Err why)
    → ◌≡◌ {A = Result Entry Refusal} (Err why) (need a (Err Expression) (need b (Err Size) (Ok e)))
unfolding need
refused-two true true e why h = cc
refused-two true false e why h = cc
refused-two false b e why h = cc

good-two : (a b : Bool) → ◌≡◌ {A = Result (Unit {0}) Refusal} (need a (Err Expression) (need b (Err Size) (Ok tt))) (Ok tt) → (a ≡ true) × (b ≡ true)
unfolding need
good-two true true h = (refl, refl)
good-two true false h = cc
good-two false b h = cc

pub good-tail : (t : List ℕ) → size_of t ≤ length t → sid_end t ≤ size_of t → tail_check (kind_of t) (tail_of t) ≡ Ok tt → (expression_ok t ≡ true) × (size_ok t ≡ true)
unfolding tail_check
good-tail t w h x = rw (tail-expression t h, tail-size t w h) (good-two _ _ x)

-- past (a) to (c)
module _ (f : Family) (rev : ℕ) (t : List ℕ) (begun : Begun f rev t) where
  pub bad-d : size_of t < head_of (kind_of t) → Err Size ≡ entry_of f rev t
  unfolding entry_of need
  bad-d x = simp (le-leb _ _ begun.four, le-leb _ _ begun.within, begun.kind, begun.flags, tests)

  module _ (head : head_of (kind_of t) ≤ size_of t) where
    pub bad-e : 3 < word_of t → Err Bits ≡ entry_of f rev t
    unfolding entry_of need
    bad-e x = simp (le-leb _ _ begun.four, le-leb _ _ begun.within, begun.kind, begun.flags, tests)

    module _ (word : word_of t ≤ 3) where
      pub bad-f : size_of t < sid_at t + 8 → Err Size ≡ entry_of f rev t
      unfolding entry_of need
      bad-f x = simp (le-leb _ _ begun.four, le-leb _ _ begun.within, begun.kind, begun.flags, tests)

      module _ (eight : sid_at t + 8 ≤ size_of t) where
        pub bad-g : sid_len_of t ≤ 0 → Err Sid ≡ entry_of f rev t
        unfolding entry_of need
        bad-g x = simp (le-leb _ _ begun.four, le-leb _ _ begun.within, begun.kind, begun.flags, tests)

        module _ (sid : 0 < sid_len_of t) where
          pub bad-expression : expression_ok t ≡ false → Err Expression ≡ entry_of f rev t
          unfolding entry_of need
          bad-expression x = simp (le-leb _ _ begun.four, le-leb _ _ begun.within, begun.kind, begun.flags, tests, x)

          last-two : entry_of f rev t ≡ need (expression_ok t) (Err Expression) (need (size_ok t) (Err Size) (Ok (fields_of t)))
          unfolding entry_of need
          last-two = simp (le-leb _ _ begun.four, le-leb _ _ begun.within, begun.kind, begun.flags, tests)

          -- where the SID ends past the size, no expression is looked at
          pub bad-long : size_of t < sid_end t → Err Size ≡ entry_of f rev t
          unfolding need
          bad-long x = sym (last-two ∙ rw (long-expression t x, long-size t x) refl)

          -- else what follows it decides
          pub bad-tail : sid_end t ≤ size_of t → (why : Refusal) → tail_check (kind_of t) (tail_of t) ≡ Err why → Err why ≡ entry_of f rev t
          unfolding tail_check
          bad-tail inside why x =
              let e = tail-expression t inside in
              let z = tail-size t begun.within inside in
              sym (last-two ∙ rw (e, z) (sym (refused-two _ _ (fields_of t) why x)))

          module _ (expression : expression_ok t ≡ true) where
            pub bad-h : size_ok t ≡ false → Err Size ≡ entry_of f rev t
            unfolding entry_of need
            bad-h x = simp (le-leb _ _ begun.four, le-leb _ _ begun.within, begun.kind, begun.flags, tests, expression, x)

            pub good : size_ok t ≡ true → Ok (fields_of t) ≡ entry_of f rev t
            unfolding entry_of need
            good x = simp (le-leb _ _ begun.four, le-leb _ _ begun.within, begun.kind, begun.flags, tests, expression, x)

-- what follows a SID, as the code goes over it
module _ (k : ℕ) (tail : List ℕ) where
  pub tail-missing : conditional_kind k ≡ true → stored_end tail ≡ 0 → tail_check k tail ≡ Err Expression
  unfolding tail_check need
  tail-missing h e = rw (h, e) refl

  two-ways : (b : Bool) → ◌≡◌ {A = Result (Unit {0}) Refusal} (need b (Err Size) (Ok tt)) (cond b (Ok tt) (Err Size))
  unfolding need
  two-ways true = refl
  two-ways false = refl

  pub tail-some : (b : Bool) → conditional_kind k ≡ true → 0 < stored_end tail → b ≡ eqb (up_to_four (stored_end tail)) (length tail)
      → tail_check k tail ≡ cond b (Ok tt) (Err Size)
  unfolding tail_check tail_long need
  tail-some b h p e = rw (h, lt-ltb 0 (stored_end tail) p, ← e) (two-ways b)

  pub tail-none : (b : Bool) → conditional_kind k ≡ false → b ≡ eqb (length tail) 0 → tail_check k tail ≡ cond b (Ok tt) (Err Size)
  unfolding tail_check tail_long need
  tail-none b h e = rw (h, eqb-turned 0 (length tail), ← e) (two-ways b)

-- and back: what a refusal would contradict, holds
clash : {o : Result Entry Refusal} {e : Entry} {why : Refusal} → o ≡ Ok e → Err why ≡ o → ⊥
clash p q = cc

pub sound : (f : Family) (rev : ℕ) (t : List ℕ) (e : Entry) → entry_of f rev t ≡ Ok e → Sound f rev t
sound f rev t e h =
    let a : 4 ≤ length t = le-or _ _ (λ x. clash h (bad-a f rev t x)) in
    let a2 : size_of t ≤ length t = le-or _ _ (λ x. clash h (bad-a2 f rev t a x)) in
    let b : kind_ok f (kind_of t) rev ≡ true = true-or _ (λ x. clash h (bad-b f rev t a a2 x)) in
    let c : flags_ok f (flags_of t) ≡ true = true-or _ (λ x. clash h (bad-c f rev t a a2 b x)) in
    let begun : Begun f rev t = record { four = a; within = a2; kind = b; flags = c } in
    let d : head_of (kind_of t) ≤ size_of t = le-or _ _ (λ x. clash h (bad-d f rev t begun x)) in
    let w : word_of t ≤ 3 = le-or _ _ (λ x. clash h (bad-e f rev t begun d x)) in
    let g : sid_at t + 8 ≤ size_of t = le-or _ _ (λ x. clash h (bad-f f rev t begun d w x)) in
    let i : 0 < sid_len_of t = le-or _ _ (λ x. clash h (bad-g f rev t begun d w g (omega arith))) in
    let e : expression_ok t ≡ true = true-or _ (λ x. clash h (bad-expression f rev t begun d w g i x)) in
    let x : size_ok t ≡ true = true-or _ (λ x. clash h (bad-h f rev t begun d w g i e x)) in
    record { four = a; within = a2; kind = b; flags = c; head = d; word = w; eight = g; sid = i; expression = e; tail = x }

pub is-good : (f : Family) (rev : ℕ) (t : List ℕ) → Sound f rev t → Ok (fields_of t) ≡ entry_of f rev t
is-good f rev t s =
    good f rev t (record { four = s.four; within = s.within; kind = s.kind; flags = s.flags }) s.head s.word s.eight s.sid s.expression s.tail

pub fields : (f : Family) (rev : ℕ) (t : List ℕ) (e : Entry) → entry_of f rev t ≡ Ok e → e ≡ fields_of t
fields f rev t e h = let g = is-good f rev t (sound f rev t e h) in cc

-- a look at a good entry finds the fields that the check gave, and where its SID begins the reader of lengths finds its length
pub look-good : (f : Family) (rev : ℕ) (t : List ℕ) (e : Entry) → entry_of f rev t ≡ Ok e
    → (look_of t ≡ record { kind = e.kind; flags = e.flags; size = e.size; mask = e.mask; word = e.word; sid = e.sid })
    × (length_of_sid (drop (look_of t).sid t) ≡ e.sid_len)
look-good f rev t e h = let q = fields f rev t e h in rw q (refl, refl)
