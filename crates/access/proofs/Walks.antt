-- Stepping through a list that reads as done, cut where its entries end: each step finds the next entry, and the last one the end.
use mathlib.Core.Path.{◌≡◌, refl, sym, ap, ap₂, ◌∙◌}
use mathlib.Core.List.{List, [], ◌∷◌, ◌++◌, append_assoc, append-nil, flatten}
use Prim.Native.Nat.{ℕ, zero, suc, ◌+◌, ◌≤◌, ◌<◌}
use native.Mathlib.Omega.{arith}
use lib.ListN.{length, take, drop, length-append, length-drop}
use lib.Seq.{drop-drop, drop_at, take_at, length-take-le, get_or-take}
use Rattle.list.specs.Entry.{access, size_of, fields_of, entry_of}
use Rattle.list.specs.List.{rev_of, cut, entries_of, entries_end, read_as, check_of}
use Rattle.list.specs.Good.{Sound}
use Rattle.list.specs.declared.entries.Entry.{Entry}
use Rattle.list.specs.declared.readings.Read.{Read}
use Rattle.refusal.specs.declared.Fault.{Fault}
use Rattle.refusal.specs.declared.Refusal.{Refusal}
use Rattle.list.proofs.Cases.{bad-a, is-good, sound, fields}
use Rattle.list.proofs.Told.{told}
use Rattle.list.proofs.Pieces.{fields-same}
use Rattle.list.proofs.Parts.{laid, passes-built, cut-built, end-built}
use Rattle.list.proofs.Spare.{end-within}
use Rattle.list.proofs.Remade.{bounds, cut-same}
use Rattle.access.specs.declared.steps.Found.{Found}
use Rattle.std.specs.Prelude.{Option, Some, None, Result, Ok, Err}
use Rattle.access.specs.Walk.{found_at, walk_over, walk_through, walked_by, walked_of, found_by, step_at, past_by, next_at, walk_on, walk_from}
use Rattle.access.specs.Inner.Seek.{Walking}

-- ---- one step

module _ (s : List ℕ) (at : ℕ) where
  -- past the end there is nothing
  pub step_past : length s ≤ at → step_at s at ≡ None
  unfolding found_by
  step_past h = ap (λ (o : Result Entry Refusal). found_by o at) (sym (bad-a access (rev_of s) (drop at s) (omega (arith, length-drop at s))))

  pub step-sound : Sound access (rev_of s) (drop at s) → step_at s at ≡ Some (found_at at (fields_of (drop at s)))
  unfolding found_by
  step-sound g = ap (λ (o : Result Entry Refusal). found_by o at) (sym (is-good access (rev_of s) (drop at s) g))

  -- an entry that is found is a good one: it lies at that place, its fields are those of its bytes, and the next one begins behind it
  pub record Stepped (f : Found) : Type 0 where
    pub here : f.at ≡ at
    pub fields : f.entry ≡ fields_of (drop at s)
    pub sound : Sound access (rev_of s) (drop at s)
    pub behind : f.next ≡ at + size_of (drop at s)
    pub forth : at < f.next
    pub within : f.next ≤ length s

  pub stepped : (f : Found) → step_at s at ≡ Some f → Stepped f
  unfolding found_by
  stepped f h = by (entry_of access (rev_of s) (drop at s)) refl h
    where
      by : (r : Result Entry Refusal) → entry_of access (rev_of s) (drop at s) ≡ r → found_by r at ≡ Some f → Stepped f
      by (Ok x) q k =
          let d = fields access (rev_of s) (drop at s) x q in
          let g = sound access (rev_of s) (drop at s) x q in
          let b = bounds access (rev_of s) (drop at s) g in
          let z : x.size ≡ size_of (drop at s) = ap (λ (y : Entry). y.size) d in
          let ff : f ≡ found_at at x = cc in
          let nn : f.next ≡ at + x.size = ap (λ (y : Found). y.next) ff in
          record {
            here = ap (λ (y : Found). y.at) ff;
            fields = ap (λ (y : Found). y.entry) ff ∙ d;
            sound = g;
            behind = nn ∙ ap (λ (n : ℕ). at + n) z;
            forth = omega (arith, nn, z, b.eight, b.sid);
            within = omega (arith, nn, z, g.within, length-drop at s, g.four);
          }
      by (Err j) q k = let z : ◌≡◌ {A = ℕ} 0 1 = cc in absurd (omega arith)

-- ---- all the steps

pub walking-end : (s : List ℕ) (at : ℕ) → Walking s 0 at → step_at s at ≡ None
unfolding entries_end
walking-end s at w = step_past s at (omega (arith, w.ends))

module _ (s : List ℕ) (k at : ℕ) (w : Walking s (suc k) at) where
  pub walking-step : step_at s at ≡ Some (found_at at (fields_of (drop at s)))
  walking-step = step-sound s at w.rest.0

  pub walking-more : Walking s k (at + size_of (drop at s))
  unfolding entries_end
  walking-more =
      let z = size_of (drop at s) in
      let d : drop z (drop at s) ≡ drop (at + z) s = drop-drop z at s in
      record {
        within = omega (arith, w.rest.0.within, length-drop at s, w.within);
        rest = rw (← d) w.rest.1;
        ends = rw (← d) w.ends;
      }

  -- the entries from `at` on, as a walk tells them: what is found has the fields of the entry's own bytes
  pub told_more : walk_over at (cut (suc k) (drop at s))
      ≡ found_at at (fields_of (drop at s)) ∷ walk_over (at + size_of (drop at s)) (cut k (drop (at + size_of (drop at s)) s))
  unfolding walk_over cut
  told_more =
      let t = drop at s in
      let z = size_of t in
      let c = cut-same access (rev_of s) t w.rest.0 in
      ap₂ (λ (f : Entry) (m : ℕ). found_at at f ∷ walk_over (at + m) (cut k (drop z t))) (fields-same c) c.size
      ∙ ap (λ (u : List ℕ). found_at at (fields_of t) ∷ walk_over (at + z) (cut k u)) (drop-drop z at s)

-- the next place is behind it
pub next-is : (s : List ℕ) (k at : ℕ) → Walking s (suc k) at → next_at s at ≡ at + size_of (drop at s)
unfolding past_by
next-is s k at w = ap (λ (x : Option Found). past_by x at) (walking-step s k at w)

-- stepping on gives the entries, each once, in order, and then the end, however many steps are allowed
pub walks : (s : List ℕ) (k at n : ℕ) → Walking s k at → k ≤ n → walk_from n s at ≡ walk_over at (cut k (drop at s))
unfolding walk_from walk_over cut walk_on
walks s zero at zero w l = refl
walks s zero at (suc n) w l = ap (λ (x : Option Found). walk_on x (walk_from n s (next_at s at))) (walking-end s at w)
walks s (suc k) at zero w l = absurd (omega arith)
walks s (suc k) at (suc n) w l =
    let t = drop at s in
    let z = size_of t in
    ap (λ (x : Option Found). walk_on x (walk_from n s (next_at s at))) (walking-step s k at w)
    ∙ ap (λ (x : ℕ). found_at at (fields_of t) ∷ walk_from n s x) (next-is s k at w)
    ∙ ap (λ (x : List Found). found_at at (fields_of t) ∷ x) (walks s k (at + z) n (walking-more s k at w) (omega arith))
    ∙ sym (told_more s k at w)

-- ---- from a list that reads as done

module _ (s : List ℕ) (l n x : ℕ) (e : check_of access s ≡ read_as l n x) where
  front-is : take x s ≡ take 8 s ++ flatten (entries_of s)
  front-is =
      let t = told access s l n x e in
      let d = laid access s n t.listed in
      let m : length (take 8 s ++ flatten (entries_of s)) ≡ x =
      omega (arith, length-append (take 8 s) (flatten (entries_of s)), length-take-le 8 s t.listed.head.long, t.end, d.ends) in
      ap (take x) (d.bytes ∙ sym (append_assoc (take 8 s) (flatten (entries_of s)) _)) ∙ take_at _ _ x m

  behind-head : drop 8 (take x s) ≡ flatten (entries_of s) ++ []
  behind-head =
      ap (drop 8) front-is ∙ drop_at (take 8 s) _ 8 (length-take-le 8 s (told access s l n x e).listed.head.long) ∙ sym (append-nil _)

  pub rev-kept : rev_of (take x s) ≡ rev_of s
  rev-kept = get_or-take x s 0 0 (omega (arith, end-within access s l n x e))

  -- they end in the list
  pub end-inside : x ≤ length s
  end-inside = omega (arith, end-within access s l n x e, (told access s l n x e).whole)

  -- the first step is at 8, and as many entries are left as the list has
  pub walking-first : Walking (take x s) n 8
  walking-first =
      let t = told access s l n x e in
      let d = laid access s n t.listed in
      let b = end-within access s l n x e in
      let m : length (take x s) ≡ x = length-take-le x s (omega (arith, b, t.whole)) in
      record {
        within = omega (arith, m, b);
        rest = rw (rev-kept, behind-head, ← d.count) (passes-built access (rev_of s) (entries_of s) [] d.wholes);
        ends = rw (behind-head, ← d.count) (end-built access (rev_of s) (entries_of s) 8 [] d.wholes ∙ omega (arith, m, t.end, d.ends));
      }

  pub entries-kept : cut n (drop 8 (take x s)) ≡ entries_of s
  entries-kept =
      let d = laid access s n (told access s l n x e).listed in
      rw (behind-head, ← d.count) (cut-built access (rev_of s) (entries_of s) [] d.wholes)

  walked-is : walked_of s ≡ take x s
  unfolding walked_by
  walked-is = ap (λ (r : Result Read Fault). walked_by r s) e

  -- the walker, stepped to the end, gives exactly the list's entries, in order, each once
  pub walks-all : (m : ℕ) → n ≤ m → walk_from m (walked_of s) 8 ≡ walk_through s
  walks-all m h = ap (λ (t : List ℕ). walk_from m t 8) walked-is ∙ walks (take x s) n 8 m walking-first h ∙ ap (walk_over 8) entries-kept
