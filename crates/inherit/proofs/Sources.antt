-- A list that may be absent: whether it reads as done, what the answer is where it doesn't, and its entries as the code goes over them.
use mathlib.Core.Path.{◌≡◌, refl, sym, ap}
use mathlib.Core.Bool.{Bool, true, false, cond}
use mathlib.Core.List.{List, []}
use mathlib.Core.Option.{none, some}
use Prim.Native.Nat.{ℕ, zero, suc, ◌≤◌}
use lib.ListN.{length, drop}
use Rattle.std.proofs.Common.{Result, Ok, Err}
use Rattle.std.specs.Result.{is_ok}
use Rattle.refusal.specs.Numbers.{number_of}
use Rattle.refusal.specs.declared.Fault.{Fault}
use Rattle.list.specs.Entry.{access, kind_of, size_of}
use Rattle.list.specs.List.{cut, check_of, MaybeList}
use Rattle.list.specs.Answer.{Values, refused}
use Rattle.list.specs.Good.{Sound, Whole, Passes, Every}
use Rattle.list.specs.declared.readings.Read.{Read}
use Rattle.list.proofs.Told.{told}
use Rattle.list.proofs.Parts.{laid, cut-none, entries-are}
use Rattle.list.proofs.Revisions.{kind-four, whole_four, every-to}
use Rattle.inherit.specs.Asked.{entries_if}
use Rattle.inherit.specs.Compute.{on_reading, readable}
use Rattle.inherit.specs.Inner.Source.{reads_if}

-- good entries of any revision are so under revision 4
sound-four : (rev : ℕ) (t : List ℕ) → Sound access rev t → Sound access 4 t
sound-four rev t s =
    record {
      four = s.four;
      within = s.within;
      kind = kind-four access (kind_of t) rev s.kind;
      flags = s.flags;
      head = s.head;
      word = s.word;
      eight = s.eight;
      sid = s.sid;
      expression = s.expression;
      tail = s.tail;
    }

passes-four : (rev n : ℕ) (t : List ℕ) → Passes access rev n t → Passes access 4 n t
passes-four rev zero t p = tt
passes-four rev (suc n) t p = (sound-four rev t p.0, passes-four rev n (drop (size_of t) t) p.1)

-- the entries of a list that reads as done
module _ (s : List ℕ) (r : Read) (e : check_of access s ≡ Ok r) where
  pub read-passes : Passes access 4 r.count (drop 8 s)
  read-passes = passes-four _ r.count (drop 8 s) (told access s r.length r.count r.end e).listed.passes

  pub read-long : 8 ≤ length s
  read-long = (told access s r.length r.count r.end e).listed.head.long

  pub read-entries : cut r.count (drop 8 s) ≡ entries_if (some s)
  unfolding entries_if
  read-entries = sym (entries-are access s r.count (told access s r.length r.count r.end e).listed)

  read-wholes : Every (Whole access 4) (entries_if (some s))
  unfolding entries_if
  read-wholes = every-to _ _ (λ x w. whole_four access _ x w) _ (laid access s r.count (told access s r.length r.count r.end e).listed).wholes

-- what is asked of the entries alone: good ones
pub wholes-of : (o : MaybeList) → reads_if o ≡ true → Every (Whole access 4) (entries_if o)
unfolding reads_if entries_if
wholes-of none h = tt
wholes-of (some s) h = by (check_of access s) refl h
  where
    by : (r : Result Read Fault) → check_of access s ≡ r → is_ok r ≡ true → Every (Whole access 4) (entries_if (some s))
    by (Ok r) q h = read-wholes s r q
    by (Err fault) q h = let z : false ≡ true = h in cc

-- a list that reads as done is passed over, another one is the answer
pub readable-good : (o : MaybeList) (which : ℕ) → reads_if o ≡ true → (rest : Values) → readable o which rest ≡ rest
unfolding reads_if readable on_reading
readable-good none which h rest = refl
readable-good (some s) which h rest = by (check_of access s) h
  where
    by : (r : Result Read Fault) → is_ok r ≡ true → on_reading r which rest ≡ rest
    by (Ok r) h = refl
    by (Err fault) h = let z : false ≡ true = h in cc

pub record Refuses (o : MaybeList) (which : ℕ) : Type 0 where
  pub number : ℕ
  pub offset : ℕ
  pub is : (rest : Values) → readable o which rest ≡ refused number which offset

pub readable-bad : (o : MaybeList) (which : ℕ) → reads_if o ≡ false → Refuses o which
unfolding reads_if readable on_reading
readable-bad none which h = let z : true ≡ false = h in cc
readable-bad (some s) which h = by (check_of access s) refl h
  where
    by : (r : Result Read Fault) → check_of access s ≡ r → is_ok r ≡ false → Refuses (some s) which
    by (Ok r) q h = let z : true ≡ false = h in cc
    by (Err fault) q h = record { number = number_of fault.why; offset = fault.at; is = λ rest. ap (λ (x : Result Read Fault). on_reading x which rest) q }

-- none of the entries where a list gives nothing
pub cond-cut : (b : Bool) (n : ℕ) (t : List ℕ) → cond b (cut n t) [] ≡ cut (cond b n 0) t
cond-cut true n t = refl
cond-cut false n t = sym (cut-none t)
