-- A list is its header and its entries, end to end: where each lies, and reading back what is built of whole entries.
use mathlib.Core.Path.{◌≡◌, refl, sym, ap, ◌∙◌}
use mathlib.Core.Bool.{true}
use mathlib.Core.List.{List, [], ◌∷◌, ◌++◌, append_assoc, append-nil, flatten}
use Prim.Native.Nat.{ℕ, zero, suc, ◌+◌, ◌*◌, ◌/◌, ◌%◌, ◌≤◌, ◌<◌}
use native.Mathlib.Nat.{le_of_suc-le-suc, not-suc-le-zero}
use native.Mathlib.Omega.{arith}
use lib.ListN.{length, take, drop, get_or, length-append, length-drop, take-append-drop}
use lib.Seq.{drop-cons, drop-drop, drop_at, take_at, length-take-le}
use Rattle.octets.specs.Bytes.{le, spell}
use Rattle.list.specs.Entry.{Family, entry_of, size_of, kind_of, fields_of}
use Rattle.list.specs.List.{cut, entries_end, entries_of, offsets, head_bytes, render, rev_ok, rev_of, count_of, read_as, check_of}
use Rattle.list.specs.Good.{Whole, Passes, Header, Listed, Every}
use Rattle.std.specs.Prelude.{Ok}
use Rattle.octets.proofs.Little.{le-append, le-spell, length-spell}
use Rattle.list.proofs.Cases.{is-good}
use Rattle.list.proofs.Told.{reads}
use Rattle.list.proofs.Pieces.{joined, join, split, fields-same, head-ge}

pub size-joined : (f : Family) (rev : ℕ) (e u : List ℕ) → Whole f rev e → size_of (e ++ u) ≡ length e
size-joined f rev e u w = (joined f rev e u w).size ∙ w.whole

-- whole entries in front of anything are passed, cut out again, and end where their bytes do
pub passes-built : (f : Family) (rev : ℕ) (es : List (List ℕ)) (v : List ℕ) → Every (Whole f rev) es → Passes f rev (length es) (flatten es ++ v)
unfolding flatten
passes-built f rev [] v ws = tt
passes-built f rev (e ∷ es) v ws =
    let u = flatten es ++ v in
    rw append_assoc (join f rev e u ws.0, rw (size-joined f rev e u ws.0, drop_at e u (length e) refl) (passes-built f rev es v ws.1))

pub cut-built : (f : Family) (rev : ℕ) (es : List (List ℕ)) (v : List ℕ) → Every (Whole f rev) es → cut (length es) (flatten es ++ v) ≡ es
unfolding flatten cut
cut-built f rev [] v ws = refl
cut-built f rev (e ∷ es) v ws =
    let u = flatten es ++ v in
    rw (append_assoc, size-joined f rev e u ws.0, drop_at e u (length e) refl, take_at e u (length e) refl, cut-built f rev es v ws.1)

pub end-built : (f : Family) (rev : ℕ) (es : List (List ℕ)) (at : ℕ) (v : List ℕ) → Every (Whole f rev) es
    → entries_end (length es) at (flatten es ++ v) ≡ at + length (flatten es)
unfolding flatten entries_end
end-built f rev [] at v ws = omega arith
end-built f rev (e ∷ es) at v ws =
    let u = flatten es ++ v in
    let z = size-joined f rev e u ws.0 in
    ap (λ (t : List ℕ). entries_end (suc (length es)) at t) (append_assoc e (flatten es) v)
    ∙ ap (λ (n : ℕ). entries_end (length es) (at + n) (drop n (e ++ u))) z
    ∙ ap (entries_end (length es) (at + length e)) (drop_at e u (length e) refl)
    ∙ end-built f rev es (at + length e) v ws.1
    ∙ omega (arith, length-append e (flatten es))

-- what was passed are whole entries, and they lie end to end
pub wholes-cut : (f : Family) (rev n : ℕ) (t : List ℕ) → Passes f rev n t → Every (Whole f rev) (cut n t)
unfolding cut
wholes-cut f rev zero t h = tt
wholes-cut f rev (suc n) t h = (split f rev t h.0, wholes-cut f rev n (drop (size_of t) t) h.1)

pub tiled : (n at : ℕ) (s : List ℕ) → flatten (cut n (drop at s)) ++ drop (entries_end n at (drop at s)) s ≡ drop at s
unfolding flatten cut entries_end
tiled zero at s = refl
tiled (suc n) at s =
    let z = size_of (drop at s) in
    rw (append_assoc, drop-drop z at s, tiled n (at + z) s, ← drop-drop z at s) (take-append-drop z (drop at s))

pub length_cut : (n : ℕ) (t : List ℕ) → length (cut n t) ≡ n
unfolding cut
length_cut zero t = refl
length_cut (suc n) t = ap suc (length_cut n _)

pub length-offsets : (n at : ℕ) (t : List ℕ) → length (offsets n at t) ≡ n
unfolding offsets
length-offsets zero at t = refl
length-offsets (suc n) at t = ap suc (length-offsets n _ _)

-- at the k-th offset lie the k-th entry, those after it, and the rest
at_offset : (n at : ℕ) (s : List ℕ) (k : ℕ) → k < n
    → drop (get_or (offsets n at (drop at s)) k 0) s ≡ flatten (drop k (cut n (drop at s))) ++ drop (entries_end n at (drop at s)) s
unfolding offsets cut entries_end
at_offset zero at s k p = absurd (not-suc-le-zero p)
at_offset (suc n) at s zero p = sym (tiled (suc n) at s)
at_offset (suc n) at s (suc k) p = rw (drop-drop (size_of (drop at s)) at s) (at_offset n (at + size_of (drop at s)) s k (le_of_suc-le-suc p))

pub every-at : (P : List ℕ → Type 0) (es : List (List ℕ)) (k : ℕ) → Every P es → k < length es → P (get_or es k [])
every-at P [] k a p = absurd (not-suc-le-zero p)
every-at P (e ∷ es) zero a p = a.0
every-at P (e ∷ es) (suc k) a p = every-at P es k a.1 (le_of_suc-le-suc p)

-- passed entries end where their bytes do
pub end-cut : (f : Family) (rev n at : ℕ) (t : List ℕ) → Passes f rev n t → entries_end n at t ≡ at + length (flatten (cut n t))
unfolding flatten cut entries_end
end-cut f rev zero at t h = omega arith
end-cut f rev (suc n) at t h =
    let z = size_of t in
    let r = end-cut f rev n (at + z) (drop z t) h.1 in
    let l = length-take-le z t h.0.within in
    omega (arith, length-append (take z t) (flatten (cut n (drop z t))))

-- a list is its header, its entries and the spare bytes that follow them
pub record Laid (f : Family) (s : List ℕ) (n : ℕ) : Type 0 where
  pub count : length (entries_of s) ≡ n
  pub bytes : s ≡ take 8 s ++ (flatten (entries_of s) ++ drop (entries_end n 8 (drop 8 s)) s)
  pub wholes : Every (Whole f (rev_of s)) (entries_of s)
  pub ends : entries_end n 8 (drop 8 s) ≡ 8 + length (flatten (entries_of s))

pub laid : (f : Family) (s : List ℕ) (n : ℕ) → Listed f s n → Laid f s n
unfolding entries_of
laid f s n r =
    record {
      count = rw r.count (length_cut (count_of s) (drop 8 s));
      bytes = rw (← r.count, tiled n 8 s) (sym (take-append-drop 8 s));
      wholes = rw (← r.count) (wholes-cut f (rev_of s) n (drop 8 s) r.passes);
      ends = rw (← r.count) (end-cut f (rev_of s) n 8 (drop 8 s) r.passes);
    }

-- the entries are those that are cut off, and none of none
pub cut-none : (t : List ℕ) → cut 0 t ≡ []
unfolding cut
cut-none t = refl

pub entries-are : (f : Family) (s : List ℕ) (n : ℕ) → Listed f s n → entries_of s ≡ cut n (drop 8 s)
unfolding entries_of
entries-are f s n r = rw r.count

-- the k-th entry e, which lies at o: its bytes, and its fields as the check of an entry gives them
pub record Kth (f : Family) (s : List ℕ) (o : ℕ) (e : List ℕ) : Type 0 where
  pub whole : Whole f (rev_of s) e
  pub rest : List ℕ
  pub here : drop o s ≡ e ++ rest
  pub inside : o + length e ≤ length s
  pub found : entry_of f (rev_of s) (drop o s) ≡ Ok (fields_of e)

pub kth : (f : Family) (s : List ℕ) (n k : ℕ) → Listed f s n → k < n → Kth f s (get_or (offsets n 8 (drop 8 s)) k 0) (get_or (entries_of s) k [])
unfolding entries_of flatten
kth f s n k r p =
    let es = entries_of s in
    let d = laid f s n r in
    let w = every-at (Whole f (rev_of s)) es k d.wholes (omega (arith, d.count)) in
    let o = get_or (offsets n 8 (drop 8 s)) k 0 in
    let u = flatten (drop (suc k) es) ++ drop (entries_end n 8 (drop 8 s)) s in
    let q : drop o s ≡ get_or es k [] ++ u =
    at_offset n 8 s k p ∙ rw (r.count, drop-cons es k [] (omega (arith, d.count)), append_assoc) in
    record {
      whole = w;
      rest = u;
      here = q;
      inside = omega (arith, ap length q, length-drop o s, length-append (get_or es k []) u, w.sound.four);
      found = rw q (sym (is-good f (rev_of s) _ (join f (rev_of s) _ u w)) ∙ ap Ok (fields-same (joined f (rev_of s) _ u w)));
    }

-- entries are 16 bytes long at the least, so their number fits where their bytes do
pub fewer : (f : Family) (rev : ℕ) (es : List (List ℕ)) → Every (Whole f rev) es → 16 * length es ≤ length (flatten es)
unfolding flatten
fewer f rev [] ws = omega arith
fewer f rev (e ∷ es) ws =
    omega (arith, fewer f rev es ws.1, length-append e (flatten es), head-ge (kind_of e), ws.0.sound.eight, ws.0.whole)

-- a header with whole entries behind it is a list of them, reads as done, ends with them, and has them for its entries
pub record Rendered (f : Family) (rev : ℕ) (es : List (List ℕ)) : Type 0 where
  pub listed : Listed f (render rev es) (length es)
  pub done : check_of f (render rev es) ≡ read_as (8 + length (flatten es)) (length es) (8 + length (flatten es))
  pub entries : entries_of (render rev es) ≡ es

pub length-head : (rev size count : ℕ) → length (head_bytes rev size count) ≡ 8
unfolding head_bytes spell
length-head rev size count = refl

pub head-is : (rev size count : ℕ)
    → head_bytes rev size count ≡ rev ∷ 0 ∷ size % 256 ∷ size / 256 % 256 ∷ count % 256 ∷ count / 256 % 256 ∷ 0 ∷ 0 ∷ []
unfolding head_bytes spell
head-is rev size count = refl

pub render-is : (rev : ℕ) (es : List (List ℕ)) → render rev es ≡ head_bytes rev (8 + length (flatten es)) (length es) ++ flatten es
unfolding render
render-is rev es = refl

pub length-render : (rev : ℕ) (es : List (List ℕ)) → length (render rev es) ≡ 8 + length (flatten es)
unfolding render head_bytes spell
length-render rev es = omega arith

-- a 16-bit field in front of anything
pub field : (n : ℕ) (v : List ℕ) → n < 65536 → le 2 (spell 2 n ++ v) ≡ n
field n v h = le-append 2 (spell 2 n) v (omega (arith, length-spell 2 n)) ∙ le-spell 2 n h

pub count-render : (rev : ℕ) (es : List (List ℕ)) → length es < 65536 → count_of (render rev es) ≡ length es
unfolding render head_bytes spell
count-render rev es h = field (length es) ((0 ∷ 0 ∷ []) ++ flatten es) h

module _ (f : Family) (rev : ℕ) (es : List (List ℕ)) (known : rev_ok rev ≡ true) (ws : Every (Whole f rev) es) (fits : 8 + length (flatten es) < 65536) where
  header-render : Header (render rev es)
  unfolding render head_bytes spell le
  header-render =
      record {
        long = omega arith;
        rev = known;
        zero = refl;
        size = field (8 + length (flatten es)) (spell 2 (length es) ++ ((0 ∷ 0 ∷ []) ++ flatten es)) fits ∙ sym (length-render rev es);
        zeros = refl;
      }

  count_fits : length es < 65536
  count_fits = omega (arith, fewer f rev es ws)

  bare : flatten es ++ [] ≡ flatten es
  bare = append-nil (flatten es)

  listed-render : Listed f (render rev es) (length es)
  unfolding render head_bytes spell
  listed-render =
      record {
        head = header-render;
        count = sym (count-render rev es count_fits);
        passes = rw bare at (passes-built f rev es [] ws);
      }

  end-render : entries_end (length es) 8 (drop 8 (render rev es)) ≡ 8 + length (flatten es)
  unfolding render head_bytes spell
  end-render = rw bare at (end-built f rev es 8 [] ws)

  pub rendered : Rendered f rev es
  unfolding render head_bytes spell entries_of
  rendered =
      record {
        listed = listed-render;
        done = reads f (render rev es) (length es) listed-render ∙ rw (end-render, length-render rev es);
        entries = rw (count-render rev es count_fits) (rw bare at (cut-built f rev es [] ws));
      }
