-- Who may open, one wanted bit at a time.
use mathlib.Core.Path.{◌≡◌, refl}
use mathlib.Core.Bool.{Bool, true, false, not, ◌&&◌, ◌||◌}
use mathlib.Core.List.{List, ◌∷◌}
use Prim.Native.Nat.{ℕ, ◌^◌, ◌<◌}
use Rattle.octets.specs.Bytes.{has}
use Rattle.list.specs.Entry.{kind_of, mask_of}
use Rattle.access.specs.Open.{entry_counts, is_allow, granted, opens_by}
use Rattle.access.proofs.Bitwise.{each_same, each-true, each_at}

-- a test of the wanted bits holds where it holds of a bit that is wanted
pub wanted-holds : (h g : Bool) → (h ≡ true → g ≡ true) → (not h || g) ≡ true
wanted-holds true g f = f refl
wanted-holds false g f = refl

-- and back, for a bit that is wanted
pub wanted-at : (h g : Bool) → (not h || g) ≡ true → h ≡ true → g ≡ true
wanted-at h g t e = rw e at t

-- two such tests are the same where they are the same of a bit that is wanted
pub wanted-same : (h g g' : Bool) → (h ≡ true → g ≡ g') → (not h || g) ≡ (not h || g')
wanted-same true g g' f = f refl
wanted-same false g g' f = refl

module _ (type table : List ℕ) (sids : List (List ℕ)) (bit : ℕ) (e : List ℕ) (es : List (List ℕ)) where
  -- an entry that counts and has the bit decides it
  pub granted-here : (entry_counts type table sids e && has bit (mask_of e)) ≡ true → granted type table sids bit (e ∷ es) ≡ is_allow (kind_of e)
  unfolding granted
  granted-here h = rw h

  -- one that doesn't count, or hasn't the bit, is passed over
  pub granted-on : (entry_counts type table sids e && has bit (mask_of e)) ≡ false → granted type table sids bit (e ∷ es) ≡ granted type table sids bit es
  unfolding granted
  granted-on h = rw h

module _ (type table : List ℕ) (sids : List (List ℕ)) (w : ℕ) (es : List (List ℕ)) where
  -- each wanted bit is granted, so it opens
  pub opens-all : ((k : ℕ) → k < 32 → has (2 ^ k) w ≡ true → granted type table sids (2 ^ k) es ≡ true) → opens_by type table sids w es ≡ true
  unfolding opens_by
  opens-all f = each-true (λ bit. not (has bit w) || granted type table sids bit es) 32 (λ k l. wanted-holds (has (2 ^ k) w) (granted type table sids (2 ^ k) es) (f k l))

  -- it opens, so each wanted bit is granted
  pub opens_at : (k : ℕ) → opens_by type table sids w es ≡ true → k < 32 → has (2 ^ k) w ≡ true → granted type table sids (2 ^ k) es ≡ true
  unfolding opens_by
  opens_at k t l = wanted-at (has (2 ^ k) w) (granted type table sids (2 ^ k) es) (each_at (λ bit. not (has bit w) || granted type table sids bit es) 32 k t l)

module _ (type table : List ℕ) (sids sids' : List (List ℕ)) (w : ℕ) (es es' : List (List ℕ)) where
  -- with two rows of SIDs and two lists each wanted bit is granted alike, so both open or neither
  pub opens-same : ((k : ℕ) → k < 32 → has (2 ^ k) w ≡ true → granted type table sids (2 ^ k) es ≡ granted type table sids' (2 ^ k) es')
      → opens_by type table sids w es ≡ opens_by type table sids' w es'
  unfolding opens_by
  opens-same f =
      each_same (λ bit. not (has bit w) || granted type table sids bit es) (λ bit. not (has bit w) || granted type table sids' bit es') 32
      (λ k l. wanted-same (has (2 ^ k) w) (granted type table sids (2 ^ k) es) (granted type table sids' (2 ^ k) es') (f k l))
