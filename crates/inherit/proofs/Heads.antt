-- Numbers written low byte first, and parts of a buffer written one behind the other.
use mathlib.Core.Path.{◌≡◌, refl, ap, ap₂, ◌∙◌}
use mathlib.Core.List.{List, [], ◌∷◌, ◌++◌, append_assoc}
use Prim.Native.Nat.{ℕ, suc, ◌+◌, ◌≤◌}
use native.Mathlib.Omega.{arith}
use lib.ListN.{length, take, drop, set, length-append}
use lib.Seq.{drop-drop, drop_at, take_at, sets-eq}
use borrow.Rule.Slice.PartMut.{put_mid}
use Rattle.std.specs.Int.{w32, w64, to_le_bytes}
use Rattle.std.proofs.Math.Nat.{div-div-eq-div-mul}
use Rattle.octets.specs.Bytes.{spell, front}
use Rattle.octets.proofs.Little.{length-spell}

-- the low two bytes of any number, and the four of a mask
pub low-two : (n : ℕ) → take 2 (to_le_bytes w64 n) ≡ spell 2 n
unfolding spell
low-two n = refl

pub low-four : (n : ℕ) → to_le_bytes w32 n ≡ spell 4 n
unfolding spell
low-four n = rw (div-div-eq-div-mul, div-div-eq-div-mul)

-- one part more behind those that stand on the front
pub put-behind : (p ys d x : List ℕ) (a k : ℕ) → x ≡ front p d → length p ≡ a → length ys ≡ k → put_mid a k x ys ≡ front (p ++ ys) d
put-behind p ys d x a k e m l =
    ap (λ (z : List ℕ). put_mid a k z ys) e
    ∙ rw (take_at p (drop (length p) d) a m, drop_at p (drop (length p) d) a m, length-append p ys, l, m, drop-drop, append_assoc)

-- two bytes, and two numbers behind them
module _ (k f n m : ℕ) (a b d : List ℕ) (room : 8 ≤ length d) (ea : a ≡ spell 2 n) where
  first-two : set (set d 0 k) 1 f ≡ front (k ∷ f ∷ []) d
  first-two = sets-eq (k ∷ f ∷ []) d 0 (omega arith)

  first-four : put_mid 2 2 (set (set d 0 k) 1 f) a ≡ front (k ∷ f ∷ a) d
  first-four = put-behind (k ∷ f ∷ []) a d (set (set d 0 k) 1 f) 2 2 first-two refl (ap length ea ∙ length-spell 2 n)

  four-long : length (k ∷ f ∷ a) ≡ 4
  four-long = ap (λ (x : List ℕ). length (k ∷ f ∷ x)) ea ∙ ap (λ (x : ℕ). suc (suc x)) (length-spell 2 n)

  pub size-mask : b ≡ spell 4 m → put_mid 4 4 (put_mid 2 2 (set (set d 0 k) 1 f) a) b ≡ front ((k ∷ f ∷ []) ++ (spell 2 n ++ spell 4 m)) d
  size-mask eb =
      put-behind (k ∷ f ∷ a) b d _ 4 4 first-four four-long (ap length eb ∙ length-spell 4 m)
      ∙ ap₂ (λ (x y : List ℕ). front (k ∷ f ∷ (x ++ y)) d) ea eb

  pub size-count : b ≡ spell 2 m → (z : List ℕ) → z ≡ 0 ∷ 0 ∷ []
      → put_mid 6 2 (put_mid 4 2 (put_mid 2 2 (set (set d 0 k) 1 f) a) b) z ≡ front ((k ∷ f ∷ []) ++ (spell 2 n ++ (spell 2 m ++ (0 ∷ 0 ∷ [])))) d
  size-count eb z ez =
      put-behind (k ∷ f ∷ (a ++ b)) z d _ 6 2
      (put-behind (k ∷ f ∷ a) b d _ 4 2 first-four four-long (ap length eb ∙ length-spell 2 m))
      (ap (λ (x : ℕ). suc (suc x)) (length-append a b) ∙ ap₂ (λ (x y : List ℕ). suc (suc (length x + length y))) ea eb ∙ ap₂ (λ (x y : ℕ). suc (suc (x + y))) (length-spell 2 n) (length-spell 2 m))
      (ap length ez)
      ∙ ap (λ (x : List ℕ). front (k ∷ f ∷ x) d) (append_assoc a b z ∙ ap₂ (λ (x y : List ℕ). x ++ y) ea (ap₂ (λ (x y : List ℕ). x ++ y) eb ez))
