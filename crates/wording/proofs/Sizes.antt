-- The walk's tally is exact for texts of at most 512 bytes, and with room its bytes are the stored form's.
use mathlib.Core.Path.{◌≡◌, refl, sym, ap, ◌∙◌}
use mathlib.Core.List.{List, [], ◌∷◌}
use Prim.Native.Nat.{ℕ, ◌+◌, ◌-◌, ◌≤◌, ◌<◌}
use native.Mathlib.Omega.{arith}
use borrow.Author.Tests.{le-leb}
use lib.ListN.{length, length-append}
use Rattle.octets.specs.Bytes.{put_at}
use Rattle.octets.proofs.Places.{length-put, put-append, put-nil}
use Rattle.condition.specs.Token.{Token}
use Rattle.wording.proofs.Deep.{highest}
use Rattle.wording.proofs.Emits.{up-yes}
use Rattle.wording.specs.Inner.Walk.{note_all, note_b, put_all, put_b, takes, up_by}
use Rattle.wording.specs.Stored.{bytes_all, token_bytes}
use Rattle.wording.specs.declared.tallies.Tally.{Tally}

-- ---- the tally is exact below its bound

pub tokens-exact : (l : List Token) (w : Tally) → w.tokens + length l < 100000 → (note_all l w).tokens ≡ w.tokens + length l
unfolding note_all note_b
tokens-exact [] w h = omega arith
tokens-exact (t ∷ l) w h =
    let e = up-yes w.tokens 1 (omega arith) in
    let g = tokens-exact l (note_b (length (token_bytes t)) (takes t) w) (omega arith) in
    omega arith

pub size_exact : (l : List Token) (w : Tally) → w.size + length (bytes_all l) < 100000 → (note_all l w).size ≡ w.size + length (bytes_all l)
unfolding note_all note_b bytes_all
size_exact [] w h = omega arith
size_exact (t ∷ l) w h =
    let a = length-append (token_bytes t) (bytes_all l) in
    let e = up-yes w.size (length (token_bytes t)) (omega arith) in
    let g = size_exact l (note_b (length (token_bytes t)) (takes t) w) (omega arith) in
    omega arith

pub highest-exact : (l : List Token) (w : Tally) → w.height + length l < 100000 → (note_all l w).highest ≡ highest w.highest w.height l
unfolding note_all note_b highest
highest-exact [] w h = refl
highest-exact (t ∷ l) w h =
    let e : up_by (w.height - takes t) 1 ≡ w.height - takes t + 1 = sym (up-yes (w.height - takes t) 1 (omega arith)) in
    highest-exact l (note_b (length (token_bytes t)) (takes t) w) (omega arith) ∙ rw e refl

pub put-exact : (l : List Token) (w : Tally) (o : List ℕ) → w.size + length (bytes_all l) ≤ length o → w.size + length (bytes_all l) < 100000
    → put_all l w o ≡ put_at w.size (bytes_all l) o
unfolding put_all put_b bytes_all note_b
put-exact [] w o h g = sym (put-nil w.size o)
put-exact (t ∷ l) w o h g =
    let a = length-append (token_bytes t) (bytes_all l) in
    let k = w.size in
    let e : up_by k (length (token_bytes t)) ≡ k + length (token_bytes t) = sym (up-yes k (length (token_bytes t)) (omega arith)) in
    let m : length (put_at k (token_bytes t) o) ≡ length o = length-put k (token_bytes t) o (omega arith) in
    let i = put-exact l (note_b (length (token_bytes t)) (takes t) w) (put_at k (token_bytes t) o) (omega arith) (omega arith) in
    rw (le-leb (k + length (token_bytes t)) (length o) (omega arith))
    (i ∙ (ap (λ (n : ℕ). put_at n (bytes_all l) (put_at k (token_bytes t) o)) e ∙ put-append k (token_bytes t) (bytes_all l) o (omega arith)))
