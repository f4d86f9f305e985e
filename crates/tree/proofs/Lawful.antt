-- The tree's rules are lawful (specs/Replay): an empty tree can be worked out, and what a change's step puts back is what stood before it.
use mathlib.Core.Path.{◌≡◌, refl, ◌∙◌}
use mathlib.Core.Bool.{Bool, true, false, ◌&&◌}
use mathlib.Core.List.{List, [], ◌∷◌, ◌++◌}
use mathlib.Core.Option.{some}
use Prim.Native.Nat.{ℕ, ◌-◌}
use native.Mathlib.Omega.{arith}
use lib.ListN.{length, get_or, set, length-append}
use lib.Seq.{take_at, set-set, set-get_or}
use lib.Dec.{ltb}
use Rattle.octets.specs.Bytes.{put_at}
use Rattle.tree.specs.Held.{block_for}
use Rattle.tree.specs.Calls.{edit_at, edit_bytes, object_for, ChangeGiven, add, alter}
use Rattle.tree.proofs.History.{Lawful}
use Rattle.tree.proofs.Replay.{Blocks, fine, addable, when, change, keep, back, gather, work, rules}

-- what is there under a test
when-is : {A : Type 0} (b : Bool) (x y : A) → when b x ≡ some y → x ≡ y
when-is true x y e = cc
when-is false x y e = let z : ◌≡◌ {A = ℕ} 0 1 = cc in absurd (omega arith)

undoes : (n : ℕ) (c : ChangeGiven) (d after : Blocks) → change n c d ≡ some after → back (keep c d) after ≡ d
unfolding change keep back
undoes n (add new) d after h =
    let b = block_for (object_for new) in
    let e : d ++ (b ∷ []) ≡ after = when-is (addable n new (length d) (λ j. get_or d j [])) (d ++ (b ∷ [])) after h in
    let k : length d ≡ length (d ++ (b ∷ [])) - 1 = simp length-append (omega arith) in
    rw (← e) (take_at d (b ∷ []) _ k)
undoes n (alter i x) d after h =
    let b = put_at (edit_at x) (edit_bytes x) (get_or d i []) in
    let e : set d i b ≡ after = when-is (ltb i (length d) && fine x) (set d i b) after h in
    rw (← e) (set-set d i b (get_or d i []) ∙ set-get_or d i [])

pub lawful : (n : ℕ) (e : List ℕ) → Lawful (rules n e)
unfolding rules work gather
lawful n e = record { starts = refl; undoes = undoes n }
