-- Each return is a case of `entry_of` past (a) to (c), by the tests that led there. Assumes nothing.
use native.Mathlib.Omega.{arith}
use mathlib.Core.Path.{◌≡◌, refl, sym, ap, ap₂, ◌∙◌}
use mathlib.Core.List.{List}
use mathlib.Core.Logic.{inl, inr}
use Prim.Native.Nat.{ℕ, ◌+◌, ◌-◌, ◌<◌, ◌≤◌}
use lib.ListN.{take, drop}
use Rattle.std.specs.Prelude.{Option, Err}
use Rattle.std.proofs.lemmas.Result.{err_from_is_err_and}
use Rattle.octets.specs.Absent.{unless_zero}
use Rattle.refusal.specs.declared.Refusal.TheVariants.{Size, Sid}
use Rattle.list.specs.Identity.{length_of_sid}
use Rattle.list.specs.Entry.{access, kind_of, size_of, head_of, word_after, word_of, guids_of, sid_at, sid_len_of, sid_end, tail_of}
use Rattle.list.specs.Inner.Begins.{tail_check}
use Rattle.list.proofs.Found.{found, missed, part-found, part-missed}
use Rattle.list.proofs.Sids.{sid-most}
use Rattle.list.proofs.Cases.{bad-d, bad-e, bad-f, bad-g, bad-tail, bad-long, good-tail, good}
use Rattle.list.proofs.entries.body_of.Goals as goal

-- the callees' results, as the definition names them
word-is : (t : List ℕ) (head word : ℕ) → head ≡ head_of (kind_of t) → word ≡ word_after head t → word ≡ word_of t
word-is t head word h w = w ∙ ap (λ (n : ℕ). word_after n t) h

sid-is : (t : List ℕ) (head word guids : ℕ) (o : Option ℕ) → head ≡ head_of (kind_of t) → word ≡ word_of t → guids ≡ guids_of word
    → o ≡ unless_zero (length_of_sid (drop (head + guids) t)) → o ≡ unless_zero (sid_len_of t)
sid-is t head word guids o h w g e = rw (← w, ← h, ← g) e

pub returns-then-size-head : goal.returns-then-size-head
returns-then-size-head c = λ rev b. bad-d access rev c.args.t.now b (omega arith)

pub returns-then-word-gt3 : goal.returns-then-word-gt3
returns-then-word-gt3 c =
    let t = c.args.t.now in
    λ rev b. let w = word-is t _ _ c.head_len-head.ensures c.object_word-word.ensures in bad-e access rev t b (omega arith) (omega arith)

pub returns-then-size-sid : goal.returns-then-size-sid
returns-then-size-sid c =
    let t = c.args.t.now in
    λ rev b. let w = word-is t _ _ c.head_len-head.ensures c.object_word-word.ensures in bad-f access rev t b (omega arith) (omega arith) (omega arith)

pub returns-in_err-sid_len : goal.returns-in_err-sid_len
returns-in_err-sid_len c =
    let t = c.args.t.now in
    let w = word-is t _ _ c.head_len-head.ensures c.object_word-word.ensures in
    let e = missed (sid_len_of t) Sid (sid-is t _ _ _ _ c.head_len-head.ensures w c.guids_len.ensures c.sid_at.ensures) c.ok_or.ensures.value c.in_err-sid_len.was in
    let p = err_from_is_err_and c.from_residual.result c.from_residual.ensures.1 in
    λ rev b. rw (p.1, p.2) (ap Err (sym e.1) ∙ bad-g access rev t b (omega arith) (omega arith) (omega arith) (omega arith))

pub overflow_add-sid-3 : goal.overflow_add-sid-3
overflow_add-sid-3 c =
    let t = c.args.t.now in
    let w = word-is t _ _ c.head_len-head.ensures c.object_word-word.ensures in
    let e = found (sid_len_of t) Sid (sid-is t _ _ _ _ c.head_len-head.ensures w c.guids_len.ensures c.sid_at.ensures) c.ok_or.ensures.value c.in_ok-sid_len.was in
    omega (arith, sid-most (drop (sid_at t) t))

-- where the SID ends, and what follows it
end-is : (t : List ℕ) (head word guids len : ℕ) → head ≡ head_of (kind_of t) → word ≡ word_of t → guids ≡ guids_of word → sid_len_of t ≡ len → head + guids + len ≡ sid_end t
end-is t head word guids len h w g e = rw (g, w, h, ← e) refl

pub returns-in_err-tail : goal.returns-in_err-tail
returns-in_err-tail c =
    let t = c.args.t.now in
    let w = word-is t _ _ c.head_len-head.ensures c.object_word-word.ensures in
    let e = found (sid_len_of t) Sid (sid-is t _ _ _ _ c.head_len-head.ensures w c.guids_len.ensures c.sid_at.ensures) c.ok_or.ensures.value c.in_ok-sid_len.was in
    let z = end-is t _ _ _ _ c.head_len-head.ensures w c.guids_len.ensures e.0 in
    let m = part-missed Size t _ _ c.get.result c.get.ensures.lookup c.ok_or-2.ensures.value _ c.in_err-tail.was in
    let l : size_of t < sid_end t = elim m.0 [ inl h ↦ omega arith | inr h ↦ absurd (omega arith) ] in
    let p = err_from_is_err_and c.from_residual-in_err-tail.result c.from_residual-in_err-tail.ensures.1 in
    λ rev b. rw (p.1, p.2) (ap Err (sym m.1) ∙ bad-long access rev t b (omega arith) (omega arith) (omega arith) (omega arith) l)

tail-is : (t : List ℕ) (end size : ℕ) (tail : List ℕ) → end ≡ sid_end t → size ≡ size_of t → tail ≡ take (size - end) (drop end t) → tail ≡ tail_of t
tail-is t end size tail z y e = e ∙ ap₂ (λ (n k : ℕ). take (n - k) (drop k t)) y z

pub returns-in_err-check_tail : goal.returns-in_err-check_tail
returns-in_err-check_tail c =
    let t = c.args.t.now in
    let w = word-is t _ _ c.head_len-head.ensures c.object_word-word.ensures in
    let e = found (sid_len_of t) Sid (sid-is t _ _ _ _ c.head_len-head.ensures w c.guids_len.ensures c.sid_at.ensures) c.ok_or.ensures.value c.in_ok-sid_len.was in
    let z = end-is t _ _ _ _ c.head_len-head.ensures w c.guids_len.ensures e.0 in
    let m = part-found Size t _ _ c.get.result c.get.ensures.lookup c.ok_or-2.ensures.value _ c.in_ok-tail.was in
    let l : sid_end t ≤ size_of t = omega arith in
    let q = tail-is t _ _ _ z c.requires.1 m.1 in
    let p = err_from_is_err_and c.from_residual-in_err-check_tail.result c.from_residual-in_err-check_tail.ensures.1 in
    let x = sym (ap (tail_check (kind_of t)) q) ∙ sym c.check_tail.ensures ∙ c.in_err-check_tail.was in
    λ rev b. rw (p.1, p.2) (bad-tail access rev t b (omega arith) (omega arith) (omega arith) (omega arith) l _ x)

pub returns : goal.returns
returns c =
    let t = c.args.t.now in
    let w = word-is t _ _ c.head_len-head.ensures c.object_word-word.ensures in
    let e = found (sid_len_of t) Sid (sid-is t _ _ _ _ c.head_len-head.ensures w c.guids_len.ensures c.sid_at.ensures) c.ok_or.ensures.value c.in_ok-sid_len.was in
    let z = end-is t _ _ _ _ c.head_len-head.ensures w c.guids_len.ensures e.0 in
    let m = part-found Size t _ _ c.get.result c.get.ensures.lookup c.ok_or-2.ensures.value _ c.in_ok-tail.was in
    let l : sid_end t ≤ size_of t = omega arith in
    let q = tail-is t _ _ _ z c.requires.1 m.1 in
    let x = good-tail t (omega arith) l (sym (ap (tail_check (kind_of t)) q) ∙ sym c.check_tail.ensures ∙ c.in_ok-check_tail.was) in
    let size_is = c.requires.1 in
    λ rev b. simp (sym e.0, c.guids_len.ensures, w, c.head_len-head.ensures, size_is, c.word_in.ensures)
    (good access rev t b (omega arith) (omega arith) (omega arith) (omega arith) x.0 x.1)
