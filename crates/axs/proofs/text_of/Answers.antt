-- The three ends of a run. Assumes nothing.
use borrow.Author.Rules.{rules}
use native.Mathlib.Omega.{arith}
use mathlib.Core.Path.{◌≡◌, refl}
use lib.ListN.{length}
use Rattle.axs.proofs.Speeches.{Texted, whole-texted, bad-texted, spoken, failed-said}
use Rattle.axs.proofs.text_of.Goals as goal
use Rattle.axs.proofs.text_of.Goals.{in-Whole, in-Bad}

pub returns-in-Failed : goal.returns-in-Failed
returns-in-Failed c = failed-said _ _ c.in-Failed.is refl refl

pub shared_ref_as_front-result : goal.shared_ref_as_front-result
shared_ref_as_front-result c =
    let a = c.args in
    let t : Texted a.end a.room.now c.match-end.answer c.match-end.out = elim c.match-end.branch [
      | in-Whole w ↦ rw (w.out-is, w.answer-is) (whole-texted a.end a.room.now a.out.now (search rules) w.in-Whole.is c.requires (search rules) w.listing-answer.ensures)
      | in-Bad w ↦ rw (w.out-is, w.answer-is) (bad-texted a.end a.room.now a.out.now (search rules) w.in-Bad.is (omega arith) w.bad_at-answer.ensures)
    ] in
    let m : length c.match-end.out ≡ 4096 = elim c.match-end.branch [
      | in-Whole w ↦ search rules
      | in-Bad w ↦ search rules
    ] in
    rw (← m) (t.whole c.in-Ok.done c.in-Ok.is).0

pub returns-in-Ok : goal.returns-in-Ok
returns-in-Ok c =
    let a = c.args in
    let t : Texted a.end a.room.now c.match-end.answer c.match-end.out = elim c.match-end.branch [
      | in-Whole w ↦ rw (w.out-is, w.answer-is) (whole-texted a.end a.room.now a.out.now (search rules) w.in-Whole.is c.requires (search rules) w.listing-answer.ensures)
      | in-Bad w ↦ rw (w.out-is, w.answer-is) (bad-texted a.end a.room.now a.out.now (search rules) w.in-Bad.is (omega arith) w.bad_at-answer.ensures)
    ] in
    spoken t _ refl (t.whole c.in-Ok.done c.in-Ok.is).1

pub returns-in-Err : goal.returns-in-Err
returns-in-Err c =
    let a = c.args in
    let t : Texted a.end a.room.now c.match-end.answer c.match-end.out = elim c.match-end.branch [
      | in-Whole w ↦ rw (w.out-is, w.answer-is) (whole-texted a.end a.room.now a.out.now (search rules) w.in-Whole.is c.requires (search rules) w.listing-answer.ensures)
      | in-Bad w ↦ rw (w.out-is, w.answer-is) (bad-texted a.end a.room.now a.out.now (search rules) w.in-Bad.is (omega arith) w.bad_at-answer.ensures)
    ] in
    absurd (t.never _ c.in-Err.is)
