-- Each return is a way that a script ends. Assumes nothing.
use native.Mathlib.Omega.{arith}
use mathlib.Core.Path.{refl, sym, ◌∙◌}
use Rattle.script.proofs.Plays.{head-long, plays-head, ran, ran-within, plays-bad, plays-whole}
use Rattle.script.proofs.play_in.Goals as goal

pub returns-then-not-head_ok : goal.returns-then-not-head_ok
returns-then-not-head_ok c = plays-head c.args.script.now _ _ _ (sym c.head_ok.ensures ∙ c.if-not-head_ok.true) c.bad_at.ensures

pub slice_bounds-feed-count : goal.slice_bounds-feed-count
slice_bounds-feed-count c = let l = head-long _ (sym c.head_ok.ensures ∙ c.if-not-head_ok.false) in omega arith

pub slice_bounds-feed-start : goal.slice_bounds-feed-start
slice_bounds-feed-start c = let l = head-long _ (sym c.head_ok.ensures ∙ c.if-not-head_ok.false) in omega arith

pub overflow_add-end : goal.overflow_add-end
overflow_add-end c =
    let f = c.feed-run.ensures in
    let x = ran c.args.script.now c.args.room.now _ _ _ _ (sym c.head_ok.ensures ∙ c.if-not-head_ok.false) c.requires c.begin.ensures.bytes refl f.0 f.1.1 in
    omega (arith, ran-within _ _ _ x)

pub returns-then-end-script : goal.returns-then-end-script
returns-then-end-script c =
    let f = c.feed-run.ensures in
    let x = ran c.args.script.now c.args.room.now _ _ _ _ (sym c.head_ok.ensures ∙ c.if-not-head_ok.false) c.requires c.begin.ensures.bytes refl f.0 f.1.1 in
    plays-bad _ _ _ x _ _ _ (omega arith) c.bad_at-then-end-script.ensures

pub returns : goal.returns
returns c =
    let f = c.feed-run.ensures in
    let x = ran c.args.script.now c.args.room.now _ _ _ _ (sym c.head_ok.ensures ∙ c.if-not-head_ok.false) c.requires c.begin.ensures.bytes refl f.0 f.1.1 in
    plays-whole _ _ _ x _ _ _ (omega arith) c.listing.ensures
