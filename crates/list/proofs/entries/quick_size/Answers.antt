-- A good entry by `plain-sound` or `object-sound`. Assumes nothing.
use native.Mathlib.Omega.{arith}
use mathlib.Core.Path.{◌≡◌, sym, ap, ◌∙◌}
use lib.ListN.{drop}
use Rattle.octets.specs.Bytes.{le}
use Rattle.list.specs.Entry.{guids_of}
use Rattle.std.proofs.lemmas.Option.{IfSome_then}
use Rattle.list.proofs.Quick.{plain-sound, object-sound}
use Rattle.list.proofs.entries.quick_size.Goals as goal

pub returns-then-kind-le1 : goal.returns-then-kind-le1
returns-then-kind-le1 c =
    let t = c.args.t.now in
    let size_is = c.half_in-size.ensures in
    IfSome_then c.ending.result c.ending.ensures
    (λ n e. (e.0 ∙ size_is, plain-sound c.args.rev t (omega arith) (omega (arith, size_is)) (omega arith) (omega arith) e.1 (e.2 ∙ size_is)))

pub returns : goal.returns
returns c =
    let t = c.args.t.now in
    let w = c.word_in-word.ensures in
    let size_is = c.half_in-size.ensures in
    let g : c.guids_len.result ≡ guids_of (le 4 (drop 8 t)) = c.guids_len.ensures ∙ ap guids_of w in
    let object = sym c.is_object.ensures ∙ c.if-not-is_object.false in
    IfSome_then c.ending-2.result c.ending-2.ensures
    (λ n e. (
      e.0 ∙ size_is,
      object-sound c.args.rev t (omega arith) (omega (arith, size_is)) (omega arith) object c.if-rev-ne4.false (omega (arith, w))
          (rw g at e.1) (rw g at e.2 ∙ size_is),
    ))
