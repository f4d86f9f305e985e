-- What it tells of a list of bytes fits 32 bits. Assumes nothing.
use Rattle.std.proofs.Common.{◌≡◌, sym, ◌∙◌, arith, ℕ, List}
use Rattle.std.specs.Prelude.{Option, Some, None, Ok}
use Rattle.octets.specs.Bytes.{Bytes}
use Rattle.access.specs.declared.steps.Found.{Found}
use Rattle.access.specs.Walk.{pointed_of}
use Rattle.access.proofs.Small.{pointed-small}
use Rattle.capi.specs.Places.{Told32}
use Rattle.capi.proofs.pt_step.Goals as goal

told-fits : (s : List ℕ) (place : ℕ) (f : Option Found) → Bytes s → pointed_of s place ≡ Ok f → Told32 f
told-fits s place (Some f) d h =
    let i = pointed-small s place f d h in
    (omega (arith, i.ends, i.last), omega (arith, i.ends, i.last), omega (arith, i.sid, i.ends, i.last), omega (arith, i.sid, i.ends, i.last), omega (arith, i.last))
told-fits s place None d h = tt

pub put_found-requires : goal.put_found-requires
put_found-requires c =
    told-fits c.args.list.now c.args.place c.in-Ok.found (λ k. (c.type_inv.list k).fits) (sym c.step_from.ensures ∙ c.in-Ok.is)
