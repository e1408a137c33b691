use Rattle.std.proofs.Common.{refl, sym, subst, arith}
use Rattle.iges_params.specs.Contents.{Contents}
use Rattle.iges_write.specs.Text.{IsText}
use Rattle.sample_solids.proofs.ReadBack.{has_text}
use Rattle.iges_solid_cmd.proofs.sampling.sample_text.Goals as goal

pub unreachable-requires : goal.unreachable-requires
unreachable-requires c =
    let t = has_text c.args.n c.requires.0 c.requires.1 in
    let large = rw c.in-Err-TooLarge.field-0-is at c.in-Err-TooLarge.ensures.large in
    let past = large refl t.0 (subst (λ (f : Contents). IsText f t.0) (sym c.in_ok-file.ensures.found) t.1) in
    omega (arith, past, t.2)
