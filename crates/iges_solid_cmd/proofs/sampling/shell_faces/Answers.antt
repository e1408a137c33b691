use Rattle.std.proofs.Common.{◌≡◌, Some, length, slice_get, rules, ◌∙◌, ap, ◌+◌, drop}
use Rattle.sample_solids.specs.Laws.{faces_in}
use Rattle.iges_solid_cmd.proofs.SampleFacts.{faces_next}
use Rattle.iges_solid_cmd.proofs.sampling.shell_faces.Goals as goal

pub returns : goal.returns
returns c =
    let there : slice_get c.args.solid.now.shells c.args.k ≡ Some c.unwrap.result.now = search rules in
    let counted : c.len.result ≡ length c.unwrap.result.now.faces = search rules in
    ap (λ n. n + length (faces_in (drop (c.args.k + 1) c.args.solid.now.shells))) counted ∙ faces_next c.args.solid.now.shells c.args.k c.unwrap.result.now
    there
