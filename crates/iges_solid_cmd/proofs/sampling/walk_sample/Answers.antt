use Rattle.std.proofs.Common.{rules}
use Rattle.solid_data.specs.Obligations.{FirstFalse}
use Rattle.brep_walk.specs.Places.{places}
use Rattle.iges_solid_cmd.proofs.SampleFacts.{no_place_fails}
use Rattle.iges_solid_cmd.proofs.sampling.walk_sample.Goals as goal

pub unreachable-requires : goal.unreachable-requires
unreachable-requires c =
    let first : FirstFalse (places c.args.file.now 1) c.in-Err-Fails.field-0-0 = search rules in
    no_place_fails c.args.n c.requires.size c.args.file.now c.in-Err-Fails.field-0-0 c.requires.sample first
