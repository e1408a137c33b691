use Rattle.sample_solids.specs.Sample.{sample}
use Rattle.iges_solid_cmd.proofs.SampleFacts.{made_accepted, opens_well, no_bad_line}
use Rattle.iges_solid_cmd.proofs.sampling.check_text.Goals as goal

pub unreachable-requires : goal.unreachable-requires
unreachable-requires c = opens_well (sample c.args.n) 1 c.args.text.now c.in_default.field-0
    (made_accepted c.args.n c.requires.size c.args.text.now c.requires.text) (c.in_default.ensures {u = tt})

pub unreachable-requires-in_default-check : goal.unreachable-requires-in_default-check
unreachable-requires-in_default-check c =
    no_bad_line (sample c.args.n) 1 _ _ c.args.solid.now c.args.text.now _ c.in_default-check.field-0
    (made_accepted c.args.n c.requires.size c.args.text.now c.requires.text) c.requires.sample c.in-Ok.ensures
    ((c.in_default-check.ensures {u = tt}).whole _ c.args.solid.now 3 c.in_ok-checker.ensures.fed)
