use Rattle.sample_solids.specs.Sample.{sample}
use Rattle.sample_solids.proofs.ReadBack.{back}
use Rattle.iges_solid_cmd.proofs.sampling.read_sample.Goals as goal

pub unreachable-requires : goal.unreachable-requires
unreachable-requires c =
    let only = rw c.in-Err-Bad.field-0-is at c.in-Err-Bad.ensures.only in
    let e = only (sample c.args.n) (back c.args.n c.requires.size.0 c.requires.size.1 c.args.text.now c.requires.text) in
    cc

pub returns-in-Ok : goal.returns-in-Ok
returns-in-Ok c =
    let e = c.in-Ok.ensures.only (sample c.args.n) (back c.args.n c.requires.size.0 c.requires.size.1 c.args.text.now c.requires.text) in
    cc
