use Rattle.sample_solids.proofs.Growing.{last_stage}
use Rattle.sample_solids.proofs.file.sample_file.Goals as goal

pub returns : goal.returns
returns c = record { found = last_stage c.args.n c.squares.k c.squares.file c.squares-test.false c.squares.invariant }
