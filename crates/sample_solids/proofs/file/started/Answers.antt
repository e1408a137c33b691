use Rattle.std.proofs.Common.{rules}
use Rattle.sample_solids.specs.Sample.{start_line}
use Rattle.sample_solids.proofs.file.started.Goals as goal

pub returns : goal.returns
unfolding start_line
returns c = search rules
