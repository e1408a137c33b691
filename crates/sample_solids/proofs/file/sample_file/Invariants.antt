use Rattle.std.proofs.Common.{◌≡◌}
use Rattle.sample_solids.specs.Stages.{stage}
use Rattle.sample_solids.proofs.file.sample_file.Given as goal

abbrev pub invariant-squares : goal.invariant-squares
invariant-squares l = l.file ≡ stage l.n l.k
