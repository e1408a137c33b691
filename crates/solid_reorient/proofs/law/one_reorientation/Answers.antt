use Rattle.solid_reorient.proofs.OneFile.{no_other_flags, one_file}
use Rattle.solid_reorient.proofs.law.one_reorientation.Goals as goal

pub returns-clause-flags : goal.returns-clause-flags
returns-clause-flags c = no_other_flags

pub returns-clause-file : goal.returns-clause-file
returns-clause-file c = one_file
