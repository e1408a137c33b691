use Rattle.sample_solids.proofs.ReadBack.{within, back, has_text}
use Rattle.sample_solids.proofs.law.samples_read_back.Goals as goal

pub returns-clause-within : goal.returns-clause-within
returns-clause-within c = within

pub returns-clause-reads : goal.returns-clause-reads
returns-clause-reads c = back

pub returns-clause-some : goal.returns-clause-some
returns-clause-some c = has_text
