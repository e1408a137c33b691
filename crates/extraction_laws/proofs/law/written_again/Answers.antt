use Rattle.extraction_laws.proofs.WrittenText.{written_again}
use Rattle.extraction_laws.proofs.law.written_again.Goals as goal

pub returns : goal.returns
returns c = written_again
