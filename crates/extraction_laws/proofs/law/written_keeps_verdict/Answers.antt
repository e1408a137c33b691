use Rattle.extraction_laws.proofs.WrittenText.{written_keeps_verdict}
use Rattle.extraction_laws.proofs.law.written_keeps_verdict.Goals as goal

pub returns : goal.returns
returns c = written_keeps_verdict
