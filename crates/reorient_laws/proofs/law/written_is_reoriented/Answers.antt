use Rattle.reorient_laws.proofs.WrittenText.{written_reoriented}
use Rattle.reorient_laws.proofs.law.written_is_reoriented.Goals as goal

pub returns : goal.returns
returns c = written_reoriented
