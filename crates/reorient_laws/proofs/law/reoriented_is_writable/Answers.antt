use Rattle.reorient_laws.proofs.WrittenText.{reoriented_writable}
use Rattle.reorient_laws.proofs.law.reoriented_is_writable.Goals as goal

pub returns : goal.returns
returns c = reoriented_writable
