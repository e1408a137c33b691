use Rattle.list_compact.proofs.Faultless.{extracted_faultless}
use Rattle.list_compact.proofs.law.extracted_is_faultless.Goals as goal

pub returns : goal.returns
returns c = extracted_faultless
