use Rattle.solid_extract.proofs.KeptFile.{extracted_is_made}
use Rattle.solid_extract.proofs.law.extracted_is_made.Goals as goal

pub returns : goal.returns
returns c = extracted_is_made
