use Rattle.solid_extract.proofs.Again.{extracted_again}
use Rattle.solid_extract.proofs.law.extracted_again.Goals as goal

pub returns : goal.returns
returns c = extracted_again
