use Rattle.solid_reorient.proofs.FileAgain.{extracted_still}
use Rattle.solid_reorient.proofs.law.reflagged_is_extracted.Goals as goal

pub returns : goal.returns
returns c = extracted_still
