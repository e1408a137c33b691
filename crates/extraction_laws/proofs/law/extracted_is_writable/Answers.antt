use Rattle.extraction_laws.proofs.WrittenText.{extracted_is_writable}
use Rattle.extraction_laws.proofs.law.extracted_is_writable.Goals as goal

pub returns : goal.returns
returns c = extracted_is_writable
