use Rattle.extraction_laws.proofs.CompactedText.{compacted_is_made, compacted_is_writable}
use Rattle.extraction_laws.proofs.law.compacted_is_writable.Goals as goal

pub returns-clause-made : goal.returns-clause-made
returns-clause-made c = compacted_is_made

pub returns-clause-writable : goal.returns-clause-writable
returns-clause-writable c = compacted_is_writable
