use Rattle.solid_extract.proofs.One.{IsExtracted-unique, IsRefused-unique, IsExtracted-IsRefused}
use Rattle.solid_extract.proofs.law.one_extraction.Goals as goal

pub returns-clause-file : goal.returns-clause-file
returns-clause-file c = IsExtracted-unique

pub returns-clause-refusal : goal.returns-clause-refusal
returns-clause-refusal c = IsRefused-unique

pub returns-clause-not_both : goal.returns-clause-not_both
returns-clause-not_both c = IsExtracted-IsRefused
