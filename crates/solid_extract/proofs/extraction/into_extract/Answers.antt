use Rattle.solid_extract.proofs.KeptFile.{only_file, only_refusal}
use Rattle.solid_extract.proofs.extraction.into_extract.Goals as goal

pub returns-clause-only : goal.returns-clause-only
returns-clause-only c new h = only_file c.args.file c.args.no.0 c.extracted_of.result new c.extracted_of.ensures.found c.extracted_of.ensures.fault h

pub returns-clause-only_fault : goal.returns-clause-only_fault
returns-clause-only_fault c entity reason h = only_refusal c.args.file c.args.no.0 c.extracted_of.result entity reason c.extracted_of.ensures.found
    c.extracted_of.ensures.fault h
