use Rattle.solid_extract.proofs.KeptFile.{only_file, only_refusal}
use Rattle.solid_extract.proofs.extraction.extract.Goals as goal

pub returns-clause-only : goal.returns-clause-only
returns-clause-only c new h = only_file c.args.file.now c.args.no.0 c.extracted.result new c.extracted.ensures.found c.extracted.ensures.fault h

pub returns-clause-only_fault : goal.returns-clause-only_fault
returns-clause-only_fault c entity reason h = only_refusal c.args.file.now c.args.no.0 c.extracted.result entity reason c.extracted.ensures.found
    c.extracted.ensures.fault h
