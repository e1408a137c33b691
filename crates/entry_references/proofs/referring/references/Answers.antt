use Rattle.entry_references.proofs.RefLists.{only_references, only_ref_fault}
use Rattle.entry_references.proofs.referring.references.Goals as goal

pub returns-clause-only : goal.returns-clause-only
returns-clause-only c nos h = only_references c.args.file.now c.args.no.0 c.rising_references.result nos c.rising_references.ensures.found
    c.rising_references.ensures.fault h

pub returns-clause-only_fault : goal.returns-clause-only_fault
returns-clause-only_fault c reason h = only_ref_fault c.args.file.now c.args.no.0 c.rising_references.result reason c.rising_references.ensures.found
    c.rising_references.ensures.fault h
