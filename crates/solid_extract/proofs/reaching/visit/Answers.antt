use Rattle.entry_references.specs.Refs.{Record}
use Rattle.entry_references.proofs.RefLists.{found_record, refs_named}
use Rattle.solid_extract.proofs.FloodSteps.{no_fault, a_fault}
use Rattle.solid_extract.proofs.reaching.visit.Goals as goal

pub add_numbers-requires-clause-name : goal.add_numbers-requires-clause-name
add_numbers-requires-clause-name c =
    let r : Record = (c.in-Some.record.entry.now, c.in-Some.record.values.now) in
    refs_named c.args.file.now r c.put_refs.new.scratch.numbers c.in-Ok.ensures.ok

pub returns-in_ok-add_numbers-in-Ok-clause-fault : goal.returns-in_ok-add_numbers-in-Ok-clause-fault
returns-in_ok-add_numbers-in-Ok-clause-fault c =
    let r : Record = (c.in-Some.record.entry.now, c.in-Some.record.values.now) in
    no_fault c.args.file.now c.args.no.0 r c.put_refs.new.scratch.numbers
    (found_record c.args.file.now c.args.no.0 c.record_of.result c.in-Some.record c.record_of.ensures c.in-Some.is) c.in-Ok.ensures.ok

pub returns-in-Err-clause-fault : goal.returns-in-Err-clause-fault
returns-in-Err-clause-fault c =
    let r : Record = (c.in-Some.record.entry.now, c.in-Some.record.values.now) in
    a_fault c.args.file.now c.args.no.0 r c.in-Err.fault c.reason_of.result
    (found_record c.args.file.now c.args.no.0 c.record_of.result c.in-Some.record c.record_of.ensures c.in-Some.is) c.in-Err.ensures.err c.reason_of.ensures
