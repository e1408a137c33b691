use Rattle.std.proofs.Common.{refl}
use Rattle.entry_references.specs.Refs.{Record}
use Rattle.entry_references.proofs.RefLists.{handed, found_record, ref_fault, refs_named, references_are}
use Rattle.entry_references.proofs.referring.rising_references.Goals as goal

pub returns-in_err-numbers-clause-fault : goal.returns-in_err-numbers-clause-fault
returns-in_err-numbers-clause-fault c =
    let f = c.args.file.now in
    let m = c.args.no.0 in
    let r : Record = (c.unwrap-record.result.entry.now, c.unwrap-record.result.values.now) in
    handed f m c.from_residual.result _
    (ref_fault f m r _ (found_record f m c.record_of.result c.unwrap-record.result c.record_of.ensures c.unwrap-record.ensures) c.in_err-numbers.ensures)
    c.from_residual.ensures.1

pub rising_of-list-requires : goal.rising_of-list-requires
rising_of-list-requires c =
    let r : Record = (c.unwrap-record.result.entry.now, c.unwrap-record.result.values.now) in
    refs_named c.args.file.now r c.in_ok-numbers.numbers c.in_ok-numbers.ensures

pub returns-clause-found : goal.returns-clause-found
returns-clause-found c =
    let f = c.args.file.now in
    let m = c.args.no.0 in
    let r : Record = (c.unwrap-record.result.entry.now, c.unwrap-record.result.values.now) in
    references_are f m r c.in_ok-numbers.numbers _ c.in_ok-list.field-0
    (found_record f m c.record_of.result c.unwrap-record.result c.record_of.ensures c.unwrap-record.ensures) c.in_ok-numbers.ensures
    refl c.in_ok-list.ensures
