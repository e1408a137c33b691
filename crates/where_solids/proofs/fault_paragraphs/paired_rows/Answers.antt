use Rattle.solid_faults.proofs.Assembled.{some_unpaired}
use Rattle.where_solids.proofs.fault_paragraphs.paired_rows.Goals as goal

pub unreachable-requires : goal.unreachable-requires
unreachable-requires c =
    let first = rw c.in-Err-Unpaired.field-0-is at c.in-Err-Unpaired.ensures.fault in
    some_unpaired c.args.rows.now c.in-Err-Unpaired.field-0-0.0 first c.requires.paired
