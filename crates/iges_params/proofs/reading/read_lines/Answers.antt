use Rattle.std.proofs.Common.{length, refl, ap}
use Rattle.iges_params.specs.declared.global.Global26.{Global26}
use Rattle.iges_params.proofs.EntryPass.{entry_record}
use Rattle.iges_params.proofs.FilePass.{begun_go_on}
use Rattle.iges_params.proofs.reading.read_lines.Goals as goal

pub read_records-requires-clause-records : goal.read_records-requires-clause-records
read_records-requires-clause-records c = λ i p lt is. let begun = c.in-Ok.ensures {u =
    tt} in entry_record (length c.args.lines.now.param) c.args.lines.now.directory c.in-Ok.entries i p begun.directory is

pub returns-in-Ok-read_records : goal.returns-in-Ok-read_records
returns-in-Ok-read_records c =
    let same = ap (λ (g : Global26). g.delims) c.global.ensures.is in
    let read = rw same at (c.in-Ok-read_records.ensures {u = tt}).read in
    begun_go_on c.args.lines.now c.in-Ok.file c.in-Ok.entries
    (c.in-Ok.ensures {u = tt}) c.lines_above.result c.lines_above.ensures.is c.args.lines.now.param refl _
    (c.filled.ensures c.lines_above.result c.args.lines.now.param read)
