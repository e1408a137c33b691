use Rattle.std.proofs.Common.{length, ap}
use Rattle.iges_lines.specs.Lines.{SectionLines}
use Rattle.iges_params.specs.declared.global.Global26.{Global26}
use Rattle.iges_params.proofs.EntryPass.{entry_record}
use Rattle.iges_params.proofs.FilePass.{begun_go_on}
use Rattle.iges_params.proofs.reading.read_taken.Goals as goal

pub read_and_give_back-requires-clause-records : goal.read_and_give_back-requires-clause-records
read_and_give_back-requires-clause-records c = λ i p lt is.
    let begun = c.in-Ok.ensures {u = tt} in
    rw c.clear_directory.ensures (entry_record (length c.args.lines.param) c.args.lines.directory c.in-Ok.entries i p begun.directory is)

pub returns-in-Ok-read_and_give_back : goal.returns-in-Ok-read_and_give_back
returns-in-Ok-read_and_give_back c =
    let same = ap (λ (g : Global26). g.delims) c.global.ensures.is in
    let read = rw same at (c.in-Ok-read_and_give_back.ensures {u = tt}).read in
    begun_go_on c.args.lines c.in-Ok.file c.in-Ok.entries (c.in-Ok.ensures {u = tt}) c.lines_above-above.result c.lines_above-above.ensures.is
    c.clear_directory.new.self.param
    (ap (λ (s : SectionLines). s.param) c.clear_directory.ensures) _
    (c.filled.ensures c.lines_above-above.result c.clear_directory.new.self.param read)
