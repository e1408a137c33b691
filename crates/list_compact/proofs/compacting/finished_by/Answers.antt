use Rattle.list_compact.proofs.AllUsed.{again_as, nothing_dropped}
use Rattle.list_compact.proofs.FileSteps.{extracted_records, not_refused_as, compacted_is}
use Rattle.list_compact.proofs.compacting.finished_by.Goals as goal

pub returns-then-are_all : goal.returns-then-are_all
returns-then-are_all c f n x holds =
    let g = c.args.file in
    let marks = c.requires in
    let all = c.are_all.ensures in
    let same = nothing_dropped g (extracted_records f g n x.extracted) c.args.marks.now.edges c.args.marks.now.vertices marks.edge_sizes
    marks.vertex_sizes marks.edges marks.vertices (all.edges c.if-are_all.true) (all.vertices c.if-are_all.true) in
    compacted_is f g g g n c.args.no.0 x holds same (again_as f g n c.args.no.0 x)

pub dropped-requires-clause-records : goal.dropped-requires-clause-records
dropped-requires-clause-records c = let k = c.requires.made in extracted_records k.0 c.args.file k.1 k.2.extracted

pub extracted-requires : goal.extracted-requires
extracted-requires c entity reason h =
    let k = c.requires.made in not_refused_as k.0 c.args.file c.in_ok-new.new k.1 c.args.no.0 k.2 c.in_ok-new.ensures entity reason h

pub returns : goal.returns
returns c f n x holds =
    compacted_is f c.args.file c.in_ok-new.new c.in_ok-extracted.field-0 n c.args.no.0 x holds c.in_ok-new.ensures c.in_ok-extracted.ensures
