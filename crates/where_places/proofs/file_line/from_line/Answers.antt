use Rattle.where_places.specs.FileLine.{from_line}
use Rattle.where_places.proofs.Counting.{line_more, line_last}
use Rattle.where_places.proofs.file_line.from_line.Goals as goal

-- src/file_line.rt:47:5
pub lines-preserved : goal.lines-preserved
lines-preserved c = line_more c.lines.left c.lines.rest.now c.behind_piece-rest.result.now (from_line c.args.count c.args.bytes.now)
    c.lines-test.true c.behind_piece-rest.ensures c.lines.invariant

-- src/file_line.rt:42:1
pub returns : goal.returns
returns c = line_last c.lines.left c.lines.rest.now (from_line c.args.count c.args.bytes.now) c.lines-test.false c.lines.invariant
