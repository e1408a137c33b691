use Rattle.std.proofs.Common.{arith}
use Rattle.list_compact.proofs.AllMarked.{row_more, rows_marked}
use Rattle.list_compact.proofs.marks.Marks.are_all.Goals as goal

pub rows-init : goal.rows-init
rows-init c k i row low at lt = absurd (omega (arith, low))

pub rows-preserved : goal.rows-preserved
rows-preserved c = row_more c.args.self.now c.rows.i c.row.result.now c.row.ensures (c.are_marked-is_whole.ensures c.if-not-is_whole.false) c.rows.invariant

pub returns : goal.returns
returns c t = rows_marked c.args.self.now c.rows.i (omega (arith, c.rows-test.false, c.len-count.ensures)) c.rows.invariant
