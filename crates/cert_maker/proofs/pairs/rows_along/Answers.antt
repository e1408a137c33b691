use Rattle.std.proofs.Common.{arith}
use Rattle.cert_maker.proofs.EdgeRows.{noted}
use Rattle.cert_maker.proofs.pairs.rows_along.Goals as goal

pub rows-preserved : goal.rows-preserved
rows-preserved c = record {
  len = c.note.ensures.len;
  along = noted c.args.rows.now c.args.span c.rows.i c.row_at.result c.rows.along.items c.note.new.along.items c.row_at.ensures c.requires
      (omega (arith, c.rows.invariant.len)) c.note.ensures.along c.note.ensures.against c.rows.invariant.along;
}
