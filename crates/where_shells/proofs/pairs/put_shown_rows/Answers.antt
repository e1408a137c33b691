use Rattle.std.proofs.Common.{ℕ, slice_get}
use Rattle.where_shells.specs.Pair.{row_fact, row_named}
use Rattle.where_shells.proofs.Steps.{written_more}
use Rattle.where_shells.proofs.pairs.put_shown_rows.Goals as goal

pub rows-preserved : goal.rows-preserved
rows-preserved c = record {
  text = written_more (λ (r : ℕ). row_fact c.args.view.now.file.now c.args.shell_flag (slice_get c.args.places.now r)) c.args.rows.now c.rows.i 0
      c.rows.page.out c.put_row.new.page.out _ c.rows-test.true c.rows.invariant.text c.in_ok-put_row.ensures.text;
  named = written_more (λ (r : ℕ). row_named (slice_get c.args.places.now r)) c.args.rows.now c.rows.i 0 c.rows.page.named c.put_row.new.page.named _
      c.rows-test.true c.rows.invariant.named c.in_ok-put_row.ensures.named;
}
