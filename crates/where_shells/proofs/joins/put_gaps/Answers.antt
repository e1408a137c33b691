use Rattle.where_shells.specs.Join.{gap_face, gap_text}
use Rattle.where_shells.proofs.Steps.{written_more, named_more}
use Rattle.where_shells.proofs.joins.put_gaps.Goals as goal

pub gaps-preserved : goal.gaps-preserved
gaps-preserved c = record {
  text = written_more (gap_text c.args.view.now.file.now c.args.view.now.solid.now c.args.faces.now) c.args.gaps.now c.gaps.i _ c.gaps.page.out
      c.put_gap.new.page.out _ c.gaps-test.true c.gaps.invariant.text c.in_ok-put_gap.ensures.text;
  named = named_more (gap_face c.args.faces.now) c.args.gaps.now c.gaps.i _ c.gaps.page.named c.put_gap.new.page.named _ c.gaps-test.true
      c.gaps.invariant.named c.in_ok-put_gap.ensures.named;
}
