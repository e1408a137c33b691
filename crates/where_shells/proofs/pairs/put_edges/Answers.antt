use Rattle.where_shells.specs.Pair.{edge_named, edge_text}
use Rattle.where_shells.proofs.Steps.{written_more}
use Rattle.where_shells.proofs.pairs.put_edges.Goals as goal

pub edges-preserved : goal.edges-preserved
edges-preserved c =
    let v = c.args.view.now in
    let k = c.args.known.now in
    record {
      text = written_more (edge_text v.listing v.file.now v.solid.now k.flag k.rows.now k.places.items) c.args.unpaired.now c.edges.i _ c.edges.page.out
          c.put_edge.new.page.out _ c.edges-test.true c.edges.invariant.text c.in_ok-put_edge.ensures.text;
      named = written_more (edge_named v.listing k.rows.now k.places.items) c.args.unpaired.now c.edges.i _ c.edges.page.named c.put_edge.new.page.named _
          c.edges-test.true c.edges.invariant.named c.in_ok-put_edge.ensures.named;
    }
