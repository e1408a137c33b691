use Rattle.solid_data.specs.Ranges.{IsWithin}
use Rattle.std.proofs.Common.{arith}
use Rattle.open_certificate.specs.Sound.{IsOnce}
use Rattle.open_shells.specs.Mating.{AreRowsOf}
use Rattle.solid_data.proofs.Members.{All-at, has_get}
use Rattle.open_shells.proofs.OnceMates.{zip_more, zip_done, seen_there}
use Rattle.open_shells.proofs.mating.open_edges.Goals as goal

pub edges-preserved : goal.edges-preserved
edges-preserved c =
    let once = All-at (IsOnce c.args.rows.now) c.args.rows.now.edges c.requires.once c.edge_at.result
    (has_get c.args.rows.now.edges c.edges.i c.edge_at.result c.edge_at.ensures) in
    zip_more (AreRowsOf c.args.rows.now) c.args.rows.now.edges c.edges.i c.edge_at.result c.rows_of_edge.result c.edges.edges c.push.new.self c.edge_at.ensures
    (c.rows_of_edge.ensures c.args.rows.now c.edge_at.result
    (seen_there c.args.rows.now c.args.tally.now.span c.args.tally.now.seen c.edge_at.result c.of.result c.requires.tally
    (All-at (IsWithin c.args.tally.now.span) c.args.rows.now.edges c.requires.span c.edge_at.result
    (has_get c.args.rows.now.edges c.edges.i c.edge_at.result c.edge_at.ensures)) c.of.ensures) once) c.in_ok-push.ensures.ok c.edges.invariant

pub returns : goal.returns
returns c = zip_done (AreRowsOf c.args.rows.now) c.args.rows.now.edges c.edges.i c.edges.edges (omega (arith, c.edge_count-i-end.ensures)) c.edges.invariant
