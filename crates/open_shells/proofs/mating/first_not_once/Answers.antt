use Rattle.solid_data.specs.Ranges.{IsWithin}
use Rattle.solid_data.proofs.Members.{All-at, has_get}
use Rattle.std.proofs.Common.{sym, ◌∙◌, ◌≡◌, true, false}
use Rattle.open_certificate.specs.Sound.{IsOnce}
use Rattle.open_shells.proofs.OnceMates.{left_more, left_fails, seen_there}
use Rattle.open_shells.proofs.mating.first_not_once.Goals as goal

pub returns-then-not-is_once : goal.returns-then-not-is_once
returns-then-not-is_once c =
    left_fails (IsOnce c.args.rows.now) c.args.rows.now.edges c.edges.i c.edge_at-edge.result c.edge_at-edge.ensures c.edges.invariant
    (λ once. let e : false ≡ true = sym c.if-not-is_once.true ∙
    (c.is_once.ensures c.args.rows.now c.edge_at-edge.result
    (seen_there c.args.rows.now c.args.tally.now.span c.args.tally.now.seen c.edge_at-edge.result c.of.result c.requires.tally
    (All-at (IsWithin c.args.tally.now.span) c.args.rows.now.edges c.requires.span c.edge_at-edge.result
    (has_get c.args.rows.now.edges c.edges.i c.edge_at-edge.result c.edge_at-edge.ensures)) c.of.ensures)).1 once in cc)

pub edges-preserved : goal.edges-preserved
edges-preserved c =
    left_more (IsOnce c.args.rows.now) c.args.rows.now.edges c.edges.i c.edge_at-edge.result c.edge_at-edge.ensures c.edges.invariant
    ((c.is_once.ensures c.args.rows.now c.edge_at-edge.result
    (seen_there c.args.rows.now c.args.tally.now.span c.args.tally.now.seen c.edge_at-edge.result c.of.result c.requires.tally
    (All-at (IsWithin c.args.tally.now.span) c.args.rows.now.edges c.requires.span c.edge_at-edge.result
    (has_get c.args.rows.now.edges c.edges.i c.edge_at-edge.result c.edge_at-edge.ensures)) c.of.ensures)).0 c.if-not-is_once.false)
