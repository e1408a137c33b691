use Rattle.solid_data.proofs.Members.{All-at, has_get}
use Rattle.solid_data.specs.Ranges.{IsWithin}
use Rattle.edge_uses.specs.declared.row.Row.{Row}
use Rattle.std.proofs.Common.{arith, ap, ◌∷◌, [], length, length-append}
use Rattle.open_shells.proofs.OnceMates.{row_once, mate_pushed, seen_there}
use Rattle.open_shells.proofs.mating.open_mates.Goals as goal

pub rows-preserved : goal.rows-preserved
rows-preserved c =
    let mate = c.mate_in.ensures c.args.rows.now c.rows.i c.row_at-row.ensures
    (seen_there c.args.rows.now c.args.tally.now.span c.args.tally.now.seen c.row_at-row.result.edge.0 c.of.result c.requires.tally
    (All-at (λ (r : Row). IsWithin c.args.tally.now.span r.edge.0) c.args.rows.now.rows c.requires.span c.row_at-row.result
    (has_get c.args.rows.now.rows c.rows.i c.row_at-row.result c.row_at-row.ensures)) c.of.ensures)
    (row_once c.args.rows.now c.requires.whole c.rows.i c.row_at-row.result c.row_at-row.ensures) in
    record {
      len = omega (arith, ap (λ xs. length xs) c.in_ok-push_mate.ensures, length-append c.rows.mates.items (c.mate_in.result ∷ []), c.rows.invariant.len);
      mate = mate_pushed c.args.rows.now c.rows.i c.rows.mates.items c.push_mate.new.mates.items c.mate_in.result c.rows.invariant.len mate
          c.in_ok-push_mate.ensures c.rows.invariant.mate;
    }
