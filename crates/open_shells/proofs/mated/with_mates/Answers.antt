use Rattle.std.proofs.lemmas.List.Elements.{recursion_from_All}
use Rattle.solid_data.specs.Ranges.{IsWithin}
use Rattle.edge_uses.proofs.Mating.{rows_within}
use Rattle.open_shells.proofs.mated.with_mates.Goals as goal

pub mates_by-made-requires-clause-rows : goal.mates_by-made-requires-clause-rows
mates_by-made-requires-clause-rows c = rows_within c.args.rows.now.edges c.args.rows.now.rows c.in_ok-tally.tally.span c.in_ok-tally.ensures.kept.edges_hold
    c.in_ok-tally.ensures.span.holds

pub mates_by-made-requires-clause-edges : goal.mates_by-made-requires-clause-edges
mates_by-made-requires-clause-edges c = recursion_from_All (IsWithin c.in_ok-tally.tally.span) c.args.rows.now.edges c.in_ok-tally.ensures.span.holds
