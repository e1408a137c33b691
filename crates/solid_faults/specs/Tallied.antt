-- Private: rows whose edges are tallied.
use Rattle.std.specs.Prelude.{List}
use Rattle.solid_data.specs.declared.spanning.Span.{Span}
use Rattle.solid_data.specs.Ranges.{IsSpanOf}
use Rattle.edge_uses.specs.declared.tally.Seen.{Seen}
use Rattle.edge_uses.specs.ShellRows.{ShellRows, AreRows}
use Rattle.edge_uses.specs.Tally.{IsTally}

-- the rows' edges lie in the range, and each is tallied
pub record AreTallied (d : ShellRows) (range : Span) (seen : List Seen) : Type 0 where
  pub rows : AreRows d
  pub span : IsSpanOf range d.edges
  pub tally : IsTally d range seen
