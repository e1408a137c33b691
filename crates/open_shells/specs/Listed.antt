-- What a certificate of an open shell lists.
use Rattle.std.specs.Prelude.{List, map}
use Rattle.std.specs.List.{AllZip}
use Rattle.solid_data.specs.declared.solid.RowId.{RowId}
use Rattle.edge_uses.specs.ShellRows.{ShellRows}
use Rattle.open_shells.specs.Mating.{AreRowsOf}
use Rattle.open_shells.specs.FanParts.{LiesAt}
use Rattle.open_shells.specs.BorderParts.{AreBorderCycles}
use Rattle.shell_reach.specs.Reaching.{ReachesAll, row_numbers}
use Rattle.open_certificate.specs.declared.parts.OpenEdge.{OpenEdge}
use Rattle.open_certificate.specs.declared.parts.OpenCorner.{OpenCorner}

-- The rows of each edge, what lies at each vertex, both by rising number, rows that reach the faces, and the cycles of border rows.
pub record AreListedParts (d : ShellRows) (edges : List OpenEdge) (corners : List OpenCorner) (reach : List RowId) (borders : List (List RowId)) : Type 0 where
  pub each_edge : AllZip (AreRowsOf d) d.edges edges
  pub each_vertex : AllZip (LiesAt d) d.vertices corners
  pub each_face : ReachesAll d (row_numbers reach)
  pub each_border : AreBorderCycles d (map row_numbers borders)
