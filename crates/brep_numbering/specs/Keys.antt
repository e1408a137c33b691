-- Edges and vertices in an order that numbers them.
use Rattle.std.specs.Prelude.{List}
use Rattle.solid_data.specs.declared.solid.EdgeKey.{EdgeKey}
use Rattle.solid_data.specs.declared.solid.VertexKey.{VertexKey}

-- edges and vertices in an order that numbers them from 0
pub record Keys : Type 0 where
  pub edges : List EdgeKey
  pub vertices : List VertexKey
