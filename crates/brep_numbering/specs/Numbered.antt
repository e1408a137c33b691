-- Edges and vertices as they are numbered.
use Rattle.std.specs.Prelude.{List}
use Rattle.solid_data.specs.declared.solid.Edge.{Edge}
use Rattle.brep_numbering.specs.Keys.{Keys}

-- the keys so far, and the edges of those that are edges
pub record Numbered : Type 0 where
  pub keys : Keys
  pub edges : List Edge
