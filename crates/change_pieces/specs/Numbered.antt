-- Private: what is seen of shells and edges that make a numbered solid.
use Rattle.std.specs.Prelude.{◌≡◌, ◌<◌, ℕ, List, length, flat_map, Some}
use Rattle.std.specs.List.{AllByRecursion}
use Rattle.solid_data.specs.SolidData.{SolidData, shell_uses, edge_used, vertices_used}
use Rattle.solid_data.specs.declared.solid.Edge.{Edge}
use Rattle.solid_data.specs.declared.solid.Shell.{Shell}
use Rattle.solid_data.specs.declared.TheConstants.{PART_LIMIT}
use Rattle.change_pieces.specs.Filled.{IsFilledShell}
use Rattle.change_pieces.specs.Reading.{appeared, Climbs}

pub record AreNumbered (shells : List Shell) (edges : List Edge) (vertex_count : ℕ) : Type 0 where
  pub filled : AllByRecursion IsFilledShell shells
  pub keys : Climbs (λ (e : Edge). e.key.index) 1 edges
  pub few : length (flat_map shell_uses shells) < PART_LIMIT
  pub edge_count : appeared (flat_map edge_used (flat_map shell_uses shells)) 0 ≡ Some (length edges)
  pub vertices : (s : SolidData) → s.edges ≡ edges → appeared (flat_map (vertices_used s) (flat_map shell_uses shells)) 0 ≡ Some vertex_count
