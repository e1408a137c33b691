-- The rows of a shell as they are read, loop by loop.
use Rattle.std.specs.Prelude.{◌≡◌, ℕ, ◌+◌, ◌<◌, ◌++◌, All, List, [], length, map, flat_map, if◌then◌else◌, Bool, Option, Some, None}
use Rattle.solid_data.specs.Ring.{next_of_each, previous_of_each, numbers_from}
use Rattle.solid_data.specs.SolidData.{SolidData, PlacedLoop, edge_used, vertices_used, shell_edges, shell_vertices}
use Rattle.solid_data.specs.declared.solid.LoopAt.{LoopAt}
use Rattle.solid_data.specs.declared.solid.LoopUse.{LoopUse}
use Rattle.solid_data.specs.declared.solid.Shell.{Shell}
use Rattle.edge_uses.specs.declared.row.Row.{Row}
use Rattle.edge_uses.specs.declared.building.Built.{Built}
use Rattle.edge_uses.specs.ShellRows.{loop_rows, follows_from, point_of}
use Rattle.solid_data.specs.declared.TheConstants.{PART_LIMIT}

abbrev pub uses_in : PlacedLoop → List LoopUse
uses_in p = p.loop.uses

-- the uses of some loops, in order
abbrev pub uses_of : List PlacedLoop → List LoopUse
uses_of ps = flat_map uses_in ps

-- the loop itself, where it has no edge, with its vertex
abbrev pub point_in : SolidData → PlacedLoop → List (LoopAt × ℕ)
point_in s p = point_of p p.loop.uses (map (λ (r : Row). r.edge.0) (loop_rows s p))

-- the rows from base on, as they follow one another
abbrev pub ring_from : Bool → ℕ → ℕ → List ℕ
ring_from forwards base n = if forwards then next_of_each (numbers_from base n) else previous_of_each (numbers_from base n)

-- some loops have been added
pub record Added (s : SolidData) (old new : Built) (ps : List PlacedLoop) : Type 0 where
  pub rows : new.rows.items ≡ old.rows.items ++ flat_map (loop_rows s) ps
  pub next : new.next.items ≡ old.next.items ++ follows_from s (length old.rows.items) ps
  pub points : new.points.items ≡ old.points.items ++ flat_map (point_in s) ps
  pub edges : new.edges.items ≡ old.edges.items ++ flat_map edge_used (uses_of ps)
  pub vertices : new.vertices.items ≡ old.vertices.items ++ flat_map (vertices_used s) (uses_of ps)

-- each edge and each vertex of the shell is one of the solid
pub record HasKnownParts (s : SolidData) (shell : Shell) : Type 0 where
  pub edges : All (λ e. e < length s.edges) (shell_edges shell)
  pub vertices : All (λ v. v < length s.vertices) (shell_vertices s shell)

-- there is room for the rows of these loops
abbrev pub HasRoom : Built → List PlacedLoop → Type 0
HasRoom old ps = length old.rows.items + length (uses_of ps) < PART_LIMIT

-- the vertices of a shell that may not be there
abbrev pub vertices_at : SolidData → Option Shell → List ℕ
vertices_at s None = []
vertices_at s (Some shell) = shell_vertices s shell
