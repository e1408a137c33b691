-- The rows of a shell: its edge uses in file order, numbered from 0.
use Rattle.std.specs.Prelude.{◌≡◌, ℕ, ◌+◌, ◌<◌, Bool, true, false, not, Contains, IsPermutation, List, [], ◌∷◌, ◌++◌, length, map, flat_map, filter_map, Option}
use Rattle.std.specs.Prelude.{Some, None, slice_get, if◌then◌else◌}
use Rattle.std.specs.List.{AllByRecursion}
use Rattle.std.specs.List.Sorted.{IsStrictlyIncreasing}
use Rattle.solid_data.specs.Ring.{next_of_each, previous_of_each, numbers_from}
use Rattle.solid_data.specs.SolidData.{SolidData, PlacedLoop, placed_loops, shell_edges, shell_vertices, same_flag, occurring}
use Rattle.solid_data.specs.declared.solid.Edge.{Edge}
use Rattle.solid_data.specs.declared.solid.EdgeId.{EdgeId}
use Rattle.solid_data.specs.declared.solid.LoopAt.{LoopAt}
use Rattle.solid_data.specs.declared.solid.LoopUse.{LoopUse}
use Rattle.solid_data.specs.declared.solid.LoopUse.TheVariants.{EdgeUse, VertexUse}
use Rattle.solid_data.specs.declared.solid.Shell.{Shell}
use Rattle.edge_uses.specs.declared.row.Row.{Row}
use Rattle.solid_data.specs.declared.TheConstants.{PART_LIMIT}

-- the rows of a shell, the row that follows each, how many faces it has, which edges and vertices occur in it, by rising number, and its loops without an edge,
-- each with its vertex
pub record ShellRows : Type 0 where
  pub rows : List Row
  pub follows : List ℕ
  pub face_count : ℕ
  pub edges : List ℕ
  pub vertices : List ℕ
  pub points : List (LoopAt × ℕ)

-- The row of an edge use. Its direction is along the edge where an even number of the flags of tuple, face and shell are false.
abbrev pub row_of_edge : LoopAt → EdgeId → Bool → Option Edge → Option Row
row_of_edge at edge along None = None
row_of_edge at edge true (Some e) = Some (record { at = at; edge = edge; along = true; from = e.from; to = e.to })
row_of_edge at edge false (Some e) = Some (record { at = at; edge = edge; along = false; from = e.to; to = e.from })

abbrev pub row_of : SolidData → PlacedLoop → LoopUse → Option Row
row_of s p (EdgeUse edge along) = row_of_edge p.at edge (same_flag along p.forwards) (slice_get s.edges edge.0)
row_of s p (VertexUse vertex) = None

abbrev pub loop_rows : SolidData → PlacedLoop → List Row
loop_rows s p = filter_map (row_of s p) p.loop.uses

-- For loops whose rows are numbered from base on: after each row the next of its loop, after the last the first. In a loop that is walked backwards it is the
-- one before.
abbrev pub follows_from : SolidData → ℕ → List PlacedLoop → List ℕ
follows_from s base [] = []
follows_from s base (p ∷ ps) =
    let ring = numbers_from base (length (loop_rows s p)) in
    (if p.forwards then next_of_each ring else previous_of_each ring) ++ follows_from s (base + length (loop_rows s p)) ps

-- the vertex of a loop that has no edge
abbrev pub point_of : PlacedLoop → List LoopUse → List ℕ → List (LoopAt × ℕ)
point_of p (VertexUse vertex ∷ uses) [] = (p.at, vertex.0) ∷ []
point_of p _ _ = []

unfoldable pub shell_rows : SolidData → Shell → ShellRows
shell_rows s shell = record {
  rows = flat_map (loop_rows s) (placed_loops shell);
  follows = follows_from s 0 (placed_loops shell);
  face_count = length shell.faces;
  edges = occurring (numbers_from 0 (length s.edges)) (shell_edges shell);
  vertices = occurring (numbers_from 0 (length s.vertices)) (shell_vertices s shell);
  points = flat_map (λ (p : PlacedLoop). point_of p p.loop.uses (map (λ (r : Row). r.edge.0) (loop_rows s p))) (placed_loops shell);
}

-- the rows of a shell that may not be there
abbrev pub rows_of : SolidData → Option Shell → ShellRows
rows_of s None = record { rows = []; follows = []; face_count = 0; edges = []; vertices = []; points = [] }
rows_of s (Some shell) = shell_rows s shell

-- what the rows of every shell keep, whatever solid they are of
pub record AreRows (d : ShellRows) : Type 0 where
  pub few : length d.rows < PART_LIMIT
  pub few_faces : d.face_count < PART_LIMIT
  pub few_points : length d.points < PART_LIMIT
  pub on_faces : AllByRecursion (λ (r : Row). r.at.face.0 < d.face_count) d.rows
  pub points_on_faces : AllByRecursion (λ (p : LoopAt × ℕ). p.0.face.0 < d.face_count) d.points
  -- two rows of one edge have the same ends, exchanged where their directions differ
  pub same_ends : (n m : ℕ) (a b : Row) → slice_get d.rows n ≡ Some a → slice_get d.rows m ≡ Some b → a.edge ≡ b.edge → a.along ≡ b.along
      → (a.from ≡ b.from) × (a.to ≡ b.to)
  pub exchanged_ends : (n m : ℕ) (a b : Row) → slice_get d.rows n ≡ Some a → slice_get d.rows m ≡ Some b → a.edge ≡ b.edge → a.along ≡ not b.along
      → (a.from ≡ b.to) × (a.to ≡ b.from)
  -- each row follows one, in its own loop
  pub permuted : IsPermutation (numbers_from 0 (length d.rows)) d.follows
  pub in_loop : (r s : ℕ) (a b : Row) → slice_get d.follows r ≡ Some s → slice_get d.rows r ≡ Some a → slice_get d.rows s ≡ Some b → a.at ≡ b.at
  -- each row is followed by one
  pub followed : (r : ℕ) (a : Row) → slice_get d.rows r ≡ Some a → (s : ℕ) × (b : Row) × (slice_get d.follows r ≡ Some s) × (slice_get d.rows s ≡ Some b)
  -- the edges and the vertices that occur, by rising number
  pub edges_rise : IsStrictlyIncreasing d.edges
  pub edges_hold : AllByRecursion (λ (r : Row). Contains d.edges r.edge.0) d.rows
  pub vertices_rise : IsStrictlyIncreasing d.vertices
  pub vertices_hold : AllByRecursion (λ (r : Row). Contains d.vertices r.from.0 × Contains d.vertices r.to.0) d.rows
  pub points_hold : AllByRecursion (λ (p : LoopAt × ℕ). Contains d.vertices p.1) d.points

-- each row ends where the row that follows it starts
abbrev pub EndsMeet : ShellRows → Type 0
EndsMeet d = (r s : ℕ) (a b : Row) → slice_get d.follows r ≡ Some s → slice_get d.rows r ≡ Some a → slice_get d.rows s ≡ Some b → a.to ≡ b.from
