-- What was read is the rows of the shell.
use Rattle.std.specs.Prelude.{◌≡◌, ◌<◌, ◌^◌, ℕ, List, [], ◌++◌, All, length, flat_map, Some, slice_get}
use Rattle.std.proofs.Common.{sym, ◌∙◌, ap, subst, arith}
use Rattle.solid_data.proofs.Members.{has_get}
use Rattle.solid_data.specs.Ring.{numbers_from}
use Rattle.solid_data.specs.Numbering.{IsNumberedSolid}
use Rattle.solid_data.specs.SolidData.{SolidData, placed_loops, shell_edges, shell_vertices, shell_uses, occurring}
use Rattle.solid_data.specs.declared.solid.Shell.{Shell}
use Rattle.edge_uses.specs.declared.row.Row.{Row}
use Rattle.edge_uses.specs.declared.building.Built.{Built}
use Rattle.edge_uses.specs.ShellRows.{shell_rows, loop_rows, follows_from, AreRows}
use Rattle.edge_uses.specs.Building.{uses_of, point_in, Added, HasKnownParts}
use Rattle.edge_uses.proofs.Few.{part_shorter}
use Rattle.edge_uses.proofs.Whole.{are_rows, known_parts}

pub rows_made : (s : SolidData) (shell : Shell) (old new : Built) (edges vertices : List ℕ) (faces : ℕ) → old.rows.items ≡ [] → old.next.items ≡ []
    → old.points.items ≡ [] → old.edges.items ≡ [] → old.vertices.items ≡ []
    → Added s old new (placed_loops shell) → edges ≡ occurring (numbers_from 0 (length s.edges)) new.edges.items
    → vertices ≡ occurring (numbers_from 0 (length s.vertices)) new.vertices.items → faces ≡ length shell.faces
    → record { rows = new.rows.items; follows = new.next.items; face_count = faces; edges = edges; vertices = vertices; points = new.points.items }
    ≡ shell_rows s shell
unfolding shell_rows
rows_made s shell old new edges vertices faces no_rows no_next no_points no_edges no_vertices a es vs fs =
    let rows : new.rows.items ≡ flat_map (loop_rows s) (placed_loops shell) = a.rows ∙ ap (λ xs. xs ++ flat_map (loop_rows s) (placed_loops shell)) no_rows in
    let next : new.next.items ≡ follows_from s 0 (placed_loops shell) =
    a.next ∙ (ap (λ xs. xs ++ follows_from s (length old.rows.items) (placed_loops shell)) no_next
    ∙ ap (λ (xs : List Row). follows_from s (length xs) (placed_loops shell)) no_rows) in
    let points : new.points.items ≡ flat_map (point_in s) (placed_loops shell) = a.points ∙ ap (λ xs. xs ++ flat_map (point_in s) (placed_loops shell))
    no_points in
    let used : new.edges.items ≡ shell_edges shell = a.edges ∙ ap (λ xs. xs ++ shell_edges shell) no_edges in
    let met : new.vertices.items ≡ shell_vertices s shell = a.vertices ∙ ap (λ xs. xs ++ shell_vertices s shell) no_vertices in
    let edges_are : edges ≡ occurring (numbers_from 0 (length s.edges)) (shell_edges shell) = es ∙ ap (occurring (numbers_from 0 (length s.edges))) used in
    let vertices_are : vertices ≡ occurring (numbers_from 0 (length s.vertices)) (shell_vertices s shell) =
    vs ∙ ap (occurring (numbers_from 0 (length s.vertices))) met in
    cc

pub rows_room : (s : SolidData) (k : ℕ) (h : Shell) → IsNumberedSolid s → slice_get s.shells k ≡ Some h → length (uses_of (placed_loops h)) < 2 ^ 29
rows_room s k h numbered at = omega (arith, numbered.few_uses, part_shorter shell_uses s.shells h (has_get s.shells k h at))

pub rows_known : (s : SolidData) (k : ℕ) (h : Shell) → IsNumberedSolid s → slice_get s.shells k ≡ Some h → HasKnownParts s h
rows_known s k h numbered at = known_parts s h numbered (has_get s.shells k h at)

pub rows_whole : (s : SolidData) (k : ℕ) (h : Shell) → IsNumberedSolid s → slice_get s.shells k ≡ Some h → AreRows (shell_rows s h)
rows_whole s k h numbered at = are_rows s h numbered (has_get s.shells k h at)

-- what occurs among the numbers read is what occurs in the shell
occurs_in : (es used read slice : List ℕ) (n : ℕ) → ((m : ℕ) → All (λ k. k < m) slice → es ≡ occurring (numbers_from 0 m) slice) → slice ≡ read → read ≡ used
    → All (λ k. k < n) used → es ≡ occurring (numbers_from 0 n) read
occurs_in es used read slice n h e k below = h n (subst (All (λ k. k < n)) (sym (e ∙ k)) below) ∙ ap (occurring (numbers_from 0 n)) e

pub edges_made : (s : SolidData) (shell : Shell) (old new : Built) (es slice : List ℕ) → old.edges.items ≡ [] → Added s old new (placed_loops shell)
    → HasKnownParts s shell
    → ((m : ℕ) → All (λ k. k < m) slice → es ≡ occurring (numbers_from 0 m) slice) → slice ≡ new.edges.items
    → es ≡ occurring (numbers_from 0 (length s.edges)) new.edges.items
edges_made s shell old new es slice none a known h e =
    occurs_in es (shell_edges shell) new.edges.items slice (length s.edges) h e (a.edges ∙ ap (λ xs. xs ++ shell_edges shell) none) known.edges

pub vertices_made : (s : SolidData) (shell : Shell) (old new : Built) (vs slice : List ℕ) → old.vertices.items ≡ [] → Added s old new (placed_loops shell)
    → HasKnownParts s shell
    → ((m : ℕ) → All (λ k. k < m) slice → vs ≡ occurring (numbers_from 0 m) slice) → slice ≡ new.vertices.items
    → vs ≡ occurring (numbers_from 0 (length s.vertices)) new.vertices.items
vertices_made s shell old new vs slice none a known h e =
    occurs_in vs (shell_vertices s shell) new.vertices.items slice (length s.vertices) h e (a.vertices ∙ ap (λ xs. xs ++ shell_vertices s shell) none)
    known.vertices
