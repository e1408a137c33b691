-- The vertices that a shell shares are vertices of the solid.
use Rattle.std.specs.Prelude.{◌≡◌, ◌<◌, ◌==◌, ◌⊎◌, ℕ, Bool, true, false, List, [], ◌∷◌, length, flat_map, take, All, Option, Some, None, if◌then◌else◌}
use Rattle.std.specs.List.{list_any}
use Rattle.std.proofs.Common.{subst, arith, inl, inr}
use Rattle.solid_data.specs.Ring.{numbers_from}
use Rattle.solid_data.specs.SolidData.{SolidData, occurring, shell_vertices}
use Rattle.solid_data.specs.declared.solid.Shell.{Shell}
use Rattle.solid_data.proofs.Members.{Has}
use Rattle.solid_data.proofs.Occurring.{number_below}
use Rattle.edge_uses.specs.ShellRows.{rows_of, shell_rows}
use Rattle.solid_faults.specs.Edges.{shared_of}
use Rattle.shell_facts.proofs.PartSteps.{all_from}

looked_for : (ns xs : List ℕ) (v : ℕ) → Has (occurring ns xs) v → Has ns v
looked_for [] xs v h = absurd h
looked_for (n ∷ ns) xs v h = by_test (list_any (λ m. m == n) xs) h (λ m. looked_for ns xs v m)
  where
    by_test : (b : Bool) → Has (if b then n ∷ occurring ns xs else occurring ns xs) v → (Has (occurring ns xs) v → Has ns v) → (n ≡ v) ⊎ Has ns v
    by_test true (inl e) more = inl e
    by_test true (inr m) more = inr (more m)
    by_test false m more = inr (more m)

vertices_below : (s : SolidData) (o : Option Shell) (v : ℕ) → Has (rows_of s o).vertices v → v < length s.vertices
unfolding shell_rows
vertices_below s None v m = absurd m
vertices_below s (Some h) v m = let b = number_below 0 (length s.vertices) v (looked_for (numbers_from 0 (length s.vertices)) (shell_vertices s h) v m)
    in omega (arith, b.1)

pub shared_below : (s : SolidData) (k : ℕ) (o : Option Shell) (shared : List ℕ) → shared ≡ shared_of s k (rows_of s o) → All (λ v. v < length s.vertices) shared
shared_below s k o shared are = all_from (λ v. v < length s.vertices) shared (λ x m.
    vertices_below s o x (looked_for (rows_of s o).vertices (flat_map (shell_vertices s) (take k s.shells)) x (subst (λ ys. Has ys x) are m)))
