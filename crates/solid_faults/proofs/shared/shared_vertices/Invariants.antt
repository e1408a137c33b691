use Rattle.std.proofs.Common.{◌≡◌, ◌++◌, ℕ, drop, flat_map, take}
use Rattle.solid_data.specs.SolidData.{SolidData, shell_vertices, occurring}
use Rattle.edge_uses.specs.Before.{AreBelow}
use Rattle.solid_faults.specs.Edges.{shared_of}
use Rattle.solid_faults.proofs.shared.shared_vertices.Given as goal

abbrev pub invariant-vertices : goal.invariant-vertices
invariant-vertices l = (s : SolidData) (k : ℕ) → AreBelow s k l.below
    → l.out.items ++ occurring (drop l.i l.rows.vertices) (flat_map (shell_vertices s) (take k s.shells)) ≡ shared_of s k l.rows
