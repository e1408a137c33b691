-- What the faults of a shell name.
use Rattle.std.specs.Prelude.{◌≡◌, ℕ, [], map}
use Rattle.solid_data.specs.SolidData.{SolidData}
use Rattle.solid_data.specs.declared.solid.Shell.{Shell}
use Rattle.edge_uses.specs.ShellRows.{shell_rows}
use Rattle.edge_uses.specs.Joins.{join_obligations}
use Rattle.shell_rules.specs.ShellObligations.{pair_obligations, reach_obligations, link_obligations, apart_obligations}
use Rattle.solid_faults.specs.Failing.{AreFailing}
use Rattle.solid_faults.specs.Faults.{Faults, failing_vertices}
use Rattle.solid_faults.specs.Gaps.{gap_failing}
use Rattle.solid_faults.specs.Edges.{unpaired_failing, shared_failing}
use Rattle.solid_faults.specs.Parts.{failing_faces}

-- Each list names exactly the failing obligations of its rule, in order; of REACH and LINK where JOIN and PAIR hold.
pub record AreNamed (s : SolidData) (k : ℕ) (shell : Shell) (x : Faults) : Type 0 where
  pub join : AreFailing (join_obligations s shell) (map gap_failing x.gaps)
  pub pair : AreFailing (pair_obligations s (shell_rows s shell)) (map (unpaired_failing s) x.unpaired)
  pub reach : x.gaps ≡ [] → x.unpaired ≡ [] → AreFailing (reach_obligations shell (shell_rows s shell)) (failing_faces shell.faces x.firsts)
  pub link : x.gaps ≡ [] → x.unpaired ≡ [] → AreFailing (link_obligations s (shell_rows s shell)) (failing_vertices s x.linking)
  pub apart : AreFailing (apart_obligations s k (shell_rows s shell)) (map (shared_failing s) x.shared)
