-- Private: what an error of mates names.
use Rattle.std.specs.Prelude.{⊤}
use Rattle.solid_data.specs.Obligations.{FirstNot}
use Rattle.edge_uses.specs.ShellRows.{ShellRows}
use Rattle.open_certificate.specs.Sound.{IsOnce}
use Rattle.open_shells.specs.declared.mated.EdgeFault.{EdgeFault}
use Rattle.open_shells.specs.declared.mated.EdgeFault.TheVariants.{NotOnce, NoMemory}

-- the least edge that is used neither once nor by mates
abbrev pub IsEdgeFault : ShellRows → EdgeFault → Type 0
IsEdgeFault d (NotOnce e) = FirstNot (IsOnce d) d.edges e.0
IsEdgeFault d NoMemory = ⊤
