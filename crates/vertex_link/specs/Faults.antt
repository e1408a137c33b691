-- What an error names.
use Rattle.std.specs.Prelude.{⊤}
use Rattle.solid_data.specs.Obligations.{FirstNot}
use Rattle.edge_uses.specs.ShellRows.{ShellRows}
use Rattle.edge_uses.specs.Around.{IsLinked}
use Rattle.vertex_link.specs.declared.fault.LinkFault.{LinkFault}
use Rattle.vertex_link.specs.declared.fault.LinkFault.TheVariants.{Broken, NoMemory}

-- the least vertex that isn't linked
abbrev pub IsLinkFault : ShellRows → LinkFault → Type 0
IsLinkFault d (Broken v) = FirstNot (IsLinked d) d.vertices v.0
IsLinkFault d NoMemory = ⊤
