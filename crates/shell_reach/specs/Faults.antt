-- What an error names.
use Rattle.std.specs.Prelude.{⊤}
use Rattle.solid_data.specs.Obligations.{FirstNot}
use Rattle.solid_data.specs.Ring.{numbers_from}
use Rattle.edge_uses.specs.ShellRows.{ShellRows}
use Rattle.edge_uses.specs.Around.{IsReached}
use Rattle.shell_reach.specs.declared.fault.ReachFault.{ReachFault}
use Rattle.shell_reach.specs.declared.fault.ReachFault.TheVariants.{Unreached, NoMemory}

-- the least face that isn't reached
abbrev pub IsReachFault : ShellRows → ReachFault → Type 0
IsReachFault d (Unreached face) = FirstNot (IsReached d) (numbers_from 0 d.face_count) face.0
IsReachFault d NoMemory = ⊤
