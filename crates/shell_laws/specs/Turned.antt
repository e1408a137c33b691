-- A shell whose directions are all turned.
use Rattle.std.specs.Prelude.{ℕ, not}
use Rattle.solid_data.specs.SolidData.{SolidData}
use Rattle.solid_data.specs.declared.solid.Shell.{Shell}
use Rattle.shell_rules.specs.Closed.{IsClosedShell}

-- the shell with the other flag: each edge that it used along is used against it, and the other way round
abbrev pub turned : Shell → Shell
turned h = record { entity = h.entity; flag = not h.flag; faces = h.faces }

-- So turned a closed shell stays closed.
abbrev pub TurnedStaysClosed : Type 0
TurnedStaysClosed = (s : SolidData) (k : ℕ) (h : Shell) → IsClosedShell s k h → IsClosedShell s k (turned h)
