-- A solid with all face flags true.
use Rattle.std.specs.Prelude.{true, map}
use Rattle.solid_data.specs.SolidData.{SolidData}
use Rattle.solid_data.specs.declared.solid.FaceUse.{FaceUse}
use Rattle.solid_data.specs.declared.solid.Shell.{Shell}
use Rattle.shell_rules.specs.Closed.{IsClosedSolid}

abbrev pub flagged_face : FaceUse → FaceUse
flagged_face f = record { entity = f.entity; flag = true; loops = f.loops }

abbrev pub flagged_shell : Shell → Shell
flagged_shell h = record { entity = h.entity; flag = h.flag; faces = map flagged_face h.faces }

abbrev pub flagged_solid : SolidData → SolidData
flagged_solid s = record { entity = s.entity; shells = map flagged_shell s.shells; edges = s.edges; vertices = s.vertices }

-- with all face flags true the solid is closed
abbrev pub IsClosedFlagged : SolidData → Type 0
IsClosedFlagged s = IsClosedSolid (flagged_solid s)
