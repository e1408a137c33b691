-- The lines of an open shell's certificate that is given by its parts.
use Rattle.std.specs.Prelude.{ℕ, ◌+◌, List, [], ◌∷◌, ◌++◌, length, map, flat_map}
use Rattle.solid_data.specs.declared.solid.RowId.{RowId}
use Rattle.cert_lines.specs.Written.{row_number}
use Rattle.open_certificate.specs.Line.{OpenLine, head, shell, edge, lone, cycle, path, point, reach, border, end, spelling}
use Rattle.open_certificate.specs.declared.parts.OpenEdge.{OpenEdge}
use Rattle.open_certificate.specs.declared.parts.OpenEdge.TheVariants.{One, Two}
use Rattle.open_certificate.specs.declared.parts.OpenCorner.{OpenCorner}
use Rattle.open_certificate.specs.declared.parts.OpenCorner.TheVariants.{Cycle, Path, Point}
use Rattle.open_certificate.specs.declared.parts.OpenCertificate.{OpenCertificate}

abbrev pub edge_line : OpenEdge → OpenLine
edge_line (One r) = lone (row_number r)
edge_line (Two a b) = edge (row_number a) (row_number b)

abbrev pub corner_line : OpenCorner → OpenLine
corner_line (Cycle rows) = cycle (map row_number rows)
corner_line (Path rows) = path (map row_number rows)
corner_line (Point at) = point (at.face.0 + 1) (at.place + 1)

abbrev pub reach_line : RowId → OpenLine
reach_line r = reach (row_number r)

abbrev pub border_line : List RowId → OpenLine
border_line rows = border (map row_number rows)

abbrev pub shell_line : OpenCertificate → OpenLine
shell_line c = shell c.shell.0 c.rows (length c.edges) (length c.corners) c.faces (length c.borders)

-- the lines after the head
abbrev pub further_lines : OpenCertificate → List OpenLine
further_lines c = shell_line c ∷ (map edge_line c.edges ++ (map corner_line c.corners ++ (map reach_line c.reach ++ (map border_line c.borders ++ end ∷ []))))

abbrev pub open_lines : OpenCertificate → List OpenLine
open_lines c = head ∷ further_lines c

-- the bytes of the lines
abbrev pub text_of : List OpenLine → List ℕ
text_of lines = flat_map spelling lines
