-- The lines of a certificate that is given by its parts.
use Rattle.std.specs.Prelude.{ℕ, ◌+◌, List, [], ◌∷◌, ◌++◌, length, map, flat_map}
use Rattle.std.specs.List.{enumerate_from}
use Rattle.solid_data.specs.declared.solid.RowId.{RowId}
use Rattle.cert_lines.specs.Line.{CertLine, head, solid, shell, edge, corner, point, reach, tally, end, spelling}
use Rattle.cert_lines.specs.declared.counts.TallyCounts.{TallyCounts}
use Rattle.cert_lines.specs.declared.version.Version.{Version}
use Rattle.cert_lines.specs.declared.version.Version.TheVariants.{One, Two, Three}
use Rattle.solid_data.specs.declared.linked.Corner.{Corner}
use Rattle.solid_data.specs.declared.linked.Corner.TheVariants.{Cycle, Point}
use Rattle.cert_lines.specs.declared.parts.ShellPart.{ShellPart}
use Rattle.cert_lines.specs.declared.parts.Certificate.{Certificate}

abbrev pub row_number : RowId → ℕ
row_number r = r.0 + 1

abbrev pub edge_line : RowId × RowId → CertLine
edge_line p = edge (row_number p.0) (row_number p.1)

abbrev pub corner_line : Corner → CertLine
corner_line (Cycle rows) = corner (map row_number rows)
corner_line (Point at) = point (at.face.0 + 1) (at.place + 1)

abbrev pub reach_line : RowId → CertLine
reach_line r = reach (row_number r)

abbrev pub shell_line : ℕ → ShellPart → CertLine
shell_line k part = shell k (record { rows = part.rows; edges = length part.edges; corners = length part.corners; faces = part.faces })

abbrev pub tally_of : ℕ → ℕ → ℕ → ℕ → TallyCounts
tally_of vertices edges faces loops = record { vertices = vertices; edges = edges; faces = faces; loops = loops }

abbrev pub tally_line : ShellPart → CertLine
tally_line part = tally (tally_of part.vertices (length part.edges) part.faces part.loops)

-- in version 1 a shell has no line of its counts at its end
abbrev pub tally_lines : Version → ShellPart → List CertLine
tally_lines One part = []
tally_lines Two part = tally_line part ∷ []
tally_lines Three part = tally_line part ∷ []

-- the lines of a shell with its number
abbrev pub shell_lines : Version → ℕ × ShellPart → List CertLine
shell_lines v (k, part) = shell_line k part ∷ (map edge_line part.edges ++ (map corner_line part.corners ++ (map reach_line part.reach ++ tally_lines v part)))

-- the line that names the solid, and the lines of its shells
abbrev pub solid_lines : Certificate → List CertLine
solid_lines c = solid c.solid.0 ∷ flat_map (shell_lines c.version) (enumerate_from 1 c.shells)

abbrev pub certificate_lines : Certificate → List CertLine
certificate_lines c = head c.version ∷ (solid_lines c ++ end ∷ [])

-- the lines of a book with these parts
abbrev pub book_lines : List Certificate → List CertLine
book_lines cs = head Three ∷ (flat_map solid_lines cs ++ end ∷ [])

-- the bytes of the lines
abbrev pub text_of : List CertLine → List ℕ
text_of lines = flat_map spelling lines
