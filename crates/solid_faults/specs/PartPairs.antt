-- For each row its face, and the face of one chosen row of its edge.
use Rattle.std.specs.Prelude.{ℕ, ◌==◌, List, map, Option, Some, None, slice_get, if◌then◌else◌}
use Rattle.solid_data.specs.declared.spanning.Span.{Span}
use Rattle.edge_uses.specs.declared.row.Row.{Row}
use Rattle.edge_uses.specs.declared.tally.Seen.{Seen}
use Rattle.edge_uses.specs.ShellRows.{ShellRows}
use Rattle.edge_uses.specs.Tally.{seen_of}

abbrev pub chosen_row : Seen → ℕ
chosen_row seen = if seen.along == 0 then seen.against_row else seen.along_row

abbrev pub face_in : Option Row → ℕ
face_in None = 0
face_in (Some r) = r.at.face.0

abbrev pub chosen_face : ShellRows → Span → List Seen → ℕ → ℕ
chosen_face d span seen e = face_in (slice_get d.rows (chosen_row (seen_of span seen e)))

abbrev pub part_pair : ShellRows → Span → List Seen → Row → ℕ × ℕ
part_pair d span seen r = (r.at.face.0, chosen_face d span seen r.edge.0)

abbrev pub part_pairs : ShellRows → Span → List Seen → List (ℕ × ℕ)
part_pairs d span seen = map (part_pair d span seen) d.rows
