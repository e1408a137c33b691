-- Where the rows of a shell are in the file: each with its face, its loop and its tuple.
use Rattle.std.specs.Prelude.{ℕ, Bool, false, List, [], ◌∷◌, flat_map, Option, Some, None}
use Rattle.std.specs.List.{enumerate_from}
use Rattle.solid_data.specs.SolidData.{SolidData, PlacedLoop, placed_in_face}
use Rattle.solid_data.specs.declared.solid.FaceUse.{FaceUse}
use Rattle.solid_data.specs.declared.solid.LoopUse.{LoopUse}
use Rattle.solid_data.specs.declared.solid.LoopUse.TheVariants.{EdgeUse, VertexUse}
use Rattle.solid_data.specs.declared.solid.Shell.{Shell}
use Rattle.edge_uses.specs.declared.row.Row.{Row}
use Rattle.edge_uses.specs.ShellRows.{row_of}
use Rattle.shell_facts.specs.declared.placing.RowPlace.{RowPlace}

-- the flag of a tuple that uses an edge
abbrev pub flag_of_use : LoopUse → Bool
flag_of_use (EdgeUse edge along) = along
flag_of_use (VertexUse vertex) = false

-- where the row of a use is, if the use has one
abbrev pub place_of_row : FaceUse → PlacedLoop → ℕ → Bool → Option Row → List RowPlace
place_of_row f p t flag None = []
place_of_row f p t flag (Some r) = record { along = r.along; face = f.entity; face_flag = f.flag; walk = p.loop.entity; tuple = t; flag = flag } ∷ []

-- a use by its tuple's number
abbrev pub use_places : SolidData → FaceUse → PlacedLoop → ℕ × LoopUse → List RowPlace
use_places s f p u = place_of_row f p u.0 (flag_of_use u.1) (row_of s p u.1)

abbrev pub loop_places : SolidData → FaceUse → PlacedLoop → List RowPlace
loop_places s f p = flat_map (use_places s f p) (enumerate_from 1 p.loop.uses)

abbrev pub face_places : SolidData → Bool → ℕ × FaceUse → List RowPlace
face_places s shell_flag f = flat_map (loop_places s f.1) (placed_in_face shell_flag f)

-- where each row of a shell is, in the order of the rows
abbrev pub row_places_of : SolidData → Shell → List RowPlace
row_places_of s shell = flat_map (face_places s shell.flag) (enumerate_from 0 shell.faces)

-- of a shell that may not be there
abbrev pub places_in : SolidData → Option Shell → List RowPlace
places_in s None = []
places_in s (Some shell) = row_places_of s shell
