-- The bodies that the kept faces of a shell fall into.
use Rattle.std.specs.Prelude.{ℕ, suc, ◌==◌, nat_lt, List, [], ◌∷◌, length, map, flat_map, slice_get, if◌then◌else◌}
use Rattle.std.specs.List.{enumerate_from}
use Rattle.iges_base.specs.declared.entry_no.EntryNo.{EntryNo}
use Rattle.solid_data.specs.declared.solid.FaceUse.{FaceUse}
use Rattle.shell_components.specs.Groups.{places_of}
use Rattle.shell_change.specs.declared.change.Fate.{Fate}
use Rattle.shell_change.specs.declared.change.Fate.TheVariants.{Removed, Kept}
use Rattle.remedy_text.specs.declared.bodies.Body.{Body}
use Rattle.remedy_text.specs.declared.bodies.KeptFace.{KeptFace}
use Rattle.remedy_text.specs.Told.{told_if}

-- the faces that are kept, each with its piece
abbrev pub kept_if : EntryNo → Fate → List KeptFace
kept_if face Removed = []
kept_if face (Kept now) = record { face = face; piece = now.piece } ∷ []

abbrev pub kept_at : List Fate → ℕ × FaceUse → List KeptFace
kept_at fates (i, face) = told_if (kept_if face.entity) (slice_get fates i)

abbrev pub kept : List FaceUse → List Fate → List KeptFace
kept faces fates = flat_map (kept_at fates) (enumerate_from 0 faces)

abbrev pub piece_of : KeptFace → ℕ
piece_of x = x.piece

-- a body, told at the first of the places of its piece's faces
abbrev pub body_if : EntryNo → ℕ → List ℕ → List Body
body_if face i [] = []
body_if face i (j ∷ js) = if j == i then record { faces = suc (length js); first = face } ∷ [] else []

abbrev pub body_at : List ℕ → ℕ × KeptFace → List Body
body_at pieces (i, x) = body_if x.face i (places_of x.piece pieces)

-- the bodies, by their first faces
abbrev pub bodies_of : List KeptFace → List Body
bodies_of xs = flat_map (body_at (map piece_of xs)) (enumerate_from 0 xs)

-- where there is one alone, nothing is told
abbrev pub if_several : List Body → List Body
if_several xs = if nat_lt 1 (length xs) then xs else []

abbrev pub bodies : List FaceUse → List Fate → List Body
bodies faces fates = if_several (bodies_of (kept faces fates))
