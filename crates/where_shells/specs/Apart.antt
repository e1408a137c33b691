-- The paragraph on vertices that a shell shares with shells before it.
use Rattle.std.specs.Prelude.{ℕ, ◌+◌, ◌-◌, min, List, [], ◌∷◌, ◌++◌, length, map, flat_map, take, codes}
use Rattle.iges_base.specs.declared.entry_no.EntryNo.{EntryNo}
use Rattle.iges_params.specs.Contents.{Contents}
use Rattle.solid_data.specs.SolidData.{SolidData}
use Rattle.solid_data.specs.declared.verdict.Rule.TheVariants.{Shared}
use Rattle.shell_facts.specs.VertexFaces.{faces_up_to}
use Rattle.where_text.specs.declared.listing.Listing.{Listing}
use Rattle.where_text.specs.Listing.{left_line, more_items, shown}
use Rattle.where_text.specs.Places.{face_words}
use Rattle.where_shells.specs.Lines.{count_words, head_lines, vertex_line}

-- a face, and the number of its shell, from 0
unfoldable pub in_shell_line : Contents → ℕ × EntryNo → List ℕ
in_shell_line f (j, face) = count_words (codes "  in shell") (j + 1) ++ codes " face" ++ face_words f face ++ codes "\n"

-- how many faces at a vertex are written, of so many: also where all members of other lists are, since many shells may meet there
abbrev pub face_count : ℕ → ℕ
face_count n = min n 5

-- a vertex of shell k, and the first of the faces at it in this shell and in those before
unfoldable pub shared_lines : Contents → SolidData → ℕ → List (ℕ × EntryNo) → List ℕ
shared_lines f s v faces =
    vertex_line (codes "vertex") f s v ++ flat_map (in_shell_line f) (take (face_count (length faces)) faces)
    ++ left_line (codes "  ") (length faces - face_count (length faces))

abbrev pub shared_text : Contents → SolidData → ℕ → ℕ → List ℕ
shared_text f s k v = shared_lines f s v (faces_up_to s k v)

abbrev pub shared_named : SolidData → ℕ → ℕ → List EntryNo
shared_named s k v = map (λ (x : ℕ × EntryNo). x.1) (take (face_count (length (faces_up_to s k v))) (faces_up_to s k v))

unfoldable pub apart_lines : Listing → Contents → SolidData → ℕ → List ℕ → List ℕ
apart_lines listing f s k shared =
    head_lines Shared k (length shared) ++ flat_map (shared_text f s k) (shown listing shared) ++ more_items listing (length shared)

-- the paragraph on these vertices of shell k, from 0; nothing where there are none
abbrev pub apart_text : Listing → Contents → SolidData → ℕ → List ℕ → List ℕ
apart_text listing f s k [] = []
apart_text listing f s k (v ∷ vs) = apart_lines listing f s k (v ∷ vs)

-- the faces that its written facts name
abbrev pub apart_named : Listing → SolidData → ℕ → List ℕ → List EntryNo
apart_named listing s k shared = flat_map (shared_named s k) (shown listing shared)
