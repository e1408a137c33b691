-- The paragraph on vertices that aren't linked.
use Rattle.std.specs.Prelude.{ℕ, List, [], ◌∷◌, ◌++◌, length, flat_map, slice_get, Option, Some, None, codes}
use Rattle.iges_base.specs.declared.entry_no.EntryNo.{EntryNo}
use Rattle.iges_params.specs.Contents.{Contents}
use Rattle.solid_data.specs.SolidData.{SolidData, edge_name, vertex_name}
use Rattle.solid_data.specs.declared.solid.FaceUse.{FaceUse}
use Rattle.solid_data.specs.declared.solid.Loop.{Loop}
use Rattle.solid_data.specs.declared.solid.LoopAt.{LoopAt}
use Rattle.solid_data.specs.declared.solid.Shell.{Shell}
use Rattle.solid_data.specs.declared.verdict.Rule.TheVariants.{Unlinked as RuleUnlinked}
use Rattle.edge_uses.specs.ShellRows.{ShellRows, rows_of}
use Rattle.edge_uses.specs.declared.row.Row.{Row}
use Rattle.shell_facts.specs.RowPlaces.{places_in}
use Rattle.solid_faults.specs.declared.fan.Unlinked.{Unlinked}
use Rattle.shell_facts.specs.declared.placing.RowPlace.{RowPlace}
use Rattle.shell_facts.specs.FanFacts.{around}
use Rattle.shell_facts.specs.declared.turning.AtVertex.{AtVertex}
use Rattle.shell_facts.specs.declared.turning.AtVertex.TheVariants.{OnFan, Alone}
use Rattle.where_text.specs.declared.listing.Listing.{Listing}
use Rattle.where_text.specs.Listing.{shown, more_facts, more_items}
use Rattle.where_text.specs.Places.{face_words, vertex_words}
use Rattle.where_shells.specs.Lines.{count_words, edge_words, faces_in, head_lines}

-- where a row is: its face, its loop and its tuple
abbrev pub place_words : Contents → Option RowPlace → List ℕ
place_words f None = []
place_words f (Some p) = codes " face" ++ face_words f p.face ++ count_words (codes " loop") p.walk.0 ++ count_words (codes " tuple") p.tuple

abbrev pub place_faces : Option RowPlace → List EntryNo
place_faces None = []
place_faces (Some p) = p.face ∷ []

-- its edge, and the vertex where it ends
abbrev pub row_words : Contents → SolidData → Option Row → List ℕ
row_words f s None = []
row_words f s (Some row) =
    codes " edge" ++ edge_words (edge_name (slice_get s.edges row.edge.0)) ++ codes " to" ++ vertex_words f (vertex_name (slice_get s.vertices row.to.0))

-- a loop without an edge: its face, and itself
abbrev pub loop_words : Option Loop → List ℕ
loop_words None = []
loop_words (Some walk) = count_words (codes " loop") walk.entity.0

abbrev pub walk_words : Contents → Option FaceUse → ℕ → List ℕ
walk_words f None place = []
walk_words f (Some face) place = codes " face" ++ face_words f face.entity ++ loop_words (slice_get face.loops place)

abbrev pub walk_faces : Option FaceUse → List EntryNo
walk_faces None = []
walk_faces (Some face) = face.entity ∷ []

-- a row of a fan, by the fan's number
unfoldable pub row_line : Contents → SolidData → ShellRows → List RowPlace → ℕ → ℕ → List ℕ
row_line f s d places i r = count_words (codes "  fan") i ++ place_words f (slice_get places r) ++ row_words f s (slice_get d.rows r) ++ codes "\n"

-- a loop without an edge, of a shell with these faces
unfoldable pub point_line : Contents → List FaceUse → LoopAt → List ℕ
point_line f faces at = codes "  point" ++ walk_words f (slice_get faces at.face.0) at.place ++ codes "\n"

-- what lies at a vertex, of a shell with these faces, these rows, and these places of rows
abbrev pub fact_line : Contents → SolidData → List FaceUse → ShellRows → List RowPlace → AtVertex → List ℕ
fact_line f s faces d places (OnFan i r) = row_line f s d places i r.0
fact_line f s faces d places (Alone at) = point_line f faces at

abbrev pub fact_faces : List FaceUse → List RowPlace → AtVertex → List EntryNo
fact_faces faces places (OnFan i r) = place_faces (slice_get places r.0)
fact_faces faces places (Alone at) = walk_faces (slice_get faces at.face.0)

-- a vertex, how many fans and loops without an edge lie at it, and what lies at it
unfoldable pub unlinked_lines : Listing → Contents → SolidData → List FaceUse → ShellRows → List RowPlace → Unlinked → List AtVertex → List ℕ
unlinked_lines listing f s faces d places u facts =
    codes "vertex" ++ vertex_words f (vertex_name (slice_get s.vertices u.vertex.0)) ++ count_words (codes " fans") u.fans
    ++ count_words (codes " points") u.points ++ codes "\n"
    ++ flat_map (fact_line f s faces d places) (shown listing facts) ++ more_facts listing (length facts)

abbrev pub unlinked_text : Listing → Contents → SolidData → List FaceUse → ShellRows → List RowPlace → List ℕ → Unlinked → List ℕ
unlinked_text listing f s faces d places leasts u = unlinked_lines listing f s faces d places u (around d leasts u.vertex.0)

abbrev pub unlinked_named : Listing → List FaceUse → ShellRows → List RowPlace → List ℕ → Unlinked → List EntryNo
unlinked_named listing faces d places leasts u = flat_map (fact_faces faces places) (shown listing (around d leasts u.vertex.0))

unfoldable pub link_lines : Listing → Contents → SolidData → ℕ → List FaceUse → ShellRows → List RowPlace → List ℕ → List Unlinked → List ℕ
link_lines listing f s k faces d places leasts us =
    head_lines RuleUnlinked k (length us) ++ flat_map (unlinked_text listing f s faces d places leasts) (shown listing us) ++ more_items listing (length us)

-- the paragraph on these vertices of a shell, where for each row the least row of its fan is given; nothing where there are none
abbrev pub link_of : Listing → Contents → SolidData → ℕ → Option Shell → List ℕ → List Unlinked → List ℕ
link_of listing f s k shell leasts [] = []
link_of listing f s k shell leasts (u ∷ us) = link_lines listing f s k (faces_in shell) (rows_of s shell) (places_in s shell) leasts (u ∷ us)

abbrev pub link_text : Listing → Contents → SolidData → ℕ → List ℕ → List Unlinked → List ℕ
link_text listing f s k leasts us = link_of listing f s k (slice_get s.shells k) leasts us

-- the faces that its written facts name
abbrev pub link_faces : Listing → SolidData → Option Shell → List ℕ → List Unlinked → List EntryNo
link_faces listing s shell leasts us = flat_map (unlinked_named listing (faces_in shell) (rows_of s shell) (places_in s shell) leasts) (shown listing us)

abbrev pub link_named : Listing → SolidData → ℕ → List ℕ → List Unlinked → List EntryNo
link_named listing s k leasts us = link_faces listing s (slice_get s.shells k) leasts us
