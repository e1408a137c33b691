-- The lines of the steps of a remedy.
use Rattle.std.specs.Prelude.{ℕ, ◌+◌, ◌==◌, Bool, List, [], ◌++◌, length, slice_get, codes, decimal, if◌then◌else◌}
use Rattle.iges_base.specs.declared.entry_no.EntryNo.{EntryNo}
use Rattle.iges_params.specs.Contents.{Contents}
use Rattle.solid_data.specs.SolidData.{SolidData, edge_name}
use Rattle.solid_data.specs.declared.solid.EdgeId.{EdgeId}
use Rattle.solid_data.specs.declared.solid.EdgeKey.{EdgeKey}
use Rattle.spelled_solid.specs.Words.{vertex_named}
use Rattle.where_text.specs.Places.{face_words}
use Rattle.where_text.specs.Spelled.{space_word}
use Rattle.shell_change.specs.declared.change.EdgeName.{EdgeName}
use Rattle.shell_change.specs.declared.change.EdgeName.TheVariants as edge
use Rattle.shell_change.specs.declared.change.NewEdge.{NewEdge}
use Rattle.shell_change.specs.declared.change.NewVertex.{NewVertex}
use Rattle.shell_change.specs.declared.change.Rim.{Rim}
use Rattle.shell_change.specs.declared.change.RimEdge.{RimEdge}
use Rattle.shell_change.specs.declared.change.Seam.{Seam}
use Rattle.shell_change.specs.declared.change.Told.{Told}
use Rattle.shell_change.specs.declared.change.Told.TheVariants.{Sure, Places, Curve}
use Rattle.shell_change.specs.declared.change.VertexName.{VertexName}
use Rattle.shell_change.specs.declared.change.VertexName.TheVariants as vertex
use Rattle.remedy_text.specs.declared.bodies.Body.{Body}
use Rattle.remedy_text.specs.declared.sentences.Step.{Step}
use Rattle.remedy_text.specs.declared.told.FaceLoop.{FaceLoop}
use Rattle.remedy_text.specs.declared.told.TupleFlag.{TupleFlag}
use Rattle.remedy_text.specs.Sentences.{step_words, step_sentence}
use Rattle.remedy_text.specs.Told.{told_if}

-- a word, and how many
abbrev pub number_words : List ℕ → ℕ → List ℕ
number_words word n = word ++ space_word (decimal n)

-- the line of a step of n items, and its sentence; nothing where there are none
unfoldable pub step_head : Step → ℕ → List ℕ
step_head step n = if n == 0 then [] else number_words (step_words step) n ++ codes "\n" ++ step_sentence step

-- a face, after a word
unfoldable pub face_item : List ℕ → Contents → EntryNo → List ℕ
face_item word f face = word ++ face_words f face ++ codes "\n"

unfoldable pub loop_item : Contents → FaceLoop → List ℕ
loop_item f x = number_words (codes "reverse loop") x.walk.0 ++ codes " face" ++ face_words f x.face ++ codes "\n"

abbrev pub flag_number : Bool → ℕ
flag_number flag = if flag then 1 else 0

unfoldable pub flag_item : TupleFlag → List ℕ
flag_item x =
    number_words (codes "change loop") x.walk.0 ++ number_words (codes " tuple") x.tuple ++ number_words (codes " flag") (flag_number x.flag) ++ codes "\n"

-- an edge of the solid: its list, and its index there
abbrev pub key_words : EdgeKey → List ℕ
key_words key = space_word (decimal key.«list».0) ++ space_word (decimal key.index)

abbrev pub edge_words : SolidData → EdgeId → List ℕ
edge_words s e = codes " edge" ++ key_words (edge_name (slice_get s.edges e.0))

abbrev pub how_word : Told → List ℕ
how_word Sure = codes "sure"
how_word Places = codes "places"
how_word Curve = codes "curve"

-- a seam: how its edges are equal, the edge that stays, and the other
unfoldable pub seam_item : SolidData → Seam → List ℕ
seam_item s x = codes "seam" ++ space_word (how_word x.told) ++ edge_words s x.taken ++ edge_words s x.left ++ codes "\n"

-- a new vertex, by the one that it is like
unfoldable pub copy_item : Contents → SolidData → NewVertex → List ℕ
copy_item f s x = codes "copy vertex" ++ vertex_named f s x.like.0 ++ codes "\n"

-- A vertex that a changed shell names: a new one by the one that it is like, and nothing if there is none.
abbrev pub copy_words : Contents → SolidData → NewVertex → List ℕ
copy_words f s x = vertex_named f s x.like.0

abbrev pub end_words : Contents → SolidData → List NewVertex → VertexName → List ℕ
end_words f s vertices (vertex.Old v) = vertex_named f s v.0
end_words f s vertices (vertex.New i) = told_if (copy_words f s) (slice_get vertices i)

-- a new edge, by the one that it is like, with its ends
unfoldable pub renew_item : Contents → SolidData → List NewVertex → NewEdge → List ℕ
renew_item f s vertices x =
    codes "renew" ++ edge_words s x.like ++ codes " start" ++ end_words f s vertices x.from ++ codes " end" ++ end_words f s vertices x.to ++ codes "\n"

-- a body: its number, from 1, how many faces it has, and its first face
unfoldable pub body_item : Contents → ℕ × Body → List ℕ
body_item f (i, x) = number_words (codes "body") (i + 1) ++ number_words (codes " faces") x.faces ++ codes " first" ++ face_words f x.first ++ codes "\n"

-- An edge that a changed shell names: a new one by the one that it is like, and nothing if there is none.
abbrev pub renewed_words : SolidData → NewEdge → List ℕ
renewed_words s x = edge_words s x.like

abbrev pub edge_name_words : SolidData → List NewEdge → EdgeName → List ℕ
edge_name_words s edges (edge.Old e) = edge_words s e
edge_name_words s edges (edge.New i) = told_if (renewed_words s) (slice_get edges i)

abbrev pub rim_edge_words : SolidData → List NewEdge → RimEdge → List ℕ
rim_edge_words s edges x = edge_name_words s edges x.edge

-- a rim: its number, from 1, how many edges it has, and the first of them
unfoldable pub rim_item : SolidData → List NewEdge → ℕ × Rim → List ℕ
rim_item s edges (i, x) =
    number_words (codes "rim") (i + 1) ++ number_words (codes " edges") (length x.edges) ++ told_if (rim_edge_words s edges) (slice_get x.edges 0)
    ++ codes "\n"
