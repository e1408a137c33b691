-- The paragraph on the gaps of a shell's loops.
use Rattle.std.specs.Prelude.{ℕ, ◌+◌, ◌-◌, nat_lt, List, [], ◌∷◌, ◌++◌, length, map, flat_map, Option, Some, None, codes, decimal, slice_get, if◌then◌else◌}
use Rattle.iges_base.specs.declared.entry_no.EntryNo.{EntryNo}
use Rattle.iges_params.specs.Contents.{Contents}
use Rattle.solid_data.specs.SolidData.{SolidData, edge_name, vertex_name}
use Rattle.solid_data.specs.declared.solid.FaceUse.{FaceUse}
use Rattle.solid_data.specs.declared.solid.Loop.{Loop}
use Rattle.solid_data.specs.declared.solid.LoopAt.{LoopAt}
use Rattle.solid_data.specs.declared.solid.LoopUse.{LoopUse}
use Rattle.solid_data.specs.declared.solid.LoopUse.TheVariants.{EdgeUse, VertexUse}
use Rattle.solid_data.specs.declared.solid.Shell.{Shell}
use Rattle.solid_data.specs.declared.solid.VertexKey.{VertexKey}
use Rattle.solid_data.specs.declared.verdict.Rule.TheVariants.{Unjoined}
use Rattle.edge_uses.specs.Joins.{start_of, end_of}
use Rattle.solid_faults.specs.declared.gap.Gap.{Gap}
use Rattle.where_text.specs.declared.listing.Listing.{Listing}
use Rattle.where_text.specs.Listing.{shown, more_items}
use Rattle.where_text.specs.Spelled.{space_word}
use Rattle.where_shells.specs.Lines.{count_words, flag_number, head_lines, edge_words, curve_words, face_line, faces_in, vertex_line}

abbrev pub loop_in : Option FaceUse → ℕ → Option Loop
loop_in None place = None
loop_in (Some face) place = slice_get face.loops place

-- the loop at a place of these faces
abbrev pub loop_at : List FaceUse → LoopAt → Option Loop
loop_at faces at = loop_in (slice_get faces at.face.0) at.place

abbrev pub face_number : Option FaceUse → EntryNo
face_number None = record { 0 = 0 }
face_number (Some face) = face.entity

-- the uses of a loop; none where there is no loop
abbrev pub uses_in : Option Loop → List LoopUse
uses_in None = []
uses_in (Some walk) = walk.uses

-- the tuple that follows tuple t in a loop of n, from 1: after the last the first
abbrev pub tuple_after : ℕ → ℕ → ℕ
tuple_after n t = if nat_lt t n then t + 1 else 1

abbrev pub use_words : Contents → SolidData → LoopUse → List ℕ
use_words f s (EdgeUse edge along) =
    let key = edge_name (slice_get s.edges edge.0) in codes " edge" ++ edge_words key ++ codes " flag" ++ space_word (decimal (flag_number along))
    ++ curve_words f key
use_words f s (VertexUse vertex) =
    let key : VertexKey = vertex_name (slice_get s.vertices vertex.0) in codes " vertex" ++ space_word (decimal key.«list».0) ++ space_word (decimal key.index)

-- a fact on a tuple of a loop: a word, the tuple's number, from 1, and what it uses
unfoldable pub tuple_fact : List ℕ → Contents → SolidData → ℕ → LoopUse → List ℕ
tuple_fact word f s t item = word ++ count_words (codes " tuple") t ++ use_words f s item ++ codes "\n"

-- the two tuples of a gap, where one ends and the other starts; nothing where the loop hasn't both
unfoldable pub meeting_facts : Contents → SolidData → ℕ → ℕ → Option LoopUse → Option LoopUse → List ℕ
meeting_facts f s t next (Some this) (Some other) =
    tuple_fact (codes "  this") f s t this ++ vertex_line (codes "  ends") f s (end_of s this) ++ tuple_fact (codes "  next") f s next other
    ++ vertex_line (codes "  starts") f s (start_of s other)
meeting_facts f s t next None other = []
meeting_facts f s t next (Some this) None = []

-- the tuples of a loop that meet at tuple t
abbrev pub loop_facts : Contents → SolidData → ℕ → List LoopUse → List ℕ
loop_facts f s t uses = let next = tuple_after (length uses) t in meeting_facts f s t next (slice_get uses (t - 1)) (slice_get uses (next - 1))

-- the face of a gap
abbrev pub gap_face : List FaceUse → Gap → EntryNo
gap_face faces gap = face_number (slice_get faces gap.at.face.0)

-- its loop and its tuple
unfoldable pub gap_head : Gap → List ℕ
gap_head gap = codes "gap" ++ space_word (decimal gap.entity.0) ++ space_word (decimal gap.tuple) ++ codes "\n"

abbrev pub gap_text : Contents → SolidData → List FaceUse → Gap → List ℕ
gap_text f s faces gap = gap_head gap ++ face_line f (gap_face faces gap) ++ loop_facts f s gap.tuple (uses_in (loop_at faces gap.at))

unfoldable pub join_lines : Listing → Contents → SolidData → ℕ → List FaceUse → List Gap → List ℕ
join_lines listing f s k faces gaps =
    head_lines Unjoined k (length gaps) ++ flat_map (gap_text f s faces) (shown listing gaps) ++ more_items listing (length gaps)

abbrev pub join_of : Listing → Contents → SolidData → ℕ → Option Shell → List Gap → List ℕ
join_of listing f s k shell [] = []
join_of listing f s k shell (g ∷ gs) = join_lines listing f s k (faces_in shell) (g ∷ gs)

-- the paragraph on these gaps, of shell k, from 0; nothing where there are none
abbrev pub join_text : Listing → Contents → SolidData → ℕ → List Gap → List ℕ
join_text listing f s k gaps = join_of listing f s k (slice_get s.shells k) gaps

-- the faces that its written facts name
abbrev pub join_named : Listing → SolidData → ℕ → List Gap → List EntryNo
join_named listing s k gaps = map (gap_face (faces_in (slice_get s.shells k))) (shown listing gaps)
