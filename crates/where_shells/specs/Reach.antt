-- The paragraph on a shell that falls into parts.
use Rattle.std.specs.Prelude.{ℕ, List, [], ◌∷◌, ◌++◌, length, map, flat_map, Option, Some, None, codes, slice_get, get_or}
use Rattle.std.specs.List.{enumerate_from}
use Rattle.iges_base.specs.declared.entry_no.EntryNo.{EntryNo}
use Rattle.iges_params.specs.Contents.{Contents}
use Rattle.solid_data.specs.SolidData.{SolidData}
use Rattle.solid_data.specs.declared.solid.FaceUse.{FaceUse}
use Rattle.solid_data.specs.declared.solid.Shell.{Shell}
use Rattle.solid_data.specs.declared.verdict.Rule.TheVariants.{Unreached}
use Rattle.shell_facts.specs.PartFacts.{parts_of, part_faces, part_edges, part_vertices, part_unpaired, part_touching}
use Rattle.solid_faults.specs.Parts.{faces_apart}
use Rattle.solid_faults.specs.declared.edge.Unpaired.{Unpaired}
use Rattle.where_text.specs.declared.listing.Listing.{Listing}
use Rattle.where_text.specs.declared.listing.Listing.TheVariants.{Few}
use Rattle.where_text.specs.Listing.{shown, more_facts, more_items}
use Rattle.where_text.specs.Sentences.{rule_sentence}
use Rattle.where_shells.specs.Lines.{count_words, rule_words, vertex_line, face_line}

-- the counts of part i
unfoldable pub part_head : ℕ → ℕ → ℕ → ℕ → ℕ → ℕ → List ℕ
part_head i faces edges vertices unpaired touching =
    count_words (codes "part") i ++ count_words (codes " faces") faces ++ count_words (codes " edges") edges ++ count_words (codes " vertices") vertices
    ++ count_words (codes " unpaired") unpaired ++ count_words (codes " touching") touching ++ codes "\n"

-- a part with these faces, so many edges, these vertices, so many edges that aren't paired, and these of its vertices in a part before: its least vertex,
-- those, and its faces
unfoldable pub part_lines : Listing → Contents → SolidData → ℕ → List EntryNo → ℕ → List ℕ → ℕ → List ℕ → List ℕ
part_lines listing f s i faces edges vertices unpaired touching =
    part_head i (length faces) edges (length vertices) unpaired (length touching) ++ vertex_line (codes "  at") f s (get_or vertices 0 0)
    ++ flat_map (vertex_line (codes "  touches") f s) (shown Few touching) ++ more_facts Few (length touching)
    ++ flat_map (face_line f) (shown listing faces) ++ more_facts listing (length faces)

-- the faces of a part
abbrev pub part_entities : Shell → List ℕ → ℕ → List EntryNo
part_entities shell firsts p = map (λ (x : FaceUse). x.entity) (part_faces shell firsts p)

-- the part that begins with face p, as the i-th
abbrev pub part_text : Listing → Contents → SolidData → Shell → List ℕ → List Unpaired → ℕ × ℕ → List ℕ
part_text listing f s shell firsts unpaired (i, p) =
    part_lines listing f s i (part_entities shell firsts p) (length (part_edges s shell firsts p)) (part_vertices s shell firsts p)
    (length (part_unpaired s shell firsts unpaired p)) (part_touching s shell firsts p)

abbrev pub part_named : Listing → Shell → List ℕ → ℕ × ℕ → List EntryNo
part_named listing shell firsts (i, p) = shown listing (part_entities shell firsts p)

-- the parts that are written, each with its number, from 1
abbrev pub shown_parts : Listing → List ℕ → List (ℕ × ℕ)
shown_parts listing parts = enumerate_from 1 (shown listing parts)

-- the head of the paragraph on shell k, from 0, so many faces of which lie outside of the first of so many parts
unfoldable pub reach_head : ℕ → ℕ → ℕ → List ℕ
reach_head k faults parts = rule_words Unreached k faults ++ count_words (codes " parts") parts ++ codes "\n" ++ rule_sentence Unreached

-- the paragraph on these parts
unfoldable pub reach_lines : Listing → Contents → SolidData → ℕ → Shell → List ℕ → List Unpaired → ℕ → List ℕ → List ℕ
reach_lines listing f s k shell firsts unpaired faults parts =
    reach_head k faults (length parts) ++ flat_map (part_text listing f s shell firsts unpaired) (shown_parts listing parts)
    ++ more_items listing (length parts)

-- nothing where no face lies outside of the first part
abbrev pub where_apart : {A : Type 0} → List ℕ → List A → List A
where_apart [] lines = []
where_apart (f ∷ faces) lines = lines

-- the paragraph on shell k, from 0, of which each face has the first face of its part
abbrev pub reach_of : Listing → Contents → SolidData → ℕ → Option Shell → List ℕ → List Unpaired → List ℕ
reach_of listing f s k None firsts unpaired = []
reach_of listing f s k (Some shell) firsts unpaired =
    where_apart (faces_apart firsts) (reach_lines listing f s k shell firsts unpaired (length (faces_apart firsts)) (parts_of firsts))

abbrev pub reach_text : Listing → Contents → SolidData → ℕ → List ℕ → List Unpaired → List ℕ
reach_text listing f s k firsts unpaired = reach_of listing f s k (slice_get s.shells k) firsts unpaired

-- the faces that its written facts name
abbrev pub reach_faces : Listing → Option Shell → List ℕ → List EntryNo
reach_faces listing None firsts = []
reach_faces listing (Some shell) firsts = where_apart (faces_apart firsts) (flat_map (part_named listing shell firsts) (shown_parts listing (parts_of firsts)))

abbrev pub reach_named : Listing → SolidData → ℕ → List ℕ → List EntryNo
reach_named listing s k firsts = reach_faces listing (slice_get s.shells k) firsts
