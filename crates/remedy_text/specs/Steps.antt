-- The steps of a remedy, and the faces that their items name.
use Rattle.std.specs.Prelude.{ℕ, List, ◌++◌, length, map, flat_map, codes}
use Rattle.std.specs.List.{enumerate_from}
use Rattle.iges_base.specs.declared.entry_no.EntryNo.{EntryNo}
use Rattle.iges_params.specs.Contents.{Contents}
use Rattle.solid_data.specs.SolidData.{SolidData}
use Rattle.where_text.specs.declared.listing.Listing.{Listing}
use Rattle.where_text.specs.Listing.{shown, more_items}
use Rattle.shell_change.specs.declared.change.Change.{Change}
use Rattle.remedy_text.specs.declared.bodies.Body.{Body}
use Rattle.remedy_text.specs.declared.sentences.Step.{Step}
use Rattle.remedy_text.specs.declared.sentences.Step.TheVariants as step
use Rattle.remedy_text.specs.declared.told.FaceLoop.{FaceLoop}
use Rattle.remedy_text.specs.Told.{faces_of, removed, turned, reversed, flags}
use Rattle.remedy_text.specs.Bodies.{bodies}
use Rattle.remedy_text.specs.Lines.{step_head, face_item, loop_item, flag_item, seam_item, copy_item, renew_item, body_item, rim_item}

-- a step of these items, as many of which are written as are listed; nothing where there are none
abbrev pub step_text : {A : Type 0} → Step → Listing → (A → List ℕ) → List A → List ℕ
step_text which listing item xs = step_head which (length xs) ++ flat_map item (shown listing xs) ++ more_items listing (length xs)

-- the same of items that are numbered, from 0
abbrev pub numbered_step_text : {A : Type 0} → Step → Listing → (ℕ × A → List ℕ) → List A → List ℕ
numbered_step_text which listing item xs =
    step_head which (length xs) ++ flat_map item (enumerate_from 0 (shown listing xs)) ++ more_items listing (length xs)

-- what becomes of the faces
abbrev pub face_steps : Listing → Contents → SolidData → Change → List ℕ
face_steps listing f s c =
    step_text step.Remove listing (face_item (codes "remove") f) (removed (faces_of s c.shell.0) c.faces)
    ++ step_text step.Turn listing (face_item (codes "turn") f) (turned (faces_of s c.shell.0) c.faces)

-- and of the loops
abbrev pub loop_steps : Listing → Contents → SolidData → Change → List ℕ
loop_steps listing f s c =
    step_text step.Reverse listing (loop_item f) (reversed (faces_of s c.shell.0) c.faces)
    ++ step_text step.Flags listing flag_item (flags (faces_of s c.shell.0) c.faces)

-- edges that are sewn, new vertices, and new edges
abbrev pub edge_steps : Listing → Contents → SolidData → Change → List ℕ
edge_steps listing f s c =
    step_text step.Sew listing (seam_item s) c.seams ++ step_text step.Copy listing (copy_item f s) c.vertices
    ++ step_text step.Renew listing (renew_item f s c.vertices) c.edges

-- bodies, and faces to be made anew
abbrev pub body_steps : Listing → Contents → SolidData → Change → List ℕ
body_steps listing f s c =
    numbered_step_text step.Part listing (body_item f) (bodies (faces_of s c.shell.0) c.faces)
    ++ numbered_step_text step.Fill listing (rim_item s c.edges) c.rims

unfoldable pub steps_text : Listing → Contents → SolidData → Change → List ℕ
steps_text listing f s c = face_steps listing f s c ++ loop_steps listing f s c ++ edge_steps listing f s c ++ body_steps listing f s c

-- the faces that the written items name, in their order
abbrev pub loop_face : FaceLoop → EntryNo
loop_face x = x.face

abbrev pub first_face : Body → EntryNo
first_face x = x.first

unfoldable pub steps_named : Listing → SolidData → Change → List EntryNo
steps_named listing s c =
    shown listing (removed (faces_of s c.shell.0) c.faces) ++ shown listing (turned (faces_of s c.shell.0) c.faces)
    ++ map loop_face (shown listing (reversed (faces_of s c.shell.0) c.faces)) ++ map first_face (shown listing (bodies (faces_of s c.shell.0) c.faces))
