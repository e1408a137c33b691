-- The words, lines and steps on the solid of a view, as this is given whole.
use Rattle.std.specs.Prelude.{ℕ, List}
use Rattle.iges_base.specs.declared.entry_no.EntryNo.{EntryNo}
use Rattle.solid_data.specs.declared.solid.EdgeId.{EdgeId}
use Rattle.spelled_solid.specs.Words as words
use Rattle.where_text.specs.Listing as listed
use Rattle.where_text.specs.Places as places
use Rattle.shell_change.specs.declared.change.Change.{Change}
use Rattle.shell_change.specs.declared.change.EdgeName.{EdgeName}
use Rattle.shell_change.specs.declared.change.NewEdge.{NewEdge}
use Rattle.shell_change.specs.declared.change.NewVertex.{NewVertex}
use Rattle.shell_change.specs.declared.change.Rim.{Rim}
use Rattle.shell_change.specs.declared.change.RimEdge.{RimEdge}
use Rattle.shell_change.specs.declared.change.Seam.{Seam}
use Rattle.shell_change.specs.declared.change.VertexName.{VertexName}
use Rattle.remedy_text.specs.declared.bodies.Body.{Body}
use Rattle.remedy_text.specs.declared.remedy.Heading.{Heading}
use Rattle.remedy_text.specs.declared.sentences.Step.{Step}
use Rattle.remedy_text.specs.declared.told.FaceLoop.{FaceLoop}
use Rattle.remedy_text.specs.declared.view.RemedyView.{RemedyView}
use Rattle.remedy_text.specs.Told as told
use Rattle.remedy_text.specs.Bodies as parts
use Rattle.remedy_text.specs.Lines as lines
use Rattle.remedy_text.specs.Steps as steps
use Rattle.remedy_text.specs.Remedies as remedies

-- the members that are written
abbrev pub shown : {A : Type 0} → RemedyView → List A → List A
shown v = listed.shown v.listing

-- ---- what is told of a change

abbrev pub removed : RemedyView → Change → List EntryNo
removed v c = told.removed (told.faces_of v.solid.now c.shell.0) c.faces

abbrev pub turned : RemedyView → Change → List EntryNo
turned v c = told.turned (told.faces_of v.solid.now c.shell.0) c.faces

abbrev pub reversed : RemedyView → Change → List FaceLoop
reversed v c = told.reversed (told.faces_of v.solid.now c.shell.0) c.faces

abbrev pub bodies : RemedyView → Change → List Body
bodies v c = parts.bodies (told.faces_of v.solid.now c.shell.0) c.faces

-- ---- words

abbrev pub face_words : RemedyView → EntryNo → List ℕ
face_words v = places.face_words v.file.now

abbrev pub vertex_named : RemedyView → ℕ → List ℕ
vertex_named v = words.vertex_named v.file.now v.solid.now

abbrev pub edge_words : RemedyView → EdgeId → List ℕ
edge_words v = lines.edge_words v.solid.now

abbrev pub copy_words : RemedyView → NewVertex → List ℕ
copy_words v = lines.copy_words v.file.now v.solid.now

abbrev pub end_words : RemedyView → List NewVertex → VertexName → List ℕ
end_words v = lines.end_words v.file.now v.solid.now

abbrev pub renewed_words : RemedyView → NewEdge → List ℕ
renewed_words v = lines.renewed_words v.solid.now

abbrev pub edge_name_words : RemedyView → List NewEdge → EdgeName → List ℕ
edge_name_words v = lines.edge_name_words v.solid.now

abbrev pub rim_edge_words : RemedyView → List NewEdge → RimEdge → List ℕ
rim_edge_words v = lines.rim_edge_words v.solid.now

-- ---- lines

abbrev pub face_item : List ℕ → RemedyView → EntryNo → List ℕ
face_item word v = lines.face_item word v.file.now

abbrev pub loop_item : RemedyView → FaceLoop → List ℕ
loop_item v = lines.loop_item v.file.now

abbrev pub seam_item : RemedyView → Seam → List ℕ
seam_item v = lines.seam_item v.solid.now

abbrev pub copy_item : RemedyView → NewVertex → List ℕ
copy_item v = lines.copy_item v.file.now v.solid.now

abbrev pub renew_item : RemedyView → List NewVertex → NewEdge → List ℕ
renew_item v = lines.renew_item v.file.now v.solid.now

abbrev pub body_item : RemedyView → ℕ × Body → List ℕ
body_item v = lines.body_item v.file.now

abbrev pub rim_item : RemedyView → List NewEdge → ℕ × Rim → List ℕ
rim_item v = lines.rim_item v.solid.now

-- ---- steps

abbrev pub step_text : {A : Type 0} → Step → RemedyView → (A → List ℕ) → List A → List ℕ
step_text which v = steps.step_text which v.listing

abbrev pub numbered_step_text : {A : Type 0} → Step → RemedyView → (ℕ × A → List ℕ) → List A → List ℕ
numbered_step_text which v = steps.numbered_step_text which v.listing

abbrev pub face_steps : RemedyView → Change → List ℕ
face_steps v = steps.face_steps v.listing v.file.now v.solid.now

abbrev pub loop_steps : RemedyView → Change → List ℕ
loop_steps v = steps.loop_steps v.listing v.file.now v.solid.now

abbrev pub edge_steps : RemedyView → Change → List ℕ
edge_steps v = steps.edge_steps v.listing v.file.now v.solid.now

abbrev pub body_steps : RemedyView → Change → List ℕ
body_steps v = steps.body_steps v.listing v.file.now v.solid.now

abbrev pub steps_text : RemedyView → Change → List ℕ
steps_text v = steps.steps_text v.listing v.file.now v.solid.now

abbrev pub steps_named : RemedyView → Change → List EntryNo
steps_named v = steps.steps_named v.listing v.solid.now

abbrev pub remedy_text : RemedyView → Heading → Change → List ℕ
remedy_text v = remedies.remedy_text v.listing v.file.now v.solid.now
