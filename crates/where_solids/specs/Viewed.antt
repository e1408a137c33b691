-- Private: what is said of a shell, or of a solid and what fails in it, and what holds of them, as a view of them is given whole.
use Rattle.std.specs.Prelude.{◌≡◌, ℕ, List, [], Option, Some, slice_get}
use Rattle.iges_base.specs.declared.entry_no.EntryNo.{EntryNo}
use Rattle.solid_data.specs.declared.solid.Shell.{Shell}
use Rattle.edge_uses.specs.ShellRows as rows
use Rattle.solid_faults.specs.Fans as fans
use Rattle.solid_faults.specs.Faults as faults
use Rattle.shell_facts.specs.FaceTable as table
use Rattle.shell_facts.specs.declared.faces.FaceAtVertex.{FaceAtVertex}
use Rattle.where_places.specs.declared.placed_file.PlacedFile.{PlacedFile}
use Rattle.where_text.specs.declared.listing.Listing.{Listing}
use Rattle.where_text.specs.Listing.{shown}
use Rattle.where_shells.specs.declared.view.ShellView.{ShellView}
use Rattle.where_shells.specs.Viewed.{unpaired_of}
use Rattle.solid_hints.specs.AllFaults as all
use Rattle.solid_hints.specs.ShellHints.{ShellRemedies}
use Rattle.solid_hints.specs.Viewed as hints
use Rattle.solid_hints.specs.declared.hinted_shells.HintedSolid.{HintedSolid}
use Rattle.where_solids.specs.Lines as lines
use Rattle.where_solids.specs.ShellTexts as texts

-- ---- a shell

-- its loops join
abbrev pub RowsMeet : ShellView → Type 0
RowsMeet v = rows.EndsMeet v.rows.now

-- its edges are paired
abbrev pub ArePaired : ShellView → Type 0
ArePaired v = unpaired_of v ≡ []

abbrev pub AreFans : ShellView → List ℕ → Type 0
AreFans v = fans.AreFans v.rows.now

-- this fails in the shell, if it is there
abbrev pub AreFaults : ShellView → faults.Faults → Type 0
AreFaults v x = (h : Shell) → slice_get v.solid.now.shells v.at.0 ≡ Some h → faults.AreFaults v.solid.now v.at.0 h x

abbrev pub linking_text : ShellView → Option faults.Linking → List ℕ
linking_text v = texts.linking_text v.listing v.file.now v.solid.now v.at.0

abbrev pub linking_named : ShellView → Option faults.Linking → List EntryNo
linking_named v = texts.linking_named v.listing v.solid.now v.at.0

abbrev pub fault_paragraphs : ShellView → faults.Faults → List ℕ
fault_paragraphs v = texts.fault_paragraphs v.listing v.gaps v.file.now v.solid.now v.at.0

abbrev pub fault_faces : ShellView → faults.Faults → List EntryNo
fault_faces v = texts.fault_faces v.listing v.gaps v.solid.now v.at.0

-- ---- a solid

-- all that fails in it is told
abbrev pub HasAllFaults : HintedSolid → Type 0
HasAllFaults v = all.AreAllFaults v.solid.now v.all.now

-- it is of the file
abbrev pub IsIn : HintedSolid → PlacedFile → Type 0
IsIn v p = v.file.now ≡ p.file

-- its number
abbrev pub entity_of : HintedSolid → EntryNo
entity_of v = v.solid.now.entity

abbrev pub touches_of : HintedSolid → List FaceAtVertex
touches_of v = table.touches_of v.solid.now

abbrev pub gap_listing : HintedSolid → Listing
gap_listing v = texts.gap_listing v.listing v.all.now

abbrev pub failing_of : HintedSolid → List ℕ
failing_of v = all.failing_shells v.all.now

abbrev pub line_at : HintedSolid → ℕ → List ℕ
line_at v = lines.line_at v.solid.now v.all.now

abbrev pub paragraphs_at : HintedSolid → ℕ → List ℕ
paragraphs_at v = texts.paragraphs_at v.listing v.file.now v.solid.now v.all.now

abbrev pub named_at : HintedSolid → ℕ → List EntryNo
named_at v = texts.named_at v.listing v.solid.now v.all.now

-- ---- and its text, in which the failing shells are listed

abbrev pub lines_of : HintedSolid → List ℕ
lines_of v = texts.shell_lines v.listing v.file.now v.solid.now v.all.now

abbrev pub IsHintOn : HintedSolid → List ShellRemedies → List ℕ → List EntryNo → Type 0
IsHintOn v = hints.IsHint v (shown v.listing (failing_of v))

abbrev pub paragraphs_of : HintedSolid → PlacedFile → List EntryNo → List ℕ
paragraphs_of v p = texts.shell_texts v.listing p v.solid.now v.all.now
