-- The remedies and hints on the solid of a view, and what holds of it, as the view is given whole.
use Rattle.std.specs.Prelude.{ℕ, List}
use Rattle.iges_base.specs.declared.entry_no.EntryNo.{EntryNo}
use Rattle.spelled_solid.specs.Words.{FileSolid}
use Rattle.shell_change.specs.declared.change.Remedy.{Remedy}
use Rattle.shell_change.specs.declared.geometry.Geometry.{Geometry}
use Rattle.solid_geometry.specs.Known as known
use Rattle.remedy_text.specs.declared.view.RemedyView.{RemedyView}
use Rattle.solid_hints.specs.declared.hinted_shells.HintedSolid.{HintedSolid}
use Rattle.solid_hints.specs.declared.remedies.TriedSolid.{TriedSolid}
use Rattle.solid_hints.specs.AllFaults.{EachBelow}
use Rattle.solid_hints.specs.ShellHints as hints

-- ---- the remedies of shells

abbrev pub IsGeometryOf : RemedyView → Geometry → Type 0
IsGeometryOf v = known.IsGeometryOf v.file.now v.solid.now

abbrev pub IsRemedy : RemedyView → ℕ → Remedy → Type 0
IsRemedy v = hints.IsRemedy v.file.now v.solid.now

abbrev pub AreRemediesOf : RemedyView → List ℕ → List hints.ShellRemedies → Type 0
AreRemediesOf v = hints.AreRemediesOf v.file.now v.solid.now

abbrev pub written_of : RemedyView → List Remedy → List Remedy
written_of v = hints.written v.listing

abbrev pub remedy_at : RemedyView → ℕ × Remedy → List ℕ
remedy_at v = hints.remedy_at v.listing v.file.now v.solid.now

abbrev pub faces_named : RemedyView → Remedy → List EntryNo
faces_named v = hints.faces_named v.listing v.solid.now

abbrev pub remedies_text : RemedyView → ℕ → List Remedy → List ℕ
remedies_text v = hints.remedies_text v.listing v.file.now v.solid.now

abbrev pub remedies_at : RemedyView → hints.ShellRemedies → List ℕ
remedies_at v = hints.remedies_at v.listing v.file.now v.solid.now

abbrev pub named_at : RemedyView → hints.ShellRemedies → List EntryNo
named_at v = hints.named_at v.listing v.solid.now

-- ---- a solid that is tried

abbrev pub IsKnown : TriedSolid → Type 0
IsKnown v = IsGeometryOf v.on.now v.known.now.geometry

abbrev pub HasBelows : TriedSolid → Type 0
HasBelows v = EachBelow v.on.now.solid.now v.belows.now

-- ---- a solid with what fails in it

abbrev pub file_solid : HintedSolid → FileSolid
file_solid v = record { file = v.file.now; solid = v.solid.now }

abbrev pub IsHint : HintedSolid → List ℕ → List hints.ShellRemedies → List ℕ → List EntryNo → Type 0
IsHint v = hints.IsHint v.listing v.file.now v.solid.now v.all.now
