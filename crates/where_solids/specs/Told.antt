-- What is said of one solid of a file.
use Rattle.std.specs.Prelude.{◌≡◌, ◌⊎◌, ℕ, pos, List, [], ◌++◌, Option, Some, None}
use Rattle.iges_base.specs.declared.entry_no.EntryNo.{EntryNo}
use Rattle.iges_params.specs.Contents.{Contents}
use Rattle.iges_params.specs.Named.{named}
use Rattle.brep_walk.specs.Places.{places}
use Rattle.brep_walk.specs.SolidOf.{solid_of}
use Rattle.solid_data.specs.Obligations.{AllHold, FirstFalse}
use Rattle.solid_data.specs.declared.verdict.Failing.{Failing}
use Rattle.solid_data.specs.declared.verdict.Verdict.{Verdict}
use Rattle.solid_verdict.specs.Closed.{IsVerdictOn}
use Rattle.solid_faults.specs.Faults.{Faults}
use Rattle.record_paths.specs.declared.path.Path.{Path}
use Rattle.record_paths.specs.Paths.{IsPathTo, sited}
use Rattle.where_places.specs.declared.placed_file.PlacedFile.{PlacedFile}
use Rattle.where_text.specs.declared.listing.Listing.{Listing}
use Rattle.where_text.specs.Listing.{shown}
use Rattle.where_records.specs.RecordText.{record_named, record_text}
use Rattle.where_entities.specs.Entities.{entities_text}
use Rattle.solid_hints.specs.AllFaults.{AreAllFaults, failing_shells}
use Rattle.where_solids.specs.Hints.{solids_hint}
use Rattle.where_unjudged.specs.KindHints.{hint_of, shells_hint}
use Rattle.where_solids.specs.Lines.{units_line, verdict_line}
use Rattle.where_unjudged.specs.Listed.{true_solids}
use Rattle.solid_hints.specs.ShellHints.{IsHint, ShellRemedies}
use Rattle.where_solids.specs.ShellTexts.{shell_lines, shell_texts}

-- the units, where the number names a solid, and whether it has a shell; else what it names, and the solids
abbrev pub record_start : Contents → EntryNo → Failing → Option Path → List ℕ
record_start f n x None = hint_of (named f (pos n.0)) ++ solids_hint (true_solids f)
record_start f n x (Some path) = units_line f ++ shells_hint f n x

-- of a rule on the records that fails on this path
unfoldable pub record_rest : PlacedFile → EntryNo → Failing → Option Path → List ℕ
record_rest p n x path = record_start p.file n x path ++ record_text p n x path ++ entities_text p (record_named n x path)

-- An obligation on the records is the first that fails, and this is said of it. No remedies are told.
pub record IsOfRecords (p : PlacedFile) (n : EntryNo) (remedies : List ShellRemedies) (rest : List ℕ) : Type 0 where
  pub failing : Failing
  pub first : FirstFalse (places p.file n.0) failing
  pub path : Option Path
  pub leads : IsPathTo failing (sited p.file n.0) path
  pub none : remedies ≡ []
  pub rest_is : rest ≡ record_rest p n failing path

-- All obligations on the records hold, and this is said of the shells. These remedies are told of them.
pub record IsOfShells (listing : Listing) (p : PlacedFile) (n : EntryNo) (remedies : List ShellRemedies) (rest : List ℕ) : Type 0 where
  pub placed : AllHold (places p.file n.0)
  pub faults : List Faults
  pub all : AreAllFaults (solid_of p.file n.0) faults
  pub hint : List ℕ
  pub faces : List EntryNo
  pub is_hint : IsHint listing p.file (solid_of p.file n.0) faults (shown listing (failing_shells faults)) remedies hint faces
  pub rest_is : rest ≡ shell_lines listing p.file (solid_of p.file n.0) faults ++ hint ++ shell_texts listing p (solid_of p.file n.0) faults faces

-- The text speaks of solid n, which has this verdict, and tells these remedies.
pub record IsToldOf (listing : Listing) (p : PlacedFile) (n : EntryNo) (remedies : List ShellRemedies) (verdict : Verdict) (text : List ℕ) : Type 0 where
  pub judged : IsVerdictOn p.file n.0 verdict
  pub rest : List ℕ
  pub told : IsOfRecords p n remedies rest ⊎ IsOfShells listing p n remedies rest
  pub text_is : text ≡ verdict_line n.0 verdict ++ rest
