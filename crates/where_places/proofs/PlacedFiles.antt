-- The places of a file's entries, by its lines.
use Rattle.std.specs.Prelude.{◌≡◌, ℕ, List, length, Result, Ok, Err}
use Rattle.std.proofs.Common.{sym, ap, subst, ◌∙◌}
use Rattle.iges_lines.specs.declared.fault.LineFault.{LineFault}
use Rattle.iges_lines.specs.Lines.{SectionLines}
use Rattle.iges_lines.specs.Sectioned.{IsSectioned}
use Rattle.iges_directory.specs.declared.entry.Placed.{Placed}
use Rattle.iges_directory.specs.Entries.{AreEntries}
use Rattle.iges_params.specs.Contents.{Contents}
use Rattle.iges_params.specs.IsFile.{IsFile}
use Rattle.where_places.specs.Places.{EntryPlaces, HasPlaces, places_of}

abbrev lines_of : Result SectionLines LineFault → SectionLines → SectionLines
lines_of (Ok s) d = s
lines_of (Err e) d = d

pub same_lines : (s lines : SectionLines) → ◌≡◌ {A = Result SectionLines LineFault} (Ok s) (Ok lines) → s ≡ lines
same_lines s lines e = ap (λ r. lines_of r s) e

pub placed_is : (bytes : List ℕ) (f : Contents) (lines : SectionLines) (places : EntryPlaces) → IsFile bytes f
    → ((s : SectionLines) → IsSectioned bytes s → s ≡ lines)
    → ((ps : List Placed) → AreEntries (length lines.param) lines.directory ps → places ≡ places_of lines ps) → HasPlaces bytes f places
placed_is bytes f lines places file one at =
    let same : file.sections ≡ lines = one file.sections file.sectioned in
    record {
      file = file;
      places_are =
          at file.placed (subst (λ (s : SectionLines). AreEntries (length s.param) s.directory file.placed) same file.directory)
          ∙ ap (λ (s : SectionLines). places_of s file.placed) (sym same);
    }
