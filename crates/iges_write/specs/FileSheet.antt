-- Private: the sheet of a whole file, section by section.
use Rattle.std.specs.Prelude.{◌≡◌, ℕ, ◌<◌, ◌≤◌, List, [], ◌∷◌, length, Result, Ok, Err}
use Rattle.iges_params.specs.Contents.{Contents}
use Rattle.iges_write.specs.declared.counts.Counts.{Counts}
use Rattle.iges_write.specs.declared.fault.WriteFileFault.{WriteFileFault}
use Rattle.iges_write.specs.declared.fault.WriteFileFault.TheVariants as fault
use Rattle.iges_write.specs.Filling.{global_lines, records_lines, text_of}
use Rattle.iges_write.specs.Sheet.{Sheet, append_text, begin, put_lines}
use Rattle.iges_write.specs.Text.{counts_columns, directory_lines, param_lines}
use Rattle.iges_lines.specs.Letters.{letter_S, letter_G, letter_D, letter_T}

-- a sheet with no line
abbrev pub blank : ℕ → ℕ → ℕ → Sheet
blank limit letter width = record { text = []; line = []; tail = []; letter = letter; number = 1; width = width; limit = limit }

-- with the start lines and those of the global
abbrev pub with_front : Sheet → Contents → Sheet
with_front s f = put_lines (begin (put_lines (begin s letter_S 72) f.start) letter_G 72) (global_lines f.global)

-- with the lines of the directory
abbrev pub with_directory : Sheet → Contents → Sheet
with_directory s f = put_lines (begin s letter_D 72) (directory_lines 1 f.entries (records_lines f))

-- the lines of the records
abbrev pub params_sheet : ℕ → Contents → Sheet
params_sheet limit f = put_lines (blank limit 80 64) (param_lines (records_lines f))

-- with the directory, and after it the records
abbrev pub with_records : Sheet → Contents → Sheet
with_records s f = append_text (with_directory s f) (params_sheet s.limit f).text

-- with the terminate line
abbrev pub with_counts : Sheet → Counts → Sheet
with_counts s counts = put_lines (begin s letter_T 72) (counts_columns counts.start counts.global counts.directory counts.params ∷ [])

-- the text of a file, finished
abbrev pub file_sheet : ℕ → Contents → Sheet
file_sheet limit f = record { text = text_of f; line = []; tail = []; letter = letter_T; number = 2; width = 72; limit = limit }

-- the text, within the limit, or that it is longer
abbrev pub Writes : ℕ → Result (List ℕ) WriteFileFault → List ℕ → Type 0
Writes limit (Ok bytes) text = (bytes ≡ text) × (length text ≤ limit)
Writes limit (Err fault.TooLarge) text = limit < length text
Writes limit (Err fault.NoMemory) text = Unit {0}

-- the two pages of a file, and how many lines its sections have
pub record ArePages (limit : ℕ) (f : Contents) (front behind : Sheet) (counts : Counts) : Type 0 where
  pub front_is : front ≡ with_directory (with_front (blank limit letter_S 72) f) f
  pub behind_is : behind ≡ params_sheet limit f
  pub start : counts.start ≡ length f.start
  pub global : counts.global ≡ length (global_lines f.global)
  pub directory : counts.directory ≡ length (directory_lines 1 f.entries (records_lines f))
  pub params : counts.params ≡ length (param_lines (records_lines f))
