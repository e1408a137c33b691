-- Private: the sections as a function of the bytes. IsSectioned and IsLineFault say what it means.
use Rattle.std.specs.Prelude.{ℕ, zero, suc, ◌+◌, List, length, Option, Some, None, Result, Ok, Err}
use Rattle.iges_lines.specs.declared.reason.Reason.{Reason}
use Rattle.iges_lines.specs.declared.fault.LineFault.{LineFault}
use Rattle.iges_lines.specs.Lines.{SectionLines, lines}
use Rattle.iges_lines.specs.LineFaults.{sections_of, line_fault}

-- the first fault among n places from i on
unfoldable pub first_from : {R : Type 0} → (ℕ → Option R) → ℕ → ℕ → Option (ℕ × R)
first_from fault zero i = None
first_from fault (suc n) i = elim (fault i) [ Some reason ↦ Some (i, reason) | None ↦ first_from fault n (i + 1) ]

abbrev pub sections_unless : List (List ℕ) → Option (ℕ × Reason) → Result SectionLines LineFault
sections_unless ls None = Ok (sections_of ls)
sections_unless ls (Some fault) = Err (record { line = fault.0 + 1; reason = fault.1 })

unfoldable pub read_sections : List ℕ → Result SectionLines LineFault
read_sections bytes = let ls = lines bytes in sections_unless ls (first_from (line_fault ls) (length ls + 1) 0)
