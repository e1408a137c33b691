-- A file in the layout of the fixed form.
use Rattle.std.specs.Prelude.{◌≡◌, ℕ, ◌+◌, ◌==◌, List, [], ◌∷◌, ◌++◌, Option, Some, None, Result, Ok, Err, if◌then◌else◌}
use Rattle.std.specs.List.{list_any}
use Rattle.iges_base.specs.Ended.{ended}
use Rattle.line_layout.specs.declared.counting.LineCounts.{LineCounts}
use Rattle.line_layout.specs.declared.fault.LayoutFault.{LayoutFault}
use Rattle.line_layout.specs.declared.fault.LayoutReason.TheVariants.{Missing, Shuffled}
use Rattle.line_layout.specs.declared.fault.RelaidFault.{RelaidFault}
use Rattle.line_layout.specs.declared.fault.RelaidFault.TheVariants as faults
use Rattle.line_layout.specs.declared.judging.Judged.{Judged}
use Rattle.line_layout.specs.declared.judging.Judged.TheVariants.{Blank, Bad, Good}
use Rattle.line_layout.specs.declared.letters.Section.TheVariants.{Start, Global, Directory, Param, Terminate}
use Rattle.line_layout.specs.Counts.{no_lines, counted}
use Rattle.line_layout.specs.Judging.{judge}
use Rattle.line_layout.specs.Marks.{unmarked}
use Rattle.line_layout.specs.Rows.{row}
use Rattle.line_layout.specs.Strays.{shuffled_line, strays_from}

-- a byte before the pieces of what follows it
abbrev pub before_pieces : ℕ → List (List ℕ) → List (List ℕ)
before_pieces b [] = (b ∷ []) ∷ []
before_pieces b (piece ∷ pieces) = (b ∷ piece) ∷ pieces

-- The pieces between the end bytes. What comes after the last one is a piece only where it isn't empty.
unfoldable pub pieces : ℕ → List ℕ → List (List ℕ)
pieces end [] = []
pieces end (b ∷ bytes) = if b == end then [] ∷ pieces end bytes else before_pieces b (pieces end bytes)

-- lines end in LF, or in CR where no LF is in the file
abbrev pub end_byte : List ℕ → ℕ
end_byte bytes = if list_any (λ b. b == 10) bytes then 10 else 13

abbrev pub Laid : Type 0
Laid = Result (List ℕ) LayoutFault

-- a text before what follows it
abbrev pub before : List ℕ → Laid → Laid
before text (Ok more) = Ok (text ++ more)
before text (Err fault) = Err fault

-- where the pieces end and no terminate line came: it is made where the last section has come
unfoldable pub at_end : ℕ → LineCounts → Laid
at_end n c = if c.param == 0 then Err (record { line = n; reason = Missing }) else Ok (ended (row c Terminate []))

-- a piece with this number, and how it goes on after it
abbrev pub step : ℕ → LineCounts → List ℕ → Judged → (LineCounts → Laid) → Laid
step n c line Blank go = go c
step n c line (Bad reason) go = Err (record { line = n; reason = reason })
step n c line (Good Start) go = before (ended (row c Start line)) (go (counted c Start))
step n c line (Good Global) go = before (ended (row c Global line)) (go (counted c Global))
step n c line (Good Directory) go = before (ended (row c Directory line)) (go (counted c Directory))
step n c line (Good Param) go = before (ended (row c Param line)) (go (counted c Param))
step n c line (Good Terminate) go = Ok (ended (row c Terminate line))

-- the pieces from the n-th on, where so many lines of each section come before them
unfoldable pub laid : List (List ℕ) → ℕ → LineCounts → Laid
laid [] n c = at_end n c
laid (piece ∷ pieces) n c = step n c (unmarked piece) (judge c piece) (laid pieces (n + 1))

-- the file, unless this is a line of a section whose numbers are in another order
abbrev pub unless_shuffled : Option ℕ → Laid → Laid
unless_shuffled (Some n) (Ok text) = Err (record { line = n; reason = Shuffled })
unless_shuffled None (Ok text) = Ok text
unless_shuffled o (Err fault) = Err fault

-- The file, or the first piece that fails. Where none fails by itself, it is the first line of a section whose numbers are
-- its places in another order.
unfoldable pub relaid : List ℕ → Laid
relaid bytes = unless_shuffled (shuffled_line (strays_from (pieces (end_byte bytes) bytes) 1 no_lines)) (laid (pieces (end_byte bytes) bytes) 1 no_lines)

abbrev pub Fails : RelaidFault → Laid → Type 0
Fails faults.NoMemory read = Unit {0}
Fails (faults.Bad fault) read = read ≡ Err fault

-- what was answered is this, unless memory ran out
abbrev pub Gives : Result (List ℕ) RelaidFault → Laid → Type 0
Gives (Ok text) read = read ≡ Ok text
Gives (Err e) read = Fails e read
