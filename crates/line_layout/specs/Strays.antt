-- Lines whose number isn't their place, and sections whose numbers are in another order.
use Rattle.std.specs.Prelude.{ℕ, ◌+◌, ◌==◌, Bool, List, [], ◌∷◌, ◌++◌, Option, Some, None, filter, if◌then◌else◌}
use Rattle.std.specs.List.{list_all, list_any}
use Rattle.std.specs.Option.{option_map_or}
use Rattle.line_layout.specs.declared.counting.LineCounts.{LineCounts}
use Rattle.line_layout.specs.declared.judging.Judged.{Judged}
use Rattle.line_layout.specs.declared.judging.Judged.TheVariants.{Blank, Bad, Good}
use Rattle.line_layout.specs.declared.strays.Stray.{Stray}
use Rattle.line_layout.specs.Columns.{columns, number_in}
use Rattle.line_layout.specs.Counts.{next_number}
use Rattle.line_layout.specs.Judging.{judge, lines_after}
use Rattle.line_layout.specs.Letters.{is_last, letter_of}
use Rattle.line_layout.specs.Marks.{unmarked}

-- the line, where its number isn't its place
abbrev pub unless_placed : Stray → List Stray
unless_placed r = if r.number == r.place then [] else r ∷ []

-- the n-th piece, where it is a line before the terminate line and its number isn't its place
abbrev pub stray_at : ℕ → LineCounts → List ℕ → Judged → List Stray
stray_at n c line Blank = []
stray_at n c line (Bad reason) = []
stray_at n c line (Good s) = if is_last s then [] else unless_placed
    (record { line = n; letter = letter_of s; place = next_number c s; number = number_in (columns 74 80 line) })

-- those of the pieces from the n-th on, where so many lines of each section come before them
unfoldable pub strays_from : List (List ℕ) → ℕ → LineCounts → List Stray
strays_from [] n c = []
strays_from (piece ∷ pieces) n c =
    stray_at n c (unmarked piece) (judge c piece) ++ option_map_or (strays_from pieces (n + 1)) (lines_after c (judge c piece)) []

-- One of these lines holds the number.
abbrev pub is_held : ℕ → List Stray → Bool
is_held n lines = list_any (λ r. r.number == n) lines

-- The place of each of these lines is the number of another: their numbers are their places in another order.
abbrev pub are_shuffled : List Stray → Bool
are_shuffled lines = list_all (λ r. is_held r.place lines) lines

-- where they are shuffled, the first of them
abbrev pub first_shuffled : List Stray → Option ℕ
first_shuffled [] = None
first_shuffled (r ∷ rs) = if are_shuffled (r ∷ rs) then Some r.line else None

-- those of a section
abbrev pub with_letter : ℕ → List Stray → List Stray
with_letter letter lines = filter (λ r. r.letter == letter) lines

abbrev pub or_else : Option ℕ → Option ℕ → Option ℕ
or_else (Some n) other = Some n
or_else None other = other

-- the first line of the first section that is shuffled whose number isn't its place
abbrev pub shuffled_line : List Stray → Option ℕ
shuffled_line lines =
    or_else (first_shuffled (with_letter 83 lines)) (or_else (first_shuffled (with_letter 71 lines))
    (or_else (first_shuffled (with_letter 68 lines)) (first_shuffled (with_letter 80 lines))))
