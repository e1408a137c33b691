-- What is changed to make a file, and in which lines.
use Rattle.std.specs.Prelude.{◌≡◌, ℕ, ◌<◌, ◌+◌, ◌-◌, ◌==◌, ◌&&◌, ◌||◌, Bool, true, false, not, nat_lt, List, [], ◌∷◌, ◌++◌, length, drop, replicate, Option}
use Rattle.std.specs.Prelude.{Some, None, if◌then◌else◌, slice_index}
use Rattle.std.specs.List.{list_any}
use Rattle.line_layout.specs.declared.change.Change.{Change}
use Rattle.line_layout.specs.declared.change.Change.TheVariants as change
use Rattle.line_layout.specs.declared.change.ChangeCount.{ChangeCount}
use Rattle.line_layout.specs.declared.counting.LineCounts.{LineCounts}
use Rattle.line_layout.specs.declared.judging.Judged.{Judged}
use Rattle.line_layout.specs.declared.judging.Judged.TheVariants as judged
use Rattle.line_layout.specs.declared.letters.Section.{Section}
use Rattle.line_layout.specs.Columns.{columns, has_greater, number_in}
use Rattle.line_layout.specs.Counts.{no_lines, count_of, next_number}
use Rattle.line_layout.specs.Judging.{judge, lines_after}
use Rattle.line_layout.specs.Letters.{letter_of, is_last}
use Rattle.line_layout.specs.Marks.{unmarked}
use Rattle.line_layout.specs.Relaid.{end_byte}
use Rattle.line_layout.specs.Rows.{has_counts, keeps_number}

-- a piece, whether LF ends it, and the bytes after it and its end
pub record Cut : Type 0 where
  pub piece : List ℕ
  pub feed : Bool
  pub after : List ℕ

abbrev pub before_cuts : ℕ → List Cut → List Cut
before_cuts b [] = record { piece = b ∷ []; feed = false; after = [] } ∷ []
before_cuts b (c ∷ cs) = record { piece = b ∷ c.piece; feed = c.feed; after = c.after } ∷ cs

-- the pieces of a text, in their order
unfoldable pub cuts : ℕ → List ℕ → List Cut
cuts end [] = []
cuts end (b ∷ bytes) = if b == end then record { piece = []; feed = end == 10; after = bytes } ∷ cuts end bytes else before_cuts b (cuts end bytes)

-- LF ends the piece: it is the end byte, and stands between the piece and what is after it
abbrev pub has_feed : ℕ → List ℕ → List ℕ → List ℕ → Bool
has_feed end bytes piece after = end == 10 && nat_lt (length piece) (length bytes - length after)

abbrev pub first_cut : ℕ → List ℕ → List ℕ → List ℕ → Cut
first_cut end bytes piece after = record { piece = piece; feed = has_feed end bytes piece after; after = after }

-- the last byte is a CR
abbrev pub ends_in_CR : List ℕ → Bool
ends_in_CR text = nat_lt 0 (length text) && slice_index text (length text - 1) == 13

-- the letter stands in column 73
abbrev pub has_letter : ℕ → List ℕ → Bool
has_letter letter line = nat_lt 72 (length line) && slice_index line 72 == letter

-- a line of this section, after so many lines of each, is changed so: its piece, and whether LF ends it
unfoldable pub is_changed : Change → LineCounts → Section → List ℕ → Bool → Bool
is_changed change.Mark c s piece feed = nat_lt (length (unmarked piece)) (length piece)
is_changed change.Blank c s piece feed = false
is_changed change.End c s piece feed = not feed || ends_in_CR piece
is_changed change.Letter c s piece feed = not (has_letter (letter_of s) (unmarked piece))
is_changed change.Past c s piece feed = list_any (λ b. not (b == 13)) (drop 80 (unmarked piece))
is_changed change.Number c s piece feed = not (keeps_number (next_number c s) (unmarked piece))
is_changed change.Ahead c s piece feed = nat_lt (next_number c s) (number_in (columns 74 80 (unmarked piece)))
is_changed change.Counts c s piece feed = is_last s && not (has_counts c (unmarked piece))
is_changed change.FewerStart c s piece feed = is_last s && has_greater 83 c.start (columns 1 8 (unmarked piece))
is_changed change.FewerGlobal c s piece feed = is_last s && has_greater 71 c.global (columns 9 16 (unmarked piece))
is_changed change.FewerDirectory c s piece feed = is_last s && has_greater 68 c.directory (columns 17 24 (unmarked piece))
is_changed change.FewerParam c s piece feed = is_last s && has_greater 80 c.param (columns 25 32 (unmarked piece))
is_changed change.After c s piece feed = false

abbrev pub is_of_blank : Change → Bool
is_of_blank change.Blank = true
is_of_blank _ = false

abbrev pub is_of_counts : Change → Bool
is_of_counts change.Counts = true
is_of_counts _ = false

abbrev pub is_of_rest : Change → Bool
is_of_rest change.After = true
is_of_rest _ = false

-- a piece is changed so
abbrev pub happens : Change → LineCounts → Judged → List ℕ → Bool → Bool
happens k c judged.Blank piece feed = is_of_blank k
happens k c (judged.Bad reason) piece feed = false
happens k c (judged.Good s) piece feed = is_changed k c s piece feed

-- how many of the bytes after the terminate line are dropped
abbrev pub dropped : Change → Judged → List ℕ → ℕ
dropped k judged.Blank after = 0
dropped k (judged.Bad reason) after = 0
dropped k (judged.Good s) after = if is_of_rest k then length after else 0

abbrev pub once : Bool → ℕ
once true = 1
once false = 0

-- how the lines go on after a piece, where the next has this number
abbrev pub going_on : Option LineCounts → ℕ → ℕ → (LineCounts → List ℕ) → List ℕ
going_on (Some c) n bytes go = go c
going_on None n bytes go = replicate bytes n

-- The lines that are changed so, from the n-th on, where so many lines of each section come before it: their numbers in
-- the file. A line whose number stands there often is changed so often: each byte after the terminate line is dropped.
unfoldable pub changed_from : Change → List Cut → ℕ → LineCounts → List ℕ
changed_from k [] n c = replicate (once (is_of_counts k)) n
changed_from k (cut ∷ rest) n c =
    replicate (once (happens k c (judge c cut.piece) cut.piece cut.feed)) n
    ++ going_on (lines_after c (judge c cut.piece)) (n + 1) (dropped k (judge c cut.piece) cut.after) (changed_from k rest (n + 1))

unfoldable pub changed_lines : Change → List ℕ → List ℕ
changed_lines k bytes = changed_from k (cuts (end_byte bytes) bytes) 1 no_lines

-- how many they are, and the first; 0 where there is none
abbrev pub tally_of : List ℕ → ChangeCount
tally_of [] = record { times = 0; first = 0 }
tally_of (n ∷ ns) = record { times = length ns + 1; first = n }

-- with so many more, of one number
abbrev pub noted : ChangeCount → ℕ → ℕ → ChangeCount
noted t n m = if m == 0 then t else record { times = t.times + m; first = if t.times == 0 then n else t.first }

-- seven columns can hold the number of the line
abbrev pub MayCount : LineCounts → Judged → Type 0
MayCount c j = (s : Section) → j ≡ judged.Good s → count_of c s < 9999999
