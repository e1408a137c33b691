-- How often each edge is run along and against, and by which row last.
use Rattle.std.specs.Prelude.{◌≡◌, ◌<◌, ◌+◌, ◌-◌, ℕ, Bool, true, false, List, get_or}
use Rattle.solid_data.specs.declared.spanning.Span.{Span}
use Rattle.solid_data.specs.Ranges.{IsWithin}
use Rattle.edge_uses.specs.ShellRows.{ShellRows}
use Rattle.edge_uses.specs.RowRelations.{row_count}
use Rattle.edge_uses.specs.Mates.{RunsOn}
use Rattle.edge_uses.specs.declared.tally.Seen.{Seen}

abbrev pub unseen : Seen
unseen = record { along = 0; along_row = 0; against = 0; against_row = 0 }

-- one row more, in this direction
abbrev pub seen_once_more : Seen → ℕ → Bool → Seen
seen_once_more seen r true = record { along = seen.along + 1; along_row = r; against = seen.against; against_row = seen.against_row }
seen_once_more seen r false = record { along = seen.along; along_row = seen.along_row; against = seen.against + 1; against_row = r }

pub record IsSeen (d : ShellRows) (e : ℕ) (seen : Seen) : Type 0 where
  pub along : seen.along ≡ row_count d e true
  pub against : seen.against ≡ row_count d e false
  pub along_row : 0 < seen.along → RunsOn d e true seen.along_row
  pub against_row : 0 < seen.against → RunsOn d e false seen.against_row

-- a range of edges, and what was seen of each
pub record Tallied : Type 0 where
  pub span : Span
  pub seen : List Seen

-- what was seen of an edge of the range
abbrev pub seen_of : Span → List Seen → ℕ → Seen
seen_of span tally e = get_or tally (e - span.least) unseen

abbrev pub IsTally : ShellRows → Span → List Seen → Type 0
IsTally d span tally = (e : ℕ) → IsWithin span e → IsSeen d e (seen_of span tally e)
