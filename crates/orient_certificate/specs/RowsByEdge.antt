-- Private: how many rows each edge has, the first and the last of them.
use Rattle.std.specs.Prelude.{◌≡◌, ◌-◌, ◌+◌, ◌==◌, ℕ, List, [], ◌∷◌, length, if◌then◌else◌, get_or}
use Rattle.solid_data.specs.declared.spanning.Span.{Span}
use Rattle.solid_data.specs.Ranges.{IsWithin}
use Rattle.edge_uses.specs.declared.row.Row.{Row}
use Rattle.edge_uses.specs.ShellRows.{ShellRows}
use Rattle.orient_certificate.specs.declared.rows_by_edge.Seen.{Seen}

-- the numbers of the rows that have the edge, where the first row is row n
abbrev pub places_of : ℕ → ℕ → List Row → List ℕ
places_of e n [] = []
places_of e n (r ∷ rows) = if r.edge.0 == e then n ∷ places_of e (n + 1) rows else places_of e (n + 1) rows

abbrev pub last_of : ℕ → List ℕ → ℕ
last_of x [] = x
last_of x (y ∷ ys) = last_of y ys

-- how many there are, the first and the last
abbrev pub summary : List ℕ → Seen
summary [] = record { count = 0; first = 0; last = 0 }
summary (x ∷ xs) = record { count = length xs + 1; first = x; last = last_of x xs }

-- row r more
abbrev pub once_more : Seen → ℕ → Seen
once_more seen r = record { count = seen.count + 1; first = (if seen.count == 0 then r else seen.first); last = r }

-- a range of edges, and what was seen of each
pub record EdgeSights : Type 0 where
  pub span : Span
  pub seen : List Seen

-- what was seen of an edge of the range
abbrev pub seen_of : Span → List Seen → ℕ → Seen
seen_of span by_edge e = get_or by_edge (e - span.least) (summary [])

abbrev pub AreRowsByEdge : ShellRows → Span → List Seen → Type 0
AreRowsByEdge d span by_edge = (e : ℕ) → IsWithin span e → seen_of span by_edge e ≡ summary (places_of e 0 d.rows)
