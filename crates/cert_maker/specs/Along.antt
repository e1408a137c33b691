-- Private: which row runs along each edge.
use Rattle.std.specs.Prelude.{ℕ, ◌<◌, ◌-◌, true, List, get_or}
use Rattle.solid_data.specs.declared.spanning.Span.{Span}
use Rattle.edge_uses.specs.ShellRows.{ShellRows}
use Rattle.edge_uses.specs.Mates.{RunsOn}

-- Of each edge of the range along which one of the first n rows runs, the array has a row that does.
abbrev pub RunAlong : ShellRows → Span → ℕ → List ℕ → Type 0
RunAlong d span n along = (e r : ℕ) → RunsOn d e true r → r < n → RunsOn d e true (get_or along (e - span.least) 0)
