-- What is said of a vertex that isn't linked: the rows of its fans, and its loops without an edge.
use Rattle.std.specs.Prelude.{◌≡◌, ◌==◌, ◌&&◌, ◌+◌, not, ℕ, zero, suc, List, [], ◌∷◌, ◌++◌, length, map, flat_map, slice_get, Option, Some, None, if◌then◌else◌}
use Rattle.std.specs.Prelude.{get_or}
use Rattle.std.specs.List.{enumerate_from}
use Rattle.solid_data.specs.declared.solid.LoopAt.{LoopAt}
use Rattle.edge_uses.specs.declared.row.Row.{Row}
use Rattle.edge_uses.specs.ShellRows.{ShellRows}
use Rattle.shell_components.specs.Groups.{places_of}
use Rattle.shell_facts.specs.declared.turning.AtVertex.{AtVertex}
use Rattle.shell_facts.specs.declared.turning.AtVertex.TheVariants.{OnFan, Alone}
use Rattle.shell_facts.specs.declared.turning.VertexTables.{VertexTables}

-- the numbers of the rows that have the edge in the other direction than a row
abbrev pub mate_if : Row → ℕ × Row → List ℕ
mate_if row q = if (q.1.edge.0 == row.edge.0) && (if row.along then not q.1.along else q.1.along) then q.0 ∷ [] else []

abbrev pub mates_of : ShellRows → Option Row → List ℕ
mates_of d None = []
mates_of d (Some row) = flat_map (mate_if row) (enumerate_from 0 d.rows)

-- the row that follows the mate of a row
abbrev pub turn_of : ShellRows → ℕ → ℕ
turn_of d r = get_or d.follows (get_or (mates_of d (slice_get d.rows r)) 0 0) 0

-- n rows, each of which the one before turns to
abbrev pub by_turns : ShellRows → ℕ → ℕ → List ℕ
by_turns d zero r = []
by_turns d (suc n) r = r ∷ by_turns d n (turn_of d r)

-- the rows of a fan from its least row on: as many as have this one as their least
abbrev pub fan_rows : ShellRows → List ℕ → ℕ → List ℕ
fan_rows d leasts r = by_turns d (length (places_of r leasts)) r

-- the rows that start at the vertex and are the least of their fan
abbrev pub rows_from : ShellRows → ℕ → List ℕ
rows_from d v = places_of v (map (λ (r : Row). r.from.0) d.rows)

abbrev pub least_if : List ℕ → ℕ → List ℕ
least_if leasts r = if get_or leasts r 0 == r then r ∷ [] else []

abbrev pub fans_at : ShellRows → List ℕ → ℕ → List ℕ
fans_at d leasts v = flat_map (least_if leasts) (rows_from d v)

-- the rows of fans that are numbered from i on, each with the fan's number
abbrev pub on_fan : ℕ → ℕ → AtVertex
on_fan i r = OnFan i (record { 0 = r })

abbrev pub on_fans : ShellRows → List ℕ → ℕ → List ℕ → List AtVertex
on_fans d leasts i [] = []
on_fans d leasts i (r ∷ rs) = map (on_fan i) (fan_rows d leasts r) ++ on_fans d leasts (i + 1) rs

-- the loops without an edge there, in file order
abbrev pub alone_if : ℕ → LoopAt × ℕ → List AtVertex
alone_if v p = if p.1 == v then Alone p.0 ∷ [] else []

-- all that is said of the vertex: fan by fan from its least row on by turns, then the loops without an edge
abbrev pub around : ShellRows → List ℕ → ℕ → List AtVertex
around d leasts v = on_fans d leasts 1 (fans_at d leasts v) ++ flat_map (alone_if v) d.points

abbrev pub alone_at : Option (LoopAt × ℕ) → List AtVertex
alone_at None = []
alone_at (Some p) = Alone p.0 ∷ []

abbrev pub alone_numbered : ShellRows → ℕ → List AtVertex
alone_numbered d i = alone_at (slice_get d.points i)

-- where the row is the least of its fan, the fan is written and the next one's number is one more
abbrev pub IsFanPushed : ShellRows → List ℕ → ℕ → ℕ → List AtVertex → List AtVertex → ℕ → Type 0
IsFanPushed d leasts fan r old new next = (new ≡ old ++ on_fans d leasts fan (least_if leasts r)) × (next ≡ fan + length (least_if leasts r))

pub record AreVertexTables (d : ShellRows) (leasts : List ℕ) (t : VertexTables) : Type 0 where
  pub starts : t.starts ≡ map (λ (r : Row). r.from.0) d.rows
  pub fans : t.fans ≡ leasts
  pub points : t.points ≡ map (λ (p : LoopAt × ℕ). p.1) d.points
