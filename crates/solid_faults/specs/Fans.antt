-- The fans round a vertex: the cycles of turns among the rows that start there. They are judged where loops join and edges are paired.
use Rattle.std.specs.Prelude.{◌≡◌, ◌≤◌, ◌<◌, Bool, slice_set, ◌+◌, ◌==◌, ◌&&◌, ◌||◌, ℕ, List, [], ◌∷◌, length, flat_map, Some, slice_get, if◌then◌else◌, get_or}
use Rattle.solid_data.specs.Chain.{LeadsTo}
use Rattle.solid_data.specs.SolidData.{SolidData, vertex_name}
use Rattle.solid_data.specs.declared.verdict.Failing.{Failing}
use Rattle.solid_data.specs.declared.verdict.Rule.TheVariants.{Unlinked as RuleUnlinked}
use Rattle.edge_uses.specs.declared.row.Row.{Row}
use Rattle.edge_uses.specs.RowRelations.{Turns, point_count}
use Rattle.edge_uses.specs.ShellRows.{ShellRows}
use Rattle.solid_faults.specs.declared.fan.Unlinked.{Unlinked}
use Rattle.solid_faults.specs.Edges.{named_vertex}

-- for each row the least row of its fan
pub record AreFans (d : ShellRows) (leasts : List ℕ) : Type 0 where
  pub each : length leasts ≡ length d.rows
  pub down : (r f : ℕ) → slice_get leasts r ≡ Some f → LeadsTo (Turns d) r f
  pub back : (r f : ℕ) → slice_get leasts r ≡ Some f → LeadsTo (Turns d) f r
  pub least : (r f q : ℕ) → slice_get leasts r ≡ Some f → LeadsTo (Turns d) r q → f ≤ q

-- how many fans lie at the vertex: rows, numbered from i on, that start there and are the least of their fan
abbrev pub fans_from : ℕ → ℕ → List Row → List ℕ → ℕ
fans_from v i [] fs = 0
fans_from v i (r ∷ rs) [] = 0
fans_from v i (r ∷ rs) (f ∷ fs) = (if (r.from.0 == v) && (f == i) then 1 else 0) + fans_from v (i + 1) rs fs

abbrev pub fan_count : ShellRows → List ℕ → ℕ → ℕ
fan_count d leasts v = fans_from v 0 d.rows leasts

abbrev pub unlinked_at : ℕ → ℕ → ℕ → List Unlinked
unlinked_at v fans points = if ((fans == 1) && (points == 0)) || ((fans == 0) && (points == 1)) then [] else
    record { vertex = record { 0 = v }; fans = fans; points = points } ∷ []

abbrev pub vertex_unlinked : ShellRows → List ℕ → ℕ → List Unlinked
vertex_unlinked d leasts v = unlinked_at v (fan_count d leasts v) (point_count d v)

-- the vertices of a shell that aren't linked, by rising number
abbrev pub unlinked_of : ShellRows → List ℕ → List Unlinked
unlinked_of d leasts = flat_map (vertex_unlinked d leasts) d.vertices

abbrev pub unlinked_failing : SolidData → Unlinked → Failing
unlinked_failing s u = named_vertex RuleUnlinked (vertex_name (slice_get s.vertices u.vertex.0))

-- one more at place k, where it is wanted
abbrev pub added : List ℕ → ℕ → Bool → List ℕ
added counts k wanted = if wanted then slice_set counts k (get_or counts k 0 + 1) else counts

-- how many fans lie at each vertex of a range
abbrev pub AreFanCounts : ShellRows → List ℕ → ℕ → ℕ → List ℕ → Type 0
AreFanCounts d leasts low count counts = (k : ℕ) → k < count → get_or counts k 0 ≡ fan_count d leasts (low + k)

-- how many loops without an edge lie at each vertex of a range
abbrev pub ArePointCounts : ShellRows → ℕ → ℕ → List ℕ → Type 0
ArePointCounts d low count counts = (k : ℕ) → k < count → get_or counts k 0 ≡ point_count d (low + k)
