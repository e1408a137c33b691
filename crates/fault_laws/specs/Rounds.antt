-- The fans at a vertex are rounds of turns, and have each row that starts there once.
use Rattle.std.specs.Prelude.{◌≡◌, ◌↔◌, ℕ, List, [], ◌∷◌, Contains, Some, flat_map, slice_get}
use Rattle.std.specs.List.{AllZip}
use Rattle.solid_data.specs.Ring.{next_of_each}
use Rattle.edge_uses.specs.RowRelations.{StartsAt, Turns}
use Rattle.edge_uses.specs.ShellRows.{ShellRows}
use Rattle.shell_facts.specs.FanFacts.{around, fan_rows, fans_at}
use Rattle.shell_facts.specs.declared.turning.AtVertex.{AtVertex}
use Rattle.shell_facts.specs.declared.turning.AtVertex.TheVariants.{OnFan, Alone}

abbrev pub row_in : AtVertex → List ℕ
row_in (OnFan i r) = r.0 ∷ []
row_in (Alone at) = []

-- the rows that are told of a vertex, in their order
abbrev pub rows_told : ShellRows → List ℕ → ℕ → List ℕ
rows_told d leasts v = flat_map row_in (around d leasts v)

-- each row turns to the next one, and the last to the first
abbrev pub IsRound : ShellRows → List ℕ → Type 0
IsRound d rows = AllZip (Turns d) rows (next_of_each rows)

-- Each fan is a round. The rows that are told are those that start at the vertex, each at one place.
pub record AreRounds (d : ShellRows) (leasts : List ℕ) (v : ℕ) : Type 0 where
  pub fans : (f : ℕ) → Contains (fans_at d leasts v) f → IsRound d (fan_rows d leasts f)
  pub each : (r : ℕ) → Contains (rows_told d leasts v) r ↔ StartsAt d v r
  pub once : (i j r : ℕ) → slice_get (rows_told d leasts v) i ≡ Some r → slice_get (rows_told d leasts v) j ≡ Some r → i ≡ j
