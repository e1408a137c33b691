-- Private: the loops without an edge, by face and place from 1.
use Rattle.std.specs.Prelude.{◌≡◌, ℕ, ◌+◌, ◌<◌, ◌≤◌, Some, slice_get}
use Rattle.solid_data.specs.declared.solid.LoopAt.{LoopAt}
use Rattle.edge_uses.specs.ShellRows.{ShellRows}
use Rattle.cert_state.specs.Progress.{point_named}

abbrev pub IsNamed : LoopAt → ℕ → ℕ → Type 0
IsNamed at face place = (at.face.0 + 1 ≡ face) × (at.place + 1 ≡ place)

abbrev pub IsBefore : LoopAt → ℕ → ℕ → Type 0
IsBefore at face place = (at.face.0 + 1 ≤ face) × (at.face.0 + 1 ≡ face → at.place + 1 < place)

-- the i-th of them is the one that is named
pub record IsNamedAt (d : ShellRows) (face place i : ℕ) : Type 0 where
  pub point : LoopAt × ℕ
  pub at_i : slice_get d.points i ≡ Some point
  pub named : point_named d face place ≡ Some point
