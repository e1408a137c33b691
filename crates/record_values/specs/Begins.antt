-- The first value with which no record goes on.
use Rattle.std.specs.Prelude.{ℕ, ◌+◌, ◌≤◌, ◌<◌, List, ◌++◌, length, take}
use Rattle.iges_fields.specs.declared.value.Value.{Value}
use Rattle.brep_lists.specs.Record.{IsRecordOf}
use Rattle.brep_lists.specs.declared.entity_kind.EntityKind.{EntityKind}
use Rattle.record_values.specs.Expected.{first_misfit}

-- some record of the kind begins with these values
abbrev pub Begins : EntityKind → List Value → Type 0
Begins kind xs = (rest : List Value) × IsRecordOf kind (xs ++ rest)

-- The k-th value, from 1, is the first with which no record of the kind goes on: those before it begin one, and with it they begin none. Where all values begin
-- one, it is the one after them.
pub record IsFirstMisfit (kind : EntityKind) (values : List Value) (k : ℕ) : Type 0 where
  pub some : 1 ≤ k
  pub within : k ≤ length values + 1
  pub before : (i : ℕ) → i < k → Begins kind (take i values)
  pub here : k ≤ length values → ¬ Begins kind (take k values)

-- the place that is found is the first misfit's
abbrev pub MisfitsAreFirst : Type 0
MisfitsAreFirst = (kind : EntityKind) (values : List Value) → let m = first_misfit kind values in IsFirstMisfit kind values (m.place + 1)
