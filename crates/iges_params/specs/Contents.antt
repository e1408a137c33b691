-- What a file contains.
use Rattle.std.specs.Prelude.{ℕ, List, length, sum_by}
use Rattle.iges_fields.specs.declared.value.Value.{Value}
use Rattle.iges_directory.specs.declared.entry.Entry.{Entry}
use Rattle.iges_params.specs.declared.global.Global26.{Global26}

-- the start lines of 72 bytes, the global, and the entries with their values, which don't begin with the type number
pub record Contents : Type 0 where
  pub start : List (List ℕ)
  pub global : Global26
  pub entries : List (Entry × List Value)

-- how many values the records of these entries have
abbrev pub value_count : List (Entry × List Value) → ℕ
value_count entries = sum_by (λ (e : Entry × List Value). length e.1) entries
