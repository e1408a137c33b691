-- Groups by their places.
use Rattle.std.specs.Prelude.{ℕ, ◌+◌, List, take, drop}
use Rattle.iges_fields.specs.declared.value.Value.{Value}
use Rattle.entry_references.specs.Layout.{value_at}
use Rattle.entry_references.specs.Refs.{Group}

-- a group whose count is in a place, from 1, before so many pointers
abbrev pub group_between : List Value → ℕ → ℕ → Group
group_between values place count = record { count = value_at values place; pointers = take count (drop place values); rest = drop (place + count) values }
